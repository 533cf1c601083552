-- Lines 14 and 16 of the listing follow the steps that take pending slots back. At 14 the pending slots are h and, above it, those of M; so h
-- is the smallest, and M is left once it is there. At 16 they are those of M, and after the smallest the rest; with the last of them the
-- transaction is in its own code again, where nothing is pending.
use Prim.Native.Nat.{ℕ, ◌<◌}
use mathlib.Core.Path.{◌≡◌, refl, sym, ap, ◌∙◌}
use mathlib.Core.Logic.{⊎_elim}
use mathlib.Core.Bool.{Bool, true, false, not, cond, ◌&&◌, ◌||◌}
use mathlib.Core.List.{List}
use native.Mathlib.Omega.{arith}
use lib.Dec.{eqb}
use borrow.Author.Tests.{eqb-true}
use Rattle.slots.specs.Sizes.{slots}
use Rattle.slots.specs.declared.set.SlotSet.{SlotSet}
use Rattle.slots.specs.Sets as sets
use Rattle.slots.specs.Sets.{has, adding, removing, is_empty, smallest}
use Rattle.slots.proofs.Truth.{is_false}
use Rattle.slots.proofs.Members.{Proper, same, none_proper, has-none, has-adding, in_adding, adding_here, removing_proper, has-removing}
use Rattle.slots.proofs.Counting.{empty_out, not_empty}
use Rattle.slots.proofs.Least.{smallest_is}
use Rattle.seats.specs.declared.seat.Seat.{Seat}
use Rattle.seats.specs.declared.slot_table.SlotTable.{SlotTable}
use Rattle.course.specs.Wants.{want_of}
use Rattle.promises.specs.Figure1.{Locks, code, line14, line16, transaction, pending_at, at_line16, at_line}
use Rattle.promises.proofs.FigureLocks.{LocksLike}
use Rattle.promises.proofs.FigureAlike.{waits, Lowest, Place, Like}
use Rattle.promises.proofs.FigureTable.{Ground, case_by}
use Rattle.promises.proofs.FigureMoves.{Follows}
use Rattle.promises.proofs.FigureWaits.{back_follows}

-- ---- h and, above it, M

but_one : (m e : Bool) → (e ≡ true → m ≡ false) → ((m || e) && not e) ≡ m
but_one true true h = sym (h refl)
but_one true false h = refl
but_one false true h = refl
but_one false false h = refl

module _ (h : ℕ) (M : SlotSet) (p : Lowest h M) where
  lowest_left : removing (adding M h) h ≡ M
  lowest_left =
      same (removing (adding M h) h) M (removing_proper (adding M h) h) p.proper
      (λ s l. rw (has-removing (adding M h) h s, has-adding M h s p.small)
      (but_one (has M s) (eqb s h) (λ e. is_false (λ m. omega (arith, p.below s m, eqb-true s h e)))))

  lowest_least : smallest (adding M h) ≡ h
  lowest_least =
      smallest_is (adding M h) h (adding_here M h p.small)
      (λ s m. ⊎_elim (λ a. omega (arith, p.below s a)) (λ e. omega arith) (in_adding M h s m))

-- ---- the line after 16, where R is the rest of M

module _ (R : SlotSet) (proper : Proper R) where
  rest_pending : (b : Bool) → is_empty R ≡ b → R ≡ pending_at (cond b code line16) R
  unfolding pending_at
  rest_pending true e = same R sets.none proper none_proper (λ s l. empty_out R s e ∙ sym (has-none s))
  rest_pending false e = refl

rest-place : (own : ℕ → ℕ) (z : Seat) (T : SlotTable) (i : ℕ) (R : SlotSet) → ((s : ℕ) → s < slots → waits T i s ≡ false)
    → (b : Bool) → is_empty R ≡ b → Place own z T i (cond b code line16) R
rest-place own z T i R c true e = c
rest-place own z T i R c false e = e

module _ {own : ℕ → ℕ} (z : Seat) (T : SlotTable) (i : ℕ) (g : Ground own z T i) (img : List ℕ) (k : Locks) (like : LocksLike T k) where
  pub line14_follows : (h : ℕ) (L M : SlotSet) → Like own z T i (line14 h) L M
      → Follows own z T i img (case_by (want_of own z) T i) (at_line own i (transaction z.script z.run (line14 h) L M) k img (line14 h))
  unfolding at_line pending_at
  line14_follows h L M y =
      let e : z.pending ≡ adding M h = y.pending in
      let p : Lowest h M = y.place in
      back_follows z T i g img k like h (line14 h) line16 L M M y
      (ap is_empty e ∙ not_empty (adding M h) h (adding_here M h p.small))
      (ap smallest e ∙ lowest_least h M p)
      (ap (λ (S : SlotSet). removing S h) e ∙ lowest_left h M p)
      p (λ c. p.some)

  pub line16_follows : (L M : SlotSet) → Like own z T i line16 L M
      → Follows own z T i img (case_by (want_of own z) T i) (at_line own i (transaction z.script z.run line16 L M) k img line16)
  unfolding at_line at_line16 pending_at
  line16_follows L M y =
      let e : z.pending ≡ M = y.pending in
      let R : SlotSet = removing M (smallest M) in
      back_follows z T i g img k like (smallest M) line16 (cond (is_empty R) code line16) L M R y
      (ap is_empty e ∙ y.place) (ap smallest e)
      (ap (λ (S : SlotSet). removing S (smallest M)) e ∙ rest_pending R (removing_proper M (smallest M)) (is_empty R) refl)
      y.place (λ c. rest-place own _ _ i R c (is_empty R) refl)
