-- A step leaves the other seats good. It takes no slot from them, and may hand them some; and a commit changes only cells of slots that the
-- committing seat holds, which are nobody else's, so in the cells of the others' slots the image stays as it was.
use Prim.Native.Nat.{ℕ, zero, suc, ◌<◌}
use mathlib.Core.Path.{◌≡◌, refl, sym, ap, ◌∙◌, subst}
use mathlib.Core.Logic.{inl, inr}
use mathlib.Core.Bool.{Bool, true, false, not, ◌&&◌, false≢true}
use mathlib.Core.List.{List, [], ◌∷◌}
use native.Mathlib.Omega.{arith}
use lib.Dec.{eqb}
use lib.ListN.{take, get_or}
use lib.Seq.{get_or-set_other}
use borrow.Author.Tests.{eqb-true, ne_eqb}
use Rattle.slots.specs.declared.set.SlotSet.{SlotSet}
use Rattle.slots.specs.Sets.{has, none, above}
use Rattle.slots.proofs.Truth.{is_false, or_l, or_cases, and_i}
use Rattle.slots.proofs.Members.{In}
use Rattle.seats.specs.declared.seat.Write.{Write}
use Rattle.seats.specs.declared.slot_table.SlotTable.{SlotTable}
use Rattle.seats.specs.declared.table.Table.{Table}
use Rattle.seats.specs.Queues.{seats, is_head}
use Rattle.seats.specs.SlotTables.{held_by, queue_of, taken, released}
use Rattle.seats.specs.Seats.{no_write}
use Rattle.seats.specs.Tables.{seat_at}
use Rattle.seats.proofs.Shape.{Whole}
use Rattle.seats.proofs.Hands.{held-joined, held-released}
use Rattle.course.specs.declared.cases.Case.{Case}
use Rattle.course.specs.declared.cases.Case.TheVariants as case
use Rattle.runs.specs.Runs.{kept_writes}
use Rattle.course.specs.Steps.{slots_after, image_after}
use Rattle.runs.proofs.Kept.{writes_to, unwritten}
use Rattle.rules.specs.Rules.{IsOpen}
use Rattle.upkeep.specs.SoundTables.{Stands}
use Rattle.promises.proofs.Good.{SameOn}
use Rattle.upkeep.proofs.Unqueued.{open_rules}

-- ---- the slots of another seat

module _ (t : SlotTable) (w : Whole t) (i j : ℕ) (l : j < seats) (other : j ≡ i → ⊥) where
  kept_taken : (s : ℕ) → held_by (taken t i s) j ≡ held_by t j
  unfolding taken
  kept_taken s = get_or-set_other t.held i j _ none other

  kept_released : (R : SlotSet) (u : ℕ) → In (held_by t j) u → In (held_by (released t i R) j) u
  kept_released R u h =
      let n : eqb i j ≡ false = ne_eqb i j (λ e. other (sym e)) in
      held-released t i R w j u l ∙ or_l (has R u && is_head (queue_of t u) j) (and_i h (ap (λ (b : Bool). not (b && has R u)) n))

  pub others_keep : (c : Case) (u : ℕ) → In (held_by t j) u → In (held_by (slots_after c t i) j) u
  unfolding slots_after
  others_keep (case.Got s) u h = rw (kept_taken s.0) h
  others_keep case.Blocked u h = h
  others_keep (case.Queued s) u h = rw (held-joined t i s.0 j) h
  others_keep case.Committed u h = kept_released (held_by t i) u h
  others_keep case.Ran u h = h
  others_keep (case.Took s) u h = rw (kept_taken s.0) h
  others_keep case.Failed u h = kept_released (held_by t i) u h
  others_keep (case.Restarted s) u h = kept_released (above (held_by t i) s.0) u h

-- ---- the cells that a commit changes

-- one of the first n writes is to cell c
which : (ws : List Write) (n c : ℕ) → writes_to (take n ws) c ≡ true → (k : ℕ) × (k < n) × ((get_or ws k no_write).cell.0 ≡ c)
unfolding writes_to
which ws zero c e = absurd (false≢true e)
which [] (suc n) c e = absurd (false≢true e)
which (w ∷ ws) (suc n) c e = elim (or_cases (eqb w.cell.0 c) (writes_to (take n ws) c) e) [
  | inl q ↦ (0, omega arith, eqb-true w.cell.0 c q)
  | inr q ↦ let k = which ws n c q in (suc k.0, omega (arith, k.1), k.2)
]

module _ (own : ℕ → ℕ) (t : Table) (i : ℕ) (st : Stands own t) (o : IsOpen t i) (img : List ℕ) where
  module _ (j : ℕ) (l : j < seats) (other : j ≡ i → ⊥) where
    commit_same : SameOn own (held_by t.slots j) (image_after case.Committed (seat_at t i).run img) img
    unfolding image_after kept_writes
    commit_same c b h =
        unwritten (kept_writes (seat_at t i).run) img c (is_false (λ e.
        let k = which (seat_at t i).run.writes (seat_at t i).run.kept c e in
        let mine = subst (λ (x : ℕ). In (held_by t.slots i) (own x)) k.2 ((open_rules t i st o).two.held k.0 k.1) in
        other (st.sound.table.one j i (own c) l o.seat h mine)))

    pub others_same : (c : Case) → SameOn own (held_by t.slots j) (image_after c (seat_at t i).run img) img
    unfolding image_after
    others_same (case.Got s) c b h = refl
    others_same case.Blocked c b h = refl
    others_same (case.Queued s) c b h = refl
    others_same case.Committed c b h = commit_same c b h
    others_same case.Ran c b h = refl
    others_same (case.Took s) c b h = refl
    others_same case.Failed c b h = refl
    others_same (case.Restarted s) c b h = refl
