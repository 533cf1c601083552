-- The whole of a step in own code against the listing: at the end of the script the transaction completes, an instruction that accesses
-- nothing is done, a cell number too high ends it, and an access goes by the tests of lines 1, 6, 7 and 8, which answer as those of the step.
use Prim.Native.Nat.{ℕ, ◌≤◌, ◌<◌}
use mathlib.Core.Path.{◌≡◌, refl, sym, ap, ◌∙◌}
use mathlib.Core.Logic.{inl, inr}
use mathlib.Core.Bool.{true, false}
use mathlib.Core.List.{List}
use native.Mathlib.Omega.{arith}
use borrow.Author.Tests.{lt-ltb, le-ltb}
use Rattle.slots.specs.Sizes.{cells, slots}
use Rattle.slots.specs.declared.Slot.{Slot}
use Rattle.slots.specs.declared.set.SlotSet.{SlotSet}
use Rattle.slots.specs.Sets as sets
use Rattle.slots.specs.Sets.{has, adding, above, is_empty}
use Rattle.slots.proofs.Truth.{not_both, split}
use Rattle.slots.proofs.Members.{has-none}
use Rattle.slots.proofs.Counting.{none_empty}
use Rattle.script.specs.Meaning.{Act, local}
use Rattle.seats.specs.declared.seat.Seat.{Seat}
use Rattle.seats.specs.declared.slot_table.SlotTable.{SlotTable}
use Rattle.seats.specs.SlotTables.{held_by, owned}
use Rattle.course.specs.declared.wants.Want.{Want}
use Rattle.course.specs.declared.wants.Want.TheVariants.{Back, End, Nothing, Access, NoCell}
use Rattle.course.specs.Words as word
use Rattle.runs.specs.Runs.{kept_writes, written}
use Rattle.course.specs.Wants.{act_at, want_of, slot_of}
use Rattle.course.specs.Cases.{waiting, case_for}
use Rattle.course.proofs.Known.{Accesses, Runs, Wants, wants_known}
use Rattle.promises.specs.Figure1.{Locks, acquire, try_acquire, code, Transaction, transaction}
use Rattle.promises.specs.Figure1.{accessing, from7, at_line7, from8, at_line8, safe_access, completing, to_cell, by_act, at_line}
use Rattle.promises.proofs.FigureLocks.{LocksLike, acquire_free, acquire_joins, try_free, try_taken}
use Rattle.promises.proofs.FigureAlike.{waits, Like}
use Rattle.promises.proofs.FigureTable.{Ground, case_by}
use Rattle.promises.proofs.FigureMoves.{Follows, follows_as}
use Rattle.promises.proofs.FigureCode.{nothing_pending, in_no_queue, lock_set, above_same, code_ran, code_took, code_queued, code_restarted}
use Rattle.promises.proofs.FigureCode.{code_committed, code_failed}

-- ---- the listing, by the tests that it makes

module _ (own : ℕ → ℕ) (i : ℕ) (x : Transaction) (k : Locks) (img : List ℕ) where
  module _ (h : ℕ) where
    safe_in : has x.L h ≡ true → safe_access own i x k img h ≡ accessing own i x k img x.L k
    unfolding safe_access
    safe_in e = rw e

    safe_low : has x.L h ≡ false → is_empty (above x.L h) ≡ true
        → safe_access own i x k img h ≡ from7 own i x k img h (adding x.L h) (acquire i (k h))
    unfolding safe_access at_line7
    safe_low e f = rw (e, f)

    safe_high : has x.L h ≡ false → is_empty (above x.L h) ≡ false
        → safe_access own i x k img h ≡ from8 own i x k img h (adding x.L h) (above x.L h) (try_acquire i (k h))
    unfolding safe_access at_line8
    safe_high e f = rw (e, f)

  to_cell_lem : (a : Act) (c : ℕ) → Accesses a c → by_act own i x k img a ≡ to_cell own i x k img c
  unfolding by_act
  to_cell_lem a c (inl (r, e)) = rw e
  to_cell_lem a c (inr (v, e)) = rw e

  cell_low : (c : ℕ) → c < cells → to_cell own i x k img c ≡ safe_access own i x k img (own c)
  unfolding to_cell
  cell_low c l = rw (lt-ltb c cells l)

  cell_high : (c : ℕ) → cells ≤ c → to_cell own i x k img c ≡ completing own i x k img word.Failed img
  unfolding to_cell
  cell_high c l = rw (le-ltb c cells l)

module _ {own : ℕ → ℕ} (z : Seat) (T : SlotTable) (i : ℕ) (g : Ground own z T i) (img : List ℕ) (k : Locks) (like : LocksLike T k)
    (L M : SlotSet) (y : Like own z T i code L M) where
  abbrev H : SlotSet
  H = held_by T i

  abbrev x : Transaction
  x = transaction z.script z.run code L M

  module _ (s : Slot) (l : s.0 < slots) (w : want_of own z ≡ Access s) where
    abbrev h : ℕ
    h = s.0

    locked : has L h ≡ has H h
    locked = lock_set z T i g L M y h

    higher : is_empty (above L h) ≡ is_empty (above H h)
    higher = ap is_empty (above_same z T i g L M y h)

    calm : waits T i h ≡ false
    calm = in_no_queue z T i g L M y h l

    code_access : Follows own z T i img (case_by (Access s) T i) (safe_access own i x k img h)
    unfolding case_for waiting slot_of from7 from8
    code_access =
        split (has H h)
        (λ m. follows_as own z T i img (rw m) (safe_in own i x k img h (locked ∙ m)) (code_ran z T i g L M y img k like))
        (λ n. split (has (owned T) h)
        (λ m. split (is_empty (above H h))
        (λ e. follows_as own z T i img (rw (n, m, e, calm))
        (safe_low own i x k img h (locked ∙ n) (higher ∙ e) ∙ ap (from7 own i x k img h (adding L h)) (acquire_joins T k like i h l n m calm))
        (code_queued z T i g L M y img k like h l w))
        (λ e. follows_as own z T i img (rw (n, m, e))
        (safe_high own i x k img h (locked ∙ n) (higher ∙ e) ∙ ap (from8 own i x k img h (adding L h) (above L h)) (try_taken T k like i h l m))
        (code_restarted z T i g L M y img k like h l e)))
        (λ f. follows_as own z T i img (rw (n, f))
        (split (is_empty (above L h))
        (λ e. safe_low own i x k img h (locked ∙ n) e ∙ ap (from7 own i x k img h (adding L h)) (acquire_free T k like i h l f))
        (λ e. safe_high own i x k img h (locked ∙ n) e ∙ ap (from8 own i x k img h (adding L h) (above L h)) (try_free T k like i h l f)))
        (code_took z T i g L M y img k like h l)))

  -- ---- whatever the seat wants

  calm_seat : is_empty z.pending ≡ true
  calm_seat = ap is_empty (nothing_pending z T i g L M y) ∙ none_empty sets.none has-none

  inside : Runs z → at_line own i x k img code ≡ by_act own i x k img (act_at z)
  unfolding at_line act_at
  inside r = rw (lt-ltb z.run.at z.script.len r.inside)

  past : z.script.len ≤ z.run.at → at_line own i x k img code ≡ completing own i x k img word.Committed (written (kept_writes z.run) img)
  unfolding at_line
  past l = rw (le-ltb z.run.at z.script.len l)

  code_local : (r : List ℕ) (n : ℕ) → act_at z ≡ local r n → by_act own i x k img (act_at z) ≡ accessing own i x k img L k
  unfolding by_act
  code_local r n e = rw e

  pub code_follows : ((c : ℕ) → own c < slots) → Follows own z T i img (case_by (want_of own z) T i) (at_line own i x k img code)
  unfolding case_for
  code_follows below = go (want_of own z) refl (wants_known own z)
    where
      go : (w : Want) → want_of own z ≡ w → Wants own w z → Follows own z T i img (case_by w T i) (at_line own i x k img code)
      go (Back s) e v = absurd (not_both calm_seat v.0)
      go End e v = follows_as own z T i img refl (past v.1) (code_committed z T i g L M y img k like)
      go Nothing e v =
          follows_as own z T i img refl (inside v.0 ∙ code_local v.1.0 v.1.1 v.1.2) (code_ran z T i g L M y img k like)
      go (Access s) e v =
          let c : ℕ = v.1.0 in
          let l : s.0 < slots = omega (arith, v.1.3, below c) in
          follows_as own z T i img refl
          (inside v.0 ∙ to_cell_lem own i x k img (act_at z) c v.1.1 ∙ cell_low own i x k img c v.1.2
          ∙ ap (safe_access own i x k img) (sym v.1.3))
          (code_access s l e)
      go NoCell e v =
          let c : ℕ = v.1.0 in
          follows_as own z T i img refl
          (inside v.0 ∙ to_cell_lem own i x k img (act_at z) c v.1.1 ∙ cell_high own i x k img c v.1.2)
          (code_failed z T i g L M y img k like)
