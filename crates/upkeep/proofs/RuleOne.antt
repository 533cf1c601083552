-- A step keeps rule 1. In each case the slot table is as before, or a slot is taken, a queue joined, or slots are released, and for each of
-- these rule 1 is kept; here it is seen that the case meets what is asked. A seat that ends releases all it holds and was in no queue.
use Prim.Native.Nat.{ℕ, ◌<◌}
use mathlib.Core.Path.{◌≡◌, refl, sym, ◌∙◌, subst}
use mathlib.Core.Logic.{◌≢◌}
use mathlib.Core.List.{List}
use native.Mathlib.Omega.{arith}
use lib.Dec.{eqb}
use borrow.Author.Tests.{eqb-true, eqb-false}
use Rattle.slots.specs.Sizes.{slots}
use Rattle.slots.specs.Sets.{above}
use Rattle.slots.proofs.Truth.{split, not_both}
use Rattle.slots.proofs.Members.{in_above}
use Rattle.seats.specs.declared.seat.Seat.{Seat}
use Rattle.seats.specs.declared.table.Table.{Table}
use Rattle.seats.specs.SlotTables.{held_by, released}
use Rattle.seats.specs.Tables.{seat_at}
use Rattle.seats.proofs.Shape.{Whole}
use Rattle.course.specs.declared.cases.Case.{Case}
use Rattle.course.specs.declared.cases.Case.TheVariants as case
use Rattle.course.specs.Steps.{restarted, seat_after, slots_after}
use Rattle.rules.specs.Rules.{Waits, IsOpen, Rule1}
use Rattle.table.specs.Calls.{case_of, moved_by}
use Rattle.upkeep.specs.SoundTables.{Stands}
use Rattle.upkeep.proofs.Unqueued.{wanted_slot}
use Rattle.upkeep.proofs.Taking.{taking_rule}
use Rattle.upkeep.proofs.Joining.{joining_rule}
use Rattle.upkeep.proofs.Releasing.{releasing_rule}
use Rattle.upkeep.proofs.Moves.{here, after, open_other, open_here, lined, calm}
use Rattle.upkeep.proofs.Moves.{got_alone, took_alone, queued_lacks, queued_owner, queued_room}

-- where the slots are as before
same_rule : (t : Table) (zs : List Seat) → Rule1 t → ((j : ℕ) → IsOpen t j → IsOpen (record { seats = zs; slots = t.slots }) j)
    → Rule1 (record { seats = zs; slots = t.slots })
same_rule t zs r stays =
    record {
      one = r.one;
      owners = λ j k b e. stays j (r.owners j k b e);
      room = r.room;
      waiters = λ j k b e. stays j (r.waiters j k b e);
      once = r.once;
      single = r.single;
      owned = r.owned;
      apart = r.apart;
    }

module _ (own : ℕ → ℕ) (below : (c : ℕ) → own c < slots) (t : Table) (img : List ℕ) (i : ℕ) (st : Stands own t) (o : IsOpen t i) where
  abbrev whole : Whole t.slots
  whole = st.shaped.arrays

  abbrev rule : Rule1 t
  rule = st.sound.table

  -- the stepping seat goes on
  going : (c : Case) → (here t img i c).phase ≡ (seat_at t i).phase → IsOpen (after t img i c) i
  going c e = open_here t img i c (omega (arith, st.shaped.seats16, o.seat)) o.seat (e ∙ o.phase)

  all_open : (c : Case) → (here t img i c).phase ≡ (seat_at t i).phase → (j : ℕ) → IsOpen t j → IsOpen (after t img i c) j
  all_open c e j k =
      split (eqb j i) (λ x. subst (IsOpen (after t img i c)) (sym (eqb-true j i x)) (going c e)) (λ x. open_other t img i c j (eqb-false j i x) k)

  -- it ends
  all-released : (zs : List Seat) → let u : Table = record { seats = zs; slots = released t.slots i (held_by t.slots i) } in
      ((k : ℕ) → k < slots → Waits t i k → ⊥) → ((j : ℕ) → j ≢ i → IsOpen t j → IsOpen u j) → Rule1 u
  all-released zs quiet stays =
      releasing_rule t i (held_by t.slots i) whole (lined t i st o) rule zs o.seat (λ k h. h) quiet stays (λ k h n. absurd (not_both h n))

  rule1_after : (c : Case) → case_of own t i ≡ c → Rule1 (after t img i c)
  unfolding seat_after slots_after restarted
  rule1_after (case.Got s) e =
      let l : s.0 < slots = wanted_slot own below t i e in
      taking_rule t i s.0 whole l _ rule (all_open (case.Got s) refl) (going (case.Got s) refl) (got_alone t i st o s e)
      (calm t i st o e (λ x. x) s.0 l)
  rule1_after case.Blocked e = same_rule t _ rule (all_open case.Blocked refl)
  rule1_after (case.Queued s) e =
      let l : s.0 < slots = wanted_slot own below t i e in
      joining_rule t i s.0 whole l (lined t i st o s.0 l) (queued_room t i st o s e l) _ rule (all_open (case.Queued s) refl)
      (going (case.Queued s) refl) (queued_owner t i st o s e) (queued_lacks t i st o s e) (calm t i st o e (λ x. x))
  rule1_after case.Committed e = all-released _ (calm t i st o e (λ x. x)) (open_other t img i case.Committed)
  rule1_after case.Ran e = same_rule t _ rule (all_open case.Ran refl)
  rule1_after (case.Took s) e =
      let l : s.0 < slots = wanted_slot own below t i e in
      taking_rule t i s.0 whole l _ rule (all_open (case.Took s) refl) (going (case.Took s) refl) (took_alone t i st o s e)
      (calm t i st o e (λ x. x) s.0 l)
  rule1_after case.Failed e = all-released _ (calm t i st o e (λ x. x)) (open_other t img i case.Failed)
  rule1_after (case.Restarted s) e =
      releasing_rule t i (above (held_by t.slots i) s.0) whole (lined t i st o) rule _ o.seat
      (λ k h. (in_above (held_by t.slots i) s.0 k h).0) (calm t i st o e (λ x. x)) (open_other t img i (case.Restarted s))
      (λ k h n. going (case.Restarted s) refl)

  pub rule1_kept : Rule1 (moved_by own t img i).table
  unfolding moved_by
  rule1_kept = rule1_after (case_of own t i) refl
