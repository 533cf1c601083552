-- A step that gets a pending slot back, and a step that joins a queue, keep the rules of the seat: the seat holds one slot more, or is in one
-- queue, which has room for it since the seat was in none.
use Prim.Native.Nat.{ℕ, ◌<◌}
use mathlib.Core.Path.{◌≡◌, sym, subst}
use mathlib.Core.Bool.{false}
use mathlib.Core.List.{List}
use lib.ListN.{length}
use Rattle.slots.specs.declared.Slot.{Slot}
use Rattle.slots.specs.declared.set.SlotSet.{SlotSet}
use Rattle.slots.specs.Sizes.{slots}
use Rattle.slots.specs.Sets.{removing, is_empty, smallest}
use Rattle.slots.proofs.Members.{Out, has_lt}
use Rattle.slots.proofs.Least.{smallest_some}
use Rattle.seats.specs.declared.seat.Seat.{Seat}
use Rattle.seats.specs.declared.slot_table.SlotTable.{SlotTable}
use Rattle.seats.specs.declared.table.Table.{Table}
use Rattle.seats.specs.Queues.{seats, entries}
use Rattle.seats.specs.SlotTables.{held_by, queue_of, owned, taken, joined_by}
use Rattle.seats.specs.Tables.{seat_at}
use Rattle.seats.proofs.Hands.{held-joined}
use Rattle.course.specs.declared.cases.Case.TheVariants as case
use Rattle.course.specs.Steps.{goes_on, seat_after, slots_after}
use Rattle.course.proofs.Known.{known_want}
use Rattle.rules.specs.Rules.{IsOpen}
use Rattle.table.specs.Calls.{case_of}
use Rattle.upkeep.specs.SoundTables.{Stands}
use Rattle.upkeep.proofs.Unqueued.{wanted_slot}
use Rattle.upkeep.proofs.OwnParts.{Parts, queued_in}
use Rattle.upkeep.proofs.OwnSlots.{taken_keeps, taken_here, taken-from, taken_queued, queued_here, queued_alone}
use Rattle.upkeep.proofs.OwnGot.{parts_got}
use Rattle.upkeep.proofs.OwnQueued.{parts_queued}
use Rattle.upkeep.proofs.Moves.{lined, calm, queued_room}
use Rattle.upkeep.proofs.OwnBase.{before, known_of, in_none, open_kept, Kept}

module _ (own : ℕ → ℕ) (below : (c : ℕ) → own c < slots) (t : Table) (img : List ℕ) (i : ℕ) (st : Stands own t) (o : IsOpen t i) where
  abbrev z : Seat
  z = seat_at t i

  abbrev σ : SlotTable
  σ = t.slots

  abbrev H : SlotSet
  H = held_by σ i

  abbrev U : SlotSet
  U = queued_in σ i

  -- ---- a slot is got back

  module _ (s : Slot) (is : case_of own t i ≡ case.Got s) where
    wants_back : (is_empty z.pending ≡ false) × (s.0 ≡ smallest z.pending)
    wants_back = known_want own z (known_of t i st o is).0

    -- the seat after it has got slot m
    Gets : ℕ → Type 0
    Gets m = Parts own (goes_on z z.run (removing z.pending m)) (held_by (taken σ i m) i) (queued_in (taken σ i m) i)

    gets : Gets (smallest z.pending)
    unfolding Gets
    gets =
        let m : ℕ = smallest z.pending in
        let small : m < slots = has_lt z.pending m (smallest_some z.pending wants_back.0) in
        let w = st.shaped.arrays in
        let n = in_none t i (calm t i st o is (λ x. x)) in
        parts_got own z H (held_by (taken σ i m) i) wants_back.0 (taken_keeps σ i w o.seat m small) (taken_here σ i w o.seat m small)
        (taken-from σ i w o.seat m small) U (queued_in (taken σ i m) i) n
        (subst (λ (S : SlotSet). (k : ℕ) → Out S k) (sym (taken_queued σ i w o.seat m small)) n) (before t i st o)

    pub got_kept : Kept own t img i (case.Got s)
    unfolding seat_after slots_after Gets
    got_kept =
        open_kept t i st o (goes_on z z.run (removing z.pending s.0)) (taken σ i s.0) o.phase (subst Gets (sym wants_back.1) gets)

  -- ---- a queue is joined

  module _ (s : Slot) (is : case_of own t i ≡ case.Queued s) where
    abbrev after : SlotTable
    after = joined_by σ i s.0

    small : s.0 < slots
    small = wanted_slot own below t i is

    fits : length (entries (queue_of σ s.0)) < seats
    fits = queued_room t i st o s is small

    pub queued_kept : Kept own t img i (case.Queued s)
    unfolding seat_after slots_after
    queued_kept =
        let w = st.shaped.arrays in
        let n = in_none t i (calm t i st o is (λ x. x)) in
        open_kept t i st o (goes_on z z.run z.pending) after o.phase
        (subst (λ (J : SlotSet). Parts own (goes_on z z.run z.pending) J (queued_in after i)) (sym (held-joined σ i s.0 i))
        (parts_queued own z H (owned σ) U (queued_in after i) s (known_of t i st o is).0 n
        (queued_here σ i w o.seat (lined t i st o) n s.0 small fits) (queued_alone σ i w o.seat (lined t i st o) n s.0 small fits)
        (before t i st o)))
