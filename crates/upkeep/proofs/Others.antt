-- A step keeps the rules of the seats that do not step. Such a seat is the same seat afterwards, and to it each case is at most that it is
-- handed slots for which it waited: where nothing is released, nothing at all.
use Prim.Native.Nat.{ℕ, ◌<◌}
use mathlib.Core.Path.{◌≡◌, refl, sym, ap, subst}
use mathlib.Core.Logic.{◌≢◌}
use mathlib.Core.List.{List}
use Rattle.slots.specs.Sizes.{slots}
use Rattle.slots.specs.Sets.{above}
use Rattle.seats.specs.declared.seat.Phase.{Phase}
use Rattle.seats.specs.declared.seat.Seat.{Seat}
use Rattle.seats.specs.declared.slot_table.SlotTable.{SlotTable}
use Rattle.seats.specs.declared.table.Table.{Table}
use Rattle.seats.specs.Queues.{seats}
use Rattle.seats.specs.SlotTables.{held_by}
use Rattle.seats.specs.Tables.{seat_at}
use Rattle.seats.proofs.Shape.{Whole}
use Rattle.seats.proofs.Hands.{whole_taken, whole_joined, whole_released}
use Rattle.course.specs.declared.cases.Case.{Case}
use Rattle.course.specs.declared.cases.Case.TheVariants as case
use Rattle.course.specs.Steps.{slots_after}
use Rattle.rules.specs.Rules.{IsOpen, PhaseRules}
use Rattle.table.specs.Calls.{case_of, moved_by}
use Rattle.upkeep.specs.SoundTables.{Stands}
use Rattle.upkeep.proofs.Unqueued.{wanted_slot}
use Rattle.upkeep.proofs.Handed.{Handed, handed_same, phase_kept}
use Rattle.upkeep.proofs.Taking.{taking_others}
use Rattle.upkeep.proofs.Joining.{joining_others}
use Rattle.upkeep.proofs.Releasing.{releasing_others}
use Rattle.upkeep.proofs.Moves.{after, seat_other, lined, queued_room}

pub whole_after : (t : SlotTable) (i : ℕ) (c : Case) → Whole t → Whole (slots_after c t i)
unfolding slots_after
whole_after t i (case.Got s) w = whole_taken t i s.0 w
whole_after t i case.Blocked w = w
whole_after t i (case.Queued s) w = whole_joined t i s.0 w
whole_after t i case.Committed w = whole_released t i (held_by t i) w
whole_after t i case.Ran w = w
whole_after t i (case.Took s) w = whole_taken t i s.0 w
whole_after t i case.Failed w = whole_released t i (held_by t i) w
whole_after t i (case.Restarted s) w = whole_released t i (above (held_by t i) s.0) w

module _ (own : ℕ → ℕ) (below : (c : ℕ) → own c < slots) (t : Table) (img : List ℕ) (i : ℕ) (st : Stands own t) (o : IsOpen t i) where
  abbrev whole : Whole t.slots
  whole = st.shaped.arrays

  module _ (j : ℕ) (b : j < seats) (n : j ≢ i) where
    nothing : Handed t.slots t.slots j
    nothing = handed_same t.slots t.slots j (λ s. refl) (λ s. refl)

    handed_after : (c : Case) → case_of own t i ≡ c → Handed t.slots (slots_after c t.slots i) j
    unfolding slots_after
    handed_after (case.Got s) e = taking_others t i s.0 whole (wanted_slot own below t i e) j b n
    handed_after case.Blocked e = nothing
    handed_after (case.Queued s) e =
        let l : s.0 < slots = wanted_slot own below t i e in
        joining_others t i s.0 whole l (lined t i st o s.0 l) (queued_room t i st o s e l) j n
    handed_after case.Committed e = releasing_others t i (held_by t.slots i) whole (lined t i st o) st.sound.table j b n
    handed_after case.Ran e = nothing
    handed_after (case.Took s) e = taking_others t i s.0 whole (wanted_slot own below t i e) j b n
    handed_after case.Failed e = releasing_others t i (held_by t.slots i) whole (lined t i st o) st.sound.table j b n
    handed_after (case.Restarted s) e =
        releasing_others t i (above (held_by t.slots i) s.0) whole (lined t i st o) st.sound.table j b n

    rules_after : (c : Case) → case_of own t i ≡ c → PhaseRules own (after t img i c) j (seat_at (after t img i c) j).phase
    rules_after c e =
        let same : seat_at (after t img i c) j ≡ seat_at t j = seat_other t img i c j n in
        subst (λ (p : Phase). PhaseRules own (after t img i c) j p) (ap (λ (z : Seat). z.phase) (sym same))
        (phase_kept own t (after t img i c) j whole (whole_after t.slots i c whole) same (handed_after c e) (seat_at t j).phase
        (st.sound.seats j b))

  pub others_kept : (j : ℕ) → j < seats → j ≢ i → PhaseRules own (moved_by own t img i).table j (seat_at (moved_by own t img i).table j).phase
  unfolding moved_by
  others_kept j b n = rules_after j b n (case_of own t i) refl
