-- A step keeps the rules of the seat that steps. A seat that is blocked is left as it is, and one that ends is released of all its slots; for
-- every other case its own law gives the rules of the seat afterwards.
use Prim.Native.Nat.{ℕ, ◌<◌}
use mathlib.Core.Path.{◌≡◌, refl}
use mathlib.Core.Bool.{true}
use mathlib.Core.List.{List}
use Rattle.slots.specs.declared.set.SlotSet.{SlotSet}
use Rattle.slots.specs.Sizes.{slots}
use Rattle.slots.specs.Sets.{is_empty}
use Rattle.slots.proofs.Members.{Out, in_not_out, out}
use Rattle.seats.specs.declared.seat.Phase.{Phase}
use Rattle.seats.specs.declared.seat.Phase.TheVariants.{Committed, Failed}
use Rattle.seats.specs.declared.seat.Seat.{Seat}
use Rattle.seats.specs.declared.slot_table.SlotTable.{SlotTable}
use Rattle.seats.specs.declared.table.Table.{Table}
use Rattle.seats.specs.SlotTables.{held_by, released}
use Rattle.seats.specs.Tables.{seat_at}
use Rattle.course.specs.declared.cases.Case.{Case}
use Rattle.course.specs.declared.cases.Case.TheVariants as case
use Rattle.course.specs.Steps.{ended, seat_after, slots_after}
use Rattle.course.proofs.Known.{known_want}
use Rattle.rules.specs.Rules.{IsOpen, Closed, Ended, PhaseRules}
use Rattle.table.specs.Calls.{case_of, moved_by}
use Rattle.upkeep.specs.SoundTables.{Stands}
use Rattle.upkeep.proofs.OwnParts.{queued_in}
use Rattle.upkeep.proofs.OwnSlots.{released-from, released_calm}
use Rattle.upkeep.proofs.OwnEnded.{closed_ended, counts_ended}
use Rattle.upkeep.proofs.Moves.{lined, calm}
use Rattle.upkeep.proofs.OwnBase.{before, known_of, in_none, put, here, phase_kept, open_kept, Kept}
use Rattle.upkeep.proofs.OwnWaits.{got_kept, queued_kept}
use Rattle.upkeep.proofs.OwnRuns.{ran_kept, took_kept, restarted_kept}

module _ (own : ℕ → ℕ) (below : (c : ℕ) → own c < slots) (t : Table) (img : List ℕ) (i : ℕ) (st : Stands own t) (o : IsOpen t i) where
  abbrev z : Seat
  z = seat_at t i

  abbrev σ : SlotTable
  σ = t.slots

  abbrev H : SlotSet
  H = held_by σ i

  -- the table in which the seat has ended
  abbrev shut : Phase → Table
  shut p = put t i st o (ended z H p) (released σ i H)

  ended_rules : (p : Phase) → ((k : ℕ) → Out (queued_in σ i) k) → is_empty z.pending ≡ true → Closed own (shut p) i × Ended own (shut p) i
  ended_rules p n e =
      let w = st.shaped.arrays in
      let is = here t i st o (ended z H p) (released σ i H) in (
        closed_ended own (shut p) i z H (queued_in σ i) p is
            (λ k. out (held_by (released σ i H) i) k
            (λ a. let f = released-from σ i w o.seat (lined t i st o) n H k a in in_not_out H k f.0 f.1))
            (released_calm σ i w o.seat (lined t i st o) n H),
        counts_ended own (shut p) i z H (queued_in σ i) p is e (before t i st o),
      )

  kept : (c : Case) → case_of own t i ≡ c → Kept own t img i c
  unfolding seat_after slots_after ended PhaseRules
  kept (case.Got s) is = got_kept own below t img i st o s is
  kept case.Blocked is = open_kept t i st o z σ o.phase (before t i st o)
  kept (case.Queued s) is = queued_kept own below t img i st o s is
  kept case.Committed is =
      phase_kept t i st o (ended z H Committed) (released σ i H) Committed refl
      (ended_rules Committed (in_none t i (calm t i st o is (λ x. x))) (known_want own z (known_of t i st o is)).0)
  kept case.Ran is = ran_kept own below t img i st o is
  kept (case.Took s) is = took_kept own below t img i st o s is
  kept case.Failed is =
      phase_kept t i st o (ended z H Failed) (released σ i H) Failed refl
      (ended_rules Failed (in_none t i (calm t i st o is (λ x. x))) (known_want own z (known_of t i st o is)).0.calm)
  kept (case.Restarted s) is = restarted_kept own below t img i st o s is

  pub own_kept : PhaseRules own (moved_by own t img i).table i (seat_at (moved_by own t img i).table i).phase
  unfolding moved_by
  own_kept = kept (case_of own t i) refl
