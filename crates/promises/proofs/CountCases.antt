-- What a case does to the counts of a seat is what its reply counts for: one line a case. A seat that has ended by it was ended by a commit or
-- a failure, and reports the number of slots it held.
use Prim.Native.Nat.{ℕ, ◌+◌}
use mathlib.Core.Path.{◌≡◌, refl}
use mathlib.Core.Bool.{true, false≢true}
use mathlib.Core.List.{List}
use native.Mathlib.Omega.{arith}
use Rattle.slots.specs.declared.set.SlotSet.{SlotSet}
use Rattle.slots.specs.Sets.{size}
use Rattle.seats.specs.declared.seat.Phase.TheVariants.{Open}
use Rattle.seats.specs.declared.seat.Phase.{Phase}
use Rattle.seats.specs.declared.seat.Seat.{Seat}
use Rattle.course.specs.declared.cases.Case.{Case}
use Rattle.course.specs.declared.cases.Case.TheVariants as case
use Rattle.course.specs.Cases.{word_of}
use Rattle.course.specs.Steps.{restarted, ended, seat_after}
use Rattle.table.specs.Calls.{is_ended}
use Rattle.promises.specs.Histories.{works, restarts, ends}

-- an open seat has not ended
open_not_ended : {A : Type 0} (p : Phase) → p ≡ Open → is_ended p ≡ true → A
unfolding is_ended
open_not_ended p o e = absurd (false≢true (rw o at e))

module _ (z : Seat) (h : SlotSet) (img : List ℕ) where
  -- after the case c: the counts, and the same script
  pub record Counted (c : Case) : Type 0 where
    pub restarts : (seat_after c z h img).tally.restarts ≡ z.tally.restarts + restarts (word_of c)
    pub working : (seat_after c z h img).tally.working ≡ z.tally.working + works (word_of c)
    pub script : (seat_after c z h img).script ≡ z.script

  pub counted : (c : Case) → Counted c
  unfolding seat_after restarted ended word_of works restarts
  counted (case.Got s) = record { restarts = omega arith; working = omega arith; script = refl }
  counted case.Blocked = record { restarts = omega arith; working = omega arith; script = refl }
  counted (case.Queued s) = record { restarts = omega arith; working = omega arith; script = refl }
  counted case.Committed = record { restarts = omega arith; working = omega arith; script = refl }
  counted case.Ran = record { restarts = omega arith; working = omega arith; script = refl }
  counted (case.Took s) = record { restarts = omega arith; working = omega arith; script = refl }
  counted case.Failed = record { restarts = omega arith; working = omega arith; script = refl }
  counted (case.Restarted s) = record { restarts = omega arith; working = omega arith; script = refl }

  pub record Ending (c : Case) : Type 0 where
    pub word : ends (word_of c) ≡ true
    pub restarts : (seat_after c z h img).tally.restarts ≡ z.tally.restarts
    pub working : (seat_after c z h img).tally.working ≡ z.tally.working + 1
    pub slots : (seat_after c z h img).tally.slots ≡ size h

  pub ending : (c : Case) → z.phase ≡ Open → is_ended (seat_after c z h img).phase ≡ true → Ending c
  unfolding seat_after restarted ended word_of ends
  ending (case.Got s) o e = open_not_ended z.phase o e
  ending case.Blocked o e = open_not_ended z.phase o e
  ending (case.Queued s) o e = open_not_ended z.phase o e
  ending case.Committed o e = record { word = refl; restarts = refl; working = refl; slots = refl }
  ending case.Ran o e = open_not_ended z.phase o e
  ending (case.Took s) o e = open_not_ended z.phase o e
  ending case.Failed o e = record { word = refl; restarts = refl; working = refl; slots = refl }
  ending (case.Restarted s) o e = open_not_ended z.phase o e
