-- Where the code goes another way than the description. It changes the image before the seat: the seat reads the image only where an
-- instruction runs, and the image changes only at a commit, so no case is both. And where no slot is wanted it asks no queue: the case is
-- then the same whatever the answer.
use Prim.Native.Nat.{ℕ}
use mathlib.Core.Path.{◌≡◌, refl}
use mathlib.Core.List.{List}
use Rattle.slots.specs.declared.set.SlotSet.{SlotSet}
use Rattle.seats.specs.declared.seat.Run.{Run}
use Rattle.seats.specs.declared.seat.Seat.{Seat}
use Rattle.seats.specs.declared.slot_table.SlotTable.{SlotTable}
use Rattle.seats.specs.Queues.{waits_in}
use Rattle.seats.specs.SlotTables.{queue_of}
use Rattle.course.specs.declared.wants.Want.{Want}
use Rattle.course.specs.declared.wants.Want.TheVariants.{Back, End, Nothing, Access, NoCell}
use Rattle.course.specs.declared.cases.Case.{Case}
use Rattle.course.specs.declared.cases.Case.TheVariants as case
use Rattle.course.specs.Wants.{slot_of}
use Rattle.course.specs.Cases.{case_for}
use Rattle.course.specs.Steps.{seat_after, image_after, waits_for}

pub image_first : (c : Case) (z : Seat) (h : SlotSet) (ρ : Run) (img : List ℕ)
    → seat_after c z h (image_after c ρ img) ≡ seat_after c z h img
unfolding seat_after image_after
image_first (case.Got s) z h ρ img = refl
image_first case.Blocked z h ρ img = refl
image_first (case.Queued s) z h ρ img = refl
image_first case.Committed z h ρ img = refl
image_first case.Ran z h ρ img = refl
image_first (case.Took s) z h ρ img = refl
image_first case.Failed z h ρ img = refl
image_first (case.Restarted s) z h ρ img = refl

pub waits_asked : (w : Want) (h o : SlotSet) (t : SlotTable) (i : ℕ)
    → case_for w h o (waits_for w t i) ≡ case_for w h o (waits_in (queue_of t (slot_of w)) i)
unfolding case_for waits_for slot_of
waits_asked (Back s) h o t i = refl
waits_asked End h o t i = refl
waits_asked Nothing h o t i = refl
waits_asked (Access s) h o t i = refl
waits_asked NoCell h o t i = refl
