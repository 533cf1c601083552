-- Which case a step is, line by line as in 'One step of an open seat'.
use Rattle.std.specs.Prelude.{Bool, true, false, not, cond, ◌||◌}
use Rattle.slots.specs.declared.Slot.{Slot}
use Rattle.slots.specs.declared.set.SlotSet.{SlotSet}
use Rattle.slots.specs.Sets.{has, above, is_empty}
use Rattle.course.specs.declared.wants.Want.{Want}
use Rattle.course.specs.declared.wants.Want.TheVariants.{Back, End, Nothing, Access, NoCell}
use Rattle.course.specs.declared.cases.Case.{Case}
use Rattle.course.specs.declared.cases.Case.TheVariants as case
use Rattle.course.specs.Words.{Word}
use Rattle.course.specs.Words as word

-- if it is in the queue of s, blocked; otherwise it joins the tail
unfoldable pub waiting : Bool → Slot → Case
waiting true s = case.Blocked
waiting false s = case.Queued s

-- of a seat that holds h, where the slots o are owned, and b says that the seat is in the queue of the slot it wants
unfoldable pub case_for : Want → SlotSet → SlotSet → Bool → Case
-- A: the seat owns it, or it is free: got; otherwise it waits
case_for (Back s) h o b = cond (has h s.0 || not (has o s.0)) (case.Got s) (waiting b s)
-- B
case_for End h o b = case.Committed
-- C
case_for Nothing h o b = case.Ran
-- D: held; free; owned by another with nothing held above; owned by another with a held slot above
case_for (Access s) h o b =
    cond (has h s.0) case.Ran
    (cond (not (has o s.0)) (case.Took s)
    (cond (is_empty (above h s.0)) (waiting b s) (case.Restarted s)))
case_for NoCell h o b = case.Failed

-- the reply
unfoldable pub word_of : Case → Word
word_of (case.Got s) = word.Got
word_of case.Blocked = word.Blocked
word_of (case.Queued s) = word.Queued
word_of case.Committed = word.Committed
word_of case.Ran = word.Ran
word_of (case.Took s) = word.Ran
word_of case.Failed = word.Failed
word_of (case.Restarted s) = word.Restarted
