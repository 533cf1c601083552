-- `SlotSet::above` gives the members greater than s. Below 63 the two shifts clear the digits up to s and leave the others. From 63 up no
-- slot is greater, so the result is the empty set.
use borrow.Author.Rules.{rules}
use Rattle.slots.proofs.Machine.{shifts_above, high_above}
use Rattle.slots.proofs.set.SlotSet.above.Goals as goal

pub returns-then-s : goal.returns-then-s
returns-then-s c = shifts_above _ _ (search rules)

pub returns-else-s : goal.returns-else-s
returns-else-s c = high_above _ _ (search rules)
