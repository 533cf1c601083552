-- `SlotSet::difference` gives what is in the set and not in the other. The machine's `&` with the other's complement has a digit where the
-- set has it and the other does not.
use borrow.Author.Rules.{rules}
use Rattle.slots.proofs.Machine.{and_difference}
use Rattle.slots.proofs.set.SlotSet.difference.Goals as goal

pub returns : goal.returns
returns c = and_difference _ _ (search rules) (search rules)
