-- `SlotSet::union` gives what is in either set. The machine's `|` has a digit where one of the two has it.
use borrow.Author.Rules.{rules}
use Rattle.slots.proofs.Machine.{or_union}
use Rattle.slots.proofs.set.SlotSet.union.Goals as goal

pub returns : goal.returns
returns c = or_union _ _ (search rules) (search rules)
