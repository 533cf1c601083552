-- `SlotSet::is_empty` says whether nothing is in the set. The code's sets are numbers of 64 digits, and of these 0 alone has no digit.
use borrow.Author.Rules.{rules}
use Rattle.slots.proofs.Machine.{zero_empty}
use Rattle.slots.proofs.set.SlotSet.is_empty.Goals as goal

pub returns : goal.returns
returns c = zero_empty _ (search rules)
