-- `SlotSet::count` gives how many slots the set holds. The machine counts the digits that are 1, and these are the members.
use borrow.Author.Rules.{rules}
use Rattle.slots.proofs.Machine.{ones_size}
use Rattle.slots.proofs.set.SlotSet.count.Goals as goal

pub returns : goal.returns
returns c = ones_size _ (search rules)
