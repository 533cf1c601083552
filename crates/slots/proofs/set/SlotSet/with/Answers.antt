-- `SlotSet::with` adds s. Below 64 the machine's `|` sets digit s and no other. A slot from 64 up is added to no set, so the set comes
-- back as it was.
use borrow.Author.Rules.{rules}
use Rattle.slots.proofs.Machine.{or_adds, high_adds}
use Rattle.slots.proofs.set.SlotSet.with.Goals as goal

pub returns-then-s-lt-SLOTS : goal.returns-then-s-lt-SLOTS
returns-then-s-lt-SLOTS c = or_adds _ _ (search rules) (search rules)

pub returns-else-s-lt-SLOTS : goal.returns-else-s-lt-SLOTS
returns-else-s-lt-SLOTS c = high_adds _ _ (search rules) (search rules)
