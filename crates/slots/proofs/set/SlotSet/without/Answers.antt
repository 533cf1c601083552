-- `SlotSet::without` takes s out. Below 64 the machine's `&` clears digit s and no other. A slot from 64 up is in no set, so the set comes
-- back as it was.
use borrow.Author.Rules.{rules}
use Rattle.slots.proofs.Machine.{and_removes, high_removes}
use Rattle.slots.proofs.set.SlotSet.without.Goals as goal

pub returns-then-s-lt-SLOTS : goal.returns-then-s-lt-SLOTS
returns-then-s-lt-SLOTS c = and_removes _ _ (search rules) (search rules)

pub returns-else-s-lt-SLOTS : goal.returns-else-s-lt-SLOTS
returns-else-s-lt-SLOTS c = high_removes _ _ (search rules) (search rules)
