-- `SlotSet::has` says whether s is in the set. Below 64 the machine looks at digit s, which is what `has` means there. From 64 up nothing
-- is in a set, and the answer is no.
use mathlib.Core.Path.{sym, ◌∙◌}
use borrow.Author.Rules.{rules}
use borrow.Author.Tests.{le-ltb}
use Rattle.slots.proofs.Members.{has_high}
use Rattle.slots.proofs.Machine.{shifted_has}
use Rattle.slots.proofs.set.SlotSet.has.Goals as goal

pub returns-then-s-lt-SLOTS : goal.returns-then-s-lt-SLOTS
returns-then-s-lt-SLOTS c = shifted_has _ _ (search rules)

pub returns-else-s-lt-SLOTS : goal.returns-else-s-lt-SLOTS
returns-else-s-lt-SLOTS c = le-ltb _ _ (search rules) ∙ sym (has_high _ _ (search rules))
