-- `all_owners` hands out the owner list. The whole list passes the test of the rule, which antt computes here.
use borrow.Author.Rules.{rules}
use Rattle.slots.specs.Owners.{owner_of}
use Rattle.slots.proofs.Owners.{lists}
use Rattle.slots.proofs.owning.all_owners.Goals as goal

pub returns : goal.returns
unfolding owner_of
returns c = search (rules, lists)
