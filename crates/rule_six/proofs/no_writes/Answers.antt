-- The writes are asked as a list, from the first on.
use Rattle.std.proofs.Common.{rules, tests, length, ◌≡◌, ◌∙◌}
use Rattle.std.proofs.lemmas.Iterator.{YieldsList-from_slice}
use Rattle.std.proofs.lemmas.Iterator.Search.{all_from_yields_List}
use Rattle.script.specs.Scripts.{max_instructions}
use Rattle.seats.specs.Seats.{no_write}
use Rattle.rule_six.specs.Tests.{is_no_write, no_writes}
use Rattle.rule_six.proofs.Blanks.{each}
use Rattle.rule_six.proofs.no_writes.Goals as goal

pub returns : goal.returns
unfolding no_writes
returns c =
    let xs = c.args.run.now.writes in
    let whole : length xs ≡ max_instructions = search rules in
    all_from_yields_List is_no_write _ _ _ c.all.ensures.ran (YieldsList-from_slice xs (cc)) (λ x b q k. search (rules, tests))
    ∙ each is_no_write no_write xs max_instructions whole
