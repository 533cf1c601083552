-- The registers are asked as a list, from the first on.
use Rattle.std.proofs.Common.{rules, tests, length, ◌≡◌, ◌∙◌}
use Rattle.std.proofs.lemmas.Iterator.{YieldsList-from_slice}
use Rattle.std.proofs.lemmas.Iterator.Search.{all_from_yields_List}
use lib.Dec.{eqb}
use Rattle.script.specs.Scripts.{registers}
use Rattle.rule_six.specs.Tests.{no_registers}
use Rattle.rule_six.proofs.Blanks.{each}
use Rattle.rule_six.proofs.no_registers.Goals as goal

pub returns : goal.returns
unfolding no_registers
returns c =
    let xs = c.args.run.now.regs in
    let whole : length xs ≡ registers = search rules in
    all_from_yields_List (λ x. eqb x 0) _ _ _ c.all.ensures.ran (YieldsList-from_slice xs (cc)) (λ x b q k. search (rules, tests))
    ∙ each (λ x. eqb x 0) 0 xs registers whole
