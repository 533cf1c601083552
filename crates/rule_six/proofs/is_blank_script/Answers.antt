-- The length is asked first, and then the instructions as a list, from the first on.
use Rattle.std.proofs.Common.{rules, tests, length, ◌≡◌, ◌∙◌, refl}
use Rattle.std.proofs.lemmas.Iterator.{YieldsList-from_slice}
use Rattle.std.proofs.lemmas.Iterator.Search.{all_from_yields_List}
use borrow.Author.Tests.{ne_eqb}
use Rattle.script.specs.Scripts.{max_instructions, no_instr}
use Rattle.rule_six.specs.Tests.{is_no_instr, is_blank_script}
use Rattle.rule_six.proofs.Blanks.{each}
use Rattle.rule_six.proofs.is_blank_script.Goals as goal

pub returns-then-s-eq0 : goal.returns-then-s-eq0
unfolding is_blank_script
returns-then-s-eq0 c =
    let xs = c.args.s.now.code in
    let whole : length xs ≡ max_instructions = search rules in
    rw (c.if-s-eq0.true)
    (all_from_yields_List is_no_instr _ _ _ c.all.ensures.ran (YieldsList-from_slice xs (cc)) (λ x b q k. search (rules, tests))
    ∙ each is_no_instr no_instr xs max_instructions whole)

pub returns-else-s-eq0 : goal.returns-else-s-eq0
unfolding is_blank_script
returns-else-s-eq0 c = rw (ne_eqb c.args.s.now.len 0 c.if-s-eq0.false) refl
