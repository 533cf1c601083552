-- A script is legal. The chain asks each instruction with its position, which is what the definition asks from position 0 on.
use Rattle.std.proofs.Common.{rules, ℕ, length, ap, ◌∙◌}
use borrow.Author.Tests.{tests}
use Rattle.std.proofs.lemmas.Iterator.{YieldsList-from_slice}
use Rattle.std.proofs.lemmas.Iterator.Consumers.{YieldsList-from_enumerate}
use Rattle.std.proofs.lemmas.Iterator.Search.{all_from_yields_List}
use Rattle.script.specs.declared.code.Instr.{Instr}
use Rattle.script.specs.Legal.{legal_at, legal}
use Rattle.script.proofs.Lawful.{legal_listed}
use Rattle.script.proofs.code.Script.is_legal.Goals as goal

pub returns : goal.returns
unfolding legal
returns c =
    let xs = c.instrs-code.result.now in
    all_from_yields_List (λ (p : ℕ × Instr). legal_at (length xs) p.0 p.1) _ _ c.all.result c.all.ensures.ran
    (YieldsList-from_enumerate (YieldsList-from_slice xs (cc)) (cc)) (λ x b q k. search (rules, tests))
    ∙ legal_listed (length xs) 0 xs ∙ ap legal c.instrs-code.ensures
