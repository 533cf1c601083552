-- The writes are asked as a list that is cut off at their number.
use Rattle.std.proofs.Common.{rules, tests, length, ◌≡◌, ◌∙◌}
use Rattle.std.proofs.lemmas.Iterator.{YieldsList-from_slice, YieldsList-from_take}
use Rattle.std.proofs.lemmas.Iterator.Search.{all_from_yields_List}
use native.Mathlib.Omega.{arith}
use Rattle.slots.specs.Owners.{listed}
use Rattle.seats.specs.declared.seat.Write.{Write}
use Rattle.script.specs.Scripts.{max_instructions}
use Rattle.soundness.specs.Tests.{cell_held}
use Rattle.soundness.proofs.ByElement.{kept_each}
use Rattle.soundness.proofs.open.kept_sound.Goals as goal

pub returns : goal.returns
returns c =
    let whole : length c.args.run.now.writes ≡ max_instructions = search rules in
    all_from_yields_List (λ (w : Write). cell_held (listed c.args.owners.now) c.args.held w.cell.0) _ _ _ c.all.ensures.ran
    (YieldsList-from_take c.args.run.now.kept (YieldsList-from_slice c.args.run.now.writes (cc)) (cc)) (λ x b q k. search (rules, tests))
    ∙ kept_each _ c.args.run.now _ (omega arith)
