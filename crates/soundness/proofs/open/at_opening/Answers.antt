-- Both arrays have eight registers; they are equal if each is.
use mathlib.Core.Path.{refl, sym, ◌∙◌}
use native.Mathlib.Omega.{arith}
use borrow.Author.Tests.{ne_eqb}
use Rattle.slots.proofs.Truth.{not_both}
use Rattle.script.specs.Scripts.{registers}
use Rattle.script.specs.Meaning.{opening_registers}
use Rattle.seats.specs.Seats.{opened_run}
use Rattle.soundness.specs.Tests.{at_opening}
use Rattle.soundness.proofs.ByElement.{same_each}
use Rattle.soundness.proofs.open.at_opening.Goals as goal
use Rattle.soundness.proofs.open.at_opening.Goals.{then-run-eq0, else-run-eq0}

pub returns-then-run-eq0-2 : goal.returns-then-run-eq0-2
unfolding at_opening opened_run opening_registers
returns-then-run-eq0-2 c =
    let same = rw c.opened.ensures at c.eq.ensures in
    let each = same_each c.args.run.now.regs (opening_registers c.args.run.now.reading) registers (omega arith) refl in
    elim c.if-run-eq0.branch [
      | then-run-eq0 w ↦ rw (w.if-run-eq0.true, sym w.value-is, c.if-run-eq0-2.true) (same ∙ each)
      | else-run-eq0 w ↦ absurd (not_both c.if-run-eq0-2.true (w.value-is ∙ ne_eqb _ _ w.if-run-eq0.false))
    ]
