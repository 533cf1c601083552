-- A turn compares the last held set of the rest with the union of those behind it. If they have a slot in common, the test fails; if not,
-- that set is one more of those behind.
use Rattle.std.proofs.Common.{sym, ap, ◌∙◌}
use Rattle.slots.specs.Sets.{is_empty}
use Rattle.rule_one.proofs.Meets.{behind_none, behind_next, behind_fails}
use Rattle.rule_one.proofs.held.held_apart.Goals as goal

pub loop-h-init : goal.loop-h-init
loop-h-init c = behind_none _ _ (cc)

pub returns-then-not-is_empty : goal.returns-then-not-is_empty
returns-then-not-is_empty c =
    let e = c.if-not-is_empty.ensures ∙ ap is_empty c.common.ensures in
    sym (behind_fails _ _ _ c.loop-h.invariant _ _ c.in-Some.ensures.steps (sym e))

pub loop-h-preserved : goal.loop-h-preserved
loop-h-preserved c =
    let e = c.if-not-is_empty.ensures ∙ ap is_empty c.common.ensures in
    rw c.union-all.ensures (behind_next _ _ _ c.loop-h.invariant _ _ c.in-Some.ensures.steps (sym e))
