-- A turn tests the seat. A seat that is not left over is queued, and only of such a seat is it asked whether it waits for the slot that it
-- wants.
use mathlib.Core.Path.{sym, ◌∙◌}
use native.Mathlib.Omega.{arith}
use Rattle.slots.specs.Owners.{owner_of}
use Rattle.slots.proofs.Truth.{not_both}
use Rattle.rule_one.proofs.Loops.{all_none, all_more, all_done, all_fails}
use Rattle.soundness.proofs.ByPhase.{unsound, seats_left, seat_tested}
use Rattle.soundness.proofs.whole.sound.Goals as goal
use Rattle.soundness.proofs.whole.sound.Goals.{then-queued, else-queued}

pub returns-in_default : goal.returns-in_default
returns-in_default c = sym (unsound owner_of c.args.t.now _ (rw c.in_default.is at c.slots_sound.ensures))

pub loop-i-init : goal.loop-i-init
loop-i-init c = all_none _

pub returns-then-not-seat_sound : goal.returns-then-not-seat_sound
returns-then-not-seat_sound c =
    let fine = rw c.in-Ok.is at c.slots_sound.ensures in
    let tested = seat_tested _ c.args.t.now c.loop-i.i c.in-Ok.free _ _ _ c.all_owners-owners.ensures (omega arith) fine (rw c.from-in-loop-i.ensures at c.has-queued.ensures)
    (elim c.if-queued.branch [
      | then-queued w ↦ λ q. w.here-is ∙ (rw (w.wanted.ensures, c.from.ensures) at w.waits-here.ensures)
      | else-queued w ↦ λ q. absurd (not_both w.if-queued.false q)
    ]) (rw (c.held_by.ensures, c.from.ensures) at c.seat_sound.ensures) in
    sym (seats_left owner_of c.args.t.now c.in-Ok.free fine
    ∙ all_fails _ c.loop-i.i _ (sym tested ∙ c.if-not-seat_sound.true) (omega arith))

pub loop-i-preserved : goal.loop-i-preserved
loop-i-preserved c =
    let fine = rw c.in-Ok.is at c.slots_sound.ensures in
    let tested = seat_tested _ c.args.t.now c.loop-i.i c.in-Ok.free _ _ _ c.all_owners-owners.ensures (omega arith) fine (rw c.from-in-loop-i.ensures at c.has-queued.ensures)
    (elim c.if-queued.branch [
      | then-queued w ↦ λ q. w.here-is ∙ (rw (w.wanted.ensures, c.from.ensures) at w.waits-here.ensures)
      | else-queued w ↦ λ q. absurd (not_both w.if-queued.false q)
    ]) (rw (c.held_by.ensures, c.from.ensures) at c.seat_sound.ensures) in
    all_more _ _ c.loop-i.invariant (sym tested ∙ c.if-not-seat_sound.false)

pub returns : goal.returns
returns c =
    sym (seats_left owner_of c.args.t.now c.in-Ok.free (rw c.in-Ok.is at c.slots_sound.ensures)
    ∙ all_done _ _ _ c.loop-i.invariant (omega arith) (omega arith))
