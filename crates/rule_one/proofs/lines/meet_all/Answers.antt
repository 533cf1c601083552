-- A turn meets the queue of one slot.
use Rattle.std.proofs.Common.{true, sym, ap, ◌∙◌}
use Rattle.rule_one.specs.Tests.{all_seats, unmet, met_all}
use Rattle.seats.specs.Queues.{entries}
use Rattle.seats.specs.SlotTables.{queue_of}
use Rattle.rule_one.proofs.Meets.{waiters_none, waiters_next}
use Rattle.rule_one.proofs.lines.meet_all.Goals as goal

pub loop-q-init : goal.loop-q-init
loop-q-init c = ap (unmet true) c.all_seats.ensures ∙ sym (waiters_none c.args.t.now (unmet true all_seats))

pub loop-q-preserved : goal.loop-q-preserved
loop-q-preserved c =
    c.meet_queue-unmet.ensures ∙ ap (met_all (entries (queue_of c.args.t.now c.loop-q.q-index))) c.loop-q.invariant
    ∙ sym (waiters_next c.args.t.now (unmet true all_seats) c.loop-q.q-index)
