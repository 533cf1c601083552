-- `meet_all` meets the queues one after the other. The loop's invariant: what is said so far is that of the queues before the index.
use Rattle.std.proofs.Common.{◌≡◌, true}
use Rattle.rule_one.specs.Tests.{waiters, all_seats, unmet, met_all, said_unmet}
use Rattle.rule_one.proofs.lines.meet_all.Given as goal

abbrev pub invariant-loop-q : goal.invariant-loop-q
invariant-loop-q l = said_unmet l.unmet ≡ met_all (waiters l.t l.q-index) (unmet true all_seats)
