-- `held_apart` goes from the last seat to the first, as the definition does. The loop's invariant: `all` is the union of the held sets behind
-- those that the iterator has left, and those are apart.
use Rattle.rule_one.proofs.Meets.{Behind}
use Rattle.rule_one.proofs.held.held_apart.Given as goal

abbrev pub invariant-loop-h : goal.invariant-loop-h
invariant-loop-h l = Behind l.t.held l.h-iterator.iter.rest.now l.all
