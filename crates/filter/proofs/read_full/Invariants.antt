-- What is read so far is within the buffer. Each turn that goes on reads at least one byte more, so what is left of the buffer falls.
use Rattle.std.proofs.Common.{length, ◌-◌, ◌≤◌}
use Rattle.filter.proofs.read_full.Given as goal

abbrev pub invariant-loop-done : goal.invariant-loop-done
invariant-loop-done g l = l.done ≤ length l.buf

abbrev pub decreases-loop-done : goal.decreases-loop-done
decreases-loop-done g l = length l.initial.buf - l.done
