-- The body of a frame is put. The loop's invariant: the first i instructions stand at its front, and behind them it is as it was.
use Rattle.std.proofs.Common.{◌≡◌}
use Rattle.script.proofs.Frames.{filled}
use Rattle.script.proofs.writing.put_body.Given as goal

abbrev pub invariant-loop-i : goal.invariant-loop-i
invariant-loop-i l = l.body ≡ filled l.initial.body l.code l.i
