-- `write_kept` applies the kept writes in their order. The invariant: the image is that after the first of them. A write past the end of
-- the image is left out, and `set` there changes nothing.
use Rattle.std.proofs.Common.{◌≡◌, take}
use Rattle.runs.specs.Runs.{written}
use Rattle.runs.proofs.write_kept.Given as goal

abbrev pub invariant-loop-w : goal.invariant-loop-w
invariant-loop-w l = l.image ≡ written (take l.w-index l.w-items) l.initial.image
