-- The invariant: what is to be found on the whole shelf is what is to be found on the shelf of what is left. A turn leaves fewer bytes.
use mathlib.Core.Path.{◌≡◌}
use lib.ListN.{length}
use Rattle.shelf.specs.Shelves.{shelf, find}
use Rattle.shelf.proofs.frame_on.Given as goal

abbrev pub invariant-loop-entry : goal.invariant-loop-entry
invariant-loop-entry l = find l.number (shelf l.s) ≡ find l.number (shelf l.rest)

abbrev pub decreases-loop-entry : goal.decreases-loop-entry
decreases-loop-entry l = length l.rest
