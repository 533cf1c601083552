-- The invariant: the shelf of what is left is sound where the whole shelf is. A turn leaves fewer bytes.
use mathlib.Core.Path.{◌≡◌}
use lib.ListN.{length}
use Rattle.shelf.specs.Shelves.{shelf, is_sound}
use Rattle.shelf.proofs.is_sound.Given as goal

abbrev pub invariant-loop-rest : goal.invariant-loop-rest
invariant-loop-rest l = is_sound (shelf l.s) ≡ is_sound (shelf l.rest)

abbrev pub decreases-loop-rest : goal.decreases-loop-rest
decreases-loop-rest l = length l.rest
