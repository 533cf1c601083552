-- The number is that of the frame on either shelf, as `ok_or` turns it into an answer (`answered` of Refused): by the contract of `frame_on`,
-- at the site's shelf and then at the works'.
use native.Mathlib.Omega.{arith}
use Rattle.shelf.proofs.Refused.{finding, answered}
use Rattle.shelf.proofs.find.Goals as goal

pub returns-clause-number : goal.returns-clause-number
returns-clause-number c =
    rw c.ok_or.ensures.value
    (answered _ _ _ c.or_else.result (grind (arith, finding)) (grind (arith, finding)) (grind (arith, finding)))
