-- The loop's invariant: what is written and the listing of the bytes that are left are the whole listing (`Going` of ListTurns). A turn
-- hands on the first line of what is left, and goes on behind it, over fewer bytes.
use Rattle.std.proofs.Common.{length}
use Rattle.sheet.proofs.ListTurns.{Going}
use Rattle.sheet.proofs.listing.list_lines.Given as goal

abbrev pub invariant-loop-rest : goal.invariant-loop-rest
invariant-loop-rest l = Going l.s l.initial.page l.world.table l.world.image l.ended l.n l.rest l.page

abbrev pub decreases-loop-rest : goal.decreases-loop-rest
decreases-loop-rest l = length l.rest
