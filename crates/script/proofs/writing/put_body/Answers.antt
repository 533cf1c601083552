-- The body of a frame is put. A turn puts the four bytes of one instruction behind those of the instructions before it; after the last, none
-- of what was there is left.
use Rattle.std.proofs.Common.{refl, ◌∙◌, arith}
use Rattle.script.proofs.Frames.{filled_none, filled_more}
use Rattle.script.proofs.writing.put_body.Goals as goal

pub loop-i-init : goal.loop-i-init
loop-i-init c = filled_none _ c.args.code.now

pub loop-i-preserved : goal.loop-i-preserved
loop-i-preserved c =
    filled_more _ _ c.loop-i.i c.loop-i-test.true refl c.loop-i.invariant (omega arith) (c.copy_from_slice.ensures.after ∙ c.bytes.ensures)
