-- `write_kept` applies the kept writes in their order. After one write more the image is that after k + 1 writes. A write past the end of
-- the image is left out, and `set` there changes nothing.
use Rattle.std.proofs.Common.{sym, ◌∙◌, arith}
use lib.Seq.{set_out}
use Rattle.runs.proofs.Kept.{written_more}
use Rattle.runs.proofs.write_kept.Goals as goal
use Rattle.runs.proofs.write_kept.Goals.{then-i-image, else-i-image}

pub loop-w-preserved : goal.loop-w-preserved
loop-w-preserved c =
    let more = written_more c.kept_writes-w-items.result.now c.loop-w.w-index (omega arith) c.args.image.now in
    elim c.if-i-image.branch [
      | then-i-image w ↦ w.image-is ∙ rw (c.loop-w.invariant, c.from-i.ensures) (sym more)
      | else-i-image w ↦ w.image-is ∙ c.loop-w.invariant ∙ sym (more ∙ set_out _ _ _ (rw (← c.loop-w.invariant, ← c.from-i.ensures) w.if-i-image.false))
    ]
