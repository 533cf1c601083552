-- The frame of a script is put: the head, and behind it the body. The array of a script has 64 places, so a script of length k has k
-- instructions, and the length of their body fits two bytes.
use Rattle.std.proofs.Common.{◌++◌, List, length, drop, ap, ◌∙◌, rules, arith}
use Rattle.script.specs.declared.code.Instr.{Instr}
use Rattle.script.specs.Frames.{frame_of, frame_bytes}
use Rattle.script.proofs.Scripts.{length_instrs}
use Rattle.script.proofs.Frames.{framed_front}
use Rattle.script.proofs.writing.put_frame.Goals as goal

pub returns-clause-frame : goal.returns-clause-frame
returns-clause-frame c =
    let d = c.args.dst.now in
    let xs = c.instrs-code.result.now in
    let many = ap length c.instrs-code.ensures ∙ length_instrs c.args.s.now (search rules) c.requires.short in
    framed_front d xs many c.requires.short (omega arith) (c.copy_from_slice.ensures.after ∙ rw c.to_be_bytes.ensures) c.put_body.ensures
    ∙ ap (λ (ys : List Instr). frame_of ys ++ drop (frame_bytes c.args.s.now.len) d) c.instrs-code.ensures
