-- `want_instr` goes by the instruction's access, which tells what its act is (`Acts`): a local act wants nothing, and the others want the
-- cell that the access names.
use Rattle.std.proofs.Common.{Some, sym, ap, ◌∙◌}
use Rattle.script.specs.Meaning.{act_of}
use Rattle.course.specs.Wants.{want_act}
use Rattle.runs.proofs.Acts.{told_local, told_reads, told_writes}
use Rattle.course.proofs.wants.want_instr.Goals as goal

pub returns-in-None : goal.returns-in-None
unfolding want_act
returns-in-None c = rw (told_local (act_of c.args.x c.args.regs.now) (sym c.access.ensures ∙ c.in-None.is)).2

pub returns-in-Some-Reads : goal.returns-in-Some-Reads
unfolding want_act
returns-in-Some-Reads c =
    let is = c.in-Some-Reads.is ∙ ap Some c.in-Some-Reads.field-0-is in
    let e = told_reads (act_of c.args.x c.args.regs.now) _ _ (sym c.access.ensures ∙ is) in
    rw (e, c.want_cell.ensures)

pub returns-in-Some-Writes : goal.returns-in-Some-Writes
unfolding want_act
returns-in-Some-Writes c =
    let is = c.in-Some-Writes.is ∙ ap Some c.in-Some-Writes.field-0-is in
    let e = told_writes (act_of c.args.x c.args.regs.now) _ _ (sym c.access.ensures ∙ is) in
    rw (e, c.want_cell-in-Some-Writes.ensures)
