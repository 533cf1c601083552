-- `carry_out` goes by the instruction's access, which tells what its act is (`Acts`). At a local act the registers and the skip are those
-- of `local`, and the skip is a byte, so the position does not wrap; at the others the callee's contract is the answer.
use Rattle.std.proofs.Common.{◌≡◌, ◌+◌, Some, sym, ap, ◌∙◌, arith}
use Rattle.script.specs.Meaning.{Local, act_of, local_of}
use Rattle.runs.specs.Runs.{after_act}
use Rattle.runs.proofs.Acts.{told_local, told_reads, told_writes, few_skipped}
use Rattle.runs.proofs.carry_out.Goals as goal

pub overflow_add-run : goal.overflow_add-run
overflow_add-run c = let few = few_skipped c.args.x _ _ _ (omega arith) c.local.ensures in omega arith

pub overflow_add-run-in-None : goal.overflow_add-run-in-None
overflow_add-run-in-None c = let few = few_skipped c.args.x _ _ _ (omega arith) c.local.ensures in omega arith

pub returns-in-None : goal.returns-in-None
unfolding after_act local_of
returns-in-None c =
    let l = told_local (act_of c.args.x c.args.run.now.regs) (sym c.access.ensures ∙ c.in-None.is) in
    let same = c.local.ensures ∙ ap (local_of c.args.run.now.regs) l.2 in
    let skips : c.local.result ≡ l.1 = ap (λ (m : Local). m.skip) same in
    let at : c.args.run.now.at + (1 + c.local.result) ≡ c.args.run.now.at + 1 + l.1 = omega (arith, skips) in
    rw (l.2, at, ap (λ (m : Local). m.regs) same)

pub returns-in-Some-Reads : goal.returns-in-Some-Reads
unfolding after_act
returns-in-Some-Reads c =
    let is = c.in-Some-Reads.is ∙ ap Some c.in-Some-Reads.field-0-is in
    let e = told_reads (act_of c.args.x c.args.run.now.regs) _ _ (sym c.access.ensures ∙ is) in
    rw (e, c.set_register.ensures, c.seen-v.ensures, c.in-Some-Reads.field-0-is)

pub returns-in-Some-Writes : goal.returns-in-Some-Writes
unfolding after_act
returns-in-Some-Writes c =
    let is = c.in-Some-Writes.is ∙ ap Some c.in-Some-Writes.field-0-is in
    let e = told_writes (act_of c.args.x c.args.run.now.regs) _ _ (sym c.access.ensures ∙ is) in
    rw (e, c.keep.ensures, c.in-Some-Writes.field-0-is)
