-- The script writer. The script's own number is asked first and then the room, so each way out knows the writer's number by the laws of
-- `Writer`: a refusal leaves the destination as it was, and otherwise `put_frame` puts the frame.
use Rattle.std.specs.Prelude.{Ok, Err}
use Rattle.std.proofs.Common.{ℕ, sym, ap, ◌∙◌, arith}
use Rattle.std.proofs.lemmas.Result.{err_from_is_err_and}
use Rattle.slots.specs.Refusals.{number_of, number_in}
use Rattle.slots.specs.declared.refusals.Refusal.TheVariants.{DestinationTooShort}
use Rattle.slots.proofs.Answers.{no_number}
use Rattle.script.specs.Frames.{said_written}
use Rattle.script.proofs.Writer.{write_first, write_14, write_0, write_no, write_script}
use Rattle.script.proofs.writing.write_script.Goals as goal

pub returns-in_err-check-clause-answer : goal.returns-in_err-check-clause-answer
returns-in_err-check-clause-answer c =
    let p = err_from_is_err_and c.from_residual.result c.from_residual.ensures.1 in
    let r = c.in_err-check.field-0.0 in
    ap said_written (p.1 ∙ ap Err p.2) ∙ (write_no c.args.script.now c.args.dst.now r (write_first _ _ c.in_err-check.ensures (no_number r))).0

pub returns-in_err-check-clause-destination : goal.returns-in_err-check-clause-destination
returns-in_err-check-clause-destination c =
    let r = c.in_err-check.field-0.0 in
    (write_no c.args.script.now c.args.dst.now r (write_first _ _ c.in_err-check.ensures (no_number r))).1

pub returns-then-dst-script-clause-answer : goal.returns-then-dst-script-clause-answer
returns-then-dst-script-clause-answer c =
    (write_no c.args.script.now c.args.dst.now DestinationTooShort (write_14 _ _ (sym c.in_ok-check.ensures) (omega arith))).0

pub returns-then-dst-script-clause-destination : goal.returns-then-dst-script-clause-destination
returns-then-dst-script-clause-destination c =
    (write_no c.args.script.now c.args.dst.now DestinationTooShort (write_14 _ _ (sym c.in_ok-check.ensures) (omega arith))).1

pub returns-clause-answer : goal.returns-clause-answer
returns-clause-answer c =
    ap (λ (n : ℕ). said_written (Ok n)) c.put_frame.ensures.bytes
    ∙ (write_script c.args.script.now c.args.dst.now (write_0 _ _ (sym c.in_ok-check.ensures) (omega arith))).0

pub returns-clause-destination : goal.returns-clause-destination
returns-clause-destination c =
    c.put_frame.ensures.frame ∙ (write_script c.args.script.now c.args.dst.now (write_0 _ _ (sym c.in_ok-check.ensures) (omega arith))).1
