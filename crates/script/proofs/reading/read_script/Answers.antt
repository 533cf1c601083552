-- The script reader. Each way out knows which check gives the number, by the laws of `Reader`: 7 and 8 are asked of the frame, and then the
-- number of the script that was made is the reader's own. For 7 and 8 (`read_none`, `read_long`) the
-- check finds that by itself.
use Rattle.std.specs.Prelude.{Err}
use Rattle.std.proofs.Common.{sym, ap, ◌∙◌}
use Rattle.std.proofs.lemmas.Result.{err_from_is_err_and}
use Rattle.slots.specs.Refusals.{number_in}
use Rattle.script.specs.Frames.{said_read}
use Rattle.script.proofs.Reader.{read_rest, read_no, read_yes}
use Rattle.script.proofs.reading.read_script.Goals as goal

pub returns-in_err-check : goal.returns-in_err-check
returns-in_err-check c =
    let p = err_from_is_err_and c.from_residual.result c.from_residual.ensures.1 in
    ap said_read (p.1 ∙ ap Err p.2)
    ∙ read_no _ c.in_err-check.field-0.0 (read_rest _ (sym c.if-not-is_frame.ensures) c.script_in.ensures ∙ sym c.in_err-check.ensures)

pub returns : goal.returns
returns c =
    read_yes _ c.script_in.ensures (read_rest _ (sym c.if-not-is_frame.ensures) c.script_in.ensures ∙ sym c.in_ok-check.ensures)
