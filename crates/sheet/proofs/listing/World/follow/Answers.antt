-- A step's reply is by its number and its word, and both are those of the call: what is said of the answer says so.
use Rattle.std.proofs.Common.{◌≡◌, Some, ap, sym, ◌∙◌}
use Rattle.table.specs.Answers.{Stepped}
use Rattle.sheet.specs.Lines.{is_bad}
use Rattle.sheet.specs.Listings.{reply_to}
use Rattle.sheet.specs.Turns.{answered}
use Rattle.sheet.proofs.ListItems.{item_step}
use Rattle.sheet.proofs.listing.World.follow.Goals as goal

pub returns-in-Step-clause-reply : goal.returns-in-Step-clause-reply
unfolding answered is_bad reply_to
returns-in-Step-clause-reply c =
    let e = ap Some (sym c.in-Step.is) ∙ sym c.in_ok-seat.was ∙ c.read_line.ensures in
    let said = c.step-answer.ensures.answer in
    let number = ap (λ (x : Stepped). x.number) said in
    let word = ap (λ (x : Stepped). x.word) said in
    rw (item_step c.args.l.now c.in-Step.seat e, ← number, ← word) c.put_step.ensures
