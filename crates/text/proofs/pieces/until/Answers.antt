-- `position` finds the first byte that is b, and the bytes in front of it are those in front of the separator.
use Rattle.std.proofs.Common.{rules, length, ◌∙◌, ap, nat_eq}
use Rattle.std.specs.Prelude.{unwrap_or}
use Rattle.std.proofs.lemmas.Iterator.{YieldsList-from_slice}
use Rattle.std.proofs.lemmas.Iterator.Search.{position_from_yields_List}
use borrow.Author.Tests.{tests}
use Rattle.text.proofs.Separators.{before_found}
use Rattle.text.proofs.pieces.until.Goals as goal

pub returns : goal.returns
returns c =
    let s = c.args.s.now in
    let b = c.args.b in
    let first =
    position_from_yields_List (λ x. nat_eq x b) _ _ c.position.result c.position.ensures.ran (YieldsList-from_slice s cc)
    (λ x b q k. search (rules, tests)) in
    c.unwrap_or.ensures ∙ ap (λ r. unwrap_or r (length s)) first ∙ before_found b s
