-- `all` tests each of the bytes, and where their number is even that is the test of hex.
use Rattle.std.proofs.Common.{rules, ◌∙◌}
use Rattle.std.proofs.lemmas.Iterator.{YieldsList-from_slice}
use Rattle.std.proofs.lemmas.Iterator.Search.{all_from_yields_List}
use borrow.Author.Tests.{tests}
use Rattle.text.proofs.Nibbles.{is_nibble, even_hex}
use Rattle.text.proofs.hex.is_all_hex.Goals as goal

pub returns-then-s-eq0 : goal.returns-then-s-eq0
returns-then-s-eq0 c =
    let s = c.args.s.now in
    all_from_yields_List is_nibble _ _ c.all.result c.all.ensures.ran (YieldsList-from_slice s cc) (λ x b q k. search (rules, tests))
    ∙ even_hex s c.if-s-eq0.true
