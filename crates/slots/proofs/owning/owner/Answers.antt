-- `owner` answers by the owner list, which has the owner of every cell below 1,024. From 1,024 up the cell is refused.
use mathlib.Core.Path.{sym, ap, ◌∙◌}
use borrow.Author.Rules.{rules}
use Rattle.slots.specs.declared.Slot.{Slot}
use Rattle.slots.specs.Refusals.{number_of, number_in, value_in}
use Rattle.slots.specs.Owners.{Lists, says, said}
use Rattle.slots.proofs.Owners.{says_by, says_high}
use Rattle.slots.proofs.owning.owner.Goals as goal

pub returns-then-c-lt-CELLS : goal.returns-then-c-lt-CELLS
unfolding Lists
returns-then-c-lt-CELLS c =
    let h = c.if-c-lt-CELLS.true in
    let e = ap (λ (s : Slot). s.0) c.listed.ensures ∙ c.all_owners-list.ensures _ h in
    ap (says 0) e ∙ sym (says_by _ h)

pub returns-else-c-lt-CELLS : goal.returns-else-c-lt-CELLS
returns-else-c-lt-CELLS c = sym (says_high _ (search rules))
