-- `SlotTable::hand_on` hands on each slot of a set. The loop's invariant: to hand on what is left in the table as it is now comes to the
-- same as to hand on the whole set in the first table. A turn hands on the smallest slot and takes it out, which is how the definition
-- goes (`hand_step`), and leaves one slot less.
use mathlib.Core.Path.{◌≡◌, sym, ◌∙◌}
use mathlib.Core.Bool.{true, false}
use native.Mathlib.Omega.{arith}
use Rattle.slots.specs.Sets.{is_empty}
use Rattle.seats.proofs.Hands.{hand_end, size_step, hand_step}
use Rattle.seats.proofs.slot_table.SlotTable.hand_on.Goals as goal

some : (c : goal.After-hand) → is_empty c.loop-left.left ≡ false
some c = sym c.is_empty.ensures ∙ c.loop-left-test.true

pub loop-left-smaller : goal.loop-left-smaller
loop-left-smaller c =
    let R = c.loop-left.left in
    rw (c.without-left.ensures, c.smallest-s.ensures) (omega (arith, size_step R (some c)))

pub loop-left-preserved : goal.loop-left-preserved
loop-left-preserved c =
    let t = c.loop-left.self in
    let R = c.loop-left.left in
    rw (c.hand.ensures, c.without-left.ensures, c.smallest-s.ensures)
    (c.loop-left.invariant ∙ hand_step t R (some c))

pub returns : goal.returns
returns c =
    let R = c.loop-left.left in
    let done : is_empty R ≡ true = sym c.is_empty.ensures ∙ c.loop-left-test.false in
    sym (c.loop-left.invariant ∙ hand_end c.loop-left.self R done)
