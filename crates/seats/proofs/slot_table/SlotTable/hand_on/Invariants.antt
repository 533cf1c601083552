-- `SlotTable::hand_on` hands on each slot of a set. The loop's invariant: to hand on what is left in the table as it is now comes to the
-- same as to hand on the whole set in the first table. A turn hands on the smallest slot and takes it out, which is how the definition
-- goes (`hand_step`), and leaves one slot less.
use mathlib.Core.Path.{◌≡◌}
use Rattle.slots.specs.Sets.{size}
use Rattle.seats.specs.SlotTables.{handed_on}
use Rattle.seats.proofs.slot_table.SlotTable.hand_on.Given as goal

abbrev pub invariant-loop-left : goal.invariant-loop-left
invariant-loop-left l = handed_on l.initial.self l.initial.left ≡ handed_on l.self l.left

abbrev pub decreases-loop-left : goal.decreases-loop-left
decreases-loop-left l = size l.left
