-- The lines of the cells. The loop's invariant: the lines from cell c on are left to be put, and with them all lines are; a turn puts the
-- first of them. There are as many numbers left as cells.
use Rattle.std.proofs.Common.{◌≡◌, ◌+◌, length}
use Rattle.slots.specs.Sizes.{cells}
use Rattle.sheet.specs.Listings.{cell_lines}
use Rattle.sheet.proofs.Putting.{Rest}
use Rattle.sheet.proofs.cells.put_cells.Given as goal

abbrev pub invariant-loop-c : goal.invariant-loop-c
invariant-loop-c l =
    let numbers = l.c-iterator.a in
    let left = l.c-iterator.b.rest.now in
    record {
      last : numbers.end ≡ cells;
      alike : numbers.start + length left ≡ cells;
      writing : Rest l.initial.page (cell_lines 0 l.image) l.page (cell_lines numbers.start left);
    }
