-- A turn takes the next cell's number and value off the two iterators, and puts that cell's line. The numbers and the values end together.
use Rattle.std.proofs.Common.{arith, ◌∙◌, ap, length}
use mathlib.Core.Logic.{inl, inr}
use Rattle.sheet.proofs.Rising.{cell_room, cell_put, cells_put}
use Rattle.sheet.proofs.cells.put_cells.Goals as goal

pub put_cell-requires : goal.put_cell-requires
put_cell-requires c =
    let h = c.in-Some.ensures.steps in
    cell_room c.requires.room _ _ c.loop-c.invariant.writing h.0.1.1 h.1

pub loop-c-preserved : goal.loop-c-preserved
loop-c-preserved c =
    let h = c.in-Some.ensures.steps in
    let g = c.loop-c.invariant in
    record {
      last = h.0.0 ∙ g.last;
      alike = omega (arith, g.alike, ap length h.1, h.0.1.2);
      writing = rw (h.0.1.2) (cell_put c.requires.room _ _ g.writing h.0.1.1 h.1 c.put_cell.ensures);
    }

pub returns : goal.returns
returns c =
    let g = c.loop-c.invariant in
    cells_put c.requires.room _ _ g.writing
    (elim c.in-None.ensures.steps [ inl h ↦ omega (arith, g.alike, g.last, h.1.1.0) | inr h ↦ h.1.0 ])
