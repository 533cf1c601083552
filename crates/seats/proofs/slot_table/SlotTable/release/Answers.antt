-- `SlotTable::release` takes the set from what the seat holds, and then hands it on. Both ways to the last line leave the table of the
-- definition: with the difference stored, and of a seat past the sixteenth as it was, where a store would change nothing.
use mathlib.Core.Path.{sym, ap}
use native.Mathlib.Omega.{arith}
use Rattle.seats.specs.declared.slot_table.SlotTable.{SlotTable}
use Rattle.seats.specs.SlotTables.{handed_on, released}
use Rattle.seats.proofs.Shape.{Whole, held_past}
use Rattle.seats.proofs.slot_table.SlotTable.release.Goals as goal
use Rattle.seats.proofs.slot_table.SlotTable.release.Goals.{then-i-lt-SEATS, else-i-lt-SEATS}

pub returns : goal.returns
unfolding released
returns c =
    let t = c.args.self.now in
    let w : Whole t = record { held16 = omega arith; queues64 = omega arith } in
    elim c.if-i-lt-SEATS.branch [
      | then-i-lt-SEATS v ↦ rw (c.hand_on.ensures, v.self-is, v.difference.ensures, c.from-i.ensures)
      | else-i-lt-SEATS v ↦ rw (c.hand_on.ensures, v.self-is)
          (ap (λ (u : SlotTable). handed_on u c.args.set) (sym (held_past t w c.args.seat _ (omega (arith, v.if-i-lt-SEATS.false)))))
    ]
