-- What every table of the code has, whatever was done to it: its arrays have their lengths, and what is pending of a seat is a set of 64
-- digits. The rules and the test of a table are compared for such tables. A value of a declared type says so of each of its fields, in their
-- order, and of each element of an array.
use Prim.Native.Nat.{ℕ, ◌<◌}
use mathlib.Core.Path.{◌≡◌}
use mathlib.Core.List.{List}
use native.Mathlib.Omega.{arith}
use lib.ListN.{length}
use mir.Val.{Val}
use denote.Laws.{Is}
use denote.Struct.Declared.{row}
use Rattle.slots.specs.Sizes.{slots}
use Rattle.slots.proofs.Members.{Proper}
use Rattle.script.specs.Scripts.{max_instructions, registers}
use Rattle.seats.specs.declared.seat.Seat.{Seat}
use Rattle.seats.specs.declared.slot_table.SlotTable.{SlotTable}
use Rattle.seats.specs.declared.table.Table.{Table}
use Rattle.seats.specs.Queues.{seats}
use Rattle.seats.specs.SlotTables.{no_queue, queue_of}
use Rattle.seats.specs.Tables.{no_seat, seat_at}
use Rattle.seats.proofs.Shape.{Whole, whole, element, queue_16}
use Rattle.rule_six.proofs.Shape.{code_64, regs_8, writes_64}
use Rattle.seats.specs.contracts.queue.Queue as queue
use Rattle.seats.specs.contracts.seat.Seat as seat
use Rattle.seats.specs.contracts.slot_table.SlotTable as slot_table
use Rattle.seats.specs.contracts.table.Table as table

pub record ShapedSeat (z : Seat) : Type 0 where
  pub code64 : length z.script.code ≡ max_instructions
  pub regs8 : length z.run.regs ≡ registers
  pub writes64 : length z.run.writes ≡ max_instructions
  pub pending : Proper z.pending

pub record Shaped (t : Table) : Type 0 where
  pub seats16 : length t.seats ≡ seats
  pub arrays : Whole t.slots
  pub queues16 : (s : ℕ) → s < slots → length (queue_of t.slots s).seats ≡ seats
  pub each : (i : ℕ) → i < seats → ShapedSeat (seat_at t i)

-- ---- of the code

shaped_seat : (z : Seat) (vs : List Val) → Is (row seat.the_type) z vs → ShapedSeat z
shaped_seat z vs h =
    record {
      code64 = code_64 z vs h;
      regs8 = regs_8 z vs h;
      writes64 = writes_64 z vs h;
      pending = omega arith;
    }

queue_array : (t : SlotTable) (vs : List Val) → Is (row slot_table.the_type) t vs → (s : ℕ) → s < slots → length (queue_of t s).seats ≡ seats
queue_array t vs h s l =
    let w = whole t vs h in
    let q = element queue.the_type no_queue t.queues h.1.1.1.0.0 h.1.1.1.0.1.1 s (omega (arith, w.queues64)) in
    queue_16 (queue_of t s) _ q.1

pub shaped : (t : Table) (vs : List Val) → Is (row table.the_type) t vs → Shaped t
shaped t vs h =
    let n : length t.seats ≡ seats = h.1.1.0.1.0.1 in
    record {
      seats16 = n;
      arrays = whole t.slots _ h.1.1.1.0;
      queues16 = queue_array t.slots _ h.1.1.1.0;
      each = λ i l. let z = element seat.the_type no_seat t.seats h.1.1.0.0 h.1.1.0.1.1 i (omega arith) in
          shaped_seat (seat_at t i) _ z.1;
    }
