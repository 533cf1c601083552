-- Tables that differ only in what stands behind a length. A script's code behind its length, the writes behind those kept and a queue's
-- array behind its entries mean nothing; two seats or two tables are alike if all else in them is the same. What is held is compared slot by
-- slot.
use Prim.Native.Nat.{ℕ, ◌<◌}
use mathlib.Core.Path.{◌≡◌}
use Rattle.slots.specs.Sizes.{slots}
use Rattle.slots.specs.Sets.{has}
use Rattle.script.specs.Scripts.{instrs}
use Rattle.seats.specs.declared.seat.Seat.{Seat}
use Rattle.seats.specs.declared.table.Table.{Table}
use Rattle.seats.specs.Queues.{seats, entries}
use Rattle.seats.specs.SlotTables.{held_by, queue_of}
use Rattle.seats.specs.Tables.{seat_at}
use Rattle.runs.specs.Runs.{kept_writes}

pub record AlikeSeat (z y : Seat) : Type 0 where
  pub phase : z.phase ≡ y.phase
  pub len : z.script.len ≡ y.script.len
  pub code : instrs z.script ≡ instrs y.script
  pub reading : z.run.reading ≡ y.run.reading
  pub position : z.run.at ≡ y.run.at
  pub registers : z.run.regs ≡ y.run.regs
  pub kept : z.run.kept ≡ y.run.kept
  pub writes : kept_writes z.run ≡ kept_writes y.run
  pub pending : z.pending ≡ y.pending
  pub tally : z.tally ≡ y.tally

pub record Alike (t u : Table) : Type 0 where
  pub holds : (i s : ℕ) → i < seats → has (held_by t.slots i) s ≡ has (held_by u.slots i) s
  pub queues : (s : ℕ) → s < slots → entries (queue_of t.slots s) ≡ entries (queue_of u.slots s)
  pub seats : (i : ℕ) → i < seats → AlikeSeat (seat_at t i) (seat_at u i)
