-- What every table made by calls is: its arrays have their lengths, and the six rules hold. And what is to be shown of it: the fresh table
-- is such a table, and every opening and every step that is not refused leaves one.
use Prim.Native.Nat.{ℕ, ◌<◌}
use mathlib.Core.Path.{◌≡◌}
use mathlib.Core.Bool.{false}
use mathlib.Core.List.{List}
use Rattle.script.specs.Frames.{read_refusal, read_script}
use Rattle.seats.specs.declared.table.Table.{Table}
use Rattle.seats.specs.Queues.{seats}
use Rattle.seats.specs.Seats.{is_open}
use Rattle.seats.specs.Tables as tables
use Rattle.seats.specs.Tables.{seat_at}
use Rattle.rules.specs.Rules.{IsOpen}
use Rattle.upkeep.specs.SoundTables.{Stands}
use Rattle.table.specs.Calls.{with_seat, opened_seat, moved_by}

pub record Upkeep (own : ℕ → ℕ) : Type 0 where
  pub fresh : Stands own tables.fresh
  pub moves : (t : Table) (img : List ℕ) (i : ℕ) → Stands own t → IsOpen t i → Stands own (moved_by own t img i).table
  pub opens : (t : Table) (i reading : ℕ) (f : List ℕ) → Stands own t → i < seats → is_open (seat_at t i).phase ≡ false → read_refusal f ≡ 0
      → Stands own (with_seat t i (opened_seat (read_script f).script reading))
