-- The table: sixteen seats and the slot table.
use Rattle.std.specs.Prelude.{ℕ, List, [], get_or, set, replicate}
use Rattle.slots.specs.Sets.{none}
use Rattle.seats.specs.declared.seat.Phase.TheVariants.{Blank}
use Rattle.seats.specs.declared.seat.Seat.{Seat}
use Rattle.seats.specs.declared.table.Table.{Table}
use Rattle.seats.specs.Queues.{seats}
use Rattle.seats.specs.SlotTables.{all_free}
use Rattle.seats.specs.Seats.{no_tally, blank_seat}

-- what stands past the end of the seats: no seat number comes to it
abbrev pub no_seat : Seat
no_seat =
    record {
      phase = Blank;
      script = record { code = []; len = 0 };
      run = record { reading = 0; at = 0; regs = []; writes = []; kept = 0 };
      pending = none;
      tally = no_tally;
    }

abbrev pub seat_at : Table → ℕ → Seat
seat_at t i = get_or t.seats i no_seat

-- every seat blank, the same one in every fresh table, and every slot free
unfoldable pub fresh : Table
fresh = record { seats = replicate seats blank_seat; slots = all_free }
