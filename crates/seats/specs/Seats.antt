-- Seats: what a seat keeps, the seat at its opening, and the blank seat.
use Rattle.std.specs.Prelude.{ℕ, Bool, true, false, replicate}
use Rattle.slots.specs.Sets.{none}
use Rattle.script.specs.Scripts.{max_instructions, registers, blank_script}
use Rattle.script.specs.Meaning.{opening_registers}
use Rattle.slots.specs.Owners.{cell}
use Rattle.seats.specs.declared.seat.Write.{Write}
use Rattle.seats.specs.declared.seat.Run.{Run}
use Rattle.seats.specs.declared.seat.Tally.{Tally}
use Rattle.seats.specs.declared.seat.Phase.{Phase}
use Rattle.seats.specs.declared.seat.Phase.TheVariants.{Blank, Open, Committed, Failed}
use Rattle.seats.specs.declared.seat.Seat.{Seat}

-- the most restarts and the largest working count of a seat in a sound table
abbrev pub most_restarts : ℕ
most_restarts = 63

abbrev pub most_working : ℕ
most_working = 12225

unfoldable pub is_open : Phase → Bool
is_open Blank = false
is_open Open = true
is_open Committed = false
is_open Failed = false

abbrev pub no_write : Write
no_write = record { cell = cell 0; value = 0 }

unfoldable pub blank_run : Run
blank_run = record { reading = 0; at = 0; regs = replicate registers 0; writes = replicate max_instructions no_write; kept = 0 }

-- at opening, register 0 is the reading given, the others are zero, position is 0
unfoldable pub opened_run : ℕ → Run
opened_run reading =
    record { reading = reading; at = 0; regs = opening_registers reading; writes = replicate max_instructions no_write; kept = 0 }

abbrev pub no_tally : Tally
no_tally = record { restarts = 0; working = 0; slots = 0 }

-- a seat never opened
unfoldable pub blank_seat : Seat
blank_seat = record { phase = Blank; script = blank_script; run = blank_run; pending = none; tally = no_tally }
