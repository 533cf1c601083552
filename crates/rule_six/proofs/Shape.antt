-- How long the arrays of a seat are. A value of a declared type says so of each of its fields, in their order.
use mathlib.Core.Path.{◌≡◌}
use mathlib.Core.List.{List}
use lib.ListN.{length}
use mir.Val.{Val}
use denote.Laws.{Is}
use denote.Struct.Declared.{row}
use Rattle.script.specs.Scripts.{max_instructions, registers}
use Rattle.seats.specs.declared.seat.Seat.{Seat}
use Rattle.seats.specs.contracts.seat.Seat as seat

module _ (z : Seat) (vs : List Val) (h : Is (row seat.the_type) z vs) where
  pub code_64 : length z.script.code ≡ max_instructions
  code_64 = h.1.1.1.0.1.1.0.1.0.1

  pub regs_8 : length z.run.regs ≡ registers
  regs_8 = h.1.1.1.1.0.1.1.1.1.0.1.0.1

  pub writes_64 : length z.run.writes ≡ max_instructions
  writes_64 = h.1.1.1.1.0.1.1.1.1.1.0.1.0.1
