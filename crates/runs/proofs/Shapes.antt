-- How long the writes of a run are. A value of a declared type says so of each of its fields, in their order.
use mathlib.Core.Path.{◌≡◌}
use mathlib.Core.List.{List}
use lib.ListN.{length}
use mir.Val.{Val}
use denote.Laws.{Is}
use denote.Struct.Declared.{row}
use Rattle.script.specs.Scripts.{max_instructions}
use Rattle.seats.specs.declared.seat.Run.{Run}
use Rattle.seats.specs.contracts.seat.Run as run

pub writes_64 : (ρ : Run) (vs : List Val) → Is (row run.the_type) ρ vs → length ρ.writes ≡ max_instructions
writes_64 ρ vs h = h.1.1.1.1.1.0.1.0.1
