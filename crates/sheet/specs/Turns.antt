-- What one line of a sheet does, as the code that lists it answers.
use Rattle.std.specs.Prelude.{ℕ, cond, List, [], Option, Some, None}
use Rattle.seats.specs.declared.table.Table.{Table}
use Rattle.sheet.specs.Lines.{Item, is_bad}
use Rattle.sheet.specs.Listings.{World, world_after, reply_to}

-- the most bytes that a frame in a sheet has: two of a line's stand for one
abbrev pub most_frame : ℕ
most_frame = 32768

-- a world in which no transaction ended yet
abbrev pub world : Table → List ℕ → World
world t img = record { table = t; image = img; ended = 0 }

-- how many transactions the item l ended, and none where it is bad
unfoldable pub ended_by : World → Item → Option ℕ
ended_by w l = cond (is_bad l) None (Some (world_after w l).ended)

-- its reply, and nothing where it is bad: that of a bad one has the line's number
unfoldable pub answered : World → Item → List ℕ
answered w l = cond (is_bad l) [] (reply_to 0 w l)
