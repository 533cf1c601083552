-- The run of a seat: 'Writes are kept by the seat and seen by its own reads, the latest for a cell winning; the image changes only at
-- a commit.'
use Rattle.std.specs.Prelude.{ℕ, ◌+◌, cond, List, [], ◌∷◌, eqb, take, get_or, set}
use Rattle.slots.specs.Owners.{cell}
use Rattle.script.specs.Meaning.{Act, local, reads, writes}
use Rattle.seats.specs.declared.seat.Write.{Write}
use Rattle.seats.specs.declared.seat.Run.{Run}

-- the kept writes, in their order
unfoldable pub kept_writes : Run → List Write
kept_writes ρ = take ρ.kept ρ.writes

-- cell c after the writes ws, where it was v: the latest wins
unfoldable pub value_after : List Write → ℕ → ℕ → ℕ
value_after [] c v = v
value_after (w ∷ ws) c v = value_after ws c (cond (eqb w.cell.0 c) w.value v)

-- the image after the writes ws, one after the other
unfoldable pub written : List Write → List ℕ → List ℕ
written [] img = img
written (w ∷ ws) img = written ws (set img w.cell.0 w.value)

-- cell c as the seat sees it
unfoldable pub seen : Run → List ℕ → ℕ → ℕ
seen ρ img c = value_after (kept_writes ρ) c (get_or img c 0)

-- ---- the run after an act

abbrev pub moved_to : Run → ℕ → List ℕ → Run
moved_to ρ at r = record { reading = ρ.reading; at = at; regs = r; writes = ρ.writes; kept = ρ.kept }

-- with one more write kept
unfoldable pub keeping : Run → ℕ → ℕ → Run
keeping ρ c v =
    record {
      reading = ρ.reading;
      at = ρ.at + 1;
      regs = ρ.regs;
      writes = set ρ.writes ρ.kept (record { cell = cell c; value = v });
      kept = ρ.kept + 1;
    }

unfoldable pub after_act : Act → List ℕ → Run → Run
after_act (local r n) img ρ = moved_to ρ (ρ.at + 1 + n) r
after_act (reads a c) img ρ = moved_to ρ (ρ.at + 1) (set ρ.regs a (seen ρ img c))
after_act (writes c v) img ρ = keeping ρ c v
