-- Every table made by calls stands, for every owner list with owners below 64: the fresh one, and those that a step or an opening leaves.
use Prim.Native.Nat.{ℕ, ◌<◌}
use Rattle.slots.specs.Sizes.{slots}
use Rattle.slots.specs.Owners.{owner_of, OwnersBelow}
use Rattle.slots.proofs.Owners.{owners_below}
use Rattle.upkeep.proofs.Stands.{Upkeep}
use Rattle.upkeep.proofs.Fresh.{fresh_stands}
use Rattle.upkeep.proofs.Openings.{opening_stands}
use Rattle.upkeep.proofs.OpeningFrames.{read_lawful}
use Rattle.upkeep.proofs.Whole.{move_stands}
use Rattle.script.specs.Frames.{read_script}

pub upkeep : (own : ℕ → ℕ) → ((c : ℕ) → own c < slots) → Upkeep own
upkeep own below =
    record {
      fresh = fresh_stands own;
      moves = λ t img i st o. move_stands own below t img i st o;
      opens = λ t i reading f st l shut r. let k = read_lawful f r in
          opening_stands own t i reading (read_script f).script st l shut k.0 k.1;
    }

-- for the list that the build holds
pub owners_kept : Upkeep owner_of
unfolding OwnersBelow
owners_kept = upkeep owner_of owners_below
