-- What is promised of the library, whichever slots own the cells.
use Rattle.std.specs.Prelude.{ℕ, ◌<◌}
use Rattle.slots.specs.Sizes.{slots}
use Rattle.slots.specs.Owners.{owner_of}
use Rattle.script.specs.RoundTrips.{ReadThenWritten, WrittenThenRead}
use Rattle.promises.specs.Histories.{saucebell}
use Rattle.promises.specs.Figure1.{FollowsFigure1}
use Rattle.promises.specs.Demand1.{Demand1}
use Rattle.promises.specs.Demand2.{Serial, Lasting, MadeSound}
use Rattle.promises.specs.Demand3.{CountsTrue, Bounded, SomeSeatMoves, AllEnd}
use Rattle.promises.specs.Shams.{ShutOut}

pub record Promised (own : ℕ → ℕ) : Type 0 where
  -- demand 1
  pub refusals : Demand1 own
  -- demand 2
  pub figure1 : FollowsFigure1 (saucebell own) own
  pub serial : Serial (saucebell own)
  pub lasting : Lasting (saucebell own)
  pub sound : MadeSound (saucebell own) own
  pub read_written : ReadThenWritten
  pub written_read : WrittenThenRead
  -- demand 3
  pub counted : CountsTrue (saucebell own)
  pub bounded : Bounded (saucebell own)
  pub moves : SomeSeatMoves (saucebell own)
  pub ends : AllEnd (saucebell own)
  -- and no sham meets them
  pub shams : ShutOut own

-- for every owner list with owners below 64
unfoldable pub ForEveryList : Type 0
ForEveryList = (own : ℕ → ℕ) → ((c : ℕ) → own c < slots) → Promised own

-- for the list that the build holds
unfoldable pub ForThisList : Type 0
ForThisList = Promised owner_of
