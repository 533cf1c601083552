-- Demand 2: 'after any sequence of calls from a fresh table the image, outcomes and registers are those of the ended transactions run
-- alone, one by one, in their order of ending', and 'No table made by calls from a fresh one is refused by 1'. That each step does what
-- Figure 1 says is `FollowsFigure1`; that scripts survive reading and writing is said in crate `script` (`RoundTrips`).
use Rattle.std.specs.Prelude.{ℕ, ◌≡◌, true, List, [], ◌∷◌, length}
use Rattle.slots.specs.Sizes.{cells}
use Rattle.script.specs.Alone.{Outcome, committed, failed, End, alone}
use Rattle.seats.specs.declared.seat.Phase.{Phase}
use Rattle.seats.specs.declared.seat.Phase.TheVariants.{Committed, Failed}
use Rattle.soundness.specs.Tests.{sound_test}
use Rattle.promises.specs.Histories.{Library, Call, Transaction, World, history}

-- the transaction e run alone on the image img
abbrev pub run_alone : Transaction → List ℕ → End
run_alone e img = alone e.code e.reading img

-- the transactions es run alone, one by one
unfoldable pub in_turn : List Transaction → List ℕ → List ℕ
in_turn [] img = img
in_turn (e ∷ es) img = in_turn es (run_alone e img).image

-- an outcome, as `result` reports it
unfoldable pub reported : Outcome → Phase
reported committed = Committed
reported failed = Failed

-- what `result` said of each is how it ends alone, at its turn
unfoldable pub Agree : List Transaction → List ℕ → Type 0
Agree [] img = Unit {0}
Agree (e ∷ es) img =
    (e.report.outcome ≡ reported (run_alone e img).outcome) × ((e.report.regs ≡ (run_alone e img).registers) × Agree es (run_alone e img).image)

pub record InTurn (img : List ℕ) (w : World) : Type 0 where
  pub image : w.image ≡ in_turn w.ended img
  pub reports : Agree w.ended img

unfoldable pub Serial : Library → Type 0
Serial lib = (img : List ℕ) (cs : List Call) → length img ≡ cells → InTurn img (history lib img cs)

-- and `result` goes on saying so until the seat is opened again
unfoldable pub Lasting : Library → Type 0
Lasting lib =
    (img : List ℕ) (cs : List Call) (i : ℕ) → (lib.result (history lib img cs).table i).number ≡ 0
    → lib.result (history lib img cs).table i ≡ ((history lib img cs).notes i).report

unfoldable pub MadeSound : Library → (ℕ → ℕ) → Type 0
MadeSound lib own = (img : List ℕ) (cs : List Call) → sound_test own (history lib img cs).table ≡ true
