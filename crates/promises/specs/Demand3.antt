-- Demand 3: 'Restarts are fewer than the slots held, working steps stay under a formula, some open seat can always move, and all seats
-- end within 195,600 rounds.'
use Rattle.std.specs.Prelude.{ℕ, ◌+◌, ◌*◌, ◌≤◌, ◌<◌, ◌≡◌, true, false, List, [], ◌∷◌, ◌++◌, length}
use Rattle.slots.specs.Sizes.{cells}
use Rattle.seats.specs.Queues.{seats, is_entry}
use Rattle.seats.specs.Seats.{most_working, is_open}
use Rattle.seats.specs.Tables.{seat_at}
use Rattle.course.specs.Words as word
use Rattle.table.specs.Answers.{Report}
use Rattle.promises.specs.Histories.{Library, Call, step, Notes, World, step_reply, history}

-- ---- of a transaction that has ended

-- what `result` reports is what was counted in the replies since the opening
pub record Counted (r : Report) (n : Notes) : Type 0 where
  pub restarts : r.tally.restarts ≡ n.restarts
  pub working : r.tally.working ≡ n.working
  pub slots : r.tally.slots ≡ n.slots

-- the formula, of k instructions, L slots and R restarts
abbrev pub formula : ℕ → ℕ → ℕ → ℕ
formula k L R = (R + 1) * k + 1 + L + 2 * R * L

-- W working steps
pub record Within (k L R W : ℕ) : Type 0 where
  pub no_slots : L ≡ 0 → R ≡ 0
  pub fewer : 0 < L → R < L
  pub working : W ≤ formula k L R
  pub most : W ≤ most_working

-- ---- rounds

-- all sixteen seats once, in any order
pub record Round (r : List ℕ) : Type 0 where
  pub sixteen : length r ≡ seats
  pub each : (i : ℕ) → i < seats → is_entry i r ≡ true

unfoldable pub Rounds : List (List ℕ) → Type 0
Rounds [] = Unit {0}
Rounds (r ∷ rs) = Round r × Rounds rs

-- the calls of a round, and of rounds one after the other: nothing is opened
unfoldable pub steps_of : List ℕ → List Call
steps_of [] = []
steps_of (i ∷ is) = step i ∷ steps_of is

unfoldable pub steps_in : List (List ℕ) → List Call
steps_in [] = []
steps_in (r ∷ rs) = steps_of r ++ steps_in rs

abbrev pub most_rounds : ℕ
most_rounds = 195600

module _ (lib : Library) where
  abbrev pub report_on : World → ℕ → Report
  report_on w i = lib.result w.table i

  unfoldable pub CountsTrue : Type 0
  CountsTrue =
      (img : List ℕ) (cs : List Call) (i : ℕ) → (report_on (history lib img cs) i).number ≡ 0
      → Counted (report_on (history lib img cs) i) ((history lib img cs).notes i)

  unfoldable pub Bounded : Type 0
  Bounded =
      (img : List ℕ) (cs : List Call) (i : ℕ) → (report_on (history lib img cs) i).number ≡ 0
      → Within (length ((history lib img cs).notes i).code) (report_on (history lib img cs) i).tally.slots
      (report_on (history lib img cs) i).tally.restarts (report_on (history lib img cs) i).tally.working

  -- ---- of all seats

  -- seat i is open
  abbrev pub OpenIn : World → ℕ → Type 0
  OpenIn w i = (i < seats) × (is_open (seat_at w.table i).phase ≡ true)

  -- seat i's next step is neither refused nor blocked
  pub record CanMove (w : World) (i : ℕ) : Type 0 where
    pub opens : OpenIn w i
    pub granted : (step_reply lib w i).number ≡ 0
    pub unblocked : (step_reply lib w i).word ≡ word.Blocked → ⊥

  -- while any seat is open, some open seat can move
  unfoldable pub SomeSeatMoves : Type 0
  SomeSeatMoves =
      (img : List ℕ) (cs : List Call) → length img ≡ cells → (i : ℕ) → OpenIn (history lib img cs) i
      → (j : ℕ) × CanMove (history lib img cs) j

  unfoldable pub AllEnd : Type 0
  AllEnd =
      (img : List ℕ) (cs : List Call) (rs : List (List ℕ)) → length img ≡ cells → Rounds rs → length rs ≡ most_rounds
      → (i : ℕ) → i < seats → is_open (seat_at (history lib img (cs ++ steps_in rs)).table i).phase ≡ false
