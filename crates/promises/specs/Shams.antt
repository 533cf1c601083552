-- 'These sham builds must be shut out': what each of them is, and the demand that no such library meets.
use Rattle.std.specs.Prelude.{ℕ, ◌<◌, ◌≡◌, List}
use Rattle.seats.specs.declared.seat.Tally.{Tally}
use Rattle.seats.specs.declared.table.Table.{Table}
use Rattle.seats.specs.Tables.{seat_at}
use Rattle.course.specs.Words.{Word}
use Rattle.table.specs.Answers.{Report}
use Rattle.promises.specs.Histories.{Library, saucebell}
use Rattle.promises.specs.Figure1.{FollowsFigure1}
use Rattle.promises.specs.Demand3.{CountsTrue}

-- one that refuses always
unfoldable pub RefusesAlways : Library → Type 0
RefusesAlways lib = (t : Table) (img : List ℕ) (i : ℕ) → 0 < (lib.steps t img i).number

-- one with one fixed reply, wherever it does not refuse
unfoldable pub RepliesOnly : Word → Library → Type 0
RepliesOnly w lib = (t : Table) (img : List ℕ) (i : ℕ) → (lib.steps t img i).number ≡ 0 → (lib.steps t img i).word ≡ w

-- one that changes nothing
unfoldable pub ChangesNothing : Library → Type 0
ChangesNothing lib = (t : Table) (img : List ℕ) (i : ℕ) → (lib.steps t img i).table ≡ t

-- one that runs a whole script in its first step and then only says ran: after a step that is not refused the position is the last
unfoldable pub RunsAllAtOnce : Library → Type 0
RunsAllAtOnce lib =
    (t : Table) (img : List ℕ) (i : ℕ) → (lib.steps t img i).number ≡ 0
    → (seat_at (lib.steps t img i).table i).run.at ≡ (seat_at t i).script.len

-- one that reports an invented working count: this library, with another number in its reports
abbrev pub counting : ℕ → Tally → Tally
counting n y = record { restarts = y.restarts; working = n; slots = y.slots }

abbrev pub reporting : ℕ → Report → Report
reporting n r = record { number = r.number; outcome = r.outcome; regs = r.regs; tally = counting n r.tally }

abbrev pub inventing : (ℕ → ℕ) → ℕ → Library
inventing own n =
    record {
      opens = (saucebell own).opens;
      steps = (saucebell own).steps;
      leaves = (saucebell own).leaves;
      result = λ t i. reporting n ((saucebell own).result t i);
      view = (saucebell own).view;
    }

module _ (own : ℕ → ℕ) where
  pub record ShutOut : Type 0 where
    pub refuses : (lib : Library) → FollowsFigure1 lib own → RefusesAlways lib → ⊥
    pub one_reply : (lib : Library) (w : Word) → FollowsFigure1 lib own → RepliesOnly w lib → ⊥
    pub nothing : (lib : Library) → FollowsFigure1 lib own → ChangesNothing lib → ⊥
    pub at_once : (lib : Library) → FollowsFigure1 lib own → RunsAllAtOnce lib → ⊥
    pub invents : (n : ℕ) → CountsTrue (inventing own n) → ⊥
