-- Seat 0 opened with k instructions on registers alone. With none it is at its end; with one it runs it, and is at its end then. Both are
-- computed from the seat that the opening leaves; its pending is the empty set.
use Prim.Native.Nat.{ℕ, ◌≤◌}
use mathlib.Core.Path.{◌≡◌, subst}
use mathlib.Core.List.{List}
use lib.ListN.{length}
use Rattle.slots.specs.Sizes.{cells}
use Rattle.slots.specs.Sets.{none}
use Rattle.slots.proofs.Members.{has-none}
use Rattle.slots.proofs.Counting.{none_empty}
use Rattle.script.specs.Scripts.{max_instructions, script_of}
use Rattle.script.specs.Meaning.{act_of}
use Rattle.seats.specs.declared.seat.Seat.{Seat}
use Rattle.seats.specs.Seats.{opened_run}
use Rattle.course.specs.declared.wants.Want.TheVariants as want
use Rattle.runs.specs.Runs.{after_act}
use Rattle.course.specs.Wants.{act_at, want_act, want_of}
use Rattle.course.specs.Steps.{goes_on}
use Rattle.table.specs.Calls.{opened_seat}
use Rattle.upkeep.proofs.Stands.{Upkeep}
use Rattle.promises.specs.Histories.{World, saucebell, begin, opened}
use Rattle.promises.proofs.FiguresFrames.{plain, plain_frame, plain_read, plain-granted}
use Rattle.promises.proofs.FiguresSeat.{At, opened_at}

-- the seat as opened
abbrev pub plain_seat : ℕ → Seat
plain_seat k = opened_seat (script_of (plain k)) 0

-- and after its first instruction
abbrev pub ran_once : ℕ → List ℕ → Seat
ran_once k img = goes_on (plain_seat k) (after_act (act_at (plain_seat k)) img (plain_seat k).run) (plain_seat k).pending

module _ (own : ℕ → ℕ) where
  pub none-ends : want_of own (plain_seat 0) ≡ want.End
  unfolding want_of opened_seat opened_run script_of
  none-ends = rw (none_empty none has-none)

  pub one_runs : want_of own (plain_seat 1) ≡ want.Nothing
  unfolding want_of want_act act_at act_of opened_seat opened_run script_of
  one_runs = rw (none_empty none has-none)

  pub one_ends : (img : List ℕ) → want_of own (ran_once 1 img) ≡ want.End
  unfolding want_of after_act act_at act_of opened_seat opened_run script_of
  one_ends img = rw (none_empty none has-none)

  abbrev pub plain_world : List ℕ → ℕ → World
  plain_world img k = opened (saucebell own) (begin img) 0 0 (plain_frame k)

  pub plain_at : Upkeep own → (img : List ℕ) → length img ≡ cells → (k : ℕ) → k ≤ max_instructions → At own (plain_world img k) (plain_seat k)
  plain_at up img full k l =
      subst (λ r. At own (plain_world img k) (opened_seat r.script 0)) (plain_read k l)
      (opened_at own up img (plain_frame k) full (plain-granted k l))
