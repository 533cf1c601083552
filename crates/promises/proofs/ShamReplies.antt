-- Four shams, shut out by Figure 1. A transaction with no instructions has one move, which commits; the first move of one with two
-- instructions on registers alone runs, and leaves it at position 1. So a library that follows the machine refuses neither, gives two
-- replies, changes the table, and is then at neither the first nor the last position.
use Prim.Native.Nat.{ℕ, ◌≤◌}
use mathlib.Core.Path.{◌≡◌, refl, ap, ◌∙◌, subst}
use mathlib.Core.List.{List, [], ◌∷◌}
use mathlib.Core.Option.{none, some}
use native.Mathlib.Omega.{arith}
use lib.ListN.{length}
use borrow.Author.Tests.{eqb-true}
use Rattle.slots.specs.Sizes.{cells}
use Rattle.script.specs.declared.code.Script.{Script}
use Rattle.script.specs.Scripts.{max_instructions, script_of}
use Rattle.script.specs.Meaning.{act_of}
use Rattle.seats.specs.Seats.{opened_run}
use Rattle.seats.specs.Tables.{seat_at}
use Rattle.course.specs.Words.{Word}
use Rattle.course.specs.Words as word
use Rattle.runs.specs.Runs.{after_act}
use Rattle.promises.specs.Histories as histories
use Rattle.promises.specs.Histories.{Library, World, opening, step, step_reply, stepped, history}
use Rattle.promises.specs.Figure1.{Transaction, Machine, lock, start, becoming, accessing, completing, by_act, at_line, idle, move_from}
use Rattle.promises.specs.Figure1.{move_of, moved, starting, called, after, figure1, Same, FollowsFigure1}
use Rattle.promises.specs.Shams.{RefusesAlways, RepliesOnly, ChangesNothing, RunsAllAtOnce}
use Rattle.promises.proofs.FiguresFrames.{plain, plain_frame, plain_read, plain-granted}

-- the machine in which transaction 0 alone has started
abbrev started : List ℕ → Script → Machine
started img σ = record { transactions = becoming (λ i. none) 0 (some (start σ 0)); locks = λ s. lock none []; memory = img }

module _ (own : ℕ → ℕ) (img : List ℕ) where
  -- its first move
  empty_reply : (move_of own (started img (script_of (plain 0))) 0).reply ≡ word.Committed
  unfolding becoming move_of move_from start opened_run at_line completing script_of
  empty_reply = refl

  two_reply : (move_of own (started img (script_of (plain 2))) 0).reply ≡ word.Ran
  unfolding becoming move_of move_from start opened_run at_line by_act act_of accessing script_of
  two_reply = refl

  -- and where the first move leaves it
  two_moved : (x : Transaction) × ((moved own (started img (script_of (plain 2))) 0).transactions 0 ≡ some x) × (x.run.at ≡ 1)
  unfolding becoming moved move_of move_from start opened_run at_line by_act act_of accessing after_act script_of
  two_moved = (_, refl, refl)

  starts : (k : ℕ) → k ≤ max_instructions → figure1 own img (opening 0 0 (plain_frame k) ∷ []) ≡ started img (script_of (plain k))
  unfolding figure1 after called starting idle
  starts k l = rw (plain-granted k l, plain_read k l)

-- ---- a library that follows the machine

module _ (own : ℕ → ℕ) (img : List ℕ) (full : length img ≡ cells) (lib : Library) (follows : FollowsFigure1 lib own) where
  -- seat 0 opened with k instructions
  abbrev opened : ℕ → World
  opened k = history lib img (opening 0 0 (plain_frame k) ∷ [])

  opened_same : (k : ℕ) → k ≤ max_instructions → Same lib own (opened k) (started img (script_of (plain k)))
  unfolding FollowsFigure1
  opened_same k l = subst (Same lib own (opened k)) (starts own img k l) (follows img (opening 0 0 (plain_frame k) ∷ []) full)

  -- and after one step
  stepped_same : (k : ℕ) → k ≤ max_instructions → Same lib own (stepped lib (opened k) 0) (moved own (started img (script_of (plain k))) 0)
  unfolding FollowsFigure1 history histories.after histories.called figure1 after called
  stepped_same k l =
      subst (λ m. Same lib own (stepped lib (opened k) 0) (moved own m 0)) (starts own img k l)
      (follows img (opening 0 0 (plain_frame k) ∷ step 0 ∷ []) full)

  -- the step is not refused, and goes from position 0 of 2 to position 1
  granted : (k : ℕ) → k ≤ max_instructions → (step_reply lib (opened k) 0).number ≡ 0
  unfolding becoming
  granted k l = eqb-true (step_reply lib (opened k) 0).number 0 ((opened_same k l).granted 0 (omega arith))

  before : (seat_at (opened 2).table 0).run.at ≡ 0
  unfolding becoming start opened_run
  before = ap (λ ρ. ρ.at) ((opened_same 2 (omega arith)).seat 0 _ (omega arith) refl).run

  long : (seat_at (opened 2).table 0).script.len ≡ 2
  unfolding becoming start script_of
  long = ap (λ σ. σ.len) ((opened_same 2 (omega arith)).seat 0 _ (omega arith) refl).script

  behind : (seat_at (step_reply lib (opened 2) 0).table 0).run.at ≡ 1
  unfolding stepped
  behind =
      let x = two_moved own img in
      ap (λ ρ. ρ.at) ((stepped_same 2 (omega arith)).seat 0 x.0 (omega arith) x.1).run ∙ x.2

  pub not_refusing : RefusesAlways lib → ⊥
  unfolding RefusesAlways
  not_refusing r = omega (arith, r (opened 0).table (opened 0).image 0, granted 0 (omega arith))

  pub not_one_reply : (w : Word) → RepliesOnly w lib → ⊥
  unfolding RepliesOnly
  not_one_reply w r =
      let e = (opened_same 0 (omega arith)).reply 0 ∙ empty_reply own img in
      let t = (opened_same 2 (omega arith)).reply 0 ∙ two_reply own img in
      let x = r (opened 0).table (opened 0).image 0 (granted 0 (omega arith)) in
      let y = r (opened 2).table (opened 2).image 0 (granted 2 (omega arith)) in
      let z : ◌≡◌ {A = ℕ} 0 1 = cc in
      omega arith

  pub not_unchanging : ChangesNothing lib → ⊥
  unfolding ChangesNothing
  not_unchanging r =
      let z = ap (λ t. (seat_at t 0).run.at) (r (opened 2).table (opened 2).image 0) in
      omega (arith, before, behind)

  pub not_at_once : RunsAllAtOnce lib → ⊥
  unfolding RunsAllAtOnce
  not_at_once r = omega (arith, r (opened 2).table (opened 2).image 0 (granted 2 (omega arith)), long, behind)
