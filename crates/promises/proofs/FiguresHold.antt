-- The figures with a star. The owners and the two sums are computed. The empty frame is granted on the fresh table, and the seat opened
-- with it is at its end: its step commits, and `result` then reports the slots it held, which are none.
use Prim.Native.Nat.{ℕ}
use mathlib.Core.Path.{◌≡◌, refl, ap, ◌∙◌}
use mathlib.Core.List.{List}
use native.Mathlib.Omega.{arith}
use lib.ListN.{length, replicate, length-replicate}
use Rattle.slots.specs.Sizes.{cells}
use Rattle.slots.specs.Refusals.{refusal}
use Rattle.slots.specs.Sets.{size}
use Rattle.slots.specs.Owners.{owner_of, owner_refusal, owner_says}
use Rattle.slots.proofs.Counting.{size_none}
use Rattle.script.specs.Scripts.{word, script_of}
use Rattle.script.specs.Meaning.{opening_registers, plus, minus, act_of}
use Rattle.script.specs.Frames.{encode, frame_of, read_script}
use Rattle.script.specs.Alone.{in_range, next, finish, alone}
use Rattle.course.specs.Words as words
use Rattle.course.specs.Steps.{ended}
use Rattle.table.specs.Calls.{opened_seat, result_call}
use Rattle.upkeep.proofs.Stands.{Upkeep}
use Rattle.promises.specs.Histories.{World, saucebell, step_reply, stepped, called, after, history}
use Rattle.promises.specs.Figures.{Holds, with_one, empty_frame, empty_run, starred}
use Rattle.promises.proofs.FiguresFrames.{plain_frame, plain_read, plain-granted}
use Rattle.promises.proofs.FiguresSeat.{opened_free, end_reply, end_result}
use Rattle.promises.proofs.FiguresPlain.{plain_seat, none-ends, plain_world, plain_at}

-- op 6 and op 7
sum : with_one 6 4294967295 ≡ 0
unfolding with_one alone finish in_range next act_of plus word opening_registers
sum = refl

difference : with_one 7 0 ≡ 4294967295
unfolding with_one alone finish in_range next act_of minus word opening_registers
difference = refl

-- the empty frame
module _ (own : ℕ → ℕ) (up : Upkeep own) (img : List ℕ) (full : length img ≡ cells) where
  abbrev empty : World
  empty = plain_world own img 0

  empty_commits : (step_reply (saucebell own) empty 0).word ≡ words.Committed
  unfolding opened_seat
  empty_commits = end_reply own up empty (plain_seat 0) (plain_at own up img full 0 (omega arith)) refl (none-ends own)

  empty_result : ((result_call own (stepped (saucebell own) empty 0).table 0).number ≡ 0)
      × ((result_call own (stepped (saucebell own) empty 0).table 0).tally.slots ≡ 0)
  unfolding opened_seat ended
  empty_result =
      let e = end_result own up empty (plain_seat 0) (plain_at own up img full 0 (omega arith)) refl (none-ends own) in (
        ap (λ r. r.number) e,
        ap (λ r. r.tally.slots) e ∙ ap size (opened_free own up img (plain_frame 0) full (plain-granted 0 (omega arith))) ∙ size_none,
      )

empty_script : ((read_script empty_frame).number ≡ 0) × ((read_script empty_frame).script.len ≡ 0)
unfolding frame_of encode script_of
empty_script =
    let e = plain_read 0 (omega arith) in
    (ap (λ r. r.number) e, ap (λ r. r.script.len) e)

pub figures_hold : Upkeep owner_of → Holds starred
unfolding Holds starred owner_says owner_refusal refusal owner_of empty_run history after called frame_of encode
figures_hold up =
    let full = length-replicate {A = ℕ} cells 0 in
    let c = empty_commits owner_of up (replicate cells 0) full in
    let r = empty_result owner_of up (replicate cells 0) full in
    (refl, (refl, (refl, (refl, (refl, (refl, (refl, (refl, (sum, (difference, (empty_script.0, (empty_script.1, (c, (r.0, (r.1, tt)))))))))))))))
