-- Seat 0 opened on a fresh table, and stepped. Every table on the way stands, so the calls are granted: the seat is then the opened one, and
-- after each step what the step's case leaves of it. Once it has ended, `result` is granted too, and reports the seat.
use Prim.Native.Nat.{ℕ, ◌<◌}
use mathlib.Core.Path.{◌≡◌, refl, ap, ◌∙◌}
use mathlib.Core.List.{List}
use native.Mathlib.Omega.{arith}
use lib.ListN.{length}
use lib.Seq.{get_or-set_same}
use Rattle.slots.specs.Sizes.{cells}
use Rattle.slots.specs.Sets as sets
use Rattle.slots.proofs.Checks.{none}
use Rattle.script.specs.Frames.{read_refusal, read_script}
use Rattle.seats.specs.declared.seat.Phase.TheVariants as phase
use Rattle.seats.specs.declared.seat.Phase.TheVariants.{Open}
use Rattle.seats.specs.declared.seat.Seat.{Seat}
use Rattle.seats.specs.declared.table.Table.{Table}
use Rattle.seats.specs.Queues.{seats}
use Rattle.seats.specs.SlotTables.{held_by}
use Rattle.seats.specs.Seats.{is_open, blank_seat}
use Rattle.seats.specs.Tables.{no_seat, seat_at, fresh}
use Rattle.seats.proofs.Hands.{held_free}
use Rattle.course.specs.declared.wants.Want.TheVariants as want
use Rattle.course.specs.declared.cases.Case.{Case}
use Rattle.course.specs.declared.cases.Case.TheVariants as case
use Rattle.course.specs.Words as word
use Rattle.runs.specs.Runs.{after_act}
use Rattle.course.specs.Wants.{act_at, want_of}
use Rattle.course.specs.Cases.{case_for, word_of}
use Rattle.course.specs.Steps.{goes_on, ended, seat_after}
use Rattle.table.specs.Calls.{opened_seat, case_of, moved_by, is_ended, report_of, result_call}
use Rattle.upkeep.specs.SoundTables.{Stands}
use Rattle.upkeep.proofs.Stands.{Upkeep}
use Rattle.promises.specs.Histories.{World, opening, step, saucebell, begin, opened, step_reply, stepped, called}
use Rattle.upkeep.proofs.Replies.{StepGranted, step_open, OpenGranted, open_shut}
use Rattle.promises.proofs.Answers.{reports_ended}
use Rattle.promises.proofs.Reached.{called_length, called_stands}

-- a world reached by calls, in which seat 0 is z
pub record At (own : ℕ → ℕ) (w : World) (z : Seat) : Type 0 where
  pub stands : Stands own w.table
  pub full : length w.image ≡ cells
  pub seat : seat_at w.table 0 ≡ z

module _ (own : ℕ → ℕ) (up : Upkeep own) where
  module _ (img f : List ℕ) (n : length img ≡ cells) (r : read_refusal f ≡ 0) where
    granted-opening : OpenGranted own fresh 0 0 f
    unfolding fresh blank_seat is_open
    granted-opening = open_shut own fresh 0 0 f up.fresh (omega arith) refl r

    pub opened_at : At own (opened (saucebell own) (begin img) 0 0 f) (opened_seat (read_script f).script 0)
    unfolding opened begin called fresh
    opened_at =
        record {
          stands = called_stands own up (begin img) (opening 0 0 f) up.fresh;
          full = n;
          seat = ap (λ t. seat_at t 0) granted-opening.table;
        }

    pub opened_free : held_by (opened (saucebell own) (begin img) 0 0 f).table.slots 0 ≡ sets.none
    unfolding opened begin fresh
    opened_free = ap (λ t. held_by t.slots 0) granted-opening.table ∙ held_free 0

  -- a step of seat 0, which is z
  module _ (w : World) (z : Seat) (at : At own w z) (o : z.phase ≡ Open) where
    granted_step : StepGranted own w.table w.image 0
    granted_step =
        let q = ap (λ y. y.phase) at.seat ∙ o in
        step_open own w.table w.image 0 at.stands at.full (record { seat = omega arith; phase = q })

    module _ (c : Case) (e : case_of own w.table 0 ≡ c) where
      reply_by : (step_reply (saucebell own) w 0).word ≡ word_of c
      reply_by = granted_step.reply ∙ ap word_of e

      at_by : At own (stepped (saucebell own) w 0) (seat_after c z (held_by w.table.slots 0) w.image)
      unfolding stepped called moved_by
      at_by =
          let l : 0 < length w.table.seats = omega (arith, at.stands.shaped.seats16) in
          record {
            stands = called_stands own up w (step 0) at.stands;
            full = called_length own w (step 0) ∙ at.full;
            seat = ap (λ t. seat_at t 0) granted_step.table ∙ get_or-set_same w.table.seats 0 _ no_seat l ∙ rw (at.seat, e);
          }

    -- its instruction touches registers alone
    module _ (e : want_of own z ≡ want.Nothing) where
      case_ran : case_of own w.table 0 ≡ case.Ran
      unfolding case_of case_for
      case_ran = rw (at.seat, e)

      pub ran_reply : (step_reply (saucebell own) w 0).word ≡ word.Ran
      unfolding word_of
      ran_reply = reply_by case.Ran case_ran

      pub ran_at : At own (stepped (saucebell own) w 0) (goes_on z (after_act (act_at z) w.image z.run) z.pending)
      unfolding seat_after
      ran_at = at_by case.Ran case_ran

    -- it is at its end
    module _ (e : want_of own z ≡ want.End) where
      case_end : case_of own w.table 0 ≡ case.Committed
      unfolding case_of case_for
      case_end = rw (at.seat, e)

      pub end_reply : (step_reply (saucebell own) w 0).word ≡ word.Committed
      unfolding word_of
      end_reply = reply_by case.Committed case_end

      pub end_result : result_call own (stepped (saucebell own) w 0).table 0 ≡ report_of (ended z (held_by w.table.slots 0) phase.Committed)
      unfolding seat_after ended is_ended
      end_result =
          let a = at_by case.Committed case_end in
          let t : Table = (stepped (saucebell own) w 0).table in
          (reports_ended own t 0 a.stands (omega arith) (ap (λ y. is_ended y.phase) a.seat)).answer ∙ ap report_of a.seat
