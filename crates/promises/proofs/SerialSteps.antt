-- A step that is not refused leaves the ended transactions in turn. Where it does not end its seat, neither the image nor the list changes.
-- Where it does, the seat is good, so its script run alone on the image as it is ends as the seat has ended and leaves the image that the
-- step leaves; and that is what the list gets at its end.
use Prim.Native.Nat.{ℕ}
use mathlib.Core.Path.{◌≡◌, refl, ap, ◌∙◌}
use mathlib.Core.Bool.{Bool, true, cond}
use mathlib.Core.List.{List, [], ◌∷◌, ◌++◌}
use native.Mathlib.Omega.{arith}
use lib.ListN.{length}
use lib.Seq.{get_or-set_same}
use Rattle.slots.specs.Sizes.{cells}
use Rattle.slots.specs.declared.set.SlotSet.{SlotSet}
use Rattle.script.specs.Alone.{Outcome, committed, failed, alone, end}
use Rattle.seats.specs.declared.seat.Seat.{Seat}
use Rattle.seats.specs.declared.table.Table.{Table}
use Rattle.seats.specs.SlotTables.{held_by}
use Rattle.seats.specs.Tables.{no_seat, seat_at}
use Rattle.course.specs.declared.cases.Case.{Case}
use Rattle.course.specs.declared.cases.Case.TheVariants as case
use Rattle.course.specs.Cases.{word_of}
use Rattle.runs.specs.Runs.{kept_writes, written}
use Rattle.course.specs.Steps.{ended, seat_after, image_after}
use Rattle.course.specs.Wants.{want_of}
use Rattle.course.proofs.Known.{Known}
use Rattle.rules.specs.Rules.{IsOpen}
use Rattle.table.specs.Answers.{Report}
use Rattle.table.specs.Calls.{case_of, moved_by, image_by, is_ended, report_of, result_call}
use Rattle.upkeep.specs.SoundTables.{Stands}
use Rattle.upkeep.proofs.Stands.{Upkeep}
use Rattle.promises.specs.Histories.{Notes, Transaction, transaction, saucebell, ends}
use Rattle.promises.specs.Demand2.{in_turn, reported, Agree}
use Rattle.promises.proofs.GoodSteps.{case_known, alone_commits, alone_fails}
use Rattle.promises.proofs.GoodTables.{GoodSeat}
use Rattle.promises.proofs.SerialLog.{image_more, reports_more}
use Rattle.promises.proofs.Answers.{reports_ended}

-- the transactions es run alone one by one on img end as reported, and leave now
pub record Turn (es : List Transaction) (img now : List ℕ) : Type 0 where
  pub image : now ≡ in_turn es img
  pub reports : Agree es img

module _ (own : ℕ → ℕ) (t : Table) (i : ℕ) (st : Stands own t) (o : IsOpen t i) where
  abbrev z : Seat
  z = seat_at t i

  abbrev h : SlotSet
  h = held_by t.slots i

  module _ (n : Notes) (now : List ℕ) (size : length now ≡ cells) (g : GoodSeat own n z h now) (es : List Transaction) (img : List ℕ)
      (turn : Turn es img now) where
    -- the transaction with the report r has ended as x, and leaves the image later
    turn_ended : (r : Report) (x : Outcome) (later : List ℕ) → alone n.code n.reading now ≡ end x z.run.regs later
        → r.outcome ≡ reported x → r.regs ≡ z.run.regs → Turn (es ++ (transaction (saucebell own) n r ∷ [])) img later
    turn_ended r x later e p q =
        let tr = transaction (saucebell own) n r in
        record {
          image = image_more es tr img now later x z.run.regs turn.image e;
          reports = reports_more es tr img now later x z.run.regs turn.image e turn.reports p q;
        }

    turn_step : (r : Report) (c : Case) (w : SlotSet) (b : Bool) → Known c (want_of own z) h w b
        → (is_ended (seat_after c z h now).phase ≡ true → r ≡ report_of (seat_after c z h now))
        → Turn (cond (ends (word_of c)) (es ++ (transaction (saucebell own) n r ∷ [])) es) img (image_after c z.run now)
    unfolding ends word_of image_after seat_after ended is_ended reported
    turn_step r (case.Got s) w b k q = turn
    turn_step r case.Blocked w b k q = turn
    turn_step r (case.Queued s) w b k q = turn
    turn_step r case.Committed w b k q =
        turn_ended r committed (written (kept_writes z.run) now) (alone_commits own t i st o n.code n.reading now g size k)
        (ap (λ (x : Report). x.outcome) (q refl)) (ap (λ (x : Report). x.regs) (q refl))
    turn_step r case.Ran w b k q = turn
    turn_step r (case.Took s) w b k q = turn
    turn_step r case.Failed w b k q =
        turn_ended r failed now (alone_fails own t i st o n.code n.reading now g size k)
        (ap (λ (x : Report). x.outcome) (q refl)) (ap (λ (x : Report). x.regs) (q refl))
    turn_step r (case.Restarted s) w b k q = turn

    moved_here : seat_at (moved_by own t now i).table i ≡ seat_after (case_of own t i) z h now
    unfolding moved_by
    moved_here = get_or-set_same t.seats i _ no_seat (omega (arith, st.shaped.seats16, o.seat))

    pub turn_moved : Upkeep own
        → Turn (cond (ends (word_of (case_of own t i))) (es ++ (transaction (saucebell own) n (result_call own (moved_by own t now i).table i) ∷ [])) es)
        img (image_by own t now i)
    unfolding image_by
    turn_moved up =
        let t' = (moved_by own t now i).table in
        turn_step (result_call own t' i) (case_of own t i) _ _ (case_known own t i)
        (λ e. (reports_ended own t' i (up.moves t now i st o) o.seat (ap (λ (y : Seat). is_ended y.phase) moved_here ∙ e)).answer
        ∙ ap report_of moved_here)
