-- After every sequence of calls what is written down of each seat is what the seat keeps. In a fresh table there is nothing to say of a seat;
-- an opening starts both at zero; a step of an open seat adds the same to both, and where it ends the seat, the slot views before it gave the
-- seat the slots it held, rule 5 gives the bounds, and `result` says after it what the seat then keeps.
use Prim.Native.Nat.{ℕ}
use mathlib.Core.Path.{◌≡◌, refl, sym, ap, ◌∙◌}
use mathlib.Core.Logic.{inl, inr}
use mathlib.Core.Bool.{true, false≢true}
use mathlib.Core.List.{List, [], ◌∷◌}
use native.Mathlib.Omega.{arith}
use lib.ListN.{get_or-replicate}
use lib.Seq.{get_or-set_same}
use borrow.Author.Tests.{eq-eqb, ne_eqb}
use Rattle.script.specs.Scripts.{script_of}
use Rattle.script.specs.Frames.{decode, body, read_refusal, read_script}
use Rattle.seats.specs.declared.seat.Seat.{Seat}
use Rattle.seats.specs.declared.seat.Phase.TheVariants.{Blank}
use Rattle.seats.specs.declared.table.Table.{Table}
use Rattle.seats.specs.Queues.{seats}
use Rattle.seats.specs.Seats.{blank_seat}
use Rattle.seats.specs.SlotTables.{held_by}
use Rattle.seats.specs.Tables.{no_seat, seat_at, fresh}
use Rattle.course.specs.Cases.{word_of}
use Rattle.course.specs.Steps.{seat_after}
use Rattle.table.specs.Calls.{is_ended, report_of, opened_seat, case_of, moved_by, result_call}
use Rattle.upkeep.specs.SoundTables.{Stands}
use Rattle.upkeep.proofs.Stands.{Upkeep}
use Rattle.promises.specs.Histories.{Call, opening, step, World, Notes, notes_of, saucebell, begin, viewed, noted}
use Rattle.promises.specs.Histories.{opened, stepped, called, after, history}
use Rattle.upkeep.proofs.Replies.{StepRefused, StepGranted, step_any, open_any}
use Rattle.promises.proofs.Reached.{called_stands}
use Rattle.upkeep.proofs.Unqueued.{open_rules}
use Rattle.promises.proofs.Answers.{reports_ended, viewed_size}
use Rattle.promises.proofs.Bounds.{ends_within}
use Rattle.promises.proofs.Noted.{Counts, Noted, refused_same, noted_after, NotedIn, noted_set, noted_again}

-- ---- a fresh table

blank_noted : (z : Seat) (v : Notes) → z.phase ≡ Blank → Noted z v
unfolding is_ended
blank_noted z v e = record { counts = λ f. absurd (f e); ends = λ f. absurd (false≢true (rw e at f)) }

begin_noted : (img : List ℕ) → NotedIn (begin img)
unfolding begin fresh blank_seat
begin_noted img j l = blank_noted _ _ (ap (λ (z : Seat). z.phase) (get_or-replicate seats j blank_seat no_seat l))

-- ---- an opening

open_noted : (f : List ℕ) (reading : ℕ) → read_refusal f ≡ 0 → Noted (opened_seat (read_script f).script reading) (notes_of (decode (body f)) reading)
unfolding opened_seat read_script script_of is_ended
open_noted f reading e =
    record { counts = λ b. record { restarts = refl; working = refl; code = rw (eq-eqb _ _ e) }; ends = λ b. absurd (false≢true b) }

module _ (own : ℕ → ℕ) (w : World) (st : Stands own w.table) (all : NotedIn w) where
  opened_noted : (i reading : ℕ) (f : List ℕ) → NotedIn (opened (saucebell own) w i reading f)
  unfolding opened
  opened_noted i reading f = elim (open_any own w.table i reading f) [
    | inl r ↦ rw (r.table, ne_eqb _ 0 r.number) all
    | inr g ↦ rw (g.table, g.number)
        (noted_set w.table.seats w.notes i all _ _ st.shaped.seats16 (open_noted f reading g.read))
  ]

  -- ---- a step

  module _ (i : ℕ) where
    refused_noted : StepRefused own w.table w.image i → NotedIn (stepped (saucebell own) w i)
    unfolding stepped
    refused_noted r = rw (r.table, r.reply) (noted_again w.table.seats w.notes i all _ (refused_same (saucebell own) (w.notes i) _ _))

    module _ (up : Upkeep own) (g : StepGranted own w.table w.image i) where
      counted : Counts (seat_at w.table i) (w.notes i)
      counted = (all i g.opens.seat).counts (λ b. let f = g.opens.phase in let z : ◌≡◌ {A = ℕ} 0 1 = cc in omega arith)

      -- the seat after the step, and the table
      z : Seat
      z = seat_after (case_of own w.table i) (seat_at w.table i) (held_by w.table.slots i) w.image

      t : Table
      t = (moved_by own w.table w.image i).table

      stored : seat_at t i ≡ z
      unfolding z t moved_by
      stored = get_or-set_same w.table.seats i _ no_seat (omega (arith, g.opens.seat, st.shaped.seats16))

      said : is_ended z.phase ≡ true → report_of z ≡ result_call own t i
      unfolding t
      said e =
          let ended : is_ended (seat_at t i).phase ≡ true = rw stored e in
          let r = reports_ended own t i (up.moves w.table w.image i st g.opens) g.opens.seat ended in
          sym (r.answer ∙ ap report_of stored)

      moved_noted : Noted z
          (noted (saucebell own) (w.notes i) (word_of (case_of own w.table i)) (viewed (saucebell own) w.table i) (result_call own t i))
      unfolding z
      moved_noted =
          noted_after (saucebell own) (w.notes i) (viewed (saucebell own) w.table i) (result_call own t i)
          (seat_at w.table i) (held_by w.table.slots i) w.image (case_of own w.table i) g.opens.phase counted
          (λ e. record {
            seen = viewed_size own w.table st i g.opens.seat;
            within = ends_within own w.table i (open_rules w.table i st g.opens) e;
            report = said;
          })

      granted_noted : NotedIn (stepped (saucebell own) w i)
      unfolding stepped z t moved_by
      granted_noted = rw (g.table, g.reply) (noted_set w.table.seats w.notes i all _ _ st.shaped.seats16 moved_noted)

-- ---- calls

module _ (own : ℕ → ℕ) (up : Upkeep own) where
  called_noted : (c : Call) (w : World) → Stands own w.table → NotedIn w → NotedIn (called (saucebell own) w c)
  unfolding called
  called_noted (opening i reading f) w st all = opened_noted own w st all i reading f
  called_noted (step i) w st all =
      elim (step_any own w.table w.image i) [ inl r ↦ refused_noted own w st all i r | inr g ↦ granted_noted own w st all i up g ]

  after_noted : (cs : List Call) (w : World) → Stands own w.table → NotedIn w → NotedIn (after (saucebell own) w cs)
  unfolding after
  after_noted [] w st all = all
  after_noted (c ∷ cs) w st all = after_noted cs (called (saucebell own) w c) (called_stands own up w c st) (called_noted c w st all)

  pub history_noted : (img : List ℕ) (cs : List Call) → NotedIn (history (saucebell own) img cs)
  unfolding history begin
  history_noted img cs = after_noted cs (begin img) up.fresh (begin_noted img)
