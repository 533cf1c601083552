-- An opening keeps a sound table sound. The slots stay as they are, and so does every other seat; the seat that is opened was not open, so
-- by rule 6 it holds no slot and waits for none. At its opening it has nothing pending, keeps no write and has counts of zero, so its rules
-- ask only that its script be legal.
use Prim.Native.Nat.{ℕ, ◌<◌}
use mathlib.Core.Path.{◌≡◌, refl, sym, ap, ◌∙◌, subst}
use mathlib.Core.Logic.{◌≢◌, inl}
use mathlib.Core.Bool.{false, true≢false}
use native.Mathlib.Omega.{arith}
use lib.Dec.{eqb}
use lib.ListN.{length}
use lib.Seq.{get_or-set_same, get_or-set_other}
use borrow.Author.Tests.{eqb-true, eqb-false}
use Rattle.slots.specs.Refusals.{refusal}
use Rattle.slots.specs.Sets.{none}
use Rattle.slots.proofs.Truth.{split, not_both}
use Rattle.slots.proofs.Members.{has-none}
use Rattle.slots.proofs.Counting.{none_empty, size_none}
use Rattle.script.specs.declared.code.Script.{Script}
use Rattle.script.specs.Scripts.{max_instructions}
use Rattle.script.specs.Legal.{script_checks}
use Rattle.seats.specs.declared.seat.Phase.{Phase}
use Rattle.seats.specs.declared.seat.Phase.TheVariants.{Blank, Open, Committed, Failed}
use Rattle.seats.specs.declared.seat.Seat.{Seat}
use Rattle.seats.specs.declared.table.Table.{Table}
use Rattle.seats.specs.Queues.{seats}
use Rattle.seats.specs.SlotTables.{held_by}
use Rattle.seats.specs.Seats.{is_open, opened_run}
use Rattle.seats.specs.Tables.{no_seat, seat_at}
use Rattle.rules.specs.Rules.{IsOpen, Rule1, Closed, PhaseRules}
use Rattle.table.specs.Calls.{with_seat, opened_seat}
use Rattle.upkeep.specs.SoundTables.{Stands}
use Rattle.upkeep.proofs.Handed.{handed_same, phase_kept}
use Rattle.upkeep.proofs.OwnParts.{Parts, queued_in, queued_waits, rules}
use Rattle.upkeep.proofs.OwnRestart.{two_opened}
use Rattle.upkeep.proofs.Shapes.{put_shaped}
use Rattle.upkeep.proofs.ShapeSeats.{shaped_opened}

-- ---- a seat that is not open

closed_rules : (own : ℕ → ℕ) (t : Table) (i : ℕ) (p : Phase) → is_open p ≡ false → PhaseRules own t i p → Closed own t i
unfolding PhaseRules is_open
closed_rules own t i Blank e r = r.0
closed_rules own t i Open e r = absurd (true≢false e)
closed_rules own t i Committed e r = r.0
closed_rules own t i Failed e r = r.0

-- ---- the opening

module _ (own : ℕ → ℕ) (t : Table) (i reading : ℕ) (s : Script) (st : Stands own t) (seat : i < seats)
    (shut : is_open (seat_at t i).phase ≡ false) (whole : length s.code ≡ max_instructions) (legal : refusal (script_checks s) ≡ 0) where
  abbrev y : Seat
  y = opened_seat s reading

  abbrev new : Table
  new = with_seat t i y

  here : seat_at new i ≡ y
  here = get_or-set_same t.seats i y no_seat (omega (arith, st.shaped.seats16))

  there : (j : ℕ) → j ≢ i → seat_at new j ≡ seat_at t j
  there j n = get_or-set_other t.seats i j y no_seat n

  closed : Closed own t i
  closed = closed_rules own t i (seat_at t i).phase shut (st.sound.seats i seat)

  opens : (seat_at new i).phase ≡ Open
  unfolding opened_seat
  opens = ap (λ (z : Seat). z.phase) here

  still_open : (j : ℕ) → IsOpen t j → IsOpen new j
  still_open j o =
      record {
        seat = o.seat;
        phase = split (eqb j i) (λ e. subst (λ (k : ℕ). (seat_at new k).phase ≡ Open) (sym (eqb-true j i e)) opens)
            (λ e. ap (λ (z : Seat). z.phase) (there j (eqb-false j i e)) ∙ o.phase);
      }

  rule1_opened : Rule1 new
  rule1_opened =
      let r = st.sound.table in
      record {
        one = r.one;
        owners = λ j k l e. still_open j (r.owners j k l e);
        room = r.room;
        waiters = λ j k l e. still_open j (r.waiters j k l e);
        once = r.once;
        single = r.single;
        owned = r.owned;
        apart = r.apart;
      }

  parts_opened : Parts own y (held_by t.slots i) (queued_in t.slots i)
  unfolding opened_seat opened_run
  parts_opened =
      record {
        two = two_opened own s reading (held_by t.slots i) legal;
        three = λ e. absurd (not_both (none_empty none has-none) e);
        four = λ k e. let w = queued_waits t.slots i k e in absurd (closed.waits k w.0 w.1);
        five = record { restarts = inl refl; working = omega (arith, size_none) };
      }

  rules_opened : (j : ℕ) → j < seats → PhaseRules own new j (seat_at new j).phase
  unfolding PhaseRules
  rules_opened j l =
      split (eqb j i)
      (λ e. subst (λ (k : ℕ). PhaseRules own new k (seat_at new k).phase) (sym (eqb-true j i e))
      (subst (PhaseRules own new i) (sym opens) (rules own new i here parts_opened)))
      (λ e. let q = there j (eqb-false j i e) in
      let w = st.shaped.arrays in
      subst (PhaseRules own new j) (sym (ap (λ (z : Seat). z.phase) q))
      (phase_kept own t new j w w q (handed_same t.slots t.slots j (λ k. refl) (λ k. refl)) (seat_at t j).phase (st.sound.seats j l)))

  pub opening_stands : Stands own (with_seat t i (opened_seat s reading))
  opening_stands =
      record {
        shaped = put_shaped t i y t.slots st.shaped (shaped_opened s reading whole) st.shaped.arrays st.shaped.queues16;
        sound = record { table = rule1_opened; seats = rules_opened };
      }
