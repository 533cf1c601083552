-- Rules 2 to 6, of one seat: its test says the same as the rules of its phase, where the seat is in one queue at most. For an open seat the
-- four rules are put together, the fourth first, since it says which slot the seat is queued for; the other phases are closed.
use Prim.Native.Nat.{ℕ}
use mathlib.Core.Path.{◌≡◌, refl, sym, subst}
use mathlib.Core.Bool.{Bool, true, ◌&&◌}
use Rattle.slots.specs.declared.set.SlotSet.{SlotSet}
use Rattle.slots.proofs.Truth.{and_l, and_r, and_i}
use Rattle.seats.specs.declared.seat.Phase.{Phase}
use Rattle.seats.specs.declared.seat.Phase.TheVariants.{Blank, Open, Committed, Failed}
use Rattle.seats.specs.declared.seat.Seat.{Seat}
use Rattle.seats.specs.declared.table.Table.{Table}
use Rattle.seats.specs.Queues.{waits_in}
use Rattle.seats.specs.SlotTables.{held_by, queue_of}
use Rattle.seats.specs.Tables.{seat_at}
use Rattle.seats.proofs.Shape.{Whole}
use Rattle.course.specs.Wants.{want_of, slot_of}
use Rattle.rules.specs.Rules.{OpenRules, Closed, PhaseRules}
use Rattle.rule_one.specs.Tests.{is_queued}
use Rattle.rule_six.specs.Tests.{closed_test, ended_test}
use Rattle.soundness.specs.Tests.{place_test, pending_test, wait_test, queued_set, open_test}
use Rattle.rule_six.specs.Tests.{blank_test}
use Rattle.soundness.specs.Tests.{phase_test, seat_test}
use Rattle.rule_one.proofs.Loops.{four}
use Rattle.rules.proofs.Shaped.{ShapedSeat}
use Rattle.rules.proofs.Blanks.{blank_is, blank_passes}
use Rattle.rules.proofs.Places.{place_rule, rule_place}
use Rattle.rules.proofs.Pendings.{pending_rule, rule_pending}
use Rattle.rules.proofs.Waitings.{Single, wait_rule, rule_wait, queued_same}
use Rattle.rules.proofs.Counts.{counted, count_rule, rule_count}
use Rattle.rules.proofs.Endings.{closed_rule, rule_closed, ended_rule, rule_ended}

module _ (own : ℕ → ℕ) (t : Table) (i : ℕ) where
  abbrev z : Seat
  z = seat_at t i

  abbrev h : SlotSet
  h = held_by t.slots i

  abbrev queued : Bool
  queued = is_queued t.slots i

  -- the slot that the seat wants, and whether it waits for it
  abbrev w : ℕ
  w = slot_of (want_of own z)

  abbrev here : Bool
  here = waits_in (queue_of t.slots w) i

  -- ---- open

  open_rules : Whole t.slots → Single t i → open_test own z h queued here ≡ true → OpenRules own t i
  unfolding open_test
  open_rules whole single e =
      let f = four (place_test own z h) (pending_test z.run h z.pending) (wait_test queued here h w) (counted own t i (queued_set queued w)) e in
      let wait = wait_rule own t i whole single f.1.1.0 in
      let same = queued_same own t i (λ s l m. (wait s l m).wanted) in
      record {
        two = place_rule own t i f.0;
        three = pending_rule own t i f.1.0;
        four = wait;
        five = count_rule own t i (subst (λ (u : SlotSet). counted own t i u ≡ true) same f.1.1.1);
      }

  rules_open : OpenRules own t i → open_test own z h queued here ≡ true
  unfolding open_test
  rules_open r =
      let same = queued_same own t i (λ s l m. (r.four s l m).wanted) in
      and_i (and_i (and_i (rule_place own t i r.two) (rule_pending own t i r.three)) (rule_wait own t i r.four))
      (subst (λ (u : SlotSet). counted own t i u ≡ true) (sym same) (rule_count own t i r.five))

  -- ---- each phase

  ended_rules : (closed_test z h queued && ended_test z.tally) ≡ true → PhaseRules own t i Committed
  unfolding PhaseRules
  ended_rules e = (
    closed_rule own t i (and_l (closed_test z h queued) (ended_test z.tally) e),
    ended_rule own t i (and_r (closed_test z h queued) (ended_test z.tally) e),
  )

  rules_ended : PhaseRules own t i Committed → (closed_test z h queued && ended_test z.tally) ≡ true
  unfolding PhaseRules
  rules_ended r = and_i (rule_closed own t i r.0) (rule_ended own t i r.1)

  phase_rules : Whole t.slots → ShapedSeat z → Single t i → (p : Phase) → z.phase ≡ p → phase_test own p z h queued here ≡ true
      → PhaseRules own t i p
  unfolding phase_test PhaseRules
  phase_rules whole shaped single Blank q e =
      let closed = closed_rule own t i (and_l (closed_test z h queued) (blank_test z) e) in
      (closed, blank_is z shaped q closed.wants (and_r (closed_test z h queued) (blank_test z) e))
  phase_rules whole shaped single Open q e = open_rules whole single e
  phase_rules whole shaped single Committed q e = ended_rules e
  phase_rules whole shaped single Failed q e = ended_rules e

  rules_phase : (p : Phase) → PhaseRules own t i p → phase_test own p z h queued here ≡ true
  unfolding phase_test PhaseRules
  rules_phase Blank r = and_i (rule_closed own t i r.0) (blank_passes z r.1)
  rules_phase Open r = rules_open r
  rules_phase Committed r = rules_ended r
  rules_phase Failed r = rules_ended r

  pub seat_rules : Whole t.slots → ShapedSeat z → Single t i → seat_test own t i ≡ true → PhaseRules own t i z.phase
  unfolding seat_test
  seat_rules whole shaped single e = phase_rules whole shaped single z.phase refl e

  pub rules_seat : PhaseRules own t i z.phase → seat_test own t i ≡ true
  unfolding seat_test
  rules_seat r = rules_phase z.phase r

  -- ---- a seat that is not closed is open

  pub open_phase : (p : Phase) → PhaseRules own t i p → (Closed own t i → ⊥) → p ≡ Open
  unfolding PhaseRules
  open_phase Blank r n = absurd (n r.0)
  open_phase Open r n = refl
  open_phase Committed r n = absurd (n r.0)
  open_phase Failed r n = absurd (n r.0)

  pub rules_of_open : PhaseRules own t i z.phase → z.phase ≡ Open → OpenRules own t i
  unfolding PhaseRules
  rules_of_open r q = subst (λ (p : Phase). PhaseRules own t i p) q r
