-- Rule 6, of a seat that is not open: the tests say the same as the rule. A set has no members if and only if it is empty, and a seat is
-- not queued if and only if it waits for no slot.
use Prim.Native.Nat.{ℕ}
use mathlib.Core.Path.{◌≡◌, ap}
use mathlib.Core.Bool.{Bool, true, not}
use lib.Dec.{leb, eqb}
use borrow.Author.Tests.{not-true, leb-true, le-leb, eqb-true, eq-eqb}
use Rattle.slots.specs.declared.set.SlotSet.{SlotSet}
use Rattle.slots.specs.Sizes.{slots}
use Rattle.slots.specs.Sets.{is_empty}
use Rattle.slots.proofs.Truth.{and_i, is_false, not_both}
use Rattle.slots.proofs.Members.{in_not_out, out}
use Rattle.slots.proofs.Counting.{empty_out, none_empty}
use Rattle.seats.specs.declared.seat.Seat.{Seat}
use Rattle.seats.specs.declared.table.Table.{Table}
use Rattle.seats.specs.SlotTables.{held_by}
use Rattle.seats.specs.Seats.{most_restarts, most_working}
use Rattle.seats.specs.Tables.{seat_at}
use Rattle.rules.specs.Rules.{Closed, Ended}
use Rattle.rule_one.specs.Tests.{is_queued}
use Rattle.rule_six.specs.Tests.{closed_test, ended_test}
use Rattle.rule_one.proofs.Loops.{three, four}
use Rattle.rules.proofs.Queued.{waits_queued, queued_waits}

module _ (own : ℕ → ℕ) (t : Table) (i : ℕ) where
  abbrev z : Seat
  z = seat_at t i

  abbrev h : SlotSet
  h = held_by t.slots i

  abbrev queued : Bool
  queued = is_queued t.slots i

  pub closed_rule : closed_test z h queued ≡ true → Closed own t i
  unfolding closed_test
  closed_rule e =
      let f = four (is_empty h) (not queued) (is_empty z.pending) (eqb z.run.kept 0) e in
      record {
        holds = λ s k. in_not_out h s k (empty_out h s f.0);
        waits = λ s l k. not_both (waits_queued t.slots i s l k) (not-true queued f.1.0);
        wants = f.1.1.0;
        keeps = eqb-true z.run.kept 0 f.1.1.1;
      }

  pub rule_closed : Closed own t i → closed_test z h queued ≡ true
  unfolding closed_test
  rule_closed r =
      let alone : queued ≡ true → ⊥ = λ k. let m = queued_waits t.slots i k in r.waits m.0 m.1.0 m.1.1 in
      and_i (and_i (and_i (none_empty h (λ s. out h s (r.holds s))) (ap not (is_false alone))) r.wants) (eq-eqb z.run.kept 0 r.keeps)

  pub ended_rule : ended_test z.tally ≡ true → Ended own t i
  unfolding ended_test
  ended_rule e =
      let f = three (leb z.tally.restarts most_restarts) (leb z.tally.slots slots) (leb z.tally.working most_working) e in
      record {
        restarts = leb-true z.tally.restarts most_restarts f.0;
        reported = leb-true z.tally.slots slots f.1.0;
        working = leb-true z.tally.working most_working f.1.1;
      }

  pub rule_ended : Ended own t i → ended_test z.tally ≡ true
  unfolding ended_test
  rule_ended r =
      and_i (and_i (le-leb z.tally.restarts most_restarts r.restarts) (le-leb z.tally.slots slots r.reported))
      (le-leb z.tally.working most_working r.working)
