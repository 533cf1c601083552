-- Rule 5, of the counts: the test says the same as the rule, where the set that it makes of the slot queued for is the set of the slots
-- queued for. Both are the same two comparisons.
use Prim.Native.Nat.{ℕ}
use mathlib.Core.Path.{◌≡◌}
use mathlib.Core.Logic.{inl, inr, ⊎_elim}
use mathlib.Core.Bool.{Bool, true}
use lib.Dec.{ltb, eqb}
use borrow.Author.Tests.{ltb-true, lt-ltb, leb-true, le-leb, eqb-true, eq-eqb}
use Rattle.slots.specs.declared.set.SlotSet.{SlotSet}
use Rattle.slots.specs.Sets.{size}
use Rattle.slots.proofs.Truth.{and_l, and_r, and_i, or_l, or_r, or_cases}
use Rattle.seats.specs.declared.seat.Seat.{Seat}
use Rattle.seats.specs.declared.table.Table.{Table}
use Rattle.seats.specs.SlotTables.{held_by}
use Rattle.seats.specs.Tables.{seat_at}
use Rattle.rules.specs.Rules.{queued_for, concerned, q, Rule5}
use Rattle.soundness.specs.Tests.{restarts_test, working_test, count_test}

module _ (own : ℕ → ℕ) (t : Table) (i : ℕ) where
  abbrev z : Seat
  z = seat_at t i

  abbrev pub counted : SlotSet → Bool
  counted u = count_test z.tally z.script.len z.run.at (held_by t.slots i) z.pending u

  abbrev l : ℕ
  l = size (concerned t i)

  abbrev few : Bool
  few = restarts_test z.tally.restarts l

  abbrev bounded : Bool
  bounded = working_test z.tally.restarts z.tally.working z.script.len z.run.at (size z.pending) l (q own t i)

  pub count_rule : counted (queued_for t i) ≡ true → Rule5 own t i
  unfolding count_test restarts_test working_test concerned
  count_rule e =
      record {
        restarts = ⊎_elim (λ r. inl (eqb-true z.tally.restarts 0 r)) (λ r. inr (ltb-true z.tally.restarts l r))
            (or_cases (eqb z.tally.restarts 0) (ltb z.tally.restarts l) (and_l few bounded e));
        working = leb-true _ _ (and_r few bounded e);
      }

  pub rule_count : Rule5 own t i → counted (queued_for t i) ≡ true
  unfolding count_test restarts_test working_test concerned
  rule_count r =
      and_i
      (⊎_elim (λ e. or_l (ltb z.tally.restarts l) (eq-eqb z.tally.restarts 0 e))
      (λ e. or_r (eqb z.tally.restarts 0) (lt-ltb z.tally.restarts l e)) r.restarts)
      (le-leb _ _ r.working)
