-- Rule 3, of a seat with slots pending: the test says the same as the rule. Nothing held is above the smallest pending slot if all else that
-- is held is below it, and of what is both held and pending nothing is left without the smallest if the others are not held.
use Prim.Native.Nat.{ℕ, ◌≤◌}
use mathlib.Core.Path.{◌≡◌, ◌∙◌}
use mathlib.Core.Bool.{Bool, true, false}
use native.Mathlib.Omega.{arith}
use lib.Dec.{eqb}
use lib.ListN.{get_or}
use borrow.Author.Tests.{eqb-true, eqb-false, eq-eqb}
use Rattle.slots.specs.declared.set.SlotSet.{SlotSet}
use Rattle.slots.specs.Sets.{removing, above, is_empty, smallest}
use Rattle.slots.proofs.Truth.{and_i, split}
use Rattle.slots.proofs.Members.{In, in_not_out, out, in_removing, removing_other}
use Rattle.slots.proofs.Counting.{empty_out, none_empty}
use Rattle.slots.proofs.Least.{above-none, none_above}
use Rattle.script.specs.Scripts.{registers}
use Rattle.script.specs.Meaning.{opening_registers}
use Rattle.seats.specs.declared.seat.Run.{Run}
use Rattle.seats.specs.declared.table.Table.{Table}
use Rattle.seats.specs.SlotTables.{held_by}
use Rattle.seats.specs.Tables.{seat_at}
use Rattle.rules.specs.Rules.{Rule3}
use Rattle.rule_one.specs.Tests.{all, common}
use Rattle.soundness.specs.Tests.{at_opening, pending_test}
use Rattle.rule_one.proofs.Loops.{three, all_at, all_of}
use Rattle.rules.proofs.Both.{in_common, common_in}

module _ (own : ℕ → ℕ) (t : Table) (i : ℕ) where
  abbrev ρ : Run
  ρ = (seat_at t i).run

  abbrev h : SlotSet
  h = held_by t.slots i

  abbrev p : SlotSet
  p = (seat_at t i).pending

  abbrev same_register : ℕ → Bool
  same_register k = eqb (get_or ρ.regs k 0) (get_or (opening_registers ρ.reading) k 0)

  opening_parts : at_opening ρ ≡ true → (eqb ρ.at 0 ≡ true) × ((eqb ρ.kept 0 ≡ true) × (all same_register registers ≡ true))
  unfolding at_opening
  opening_parts e = three (eqb ρ.at 0) (eqb ρ.kept 0) (all same_register registers) e

  pub pending_rule : pending_test ρ h p ≡ true → is_empty p ≡ false → Rule3 own t i
  unfolding pending_test
  pending_rule e n =
      let f = three (at_opening ρ) (is_empty (above h (smallest p))) (is_empty (removing (common h p) (smallest p))) (rw n at e) in
      let o = opening_parts f.0 in
      record {
        position = eqb-true ρ.at 0 o.0;
        nothing = eqb-true ρ.kept 0 o.1.0;
        opening = λ k l. eqb-true (get_or ρ.regs k 0) (get_or (opening_registers ρ.reading) k 0)
            (all_at same_register registers o.1.1 k l);
        below = λ s a u. omega (arith, none_above h (smallest p) s f.1.0 a, u);
        lacks = λ s a u b. in_not_out (removing (common h p) (smallest p)) s (removing_other (common h p) (smallest p) s u ∙ common_in h p s b a)
            (empty_out (removing (common h p) (smallest p)) s f.1.1);
      }

  rule_opening : Rule3 own t i → at_opening ρ ≡ true
  unfolding at_opening
  rule_opening r =
      and_i (and_i (eq-eqb ρ.at 0 r.position) (eq-eqb ρ.kept 0 r.nothing))
      (all_of same_register registers (λ k l. eq-eqb (get_or ρ.regs k 0) (get_or (opening_registers ρ.reading) k 0) (r.opening k l)))

  -- what is held is at most the smallest that is pending
  at_most : Rule3 own t i → (s : ℕ) → In h s → s ≤ smallest p
  at_most r s a =
      split (eqb s (smallest p)) (λ q. omega (arith, eqb-true s (smallest p) q))
      (λ q. omega (arith, r.below s a (eqb-false s (smallest p) q)))

  rule_rest : Rule3 own t i → is_empty (removing (common h p) (smallest p)) ≡ true
  rule_rest r =
      none_empty (removing (common h p) (smallest p)) (λ s. out (removing (common h p) (smallest p)) s (λ e.
      let k = in_removing (common h p) (smallest p) s e in
      let c = in_common h p s k.0 in
      r.lacks s c.1 k.1 c.0))

  pub rule_pending : (is_empty p ≡ false → Rule3 own t i) → pending_test ρ h p ≡ true
  unfolding pending_test
  rule_pending r =
      split (is_empty p) (λ e. rw e)
      (λ n. rw n (and_i (and_i (rule_opening (r n)) (above-none h (smallest p) (at_most (r n)))) (rule_rest (r n))))
