-- Rule 2, of the place in the script and the kept writes: the test says the same as the rule, part by part. A kept write's cell is below
-- 1,024 and its slot is held, for each write, by the law of a test at every number.
use Prim.Native.Nat.{ℕ, ◌<◌}
use mathlib.Core.Path.{◌≡◌}
use mathlib.Core.Bool.{true, ◌&&◌}
use lib.Dec.{ltb, leb, eqb}
use borrow.Author.Tests.{ltb-true, lt-ltb, leb-true, le-leb, eqb-true, eq-eqb}
use Rattle.slots.specs.declared.set.SlotSet.{SlotSet}
use Rattle.slots.specs.Sizes.{cells}
use Rattle.slots.specs.Refusals.{refusal}
use Rattle.slots.specs.Sets.{has}
use Rattle.slots.proofs.Truth.{and_l, and_r, and_i}
use Rattle.script.specs.Legal.{script_checks}
use Rattle.seats.specs.declared.seat.Run.{Run}
use Rattle.seats.specs.declared.seat.Seat.{Seat}
use Rattle.seats.specs.declared.table.Table.{Table}
use Rattle.seats.specs.SlotTables.{held_by}
use Rattle.seats.specs.Tables.{seat_at}
use Rattle.rules.specs.Rules.{cell_of, Rule2}
use Rattle.soundness.specs.Tests.{cell_held, kept_test, place_test}
use Rattle.rule_one.proofs.Loops.{four, all_at, all_of}

module _ (own : ℕ → ℕ) (ρ : Run) (h : SlotSet) where
  kept_at : kept_test own ρ h ≡ true → (k : ℕ) → k < ρ.kept → (cell_of ρ k < cells) × (has h (own (cell_of ρ k)) ≡ true)
  unfolding kept_test cell_held
  kept_at e k l =
      let c : (ltb (cell_of ρ k) cells && has h (own (cell_of ρ k))) ≡ true = all_at (λ k. cell_held own h (cell_of ρ k)) ρ.kept e k l in (
        ltb-true (cell_of ρ k) cells (and_l (ltb (cell_of ρ k) cells) (has h (own (cell_of ρ k))) c),
        and_r (ltb (cell_of ρ k) cells) (has h (own (cell_of ρ k))) c,
      )

  kept_of : ((k : ℕ) → k < ρ.kept → cell_of ρ k < cells)
      → ((k : ℕ) → k < ρ.kept → has h (own (cell_of ρ k)) ≡ true) → kept_test own ρ h ≡ true
  unfolding kept_test cell_held
  kept_of low held = all_of (λ k. cell_held own h (cell_of ρ k)) ρ.kept (λ k l. and_i (lt-ltb (cell_of ρ k) cells (low k l)) (held k l))

module _ (own : ℕ → ℕ) (t : Table) (i : ℕ) where
  abbrev z : Seat
  z = seat_at t i

  abbrev h : SlotSet
  h = held_by t.slots i

  pub place_rule : place_test own z h ≡ true → Rule2 own t i
  unfolding place_test
  place_rule e =
      let f = four (eqb (refusal (script_checks z.script)) 0) (leb z.run.at z.script.len) (leb z.run.kept z.run.at)
      (kept_test own z.run h) e in
      record {
        position = leb-true z.run.at z.script.len f.1.0;
        legal = eqb-true (refusal (script_checks z.script)) 0 f.0;
        few = leb-true z.run.kept z.run.at f.1.1.0;
        cell = λ k l. (kept_at own z.run h f.1.1.1 k l).0;
        held = λ k l. (kept_at own z.run h f.1.1.1 k l).1;
      }

  pub rule_place : Rule2 own t i → place_test own z h ≡ true
  unfolding place_test
  rule_place r =
      and_i (and_i (and_i (eq-eqb (refusal (script_checks z.script)) 0 r.legal) (le-leb z.run.at z.script.len r.position))
      (le-leb z.run.kept z.run.at r.few)) (kept_of own z.run h r.cell r.held)
