-- The rules of a sound table and its test say the same, for every table of the code. From the test, that no seat is in two queues comes
-- first, since the rules of the single seats need it, and rule 1 needs those; from the rules, each part of the test follows by itself.
use Prim.Native.Nat.{ℕ, ◌<◌}
use mathlib.Core.Path.{◌≡◌}
use mathlib.Core.Bool.{true}
use Rattle.slots.specs.Sizes.{slots}
use Rattle.slots.proofs.Truth.{and_i}
use Rattle.seats.specs.declared.table.Table.{Table}
use Rattle.seats.specs.Queues.{seats}
use Rattle.seats.specs.Tables.{seat_at}
use Rattle.rules.specs.Rules.{PhaseRules, Sound}
use Rattle.rule_one.specs.Tests.{all, apart, queues_test}
use Rattle.soundness.specs.Tests.{seat_test, sound_test}
use Rattle.rule_one.proofs.Loops.{three, all_at, all_of}
use Rattle.rules.proofs.Shaped.{Shaped}
use Rattle.rules.proofs.Queued.{queues_single}
use Rattle.rules.proofs.Phases.{seat_rules, rules_seat}
use Rattle.rules.proofs.Ownership.{nobody_twice, tests_table, table_apart, table_queues}

module _ (own : ℕ → ℕ) (t : Table) (shaped : Shaped t) where
  pub test_rules : sound_test own t ≡ true → Sound own t
  unfolding sound_test
  test_rules e =
      let f = three (apart t.slots.held) (queues_test t.slots) (all (seat_test own t) seats) e in
      let each : (i : ℕ) → i < seats → PhaseRules own t i (seat_at t i).phase =
      λ i l. seat_rules own t i shaped.arrays (shaped.each i l) (queues_single t.slots slots (nobody_twice t.slots f.1.0) i)
      (all_at (seat_test own t) seats f.1.1 i l) in
      record { table = tests_table own t shaped.arrays f.0 f.1.0 each; seats = each }

  pub rules_test : Sound own t → sound_test own t ≡ true
  unfolding sound_test
  rules_test r =
      and_i (and_i (table_apart t shaped r.table) (table_queues t shaped r.table))
      (all_of (seat_test own t) seats (λ i l. rules_seat own t i (r.seats i l)))
