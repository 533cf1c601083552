-- Rule 1, of the slot table: the tests of the held sets and of the queues say the same as the rule, with what the rules of the single seats
-- add. That a seat which owns or waits is open, and that it does not wait for what it owns, comes from those; that it is one of the 16
-- seats, and in one queue once, comes from meeting all who wait. Where a queue is not empty, its head waits in it.
use Prim.Native.Nat.{ℕ, ◌≤◌, ◌<◌}
use mathlib.Core.Path.{◌≡◌, refl, sym, ap, ◌∙◌}
use mathlib.Core.Logic.{⊎_elim}
use mathlib.Core.Bool.{Bool, true, false, ◌&&◌, ◌||◌}
use native.Mathlib.Omega.{arith}
use lib.Dec.{ltb, leb, eqb}
use lib.ListN.{length, take}
use borrow.Author.Tests.{ltb-true, ltb-false, lt-ltb, leb-true, le-leb, eqb-true, eqb-false, eq-eqb}
use Rattle.slots.specs.declared.set.SlotSet.{SlotSet}
use Rattle.slots.specs.Sizes.{slots}
use Rattle.slots.specs.Sets.{has}
use Rattle.slots.proofs.Truth.{and_l, and_r, and_i, or_l, or_r, or_cases, not_both, split}
use Rattle.slots.proofs.Members.{In, has_set}
use Rattle.seats.specs.declared.queue.Queue.{Queue}
use Rattle.seats.specs.declared.slot_table.SlotTable.{SlotTable}
use Rattle.seats.specs.declared.table.Table.{Table}
use Rattle.seats.specs.Queues.{seats, entries, is_entry, waits_in, head_of, served}
use Rattle.seats.specs.SlotTables.{queue_of, owned}
use Rattle.seats.specs.Tables.{seat_at}
use Rattle.seats.proofs.Lines.{Line, waits_none, entries_length, entries_cases}
use Rattle.seats.proofs.Shape.{Whole}
use Rattle.seats.proofs.Owned.{held-owned, owner}
use Rattle.rules.specs.Rules.{Owns, Waits, IsOpen, Distinct, Rule1, PhaseRules}
use Rattle.rule_one.specs.Tests.{apart, waiters, all_seats, unmet, met_all, lengths_test, queues_test, is_queued}
use Rattle.rule_one.proofs.Loops.{all_at, all_of}
use Rattle.rules.proofs.Shaped.{Shaped}
use Rattle.rules.proofs.Apart.{apart_sets, sets_apart}
use Rattle.rules.proofs.Meetings.{met_in, met_once, once_met}
use Rattle.rules.proofs.Queued.{waits_queued, queued_waits, queues_once, queues_single, queues_distinct}
use Rattle.rules.proofs.Phases.{open_phase, rules_of_open}

-- ---- the 16 seats

seat_in : (i : ℕ) → i < seats → In all_seats i
unfolding all_seats
seat_in i l = has_set (λ i. ltb i seats) i ∙ and_i (lt-ltb i slots (omega arith)) (lt-ltb i seats l)

in_seat : (i : ℕ) → In all_seats i → i < seats
unfolding all_seats
in_seat i e = ltb-true i seats (and_r (ltb i slots) (ltb i seats) (sym (has_set (λ i. ltb i seats) i) ∙ e))

-- ---- a queue of a length

-- someone waits: the length is not 0
no_length : (q : Queue) → q.len ≡ 0 → (i : ℕ) → waits_in q i ≡ false
unfolding entries
no_length q z i = waits_none q (ap (λ (n : ℕ). take n q.seats) z) i

-- the length is not 0: the head waits
some_length : (q : Queue) → Line q → (q.len ≡ 0 → ⊥) → (i : ℕ) × (waits_in q i ≡ true)
unfolding waits_in is_entry
some_length q l n =
    ⊎_elim (λ e. absurd (n (sym (entries_length q l) ∙ ap length e)))
    (λ e. (head_of q, ap (is_entry (head_of q)) e ∙ or_l (is_entry (head_of q) (entries (served q))) (eq-eqb (head_of q) (head_of q) refl)))
    (entries_cases q l)

module _ (t : SlotTable) (O : SlotSet) where
  short : ℕ → Bool
  short s = leb (queue_of t s).len seats

  covered : ℕ → Bool
  covered s = eqb (queue_of t s).len 0 || has O s

  lengths_at : lengths_test t O ≡ true → (s : ℕ) → s < slots → ((queue_of t s).len ≤ seats) × (covered s ≡ true)
  unfolding lengths_test short covered
  lengths_at e s l =
      let f : (short s && covered s) ≡ true = all_at (λ s. short s && covered s) slots e s l in
      (leb-true (queue_of t s).len seats (and_l (short s) (covered s) f), and_r (short s) (covered s) f)

  lengths_of : ((s : ℕ) → s < slots → (queue_of t s).len ≤ seats) → ((s : ℕ) → s < slots → covered s ≡ true) → lengths_test t O ≡ true
  unfolding lengths_test short covered
  lengths_of low cover = all_of (λ s. short s && covered s) slots (λ s l. and_i (le-leb (queue_of t s).len seats (low s l)) (cover s l))

  -- who waits for a slot, waits for one that is in O
  covered_waits : (i s : ℕ) → covered s ≡ true → waits_in (queue_of t s) i ≡ true → In O s
  unfolding covered
  covered_waits i s e m =
      ⊎_elim (λ z. absurd (not_both m (no_length (queue_of t s) (eqb-true (queue_of t s).len 0 z) i))) (λ k. k)
      (or_cases (eqb (queue_of t s).len 0) (has O s) e)

  waits_covered : (s : ℕ) → Line (queue_of t s) → ((i : ℕ) → waits_in (queue_of t s) i ≡ true → In O s) → covered s ≡ true
  unfolding covered
  waits_covered s l h =
      split (eqb (queue_of t s).len 0) (λ z. or_l (has O s) z)
      (λ n. let m = some_length (queue_of t s) l (eqb-false (queue_of t s).len 0 n) in or_r (eqb (queue_of t s).len 0) (h m.0 m.1))

-- ---- from the tests

module _ (t : SlotTable) (e : queues_test t ≡ true) where
  abbrev everyone : Bool
  everyone = (met_all (waiters t slots) (unmet true all_seats)).fine

  pub lengths_pass : lengths_test t (owned t) ≡ true
  unfolding queues_test
  lengths_pass = and_l (lengths_test t (owned t)) everyone e

  everyone_met : everyone ≡ true
  unfolding queues_test
  everyone_met = and_r (lengths_test t (owned t)) everyone e

  pub nobody_twice : Distinct (waiters t slots)
  nobody_twice = met_once (waiters t slots) all_seats everyone_met

  pub queued_seat : (i : ℕ) → is_queued t i ≡ true → i < seats
  unfolding is_queued
  queued_seat i m = in_seat i (met_in (waiters t slots) all_seats everyone_met i m)

module _ (own : ℕ → ℕ) (t : Table) (whole : Whole t.slots) (a : apart t.slots.held ≡ true) (e : queues_test t.slots ≡ true)
    (each : (i : ℕ) → i < seats → PhaseRules own t i (seat_at t i).phase) where
  one_owner : (i j s : ℕ) → Owns t i s → Owns t j s → i ≡ j
  one_owner i j s b c =
      split (ltb i j) (λ l. absurd (apart_sets t.slots.held a i j s (ltb-true i j l) b c))
      (λ l. split (ltb j i) (λ k. absurd (apart_sets t.slots.held a j i s (ltb-true j i k) c b))
      (λ k. omega (arith, ltb-false i j l, ltb-false j i k)))

  is_open_lem : (i s : ℕ) → s < slots → Waits t i s → IsOpen t i
  is_open_lem i s l m =
      let b : i < seats = queued_seat t.slots e i (waits_queued t.slots i s l m) in
      record { seat = b; phase = open_phase own t i (seat_at t i).phase (each i b) (λ c. c.waits s l m) }

  pub tests_table : Rule1 t
  tests_table =
      record {
        one = λ i j s b c. one_owner i j s;
        owners = λ i s b o. record { seat = b; phase = open_phase own t i (seat_at t i).phase (each i b) (λ c. c.holds s o) };
        room = λ s l. (lengths_at t.slots (owned t.slots) (lengths_pass t.slots e) s l).0;
        waiters = is_open_lem;
        once = queues_once t.slots slots (nobody_twice t.slots e);
        single = queues_single t.slots slots (nobody_twice t.slots e);
        owned = λ i s l m.
            let o = (lengths_at t.slots (owned t.slots) (lengths_pass t.slots e) s l).1 in
            let r = owner t.slots s (covered_waits t.slots (owned t.slots) i s o m) in
            (r.0, (omega (arith, r.1.0, whole.held16), r.1.1));
        apart = λ i s l m o.
            let k = is_open_lem i s l m in
            ((rules_of_open own t i (each i k.seat) k.phase).four s l m).lacks o;
      }

-- ---- from the rule

module _ (t : Table) (shaped : Shaped t) (r : Rule1 t) where
  pub table_apart : apart t.slots.held ≡ true
  table_apart =
      sets_apart t.slots.held
      (λ i j s l k a b. let q : i ≡ j = r.one i j s (omega (arith, shaped.arrays.held16)) (omega (arith, shaped.arrays.held16)) a b in omega arith)

  pub table_queues : queues_test t.slots ≡ true
  unfolding queues_test is_queued
  table_queues =
      and_i
      (lengths_of t.slots (owned t.slots) r.room (λ s l.
      waits_covered t.slots (owned t.slots) s (record { array = shaped.queues16 s l; short = r.room s l })
      (λ i m. let o = r.owned i s l m in held-owned t.slots s o.0 o.1.1)))
      (once_met (waiters t.slots slots) all_seats (queues_distinct t.slots slots r.once r.single)
      (λ i m. let k = queued_waits t.slots i m in seat_in i (r.waiters i k.0 k.1.0 k.1.1).seat))
