-- Who waits in the queues of the first n slots, as one list: a seat is in the list if and only if it is in one of the queues, and nothing
-- stands twice in the list if and only if nothing stands twice in a queue and no seat is in two queues. By induction on n, with the laws of
-- lists put together.
use Prim.Native.Nat.{ℕ, zero, suc, ◌<◌}
use mathlib.Core.Path.{◌≡◌, sym, ◌∙◌, subst}
use mathlib.Core.Logic.{⊎_elim}
use mathlib.Core.Bool.{true}
use native.Mathlib.Omega.{arith}
use lib.Dec.{eqb}
use borrow.Author.Tests.{eqb-true, eqb-false}
use Rattle.slots.specs.Sizes.{slots}
use Rattle.slots.proofs.Truth.{or_l, or_r, or_cases, split}
use Rattle.seats.specs.declared.slot_table.SlotTable.{SlotTable}
use Rattle.seats.specs.Queues.{entries, is_entry, waits_in}
use Rattle.seats.specs.SlotTables.{queue_of}
use Rattle.seats.proofs.Lines.{entry_append}
use Rattle.rules.specs.Rules.{Distinct}
use Rattle.rule_one.specs.Tests.{waiters, is_queued}
use Rattle.rules.proofs.Entries.{no_entry, distinct_left, distinct_right, distinct_apart, distinct_append}

module _ (t : SlotTable) where
  abbrev InQueue : ℕ → ℕ → Type 0
  InQueue i s = waits_in (queue_of t s) i ≡ true

  -- below n + 1 is below n, or n
  last_or : {A : Type 0} (s n : ℕ) → s < suc n → (s ≡ n → A) → (s < n → A) → A
  last_or s n l f g = split (eqb s n) (λ q. f (eqb-true s n q)) (λ q. let u : s ≡ n → ⊥ = eqb-false s n q in g (omega arith))

  -- ---- who is in the list

  waits_entry : (n i s : ℕ) → s < n → InQueue i s → is_entry i (waiters t n) ≡ true
  unfolding waiters waits_in
  waits_entry zero i s l w = absurd (omega arith)
  waits_entry (suc n) i s l w =
      entry_append i (waiters t n) (entries (queue_of t n))
      ∙ last_or s n l (λ q. or_r (is_entry i (waiters t n)) (subst (λ (k : ℕ). is_entry i (entries (queue_of t k)) ≡ true) q w))
      (λ b. or_l (is_entry i (entries (queue_of t n))) (waits_entry n i s b w))

  entry_waits : (n i : ℕ) → is_entry i (waiters t n) ≡ true → (s : ℕ) × ((s < n) × InQueue i s)
  unfolding waiters waits_in
  entry_waits zero i e = no_entry i e
  entry_waits (suc n) i e =
      ⊎_elim (λ p. let r = entry_waits n i p in (r.0, (omega (arith, r.1.0), r.1.1))) (λ p. (n, (omega arith, p)))
      (or_cases (is_entry i (waiters t n)) (is_entry i (entries (queue_of t n))) (sym (entry_append i (waiters t n) (entries (queue_of t n))) ∙ e))

  pub waits_queued : (i s : ℕ) → s < slots → InQueue i s → is_queued t i ≡ true
  unfolding is_queued
  waits_queued i s l w = waits_entry slots i s l w

  pub queued_waits : (i : ℕ) → is_queued t i ≡ true → (s : ℕ) × ((s < slots) × InQueue i s)
  unfolding is_queued
  queued_waits i e = entry_waits slots i e

  -- ---- nobody twice

  pub queues_once : (n : ℕ) → Distinct (waiters t n) → (s : ℕ) → s < n → Distinct (entries (queue_of t s))
  unfolding waiters
  queues_once zero d s l = absurd (omega arith)
  queues_once (suc n) d s l =
      last_or s n l
      (λ q. subst (λ (k : ℕ). Distinct (entries (queue_of t k))) (sym q) (distinct_right (entries (queue_of t n)) (waiters t n) d))
      (λ b. queues_once n (distinct_left (entries (queue_of t n)) (waiters t n) d) s b)

  -- who is in the queue of n is in none before
  first_only : (n : ℕ) → Distinct (waiters t (suc n)) → (i s : ℕ) → s < n → InQueue i s → InQueue i n → ⊥
  unfolding waiters waits_in
  first_only n d i s l v w = distinct_apart (entries (queue_of t n)) (waiters t n) d i (waits_entry n i s l v) w

  pub queues_single : (n : ℕ) → Distinct (waiters t n) → (i s u : ℕ) → s < n → u < n → InQueue i s → InQueue i u → s ≡ u
  unfolding waiters
  queues_single zero d i s u l k v w = absurd (omega arith)
  queues_single (suc n) d i s u l k v w =
      last_or s n l
      (λ p. last_or u n k (λ q. p ∙ sym q) (λ b. absurd (first_only n d i u b w (subst (InQueue i) p v))))
      (λ a. last_or u n k (λ q. absurd (first_only n d i s a v (subst (InQueue i) q w)))
      (λ b. queues_single n (distinct_left (entries (queue_of t n)) (waiters t n) d) i s u a b v w))

  pub queues_distinct : (n : ℕ) → ((s : ℕ) → s < n → Distinct (entries (queue_of t s)))
      → ((i s u : ℕ) → s < n → u < n → InQueue i s → InQueue i u → s ≡ u) → Distinct (waiters t n)
  unfolding waiters Distinct waits_in
  queues_distinct zero once single = tt
  queues_distinct (suc n) once single =
      distinct_append (entries (queue_of t n)) (waiters t n)
      (queues_distinct n (λ s l. once s (omega arith)) (λ i s u l k v w. single i s u (omega arith) (omega arith) v w))
      (once n (omega arith))
      (λ i m k. let r = entry_waits n i m in
      let q : r.0 ≡ n = single i r.0 n (omega (arith, r.1.0)) (omega arith) r.1.1 k in
      omega (arith, r.1.0))
