-- There is room in the queue that a seat joins. The entries of a queue are different seats, and seats are numbers below 16; with a seat that
-- is not among them they are still different. Different numbers below n are as many as the numbers below n that are among them, which are
-- at most n.
use Prim.Native.Nat.{ℕ, ◌≤◌, ◌<◌}
use mathlib.Core.Path.{◌≡◌, refl, sym, ap, subst}
use mathlib.Core.Bool.{Bool, true, false, ◌||◌}
use mathlib.Core.List.{List, [], ◌∷◌}
use native.Mathlib.Omega.{arith}
use lib.Dec.{eqb}
use lib.ListN.{length}
use borrow.Author.Tests.{eq-eqb, eqb-true}
use Rattle.slots.specs.Sizes.{slots}
use Rattle.slots.specs.Sets.{tally}
use Rattle.slots.proofs.Truth.{is_false, not_both, alike}
use Rattle.slots.proofs.Tally.{tally-none, tally_join, tally_le, tally_one}
use Rattle.seats.specs.declared.table.Table.{Table}
use Rattle.seats.specs.Queues.{seats, entries, is_entry, waits_in}
use Rattle.seats.specs.SlotTables.{queue_of}
use Rattle.rules.specs.Rules.{Waits, Distinct, Rule1}
use Rattle.rules.proofs.Entries.{entry_cases, entry_first, entry_later}

module _ (n : ℕ) where
  abbrev Below : List ℕ → Type 0
  Below xs = (i : ℕ) → is_entry i xs ≡ true → i < n

  distinct_tally : (xs : List ℕ) → Distinct xs → Below xs → tally (λ k. is_entry k xs) n ≡ length xs
  unfolding Distinct is_entry
  distinct_tally [] d b = tally-none n (λ k. false) (λ k l. refl)
  distinct_tally (x ∷ xs) d b =
      let more = tally_join n (λ k. eqb k x) (λ k. is_entry k xs) (λ k. is_entry k (x ∷ xs))
      (λ k l. ap (λ (b : Bool). b || is_entry k xs) (alike (λ e. eq-eqb k x (sym (eqb-true x k e))) (λ e. eq-eqb x k (sym (eqb-true k x e)))))
      (λ k l e m. not_both (subst (λ (y : ℕ). is_entry y xs ≡ true) (eqb-true k x e) m) d.0) in
      omega (arith, more, tally_one n x (b x (entry_first x xs)), distinct_tally xs d.1 (λ i m. b i (entry_later i x xs m)))

  distinct_few : (xs : List ℕ) → Distinct xs → Below xs → length xs ≤ n
  distinct_few xs d b = omega (arith, distinct_tally xs d b, tally_le n (λ k. is_entry k xs))

  distinct_lack : (xs : List ℕ) (k : ℕ) → k < n → is_entry k xs ≡ false → Distinct xs → Below xs → length xs < n
  unfolding Distinct
  distinct_lack xs k l e d b = distinct_few (k ∷ xs) (e, d) (λ i m. entry_cases i k xs m (λ q. omega arith) (b i))

-- seat i is not in the queue of slot s
pub room_left : (t : Table) (i s : ℕ) → Rule1 t → i < seats → s < slots → (Waits t i s → ⊥) → length (entries (queue_of t.slots s)) < seats
unfolding waits_in
room_left t i s r l k n =
    distinct_lack seats (entries (queue_of t.slots s)) i l (is_false n) (r.once s k) (λ j m. (r.waiters j s k m).seat)
