-- The locks of Figure 1's machine beside the slot table: a lock's owner is the seat that holds the slot, and its queue is the slot's. What
-- ACQUIRE and TRY-ACQUIRE answer is then read off the slot table: a lock that is the seat's own or free is had, and one of another is waited
-- for, from now on or since before.
use Prim.Native.Nat.{ℕ, ◌<◌}
use mathlib.Core.Path.{◌≡◌, refl, ap, ◌∙◌, subst}
use mathlib.Core.Bool.{true, false, cond}
use mathlib.Core.List.{List, [], ◌∷◌, ◌++◌}
use mathlib.Core.Option.{Option, some, none}
use borrow.Author.Tests.{eq-eqb, ne_eqb}
use Rattle.slots.specs.Sizes.{slots}
use Rattle.slots.proofs.Truth.{not_both}
use Rattle.slots.proofs.Members.{In, Out}
use Rattle.seats.specs.declared.slot_table.SlotTable.{SlotTable}
use Rattle.seats.specs.Queues.{seats, entries, is_entry, waits_in}
use Rattle.seats.specs.SlotTables.{held_by, queue_of, owned}
use Rattle.seats.proofs.Owned.{held-owned}
use Rattle.promises.specs.Figure1.{is_some, lock, has_it, joins, waits, acquire_from, acquire, try_acquire, Locks}

abbrev pub Owner : SlotTable → ℕ → Option ℕ → Type 0
Owner T s none = Out (owned T) s
Owner T s (some j) = (j < seats) × In (held_by T j) s

pub record LocksLike (T : SlotTable) (k : Locks) : Type 0 where
  pub owner : (s : ℕ) → s < slots → Owner T s (k s).owner
  pub queue : (s : ℕ) → s < slots → (k s).queue ≡ entries (queue_of T s)

-- ---- what is answered, by who holds the slot

module _ (T : SlotTable) (i h : ℕ) (q : List ℕ) where
  mine_from : (o : Option ℕ) → Owner T h o → In (held_by T i) h → ((j : ℕ) → j < seats → In (held_by T j) h → j ≡ i)
      → acquire_from o i q ≡ has_it (lock (some i) q)
  unfolding acquire_from
  mine_from none f m one = absurd (not_both (held-owned T h i m) f)
  mine_from (some j) f m one = let e : j ≡ i = one j f.0 f.1 in rw (e, eq-eqb i i refl)

  free_from : (o : Option ℕ) → Owner T h o → Out (owned T) h → acquire_from o i q ≡ has_it (lock (some i) q)
  unfolding acquire_from
  free_from none f n = refl
  free_from (some j) f n = absurd (not_both (held-owned T h j f.1) n)

  other_from : (o : Option ℕ) → Owner T h o → Out (held_by T i) h → In (owned T) h
      → acquire_from o i q ≡ cond (is_entry i q) waits (joins (lock o (q ++ (i ∷ []))))
  unfolding acquire_from
  other_from none f n m = absurd (not_both m f)
  other_from (some j) f n m = rw (ne_eqb j i (λ e. not_both (subst (λ (x : ℕ). In (held_by T x) h) e f.1) n))

module _ (T : SlotTable) (h : ℕ) where
  some_owner : (o : Option ℕ) → Owner T h o → In (owned T) h → is_some o ≡ true
  some_owner none f m = absurd (not_both m f)
  some_owner (some j) f m = refl

  no_owner : (o : Option ℕ) → Owner T h o → Out (owned T) h → is_some o ≡ false
  no_owner none f n = refl
  no_owner (some j) f n = absurd (not_both (held-owned T h j f.1) n)

module _ (T : SlotTable) (k : Locks) (like : LocksLike T k) (i h : ℕ) (l : h < slots) where
  abbrev q : List ℕ
  q = (k h).queue

  pub acquire_mine : In (held_by T i) h → ((j : ℕ) → j < seats → In (held_by T j) h → j ≡ i) → acquire i (k h) ≡ has_it (lock (some i) q)
  unfolding acquire
  acquire_mine m one = mine_from T i h q (k h).owner (like.owner h l) m one

  pub acquire_free : Out (owned T) h → acquire i (k h) ≡ has_it (lock (some i) q)
  unfolding acquire
  acquire_free n = free_from T i h q (k h).owner (like.owner h l) n

  -- of a slot that another seat holds
  module _ (n : Out (held_by T i) h) (m : In (owned T) h) where
    pub acquire_waits : waits_in (queue_of T h) i ≡ true → acquire i (k h) ≡ waits
    unfolding acquire waits_in
    acquire_waits w = other_from T i h q (k h).owner (like.owner h l) n m ∙ rw (like.queue h l, w)

    pub acquire_joins : waits_in (queue_of T h) i ≡ false → acquire i (k h) ≡ joins (lock (k h).owner (q ++ (i ∷ [])))
    unfolding acquire waits_in
    acquire_joins w =
        let e : is_entry i q ≡ false = ap (is_entry i) (like.queue h l) ∙ w in
        other_from T i h q (k h).owner (like.owner h l) n m ∙ rw e

  pub try_free : Out (owned T) h → try_acquire i (k h) ≡ some (lock (some i) q)
  unfolding try_acquire
  try_free n = rw (no_owner T h (k h).owner (like.owner h l) n)

  pub try_taken : In (owned T) h → try_acquire i (k h) ≡ none
  unfolding try_acquire
  try_taken m = rw (some_owner T h (k h).owner (like.owner h l) m)
