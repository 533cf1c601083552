-- A seat that waits nowhere joins the tail of the queue of a slot that another seat owns. Nobody gains or loses a slot, and the other seats
-- wait where they did. In the queue the seat is new, so that no one is in it twice, and it is in no other queue.
use Prim.Native.Nat.{ℕ, ◌≤◌, ◌<◌}
use mathlib.Core.Path.{◌≡◌, refl, sym, ap, ◌∙◌, subst}
use mathlib.Core.Logic.{◌≢◌, ◌⊎◌, inl, inr, ⊎_elim}
use mathlib.Core.Bool.{true, false, ◌||◌, ◌&&◌, and-false, or-false}
use mathlib.Core.List.{List, [], ◌∷◌}
use lib.Dec.{eqb}
use lib.ListN.{length}
use borrow.Author.Tests.{ne_eqb, eqb-true}
use Rattle.slots.specs.Sizes.{slots}
use Rattle.slots.proofs.Truth.{and_l, and_r, or_cases, is_false, not_both, split}
use Rattle.seats.specs.declared.queue.Queue.{Queue}
use Rattle.seats.specs.declared.seat.Seat.{Seat}
use Rattle.seats.specs.declared.table.Table.{Table}
use Rattle.seats.specs.Queues.{seats, entries, is_entry, waits_in, joined}
use Rattle.seats.specs.SlotTables.{queue_of, joined_by}
use Rattle.seats.proofs.Lines.{Line, entries-joined, waits_joined, line-joined}
use Rattle.seats.proofs.Shape.{Whole}
use Rattle.seats.proofs.Hands.{queue_joined, held-joined}
use Rattle.rules.specs.Rules.{Owns, Waits, IsOpen, Distinct, Rule1}
use Rattle.rules.proofs.Entries.{entry_cases, no_entry, distinct_append}
use Rattle.upkeep.proofs.Handed.{Handed, handed_same}

-- the entries with one more behind them
joined_once : (q : Queue) (i : ℕ) → Line q → length (entries q) < seats → waits_in q i ≡ false → Distinct (entries q) → Distinct (entries (joined q i))
unfolding waits_in Distinct is_entry
joined_once q i l r n d =
    subst Distinct (sym (entries-joined q l i r))
    (distinct_append (i ∷ []) (entries q) d (refl, tt)
    (λ k m e. entry_cases k i [] e (λ p. not_both (subst (λ (y : ℕ). is_entry y (entries q) ≡ true) (sym p) m) n) (no_entry k)))

module _ (t : Table) (i s : ℕ) (w : Whole t.slots) (l : s < slots) (line : Line (queue_of t.slots s))
    (room : length (entries (queue_of t.slots s)) < seats) where
  -- with the queue joined, and its seats as they were
  abbrev u : Table
  u = record { seats = t.seats; slots = joined_by t.slots i s }

  -- what the queue of s has now and the others had
  each_queue : (P : Queue → Type 0) (k : ℕ) → P (joined (queue_of t.slots s) i) → P (queue_of t.slots k) → P (queue_of u.slots k)
  each_queue P k here there =
      subst P (sym (queue_joined t.slots i s w l k)) (split (eqb k s) (λ e. rw (e, eqb-true k s e) here) (λ e. rw e there))

  waits_now : (j k : ℕ) → waits_in (queue_of u.slots k) j ≡ (waits_in (queue_of t.slots k) j || (eqb k s && eqb i j))
  waits_now j k =
      ap (λ (q : Queue). waits_in q j) (queue_joined t.slots i s w l k)
      ∙ split (eqb k s) (λ e. rw (e, eqb-true k s e) (waits_joined (queue_of t.slots s) line i j room)) (λ e. rw e (sym (or-false _)))

  pub joining_others : (j : ℕ) → j ≢ i → Handed t.slots (joined_by t.slots i s) j
  joining_others j n =
      handed_same t.slots (joined_by t.slots i s) j (λ k. rw (held-joined t.slots i s j))
      (λ k. waits_now j k ∙ rw (ne_eqb i j (λ e. n (sym e)), and-false (eqb k s)) (or-false (waits_in (queue_of t.slots k) j)))

  new : (j k : ℕ) → Waits u j k → Waits t j k ⊎ ((k ≡ s) × (i ≡ j))
  new j k e =
      ⊎_elim (λ p. inl p) (λ p. inr (eqb-true k s (and_l (eqb k s) (eqb i j) p), eqb-true i j (and_r (eqb k s) (eqb i j) p)))
      (or_cases (waits_in (queue_of t.slots k) j) (eqb k s && eqb i j) (sym (waits_now j k) ∙ e))

  -- the seats may be others
  module _ (zs : List Seat) where
    abbrev v : Table
    v = record { seats = zs; slots = joined_by t.slots i s }

    pub joining_rule : Rule1 t → ((j : ℕ) → IsOpen t j → IsOpen v j) → IsOpen v i → (j : ℕ) × ((j < seats) × Owns t j s) → (Owns t i s → ⊥)
        → ((k : ℕ) → k < slots → Waits t i k → ⊥) → Rule1 v
    joining_rule r stays o owner lacks calm =
        let held : (j k : ℕ) → Owns u j k → Owns t j k = λ j k e. rw (held-joined t.slots i s j) at e in
        let back : (j k : ℕ) → Owns t j k → Owns u j k = λ j k e. rw (held-joined t.slots i s j) e in
        let never : (j k : ℕ) → k < slots → Waits t j k → i ≡ j → ⊥ = λ j k b e p. calm k b (subst (λ (y : ℕ). Waits t y k) (sym p) e) in
        record {
          one = λ a b k la lb p q. r.one a b k la lb (held a k p) (held b k q);
          owners = λ j k b e. stays j (r.owners j k b (held j k e));
          room = λ k b. each_queue (λ q. q.len ≤ seats) k (line-joined (queue_of t.slots s) line i).short (r.room k b);
          waiters = λ j k b e. ⊎_elim (λ p. stays j (r.waiters j k b p)) (λ p. subst (IsOpen v) p.1 o) (new j k e);
          once = λ k b.
              each_queue (λ q. Distinct (entries q)) k
              (joined_once (queue_of t.slots s) i line room (is_false (calm s l)) (r.once s l)) (r.once k b);
          single = λ j k x b c e f.
              ⊎_elim
              (λ p. ⊎_elim (r.single j k x b c p) (λ q. absurd (never j k b p q.1)) (new j x f))
              (λ p. p.0 ∙ ⊎_elim (λ q. absurd (never j x c q p.1)) (λ q. sym q.0) (new j x f))
              (new j k e);
          owned = λ j k b e.
              ⊎_elim (λ p. let h = r.owned j k b p in (h.0, (h.1.0, back h.0 k h.1.1)))
              (λ p. (owner.0, (owner.1.0, back owner.0 k (subst (Owns t owner.0) (sym p.0) owner.1.1)))) (new j k e);
          apart = λ j k b e f.
              ⊎_elim (λ p. r.apart j k b p (held j k f))
              (λ p. lacks (subst (λ (y : ℕ). Owns t y s) (sym p.1) (subst (Owns t j) p.0 (held j k f)))) (new j k e);
        }
