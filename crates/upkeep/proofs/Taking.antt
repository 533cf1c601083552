-- A seat takes a slot that is free, or that it owns already. No queue changes, and no other seat gains or loses anything. The slot has one
-- owner then, since no other seat owned it, and the owner does not wait for it.
use Prim.Native.Nat.{ℕ, ◌<◌}
use mathlib.Core.Path.{◌≡◌, sym, ◌∙◌, subst}
use mathlib.Core.Logic.{◌≢◌, ◌⊎◌, inl, inr, ⊎_elim}
use mathlib.Core.Bool.{◌&&◌, and-false, or-false}
use mathlib.Core.List.{List}
use lib.Dec.{eqb}
use borrow.Author.Tests.{ne_eqb, eqb-true}
use Rattle.slots.specs.Sizes.{slots}
use Rattle.slots.specs.Sets.{has}
use Rattle.slots.proofs.Truth.{and_l, and_r, or_l, or_cases}
use Rattle.seats.specs.declared.seat.Seat.{Seat}
use Rattle.seats.specs.declared.table.Table.{Table}
use Rattle.seats.specs.Queues.{seats}
use Rattle.seats.specs.SlotTables.{held_by, taken}
use Rattle.seats.proofs.Shape.{Whole}
use Rattle.seats.proofs.Hands.{held-taken, queue_taken}
use Rattle.rules.specs.Rules.{Owns, Waits, IsOpen, Rule1}
use Rattle.upkeep.proofs.Handed.{Handed, handed_same}

module _ (t : Table) (i s : ℕ) (w : Whole t.slots) (l : s < slots) where
  -- with the slot taken, and its seats as they were
  abbrev u : Table
  u = record { seats = t.seats; slots = taken t.slots i s }

  pub taking_others : (j : ℕ) → j < seats → j ≢ i → Handed t.slots (taken t.slots i s) j
  taking_others j b n =
      handed_same t.slots (taken t.slots i s) j
      (λ k. held-taken t.slots i s w l j k b ∙ rw (ne_eqb i j (λ e. n (sym e)), and-false (eqb k s)) (or-false (has (held_by t.slots j) k)))
      (λ k. rw (queue_taken t.slots i s k))

  new : (j k : ℕ) → j < seats → Owns u j k → Owns t j k ⊎ ((k ≡ s) × (i ≡ j))
  new j k b e =
      ⊎_elim (λ p. inl p) (λ p. inr (eqb-true k s (and_l (eqb k s) (eqb i j) p), eqb-true i j (and_r (eqb k s) (eqb i j) p)))
      (or_cases (has (held_by t.slots j) k) (eqb k s && eqb i j) (sym (held-taken t.slots i s w l j k b) ∙ e))

  old : (j k : ℕ) → j < seats → Owns t j k → Owns u j k
  old j k b e = held-taken t.slots i s w l j k b ∙ or_l (eqb k s && eqb i j) e

  waited : (j k : ℕ) → Waits u j k → Waits t j k
  waited j k e = rw (queue_taken t.slots i s k) at e

  -- the seats may be others
  module _ (zs : List Seat) where
    abbrev v : Table
    v = record { seats = zs; slots = taken t.slots i s }

    pub taking_rule : Rule1 t → ((j : ℕ) → IsOpen t j → IsOpen v j) → IsOpen v i → ((j : ℕ) → j < seats → Owns t j s → i ≡ j)
        → (Waits t i s → ⊥) → Rule1 v
    taking_rule r stays o alone calm =
        record {
          one = λ a b k la lb p q.
              ⊎_elim
              (λ x. ⊎_elim (r.one a b k la lb x) (λ y. sym (alone a la (subst (Owns t a) y.0 x)) ∙ y.1) (new b k lb q))
              (λ x. sym x.1 ∙ ⊎_elim (λ y. alone b lb (subst (Owns t b) x.0 y)) (λ y. y.1) (new b k lb q))
              (new a k la p);
          owners = λ j k b e. ⊎_elim (λ p. stays j (r.owners j k b p)) (λ p. subst (IsOpen v) p.1 o) (new j k b e);
          room = λ k b. rw (queue_taken t.slots i s k) (r.room k b);
          waiters = λ j k b e. stays j (r.waiters j k b (waited j k e));
          once = λ k b. rw (queue_taken t.slots i s k) (r.once k b);
          single = λ j k x b c e f. r.single j k x b c (waited j k e) (waited j x f);
          owned = λ j k b e. let h = r.owned j k b (waited j k e) in (h.0, (h.1.0, old h.0 k h.1.0 h.1.1));
          apart = λ j k b e f.
              ⊎_elim (r.apart j k b (waited j k e))
              (λ p. calm (subst (λ (y : ℕ). Waits t y s) (sym p.1) (subst (Waits t j) p.0 (waited j k e))))
              (new j k (r.waiters j k b (waited j k e)).seat f);
        }
