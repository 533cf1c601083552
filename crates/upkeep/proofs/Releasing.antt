-- A seat that waits nowhere releases slots that it owns. Each goes to the head of its queue, which leaves the queue, so that another seat
-- gains only slots that it waited for, and where it gained one it waits no more: a seat is in one queue once. A released slot has no owner
-- but the head then, since the seat was its only owner; the seat itself may have ended if it holds nothing any more.
use Prim.Native.Nat.{ℕ, ◌≤◌, ◌<◌}
use mathlib.Core.Path.{◌≡◌, refl, sym, ◌∙◌, subst}
use mathlib.Core.Logic.{◌≢◌, ◌⊎◌, inl, inr, ⊎_elim}
use mathlib.Core.Bool.{Bool, true, false, not, ◌||◌, ◌&&◌, and-true, and-false, or-false, or_assoc, false≢true}
use mathlib.Core.List.{List, ◌∷◌}
use lib.Dec.{eqb}
use borrow.Author.Tests.{eq-eqb, ne_eqb, eqb-true, eqb-false}
use Rattle.slots.specs.Sizes.{slots}
use Rattle.slots.specs.declared.set.SlotSet.{SlotSet}
use Rattle.slots.specs.Sets.{has}
use Rattle.slots.proofs.Truth.{and_l, and_r, and_i, or_l, or_r, not_both, split}
use Rattle.slots.proofs.Members.{In, Out, has_lt}
use Rattle.seats.specs.declared.queue.Queue.{Queue}
use Rattle.seats.specs.declared.seat.Seat.{Seat}
use Rattle.seats.specs.declared.table.Table.{Table}
use Rattle.seats.specs.Queues.{seats, entries, waits_in, served, head_of, is_head}
use Rattle.seats.specs.SlotTables.{held_by, queue_of, released}
use Rattle.seats.proofs.Lines.{Line, waits_none, head_same, line-served, served-none, entries_cases, head_first, head_is, waits_served, head_waits}
use Rattle.seats.proofs.Shape.{Whole, Lined}
use Rattle.seats.proofs.Hands.{queue_released, held-released}
use Rattle.rules.specs.Rules.{Owns, Waits, IsOpen, Distinct, Rule1}
use Rattle.rules.proofs.Waitings.{waits_lt}
use Rattle.upkeep.proofs.Handed.{Handed}

-- ---- a queue whose head leaves

module _ (q : Queue) (l : Line q) where
  -- where anyone waits there is a head
  some_head : (j : ℕ) → waits_in q j ≡ true → is_head q (head_of q) ≡ true
  some_head j e =
      ⊎_elim (λ n. absurd (not_both e (waits_none q n j)))
      (λ f. head_first q l (head_of q) (entries (served q)) f (head_of q) ∙ eq-eqb (head_of q) (head_of q) refl) (entries_cases q l)

  -- the head is gone
  head_gone : (j : ℕ) → Distinct (entries q) → is_head q j ≡ true → waits_in (served q) j ≡ true → ⊥
  unfolding Distinct waits_in
  head_gone j d h e = not_both e (subst Distinct (head_is q l j h) d).0

  served_once : Distinct (entries q) → Distinct (entries (served q))
  unfolding Distinct
  served_once d =
      ⊎_elim (λ n. subst (λ (p : Queue). Distinct (entries p)) (sym (served-none q l n)) d)
      (λ f. let both : Distinct (head_of q ∷ entries (served q)) = subst Distinct f d in both.1)
      (entries_cases q l)

-- ---- what a seat owns after: a says that it did before, e that it is the one that releases, m that the slot is released, d that it is the head

either : (a e m d : Bool) → (a && not (e && m) || (m && d)) ≡ true → ((a ≡ true) × (e ≡ true → m ≡ false)) ⊎ ((m ≡ true) × (d ≡ true))
either false e m d x = inr (and_l m d x, and_r m d x)
either true e false d x = inl (refl, λ p. refl)
either true true true d x = inr (refl, x)
either true false true d x = inl (refl, λ p. absurd (false≢true p))

module _ (t : Table) (i : ℕ) (R : SlotSet) (w : Whole t.slots) (lined : Lined t.slots) (r : Rule1 t) where
  -- with the slots released, and its seats as they were
  abbrev u : Table
  u = record { seats = t.seats; slots = released t.slots i R }

  line : (k : ℕ) → In R k → Line (queue_of t.slots k)
  line k e = lined k (has_lt R k e)

  -- where k is released the queue lost its head, and elsewhere it is the same
  each_queue : (P : Queue → Type 0) (k : ℕ) → (In R k → P (served (queue_of t.slots k))) → P (queue_of t.slots k) → P (queue_of u.slots k)
  each_queue P k here there =
      subst P (sym (queue_released t.slots i R w k)) (split (has R k) (λ e. rw e (here e)) (λ e. rw e there))

  waits_gone : (j k : ℕ) → In R k → Waits u j k → waits_in (served (queue_of t.slots k)) j ≡ true
  waits_gone j k e m = rw (queue_released t.slots i R w k, e) at m

  still : (j k : ℕ) → Waits u j k → Waits t j k
  still j k m =
      split (has R k)
      (λ e. waits_served (queue_of t.slots k) (line k e) j ∙ or_r (is_head (queue_of t.slots k) j) (waits_gone j k e m))
      (λ e. rw (queue_released t.slots i R w k, e) at m)

  -- what a seat owns now, it owned and did not release, or was the head for
  abbrev Head : ℕ → ℕ → Type 0
  Head j k = is_head (queue_of t.slots k) j ≡ true

  now : (j k : ℕ) → j < seats → Owns u j k → (Owns t j k × (eqb i j ≡ true → Out R k)) ⊎ (In R k × Head j k)
  now j k b e =
      either (has (held_by t.slots j) k) (eqb i j) (has R k) (is_head (queue_of t.slots k) j) (sym (held-released t.slots i R w j k b) ∙ e)

  head_owns : (j k : ℕ) → j < seats → In R k → Head j k → Owns u j k
  head_owns j k b e h =
      held-released t.slots i R w j k b ∙ or_r (has (held_by t.slots j) k && not (eqb i j && has R k)) (and_i e h)

  owns_still : (j k : ℕ) → j < seats → Owns t j k → Out R k → Owns u j k
  owns_still j k b o n = held-released t.slots i R w j k b ∙ rw (o, n, and-false (eqb i j))

  head_waited : (j k : ℕ) → In R k → Head j k → Waits t j k
  head_waited j k e h = head_waits (queue_of t.slots k) (line k e) j h

  -- the head of a released slot's queue waits for nothing any more
  head_done : (j s k : ℕ) → In R k → Head j k → Waits u j s → ⊥
  head_done j s k e h m =
      let q : s ≡ k = r.single j s k (waits_lt t.slots w j s (still j s m)) (has_lt R k e) (still j s m) (head_waited j k e h) in
      head_gone (queue_of t.slots k) (line k e) j (r.once k (has_lt R k e)) h (waits_gone j k e (subst (Waits u j) q m))

  -- ---- the seats that do not step

  module _ (j : ℕ) (b : j < seats) (n : j ≢ i) where
    held_now : (k : ℕ) → has (held_by u.slots j) k ≡ (has (held_by t.slots j) k || (has R k && is_head (queue_of t.slots k) j))
    held_now k = held-released t.slots i R w j k b ∙ rw (ne_eqb i j (λ e. n (sym e)), and-true (has (held_by t.slots j) k))

    touched : (k : ℕ) → (has (held_by u.slots j) k || waits_in (queue_of u.slots k) j)
        ≡ (has (held_by t.slots j) k || waits_in (queue_of t.slots k) j)
    touched k =
        rw (held_now k, queue_released t.slots i R w k)
        (split (has R k)
        (λ e. rw (e, waits_served (queue_of t.slots k) (line k e) j)
        (or_assoc (has (held_by t.slots j) k) (is_head (queue_of t.slots k) j) (waits_in (served (queue_of t.slots k)) j)))
        (λ e. rw (e, or-false (has (held_by t.slots j) k))))

    pub releasing_others : Handed t.slots (released t.slots i R) j
    releasing_others =
        record {
          keeps = λ k e. held_now k ∙ or_l (has R k && is_head (queue_of t.slots k) j) e;
          still = still j;
          only = λ s x m e. ⊎_elim (λ p. p.0) (λ p. absurd (head_done j s x p.0 p.1 m)) (now j x b e);
          touch = touched;
        }

  -- ---- rule 1: the seats may be others

  module _ (zs : List Seat) where
    abbrev v : Table
    v = record { seats = zs; slots = released t.slots i R }

    pub releasing_rule : i < seats → ((k : ℕ) → In R k → Owns t i k) → ((k : ℕ) → k < slots → Waits t i k → ⊥)
        → ((j : ℕ) → j ≢ i → IsOpen t j → IsOpen v j) → ((k : ℕ) → Owns t i k → Out R k → IsOpen v i) → Rule1 v
    releasing_rule il sub calm stays left =
        let other : (j k : ℕ) → k < slots → Waits t j k → j ≢ i = λ j k b m q. calm k b (subst (λ (y : ℕ). Waits t y k) q m) in
        -- a slot that was another's was not released
        let kept : (j k : ℕ) → j < seats → Owns t j k → (eqb i j ≡ true → Out R k) → In R k → ⊥ =
        λ j k b o n e. not_both e (n (eq-eqb i j (r.one i j k il b (sub k e) o))) in
        record {
          one = λ a b k la lb p q.
              ⊎_elim
              (λ x. ⊎_elim (λ y. r.one a b k la lb x.0 y.0) (λ y. absurd (kept a k la x.0 x.1 y.0)) (now b k lb q))
              (λ x. ⊎_elim (λ y. absurd (kept b k lb y.0 y.1 x.0))
              (λ y. head_same (queue_of t.slots k) a b x.1 y.1) (now b k lb q))
              (now a k la p);
          owners = λ j k b e.
              ⊎_elim
              (λ p. split (eqb i j)
              (λ x. let q : i ≡ j = eqb-true i j x in
              subst (IsOpen v) q (left k (subst (λ (y : ℕ). Owns t y k) (sym q) p.0) (p.1 x)))
              (λ x. stays j (λ q. eqb-false i j x (sym q)) (r.owners j k b p.0)))
              (λ p. let m = head_waited j k p.0 p.1 in
              stays j (other j k (has_lt R k p.0) m) (r.waiters j k (has_lt R k p.0) m))
              (now j k b e);
          room = λ k b. each_queue (λ q. q.len ≤ seats) k (λ e. (line-served (queue_of t.slots k) (line k e)).short) (r.room k b);
          waiters = λ j k b m. stays j (other j k b (still j k m)) (r.waiters j k b (still j k m));
          once = λ k b.
              each_queue (λ q. Distinct (entries q)) k (λ e. served_once (queue_of t.slots k) (line k e) (r.once k b)) (r.once k b);
          single = λ j k x b c e f. r.single j k x b c (still j k e) (still j x f);
          owned = λ j k b m.
              split (has R k)
              (λ e. let h = head_of (queue_of t.slots k) in
              let f = some_head (queue_of t.slots k) (line k e) j (still j k m) in
              let l = (r.waiters h k b (head_waited h k e f)).seat in
              (h, (l, head_owns h k l e f)))
              (λ e. let o = r.owned j k b (still j k m) in
              (o.0, (o.1.0, owns_still o.0 k o.1.0 o.1.1 e)));
          apart = λ j k b m e.
              ⊎_elim (λ p. r.apart j k b (still j k m) p.0) (λ p. head_done j k k p.0 p.1 m)
              (now j k (r.waiters j k b (still j k m)).seat e);
        }
