-- What the seat that steps holds and is queued for after each change of the slot table. A slot taken is one more, and no queue changes. A
-- seat that was in no queue and joins one is in that queue alone, which has room for it. A seat that releases slots and is in no queue heads
-- none, so it gets none of them back, and it is in no queue then either.
use Prim.Native.Nat.{ℕ, ◌<◌}
use mathlib.Core.Path.{◌≡◌, refl, sym, ap, ◌∙◌}
use mathlib.Core.Logic.{◌⊎◌, inl, inr, ⊎_elim}
use mathlib.Core.Bool.{Bool, true, false, not, cond, ◌&&◌, ◌||◌, or-false}
use lib.Dec.{eqb}
use lib.ListN.{length}
use borrow.Author.Tests.{eqb-true, eq-eqb, not-true}
use Rattle.slots.specs.declared.set.SlotSet.{SlotSet}
use Rattle.slots.specs.Sizes.{slots}
use Rattle.slots.specs.Sets.{has}
use Rattle.slots.proofs.Truth.{and_l, and_r, and_i, or_l, or_r, or_cases, is_false, split}
use Rattle.slots.proofs.Members.{In, Out, in_not_out, out, has_lt}
use Rattle.seats.specs.declared.queue.Queue.{Queue}
use Rattle.seats.specs.declared.slot_table.SlotTable.{SlotTable}
use Rattle.seats.specs.Queues.{seats, entries, waits_in, served, is_head}
use Rattle.seats.specs.SlotTables.{held_by, queue_of, taken, joined_by, released}
use Rattle.seats.proofs.Lines.{waits_joined, waits_served, head_waits}
use Rattle.seats.proofs.Shape.{Whole, Lined}
use Rattle.seats.proofs.Hands.{held-taken, queue_joined, queue_released, held-released}
use Rattle.upkeep.proofs.OwnParts.{queued_in, queued_waits, waits_queued}

module _ (t : SlotTable) (i : ℕ) (whole : Whole t) (seat : i < seats) where
  abbrev H : SlotSet
  H = held_by t i

  -- ---- slot s taken

  module _ (s : ℕ) (small : s < slots) where
    takes : (k : ℕ) → has (held_by (taken t i s) i) k ≡ (has H k || (eqb k s && eqb i i))
    takes k = held-taken t i s whole small i k seat

    pub taken_keeps : (k : ℕ) → In H k → In (held_by (taken t i s) i) k
    taken_keeps k e = takes k ∙ or_l (eqb k s && eqb i i) e

    pub taken_here : In (held_by (taken t i s) i) s
    taken_here = takes s ∙ or_r (has H s) (and_i (eq-eqb s s refl) (eq-eqb i i refl))

    pub taken-from : (k : ℕ) → In (held_by (taken t i s) i) k → In H k ⊎ (k ≡ s)
    taken-from k e =
        ⊎_elim (λ a. inl a) (λ a. inr (eqb-true k s (and_l (eqb k s) (eqb i i) a)))
        (or_cases (has H k) (eqb k s && eqb i i) (sym (takes k) ∙ e))

    pub taken_queued : queued_in (taken t i s) i ≡ queued_in t i
    unfolding queued_in taken
    taken_queued = refl

  module _ (lined : Lined t) (calm : (k : ℕ) → Out (queued_in t i) k) where
    away : (k : ℕ) → k < slots → waits_in (queue_of t k) i ≡ true → ⊥
    away k l e = in_not_out (queued_in t i) k (waits_queued t i k l e) (calm k)

    -- ---- the queue of slot s joined

    module _ (s : ℕ) (small : s < slots) (fits : length (entries (queue_of t s)) < seats) where
      joined_here : waits_in (queue_of (joined_by t i s) s) i ≡ true
      joined_here =
          ap (λ (q : Queue). waits_in q i) (queue_joined t i s whole small s) ∙ rw (eq-eqb s s refl)
          (waits_joined (queue_of t s) (lined s small) i i fits ∙ or_r (waits_in (queue_of t s) i) (eq-eqb i i refl))

      pub queued_here : In (queued_in (joined_by t i s) i) s
      queued_here = waits_queued (joined_by t i s) i s small joined_here

      pub queued_alone : (k : ℕ) → In (queued_in (joined_by t i s) i) k → k ≡ s
      queued_alone k e =
          let w = queued_waits (joined_by t i s) i k e in
          split (eqb k s) (eqb-true k s)
          (λ n. let q : queue_of (joined_by t i s) k ≡ queue_of t k = queue_joined t i s whole small k ∙ rw n in
          absurd (away k w.0 (sym (ap (λ (x : Queue). waits_in x i) q) ∙ w.1)))

    -- ---- the slots of R released

    module _ (R : SlotSet) where
      no_head : (k : ℕ) → (has R k && is_head (queue_of t k) i) ≡ false
      no_head k =
          is_false (λ e. let r = and_l (has R k) (is_head (queue_of t k) i) e in let l = has_lt R k r in
          away k l (head_waits (queue_of t k) (lined k l) i (and_r (has R k) (is_head (queue_of t k) i) e)))

      kept : (k : ℕ) → has (held_by (released t i R) i) k ≡ (has H k && not (has R k))
      kept k = held-released t i R whole i k seat ∙ rw (no_head k, eq-eqb i i refl) (or-false (has H k && not (has R k)))

      pub released-from : (k : ℕ) → In (held_by (released t i R) i) k → In H k × Out R k
      released-from k e =
          let f : (has H k && not (has R k)) ≡ true = sym (kept k) ∙ e in
          (and_l (has H k) (not (has R k)) f, not-true (has R k) (and_r (has H k) (not (has R k)) f))

      pub released_keeps : (k : ℕ) → In H k → Out R k → In (held_by (released t i R) i) k
      released_keeps k e o = kept k ∙ and_i e (ap not o)

      pub released_calm : (k : ℕ) → Out (queued_in (released t i R) i) k
      released_calm k =
          out (queued_in (released t i R) i) k
          (λ e. let w = queued_waits (released t i R) i k e in
          away k w.0 (still (has R k) w.0 (sym (ap (λ (x : Queue). waits_in x i) (queue_released t i R whole k)) ∙ w.1)))
        where
          still : (b : Bool) → k < slots → waits_in (cond b (served (queue_of t k)) (queue_of t k)) i ≡ true → waits_in (queue_of t k) i ≡ true
          still true l e = waits_served (queue_of t k) (lined k l) i ∙ or_r (is_head (queue_of t k) i) e
          still false l e = e
