-- A step of one seat leaves the others alone, but for slots that are handed to them: taking a slot and joining a queue change what that seat
-- holds and where it waits, and a released slot goes to a seat that waited for it, so that what a seat holds or waits for stays the same.
use Prim.Native.Nat.{ℕ, ◌<◌}
use mathlib.Core.Path.{◌≡◌, refl, sym, ap, ap₂, ◌∙◌}
use mathlib.Core.Bool.{Bool, true, false, not, cond, ◌&&◌, ◌||◌, or-false, and-true, and-false}
use lib.Dec.{eqb}
use lib.ListN.{length}
use borrow.Author.Tests.{eq-eqb, ne_eqb, eqb-true}
use Rattle.slots.specs.Sizes.{slots}
use Rattle.slots.specs.declared.set.SlotSet.{SlotSet}
use Rattle.slots.specs.Sets.{has}
use Rattle.slots.proofs.Truth.{or_r, is_false, not_both, split}
use Rattle.seats.specs.declared.queue.Queue.{Queue}
use Rattle.seats.specs.declared.slot_table.SlotTable.{SlotTable}
use Rattle.seats.specs.Queues.{seats, entries, waits_in, served, is_head}
use Rattle.seats.specs.SlotTables.{queue_of, taken, joined_by, released}
use Rattle.seats.proofs.Lines.{Line, waits_joined, waits_served}
use Rattle.seats.proofs.Shape.{Whole, Lined}
use Rattle.seats.proofs.Hands.{held-taken, queue_taken, queue_joined, held-joined, held-released, queue_released}
use Rattle.promises.proofs.FigureAlike.{holds, waits, Kept}

module _ (T : SlotTable) (w : Whole T) (i : ℕ) where
  pub waits_taken : (h j s : ℕ) → waits (taken T i h) j s ≡ waits T j s
  waits_taken h j s = ap (λ (q : Queue). waits_in q j) (queue_taken T i h s)

  module _ (h : ℕ) (l : h < slots) (line : Line (queue_of T h)) (room : length (entries (queue_of T h)) < seats) where
    waits_joined_by : (j s : ℕ) → waits (joined_by T i h) j s ≡ (waits T j s || (eqb s h && eqb i j))
    waits_joined_by j s =
        ap (λ (q : Queue). waits_in q j) (queue_joined T i h w l s)
        ∙ split (eqb s h)
        (λ e. rw (e, eqb-true s h e) (waits_joined (queue_of T h) line i j room))
        (λ e. rw e (sym (or-false (waits T j s))))

  -- ---- seat i itself

  module _ (b : i < seats) (h : ℕ) (l : h < slots) where
    pub own_taken : (s : ℕ) → holds (taken T i h) i s ≡ (holds T i s || eqb s h)
    own_taken s = held-taken T i h w l i s b ∙ rw (eq-eqb i i refl, and-true (eqb s h))

    pub own_joined : Line (queue_of T h) → length (entries (queue_of T h)) < seats
        → (s : ℕ) → waits (joined_by T i h) i s ≡ (waits T i s || eqb s h)
    own_joined line room s = waits_joined_by h l line room i s ∙ rw (eq-eqb i i refl, and-true (eqb s h))

  -- who waits in no queue is in none after a release
  pub calm_released : Lined T → (S : SlotSet) (j s : ℕ) → s < slots → waits T j s ≡ false → waits (released T i S) j s ≡ false
  calm_released lines S j s l e = rw (queue_released T i S w s) (either (has S s))
    where
      either : (r : Bool) → waits_in (cond r (served (queue_of T s)) (queue_of T s)) j ≡ false
      either true = is_false (λ m. not_both (waits_served (queue_of T s) (lines s l) j ∙ or_r (is_head (queue_of T s) j) m) e)
      either false = e

  -- ---- the others

  module _ (j : ℕ) (b : j < seats) (n : j ≡ i → ⊥) where
    other : eqb i j ≡ false
    other = ne_eqb i j (λ e. n (sym e))

    pub kept_same : Kept T T j
    kept_same = record { near = λ s l. refl; calm = λ s l e. e }

    pub kept_taken : (h : ℕ) → h < slots → Kept T (taken T i h) j
    kept_taken h l =
        record {
          near = λ s m. rw (held-taken T i h w l j s b, waits_taken h j s, other, and-false (eqb s h), or-false (holds T j s));
          calm = λ s m e. waits_taken h j s ∙ e;
        }

    pub kept_joined : (h : ℕ) → h < slots → Line (queue_of T h) → length (entries (queue_of T h)) < seats → Kept T (joined_by T i h) j
    kept_joined h l line room =
        let same : (s : ℕ) → waits (joined_by T i h) j s ≡ waits T j s =
        λ s. waits_joined_by h l line room j s ∙ rw (other, and-false (eqb s h)) (or-false (waits T j s)) in
        record {
          near = λ s m. ap₂ (λ (a c : Bool). a || c) (ap (λ (S : SlotSet). has S s) (held-joined T i h j)) (same s);
          calm = λ s m e. same s ∙ e;
        }

    module _ (lines : Lined T) (S : SlotSet) where
      near_by : (q : Queue) → Line q → (a r : Bool)
          → (((a && not (false && r)) || (r && is_head q j)) || waits_in (cond r (served q) q) j) ≡ (a || waits_in q j)
      near_by q l true r = refl
      near_by q l false true = sym (waits_served q l j)
      near_by q l false false = refl

      pub kept_released : Kept T (released T i S) j
      kept_released =
          record {
            near = λ s m. rw (held-released T i S w j s b, queue_released T i S w s, other)
                (near_by (queue_of T s) (lines s m) (holds T j s) (has S s));
            calm = calm_released lines S j;
          }
