-- Slot tables that are alike stay alike. After each change, what every seat holds and what every queue is follows from what seats held and
-- what queues were, slot by slot; of a queue a change asks who is head and what entries it has, and these are the same.
use Prim.Native.Nat.{ℕ, ◌<◌}
use mathlib.Core.Path.{◌≡◌, refl, sym, ap, ap₂, ◌∙◌}
use mathlib.Core.Bool.{Bool, true, false, not, cond, ◌&&◌, ◌||◌}
use lib.Dec.{ltb, eqb}
use borrow.Author.Tests.{ltb-true, ltb-false}
use Rattle.slots.specs.Sizes.{slots}
use Rattle.slots.specs.declared.set.SlotSet.{SlotSet}
use Rattle.slots.specs.Sets.{has, above}
use Rattle.slots.proofs.Truth.{split}
use Rattle.slots.proofs.Members.{has_lt, has_above}
use Rattle.seats.specs.declared.queue.Queue.{Queue}
use Rattle.seats.specs.declared.slot_table.SlotTable.{SlotTable}
use Rattle.seats.specs.Queues.{seats, entries, waits_in, joined, served, is_head}
use Rattle.seats.specs.SlotTables.{held_by, queue_of, owned, taken, joined_by, released}
use Rattle.seats.proofs.Shape.{Whole, Lined, no_queue_lem}
use Rattle.seats.proofs.Hands.{held-taken, queue_taken, held-joined, queue_joined, held-released, queue_released}
use Rattle.seats.proofs.Owned.{owned_same}
use Rattle.course.specs.declared.cases.Case.{Case}
use Rattle.course.specs.declared.cases.Case.TheVariants as case
use Rattle.course.specs.Steps.{slots_after}
use Rattle.upkeep.proofs.Unqueued.{Small}
use Rattle.upkeep.proofs.AlikeQueues.{same_waits, same_head, same_served, same_joined}

-- sets with the same members
pub above_alike : (R S : SlotSet) → ((k : ℕ) → has R k ≡ has S k) → (s k : ℕ) → has (above R s) k ≡ has (above S s) k
above_alike R S e s k = has_above R s k ∙ ap (λ (b : Bool). b && ltb s k) (e k) ∙ sym (has_above S s k)

pub record AlikeSlots (t u : SlotTable) : Type 0 where
  pub holds : (i s : ℕ) → i < seats → has (held_by t i) s ≡ has (held_by u i) s
  pub queues : (s : ℕ) → s < slots → entries (queue_of t s) ≡ entries (queue_of u s)

-- the entries of one of two queues
entries_cond : (b c : Bool) (q q' p p' : Queue) → b ≡ c → entries q ≡ entries p → entries q' ≡ entries p'
    → entries (cond b q q') ≡ entries (cond c p p')
entries_cond true c q q' p p' e f g = rw (← e) f
entries_cond false c q q' p p' e f g = rw (← e) g

module _ (t u : SlotTable) (w : Whole t) (v : Whole u) (a : AlikeSlots t u) where
  pub owned_alike : (s : ℕ) → has (owned t) s ≡ has (owned u) s
  owned_alike s = owned_same u t s v w (λ j l. a.holds j s l)

  -- above 63 there is no queue
  pub waits_alike : (s j : ℕ) → waits_in (queue_of t s) j ≡ waits_in (queue_of u s) j
  waits_alike s j =
      split (ltb s slots) (λ e. same_waits (queue_of t s) (queue_of u s) (a.queues s (ltb-true s slots e)) j)
      (λ e. ap (λ (q : Queue). waits_in q j) (no_queue_lem t w s (ltb-false s slots e) ∙ sym (no_queue_lem u v s (ltb-false s slots e))))

  taken_alike : (i s : ℕ) → s < slots → AlikeSlots (taken t i s) (taken u i s)
  taken_alike i s h =
      record {
        holds = λ j k l. held-taken t i s w h j k l
            ∙ ap (λ (b : Bool). b || (eqb k s && eqb i j)) (a.holds j k l)
            ∙ sym (held-taken u i s v h j k l);
        queues = λ k l. ap entries (queue_taken t i s k) ∙ a.queues k l ∙ sym (ap entries (queue_taken u i s k));
      }

  module _ (l : Lined t) (m : Lined u) where
    joined_alike : (i s : ℕ) → s < slots → AlikeSlots (joined_by t i s) (joined_by u i s)
    joined_alike i s h =
        record {
          holds = λ j k b. ap (λ (S : SlotSet). has S k) (held-joined t i s j) ∙ a.holds j k b
              ∙ sym (ap (λ (S : SlotSet). has S k) (held-joined u i s j));
          queues = λ k b. ap entries (queue_joined t i s w h k)
              ∙ entries_cond (eqb k s) (eqb k s) (joined (queue_of t k) i) (queue_of t k) (joined (queue_of u k) i) (queue_of u k) refl
              (same_joined (queue_of t k) (queue_of u k) (l k b) (m k b) (a.queues k b) i) (a.queues k b)
              ∙ sym (ap entries (queue_joined u i s v h k));
        }

    module _ (i : ℕ) (R S : SlotSet) (e : (k : ℕ) → has R k ≡ has S k) where
      -- what seat j is handed: a slot of the set for which it is head
      handed_alike : (j k : ℕ) → (has R k && is_head (queue_of t k) j) ≡ (has S k && is_head (queue_of u k) j)
      handed_alike j k =
          split (has R k)
          (λ f. let b : k < slots = has_lt R k f in
          ap₂ (λ (x y : Bool). x && y) (e k) (same_head (queue_of t k) (queue_of u k) (l k b) (m k b) (a.queues k b) j))
          (λ f. let g : has S k ≡ false = sym (e k) ∙ f in rw (f, g))

      released_alike : AlikeSlots (released t i R) (released u i S)
      released_alike =
          record {
            holds = λ j k b. held-released t i R w j k b
                ∙ ap₂ (λ (x y : Bool). x || y)
                (ap₂ (λ (x y : Bool). x && not (eqb i j && y)) (a.holds j k b) (e k)) (handed_alike j k)
                ∙ sym (held-released u i S v j k b);
            queues = λ k b. ap entries (queue_released t i R w k)
                ∙ entries_cond (has R k) (has S k) (served (queue_of t k)) (queue_of t k) (served (queue_of u k)) (queue_of u k) (e k)
                (same_served (queue_of t k) (queue_of u k) (l k b) (m k b) (a.queues k b)) (a.queues k b)
                ∙ sym (ap entries (queue_released u i S v k));
          }

    pub slots_alike : (i : ℕ) → i < seats → (c : Case) → Small c → AlikeSlots (slots_after c t i) (slots_after c u i)
    unfolding slots_after
    slots_alike i b (case.Got s) h = taken_alike i s.0 h
    slots_alike i b case.Blocked h = a
    slots_alike i b (case.Queued s) h = joined_alike i s.0 h
    slots_alike i b case.Committed h = released_alike i (held_by t i) (held_by u i) (λ k. a.holds i k b)
    slots_alike i b case.Ran h = a
    slots_alike i b (case.Took s) h = taken_alike i s.0 h
    slots_alike i b case.Failed h = released_alike i (held_by t i) (held_by u i) (λ k. a.holds i k b)
    slots_alike i b (case.Restarted s) h =
        released_alike i (above (held_by t i) s.0) (above (held_by u i) s.0)
        (above_alike (held_by t i) (held_by u i) (λ k. a.holds i k b) s.0)
