-- How slots change hands: what each seat holds after a change, and what each queue is. A change stores one held set, or one queue, or both,
-- so its law is that of an array after a store (`changed`). Handing on the slots of a set goes slot by slot, the smallest first: `Given` says
-- what comes of a table, and one slot more keeps it, since each slot is handed on once and touches no other slot's queue.
use Prim.Native.Nat.{ℕ, zero, suc, ◌<◌}
use mathlib.Core.Path.{◌≡◌, refl, sym, ap, ◌∙◌, subst}
use mathlib.Core.Bool.{Bool, true, false, not, cond, ◌&&◌, ◌||◌, or-false, and-true, and-false}
use mathlib.Core.List.{List}
use native.Mathlib.Omega.{arith}
use lib.Dec.{ltb, eqb}
use lib.ListN.{length, get_or, set, replicate, length-replicate, get_or-replicate, get_or-eq_default}
use lib.Seq.{get_or-set_same, get_or-set_other}
use borrow.Author.Tests.{ltb-true, ltb-false, eq-eqb, ne_eqb, eqb-true, eqb-false}
use Rattle.slots.specs.Sizes.{slots}
use Rattle.slots.specs.declared.set.SlotSet.{SlotSet}
use Rattle.slots.specs.Sets.{has, none, adding, removing, difference, size, is_empty, smallest}
use Rattle.slots.proofs.Truth.{alike, split}
use Rattle.slots.proofs.Members.{In, has_lt, has-adding, has-removing, has-difference}
use Rattle.slots.proofs.Counting.{size-removing, empty_out}
use Rattle.slots.proofs.Least.{smallest_some}
use Rattle.seats.specs.declared.queue.Queue.{Queue}
use Rattle.seats.specs.declared.slot_table.SlotTable.{SlotTable}
use Rattle.seats.specs.Queues.{seats, no_one, joined, served, head_of, is_head}
use Rattle.seats.specs.SlotTables.{all_free, no_queue, held_by, queue_of, with_held, with_queue}
use Rattle.seats.specs.SlotTables.{taken, joined_by, handed, handed_first, handed_on, released}
use Rattle.seats.proofs.Lines.{Line, line-none, served_zero, line-joined, line-served}
use Rattle.seats.proofs.Shape.{Whole, Lined, whole_held, whole_queue}

-- ---- an array after a change of its element i

changed : {A : Type 0} (f : A → A) (xs : List A) (i j : ℕ) (z : A) → (j ≡ i → i < length xs)
    → get_or (set xs i (f (get_or xs i z))) j z ≡ cond (eqb j i) (f (get_or xs j z)) (get_or xs j z)
changed f xs i j z h =
    split (eqb j i)
    (λ e. let q : j ≡ i = eqb-true j i e in rw (e, q) (get_or-set_same xs i (f (get_or xs i z)) z (h q)))
    (λ e. rw e (get_or-set_other xs i j (f (get_or xs i z)) z (eqb-false j i e)))

turned : (a b : ℕ) → eqb a b ≡ eqb b a
turned a b = alike (λ e. eq-eqb b a (sym (eqb-true a b e))) (λ e. eq-eqb a b (sym (eqb-true b a e)))

-- ---- the table where every slot is free

pub whole_free : Whole all_free
unfolding all_free
whole_free = record { held16 = length-replicate seats none; queues64 = length-replicate slots no_one }

pub queue_free : (k : ℕ) → k < slots → queue_of all_free k ≡ no_one
unfolding all_free
queue_free k h = get_or-replicate slots k no_one no_queue h

pub held_free : (j : ℕ) → held_by all_free j ≡ none
unfolding all_free
held_free j =
    split (ltb j seats) (λ e. get_or-replicate seats j none none (ltb-true j seats e))
    (λ e. get_or-eq_default (replicate seats none) none (ltb-false j seats e))

pub lined_free : Lined all_free
lined_free k h = rw (queue_free k h) line-none

-- ---- seat i takes slot s

module _ (t : SlotTable) (i s : ℕ) where
  pub whole_taken : Whole t → Whole (taken t i s)
  unfolding taken
  whole_taken w = whole_held t w _ _

  pub queue_taken : (k : ℕ) → queue_of (taken t i s) k ≡ queue_of t k
  unfolding taken
  queue_taken k = refl

  pub held-taken : Whole t → s < slots → (j k : ℕ) → j < seats → has (held_by (taken t i s) j) k ≡ (has (held_by t j) k || (eqb k s && eqb i j))
  unfolding taken
  held-taken w h j k l =
      ap (λ (S : SlotSet). has S k) (changed (λ S. adding S s) t.held i j none (λ q. omega (arith, w.held16)))
      ∙ rw (turned j i) (more (eqb i j))
    where
      more : (b : Bool) → has (cond b (adding (held_by t j) s) (held_by t j)) k ≡ (has (held_by t j) k || (eqb k s && b))
      more true = has-adding (held_by t j) s k h ∙ ap (λ (b : Bool). has (held_by t j) k || b) (sym (and-true (eqb k s)))
      more false = sym (rw (and-false (eqb k s)) (or-false (has (held_by t j) k)))

  pub lined_taken : Lined t → Lined (taken t i s)
  lined_taken l k h = rw (queue_taken k) (l k h)

-- ---- where some queues are changed by f, which keeps lines

lined_by : (t u : SlotTable) (f : Queue → Queue) (b : ℕ → Bool) → ((q : Queue) → Line q → Line (f q))
    → ((k : ℕ) → queue_of u k ≡ cond (b k) (f (queue_of t k)) (queue_of t k)) → Lined t → Lined u
lined_by t u f b keeps e l k h = rw (e k) (either (b k))
  where
    either : (c : Bool) → Line (cond c (f (queue_of t k)) (queue_of t k))
    either true = keeps (queue_of t k) (l k h)
    either false = l k h

-- ---- seat i joins the queue of slot s

module _ (t : SlotTable) (i s : ℕ) where
  pub whole_joined : Whole t → Whole (joined_by t i s)
  unfolding joined_by
  whole_joined w = whole_queue t w _ _

  pub queue_joined : Whole t → s < slots → (k : ℕ) → queue_of (joined_by t i s) k ≡ cond (eqb k s) (joined (queue_of t k) i) (queue_of t k)
  unfolding joined_by
  queue_joined w h k = changed (λ q. joined q i) t.queues s k no_queue (λ e. omega (arith, w.queues64))

  pub held-joined : (j : ℕ) → held_by (joined_by t i s) j ≡ held_by t j
  unfolding joined_by
  held-joined j = refl

  pub lined_joined : Whole t → s < slots → Lined t → Lined (joined_by t i s)
  lined_joined w h = lined_by t (joined_by t i s) (λ q. joined q i) (λ k. eqb k s) (λ q l. line-joined q l i) (queue_joined w h)

-- ---- slot s is handed on

-- what is asked of slot s where slot k is s
same_slot : (f : ℕ → Bool) (k s : ℕ) → (eqb k s && f s) ≡ (eqb k s && f k)
same_slot f k s = split (eqb k s) (λ e. rw (e, eqb-true k s e)) (λ e. rw e)

module _ (t : SlotTable) (s : ℕ) (w : Whole t) (h : s < slots) where
  -- the queue is served, and then its head takes the slot
  serving : SlotTable
  serving = with_queue t s (served (queue_of t s))

  whole_serving : Whole serving
  unfolding serving
  whole_serving = whole_queue t w _ _

  pub whole_handed : Whole (handed t s)
  unfolding handed
  whole_handed = split (eqb (queue_of t s).len 0) (λ e. rw e w) (λ e. rw e (whole_taken _ _ _ (whole_queue t w _ _)))

  pub queue_handed : (k : ℕ) → queue_of (handed t s) k ≡ cond (eqb k s) (served (queue_of t k)) (queue_of t k)
  unfolding handed taken
  queue_handed k =
      split (eqb (queue_of t s).len 0)
      (λ e. rw e (split (eqb k s) (λ q. rw (q, eqb-true k s q, served_zero (queue_of t s) (eqb-true (queue_of t s).len 0 e))) (λ q. rw q)))
      (λ e. rw e (changed served t.queues s k no_queue (λ q. omega (arith, w.queues64))))

  pub held-handed : (j k : ℕ) → j < seats → has (held_by (handed t s) j) k ≡ (has (held_by t j) k || (eqb k s && is_head (queue_of t k) j))
  unfolding handed serving is_head
  held-handed j k l =
      split (eqb (queue_of t s).len 0)
      (λ e. rw e (sym (rw (and-false (eqb k s)) (or-false (has (held_by t j) k)))))
      (λ e. rw e (held-taken serving (head_of (queue_of t s)) s whole_serving h j k l))
      ∙ ap (λ (b : Bool). has (held_by t j) k || b) (same_slot (λ x. is_head (queue_of t x) j) k s)

-- ---- the slots of R are handed on

pub hand_end : (t : SlotTable) (R : SlotSet) → is_empty R ≡ true → handed_on t R ≡ t
unfolding handed_on handed_first is_empty
hand_end t R e = ap (λ (n : ℕ). handed_first n t R) (eqb-true (size R) 0 e)

-- the smallest goes first, and then the others are to be handed on
pub size_step : (R : SlotSet) → is_empty R ≡ false → size R ≡ suc (size (removing R (smallest R)))
size_step R e = omega (arith, size-removing R (smallest R) (smallest_some R e))

pub hand_step : (t : SlotTable) (R : SlotSet) → is_empty R ≡ false → handed_on t R ≡ handed_on (handed t (smallest R)) (removing R (smallest R))
unfolding handed_on handed_first
hand_step t R e = ap (λ (n : ℕ). handed_first n t R) (size_step R e)

-- u is what comes of the table t
record Given (t : SlotTable) (R : SlotSet) (u : SlotTable) : Type 0 where
  whole : Whole u
  queue : (k : ℕ) → queue_of u k ≡ cond (has R k) (served (queue_of t k)) (queue_of t k)
  holds : (j k : ℕ) → j < seats → has (held_by u j) k ≡ (has (held_by t j) k || (has R k && is_head (queue_of t k) j))

given_none : (t : SlotTable) (R : SlotSet) → Whole t → is_empty R ≡ true → Given t R t
given_none t R w e =
    record {
      whole = w;
      queue = λ k. rw (empty_out R k e);
      holds = λ j k l. rw (empty_out R k e) (sym (or-false (has (held_by t j) k)));
    }

-- a slot m of R first, and then the others: at slot k, where e says that k is m, r that k is in R, and a that the seat held k
queue_then : (q : Queue) (e r : Bool) → (e ≡ true → r ≡ true)
    → cond (r && not e) (served (cond e (served q) q)) (cond e (served q) q) ≡ cond r (served q) q
queue_then q true r h = rw (h refl)
queue_then q false r h = rw (and-true r)

holds_then : (q : Queue) (j : ℕ) (a e r : Bool) → (e ≡ true → r ≡ true)
    → ((a || (e && is_head q j)) || ((r && not e) && is_head (cond e (served q) q) j)) ≡ (a || (r && is_head q j))
holds_then q j a true r h = rw (h refl) (or-false (a || is_head q j))
holds_then q j a false r h = rw (and-true r, or-false a)

given_more : (t u : SlotTable) (R : SlotSet) (m : ℕ) → Whole t → In R m → Given (handed t m) (removing R m) u → Given t R u
given_more t u R m w i g =
    let h : m < slots = has_lt R m i in
    record {
      whole = g.whole;
      queue = λ k. g.queue k
          ∙ rw (queue_handed t m w h k, has-removing R m k) (queue_then (queue_of t k) (eqb k m) (has R k) (there k));
      holds = λ j k l. g.holds j k l
          ∙ rw (held-handed t m w h j k l, queue_handed t m w h k, has-removing R m k)
          (holds_then (queue_of t k) j (has (held_by t j) k) (eqb k m) (has R k) (there k));
    }
  where
    there : (k : ℕ) → eqb k m ≡ true → In R k
    there k e = subst (In R) (sym (eqb-true k m e)) i

given : (n : ℕ) (t : SlotTable) (R : SlotSet) → size R ≡ n → Whole t → Given t R (handed_on t R)
unfolding is_empty
given zero t R e w =
    let o : is_empty R ≡ true = eq-eqb (size R) 0 e in
    subst (Given t R) (sym (hand_end t R o)) (given_none t R w o)
given (suc n) t R e w =
    let o : is_empty R ≡ false = ne_eqb (size R) 0 (λ z. omega arith) in
    let m = smallest R in
    let i : In R m = smallest_some R o in
    let rest = given n (handed t m) (removing R m) (omega (arith, size_step R o)) (whole_handed t m w (has_lt R m i)) in
    subst (Given t R) (sym (hand_step t R o)) (given_more t (handed_on (handed t m) (removing R m)) R m w i rest)

module _ (t : SlotTable) (R : SlotSet) (w : Whole t) where
  pub whole_on : Whole (handed_on t R)
  whole_on = (given (size R) t R refl w).whole

  pub queue_on : (k : ℕ) → queue_of (handed_on t R) k ≡ cond (has R k) (served (queue_of t k)) (queue_of t k)
  queue_on = (given (size R) t R refl w).queue

  pub held_on : (j k : ℕ) → j < seats → has (held_by (handed_on t R) j) k ≡ (has (held_by t j) k || (has R k && is_head (queue_of t k) j))
  held_on = (given (size R) t R refl w).holds

  pub lined_on : Lined t → Lined (handed_on t R)
  lined_on = lined_by t (handed_on t R) served (has R) line-served queue_on

-- ---- seat i releases the slots of R: it loses them, and then they are handed on

module _ (t : SlotTable) (i : ℕ) (R : SlotSet) (w : Whole t) where
  losing : SlotTable
  losing = with_held t i (difference (held_by t i) R)

  whole_losing : Whole losing
  unfolding losing
  whole_losing = whole_held t w _ _

  held_losing : (j k : ℕ) → j < seats → has (held_by losing j) k ≡ (has (held_by t j) k && not (eqb i j && has R k))
  unfolding losing
  held_losing j k l =
      ap (λ (S : SlotSet). has S k) (changed (λ S. difference S R) t.held i j none (λ q. omega (arith, w.held16)))
      ∙ rw (turned j i) (less (eqb i j))
    where
      less : (b : Bool) → has (cond b (difference (held_by t j) R) (held_by t j)) k ≡ (has (held_by t j) k && not (b && has R k))
      less true = has-difference (held_by t j) R k
      less false = sym (and-true (has (held_by t j) k))

  pub whole_released : Whole (released t i R)
  unfolding released losing
  whole_released = whole_on losing R whole_losing

  pub queue_released : (k : ℕ) → queue_of (released t i R) k ≡ cond (has R k) (served (queue_of t k)) (queue_of t k)
  unfolding released losing
  queue_released k = queue_on losing R whole_losing k

  pub held-released : (j k : ℕ) → j < seats
      → has (held_by (released t i R) j) k ≡ ((has (held_by t j) k && not (eqb i j && has R k)) || (has R k && is_head (queue_of t k) j))
  unfolding released losing
  held-released j k l =
      held_on losing R whole_losing j k l ∙ ap (λ (b : Bool). b || (has R k && is_head (queue_of t k) j)) (held_losing j k l)

  pub lined_released : Lined t → Lined (released t i R)
  unfolding released losing
  lined_released l = lined_on losing R whole_losing l
