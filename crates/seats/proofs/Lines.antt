-- Queues as lists: what `entries` are after each change, and with that who waits and who is head. A queue is used through these laws alone,
-- and only here is it seen that it is an array with a length. Joining puts the seat behind the entries, and serving a queue that is not
-- empty takes the first of them away (`front`); the laws on `waits_in` and `is_head` follow from the two by laws of lists.
use Prim.Native.Nat.{ℕ, suc, ◌+◌, ◌-◌, ◌≤◌, ◌<◌}
use mathlib.Core.Path.{◌≡◌, refl, sym, ap, ◌∙◌}
use mathlib.Core.Logic.{◌⊎◌, inl, inr, ⊎_elim}
use mathlib.Core.Bool.{Bool, true, false, not, ◌||◌, or_assoc, or-false}
use mathlib.Core.List.{List, [], ◌∷◌, ◌++◌}
use native.Mathlib.Omega.{arith}
use native.Mathlib.Numerals.{add-one}
use lib.Dec.{leb, eqb}
use lib.ListN.{length, take, drop, get_or, length-append, length-take, length-drop, length-set}
use lib.Seq.{take-append-le, take-suc-set}
use borrow.Author.Tests.{leb-true, leb-false, le-leb, lt-leb, eq-eqb, ne_eqb, eqb-true}
use Rattle.std.specs.List.{list_any}
use Rattle.slots.proofs.Truth.{and_r, or_l, not_both, split}
use Rattle.seats.specs.declared.queue.Queue.{Queue}
use Rattle.seats.specs.Queues.{seats, no_one, entries, is_entry, waits_in, joined, served, head_of, is_head}

-- a queue whose array is whole, and whose length is at most the array's
pub record Line (q : Queue) : Type 0 where
  pub array : length q.seats ≡ seats
  pub short : q.len ≤ seats

-- ---- lists

pub entry_append : (i : ℕ) (xs ys : List ℕ) → is_entry i (xs ++ ys) ≡ (is_entry i xs || is_entry i ys)
unfolding is_entry
entry_append i [] ys = refl
entry_append i (x ∷ xs) ys = ap (λ (b : Bool). eqb x i || b) (entry_append i xs ys) ∙ sym (or_assoc (eqb x i) (is_entry i xs) (is_entry i ys))

-- the first n + 1 of an array are its first, and n of the others, whatever is put behind them
take_first : (n : ℕ) (xs : List ℕ) → suc n ≤ length xs → take (suc n) xs ≡ get_or xs 0 0 ∷ take n (drop 1 xs ++ (0 ∷ []))
take_first n [] h = absurd (omega arith)
take_first n (x ∷ xs) h = ap (λ (l : List ℕ). x ∷ l) (sym (take-append-le n xs (0 ∷ []) (omega arith)))

-- what `contains` answers at a list
pub entry_any : (i : ℕ) (xs : List ℕ) → list_any (λ y. eqb y i) xs ≡ is_entry i xs
unfolding is_entry
entry_any i [] = refl
entry_any i (x ∷ xs) = ap (λ (b : Bool). eqb x i || b) (entry_any i xs)

-- ---- the queue that no one waits in

pub line-none : Line no_one
unfolding no_one
line-none = record { array = refl; short = omega arith }

pub entries_none : entries no_one ≡ []
unfolding entries no_one
entries_none = refl

-- ---- of any queue

pub waits_none : (q : Queue) → entries q ≡ [] → (j : ℕ) → waits_in q j ≡ false
unfolding waits_in is_entry
waits_none q e j = ap (is_entry j) e

pub served_zero : (q : Queue) → q.len ≡ 0 → served q ≡ q
unfolding served
served_zero q e = rw (eq-eqb q.len 0 e)

pub head_same : (q : Queue) (i j : ℕ) → is_head q i ≡ true → is_head q j ≡ true → i ≡ j
unfolding is_head
head_same q i j e f =
    let some : Bool = not (eqb q.len 0) in
    sym (eqb-true (head_of q) i (and_r some (eqb (head_of q) i) e)) ∙ eqb-true (head_of q) j (and_r some (eqb (head_of q) j) f)

module _ (q : Queue) (l : Line q) where
  -- ---- how many wait

  pub entries_length : length (entries q) ≡ q.len
  unfolding entries
  entries_length = simp length-take (omega (arith, l.array, l.short))

  pub entries_le : length (entries q) ≤ seats
  entries_le = omega (arith, entries_length, l.short)

  -- ---- joining

  pub joined_full : (i : ℕ) → seats ≤ length (entries q) → joined q i ≡ q
  unfolding joined
  joined_full i h = rw (le-leb seats q.len (omega (arith, entries_length)))

  pub entries-joined : (i : ℕ) → length (entries q) < seats → entries (joined q i) ≡ entries q ++ (i ∷ [])
  unfolding joined entries
  entries-joined i h =
      let s : q.len < seats = omega (arith, entries_length) in
      rw (lt-leb seats q.len s, add-one) (take-suc-set q.seats q.len i (omega (arith, l.array)))

  pub length_joined : (i : ℕ) → length (entries q) < seats → length (entries (joined q i)) ≡ length (entries q) + 1
  length_joined i h = ap length (entries-joined i h) ∙ length-append (entries q) (i ∷ [])

  pub waits_joined : (i j : ℕ) → length (entries q) < seats → waits_in (joined q i) j ≡ (waits_in q j || eqb i j)
  unfolding waits_in is_entry
  waits_joined i j h =
      ap (is_entry j) (entries-joined i h) ∙ entry_append j (entries q) (i ∷ [])
      ∙ ap (λ (b : Bool). is_entry j (entries q) || b) (or-false (eqb i j))

  pub line-joined : (i : ℕ) → Line (joined q i)
  unfolding joined
  line-joined i =
      split (leb seats q.len) (λ e. rw e l)
      (λ e. rw e (record { array = simp length-set l.array; short = omega (arith, leb-false seats q.len e) }))

  -- ---- serving

  pub line-served : Line (served q)
  unfolding served
  line-served =
      split (eqb q.len 0) (λ e. rw e l)
      (λ e. rw e (record { array = simp (length-append, length-drop) (omega (arith, l.array)); short = omega (arith, l.short) }))

  pub served-none : entries q ≡ [] → served q ≡ q
  served-none e = served_zero q (sym entries_length ∙ ap length e)

  pub head_none : entries q ≡ [] → (j : ℕ) → is_head q j ≡ false
  unfolding is_head
  head_none e j = rw (eq-eqb q.len 0 (sym entries_length ∙ ap length e))

  -- the first entry is the head, and the others are left
  front : 0 < length (entries q) → entries q ≡ head_of q ∷ entries (served q)
  unfolding head_of entries served
  front h =
      let some : 0 < q.len = omega (arith, entries_length) in
      let one : q.len ≡ suc (q.len - 1) = omega arith in
      rw (ne_eqb q.len 0 (λ z. omega arith))
      (ap (λ (n : ℕ). take n q.seats) one ∙ take_first (q.len - 1) q.seats (omega (arith, l.array, l.short)))

  pub entries_cases : (entries q ≡ []) ⊎ (entries q ≡ head_of q ∷ entries (served q))
  entries_cases = go (entries q) refl
    where
      go : (xs : List ℕ) → entries q ≡ xs → (entries q ≡ []) ⊎ (entries q ≡ head_of q ∷ entries (served q))
      go [] e = inl e
      go (x ∷ xs) e = inr (front (rw e (omega arith)))

  module _ (x : ℕ) (xs : List ℕ) (e : entries q ≡ x ∷ xs) where
    first : entries q ≡ head_of q ∷ entries (served q)
    first = front (rw e (omega arith))

    pub entries-served : entries (served q) ≡ xs
    entries-served = cc first

    pub head_of_lem : head_of q ≡ x
    head_of_lem = cc first

    pub head_first : (j : ℕ) → is_head q j ≡ eqb x j
    unfolding is_head
    head_first j = rw (ne_eqb q.len 0 (λ z. omega (arith, entries_length, ap length e)), head_of_lem)

  pub head_is : (j : ℕ) → is_head q j ≡ true → entries q ≡ j ∷ entries (served q)
  head_is j h =
      ⊎_elim (λ e. absurd (not_both h (head_none e j)))
      (λ e. let here : head_of q ≡ j = eqb-true (head_of q) j (sym (head_first (head_of q) (entries (served q)) e j) ∙ h) in rw (← here) e)
      entries_cases

  pub length_served : length (entries (served q)) ≡ length (entries q) - 1
  length_served = ⊎_elim (λ e. rw (served-none e, e)) (λ e. omega (arith, ap length e)) entries_cases

  -- who waits is the head, or waits still when the head is gone
  pub waits_served : (j : ℕ) → waits_in q j ≡ (is_head q j || waits_in (served q) j)
  unfolding waits_in is_entry
  waits_served j =
      ⊎_elim (λ e. rw (head_none e j, served-none e)) (λ e. rw (head_first (head_of q) (entries (served q)) e j) (ap (is_entry j) e)) entries_cases

  pub head_waits : (j : ℕ) → is_head q j ≡ true → waits_in q j ≡ true
  head_waits j h = waits_served j ∙ or_l (waits_in (served q) j) h

-- ---- the head after joining: the seat itself where nobody waited, and otherwise the head before

module _ (q : Queue) (l : Line q) (i j : ℕ) where
  pub head_joined-none : entries q ≡ [] → is_head (joined q i) j ≡ eqb i j
  head_joined-none e =
      let alone : entries (joined q i) ≡ i ∷ [] = entries-joined q l i (rw e (omega arith)) ∙ ap (λ (xs : List ℕ). xs ++ (i ∷ [])) e in
      head_first (joined q i) (line-joined q l i) i [] alone j

  pub head_joined_some : (x : ℕ) (xs : List ℕ) → entries q ≡ x ∷ xs → is_head (joined q i) j ≡ is_head q j
  head_joined_some x xs e =
      split (leb seats (length (entries q)))
      (λ f. ap (λ (p : Queue). is_head p j) (joined_full q l i (leb-true seats (length (entries q)) f)))
      (λ f. let behind : entries (joined q i) ≡ x ∷ (xs ++ (i ∷ [])) =
      entries-joined q l i (leb-false seats (length (entries q)) f) ∙ ap (λ (ys : List ℕ). ys ++ (i ∷ [])) e in
      head_first (joined q i) (line-joined q l i) x (xs ++ (i ∷ [])) behind j ∙ sym (head_first q l x xs e j))
