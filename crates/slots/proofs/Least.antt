-- The smallest slot of a set, from its members alone: nothing in the set is before it, it is in the set if anything is, and it is 64 for
-- the empty set. All of that is said by `first` of the test `has S`. At the end, when nothing of a set is above a slot.
use Prim.Native.Nat.{ℕ, ◌≤◌, ◌<◌}
use mathlib.Core.Path.{◌≡◌}
use mathlib.Core.Bool.{true, false}
use native.Mathlib.Omega.{arith}
use lib.Dec.{ltb}
use borrow.Author.Tests.{ltb-true, ltb-false}
use Rattle.slots.specs.Sizes.{slots}
use Rattle.slots.specs.Sets.{has, above, is_empty, smallest}
use Rattle.slots.specs.declared.set.SlotSet.{SlotSet}
use Rattle.slots.proofs.Truth.{is_true, not_both, split}
use Rattle.slots.proofs.Tally.{first_le, first-before, first_passes}
use Rattle.slots.proofs.Members.{In, in_not_out, out, has_lt, in_above, out_above}
use Rattle.slots.proofs.Counting.{empty_out, none_empty}

pub smallest_at_most : (S : SlotSet) → smallest S ≤ slots
unfolding smallest
smallest_at_most S = first_le slots (has S)

pub smallest_le : (S : SlotSet) (t : ℕ) → In S t → smallest S ≤ t
unfolding smallest
smallest_le S t e = first-before slots (has S) t (has_lt S t e) e

-- a smallest below 64 is in the set
smallest_lt : (S : SlotSet) → smallest S < slots → In S (smallest S)
unfolding smallest
smallest_lt S l = first_passes slots (has S) l

pub smallest_in : (S : SlotSet) (t : ℕ) → In S t → In S (smallest S)
smallest_in S t e = smallest_lt S (omega (arith, smallest_le S t e, has_lt S t e))

pub smallest_some : (S : SlotSet) → is_empty S ≡ false → In S (smallest S)
smallest_some S n =
    is_true (λ o. not_both (none_empty S (λ t. out S t (λ e. in_not_out S (smallest S) (smallest_in S t e) o))) n)

pub smallest-none : (S : SlotSet) → is_empty S ≡ true → smallest S ≡ slots
smallest-none S z =
    split (ltb (smallest S) slots)
    (λ l. absurd (in_not_out S (smallest S) (smallest_lt S (ltb-true (smallest S) slots l)) (empty_out S (smallest S) z)))
    (λ l. omega (arith, ltb-false (smallest S) slots l, smallest_at_most S))

pub smallest_is : (S : SlotSet) (m : ℕ) → In S m → ((t : ℕ) → In S t → m ≤ t) → smallest S ≡ m
smallest_is S m e h = omega (arith, smallest_le S m e, h (smallest S) (smallest_in S m e))

-- ---- nothing above s

pub above-none : (S : SlotSet) (s : ℕ) → ((t : ℕ) → In S t → t ≤ s) → is_empty (above S s) ≡ true
above-none S s h = none_empty (above S s) (λ t. out (above S s) t (λ a. let e = in_above S s t a in omega (arith, h t e.0, e.1)))

pub none_above : (S : SlotSet) (s t : ℕ) → is_empty (above S s) ≡ true → In S t → t ≤ s
none_above S s t z e = out_above S s t e (empty_out (above S s) t z)
