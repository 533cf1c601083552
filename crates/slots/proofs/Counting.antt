-- How many slots a set holds, from its members alone. One law does most: where the members are what passes one of two tests, and nothing
-- passes both, the set holds as many as the two together (`tally_join`). It counts a slot added or taken out, a union and a difference. A
-- set is empty if its size is 0, and that is if nothing is in it.
use Prim.Native.Nat.{ℕ, ◌+◌, ◌≤◌, ◌<◌}
use mathlib.Core.Path.{◌≡◌, refl, sym, ap, ◌∙◌, subst}
use mathlib.Core.Logic.{⊎_elim}
use mathlib.Core.Bool.{Bool, true, false, not, ◌&&◌, ◌||◌}
use native.Mathlib.Omega.{arith}
use lib.Dec.{eqb}
use borrow.Author.Tests.{not-true, eqb-true, eq-eqb}
use Rattle.slots.specs.Sizes.{slots}
use Rattle.slots.specs.Sets.{has, tally, none, adding, removing, union, difference, size, is_empty}
use Rattle.slots.specs.declared.set.SlotSet.{SlotSet}
use Rattle.slots.proofs.Truth.{and_r, is_false, not_both, alike}
use Rattle.slots.proofs.Tally.{tally_same, tally-none, tally_join, tally_mono, tally_le, tally_one}
use Rattle.slots.proofs.Members.{In, Out, in_not_out, out, has_lt, has-none, has-adding, in_adding, adding_keeps, has-removing}
use Rattle.slots.proofs.Members.{has-union, has-difference}

pub size_le : (S : SlotSet) → size S ≤ slots
unfolding size
size_le S = tally_le slots (has S)

pub size_same : (S R : SlotSet) → ((t : ℕ) → has S t ≡ has R t) → size S ≡ size R
unfolding size
size_same S R h = tally_same slots (has S) (has R) (λ t l. h t)

pub size_mono : (S R : SlotSet) → ((t : ℕ) → In S t → In R t) → size S ≤ size R
unfolding size
size_mono S R h = tally_mono slots (has S) (has R) (λ t l. h t)

-- ---- more slots

pub size-union : (S R : SlotSet) → ((t : ℕ) → In S t → In R t → ⊥) → size (union S R) ≡ size S + size R
unfolding size
size-union S R d = tally_join slots (has S) (has R) (has (union S R)) (λ t l. has-union S R t) (λ t l. d t)

pub size-adding : (S : SlotSet) (s : ℕ) → s < slots → Out S s → size (adding S s) ≡ size S + 1
unfolding size
size-adding S s h o =
    tally_join slots (has S) (λ t. eqb t s) (has (adding S s)) (λ t l. has-adding S s t h)
    (λ t l e q. in_not_out S s (subst (In S) (eqb-true t s q) e) o)
    ∙ ap (λ (n : ℕ). tally (has S) slots + n) (tally_one slots s h)

pub size-adding_in : (S : SlotSet) (s : ℕ) → In S s → size (adding S s) ≡ size S
size-adding_in S s e =
    size_same (adding S s) S
    (λ t. alike (λ a. ⊎_elim (λ p. p) (λ q. subst (In S) (sym q) e) (in_adding S s t a)) (adding_keeps S s t))

-- a part that lacks a member is smaller: with the member it is still a part
pub size_part : (S R : SlotSet) (s : ℕ) → ((t : ℕ) → In S t → In R t) → In R s → Out S s → size S < size R
size_part S R s h r o =
    let more : size (adding S s) ≤ size R =
    size_mono (adding S s) R (λ t a. ⊎_elim (h t) (λ q. subst (In R) (sym q) r) (in_adding S s t a)) in
    omega (arith, size-adding S s (has_lt R s r) o)

-- ---- fewer slots: a set is what is left of it, and what was taken

left : (a b : Bool) → (b ≡ true → a ≡ true) → a ≡ (a && not b || b)
left true true k = refl
left true false k = refl
left false true k = k refl
left false false k = refl

size_left : (S R : SlotSet) (p : ℕ → Bool) → ((t : ℕ) → has R t ≡ (has S t && not (p t))) → ((t : ℕ) → p t ≡ true → In S t)
    → size R + tally p slots ≡ size S
unfolding size
size_left S R p e h =
    sym (tally_join slots (has R) p (has S) (λ t l. left (has S t) (p t) (h t) ∙ ap (λ (b : Bool). b || p t) (sym (e t)))
    (λ t l r q. not_both q (not-true (p t) (and_r (has S t) (not (p t)) (sym (e t) ∙ r)))))

pub size-removing : (S : SlotSet) (s : ℕ) → In S s → size (removing S s) + 1 ≡ size S
size-removing S s e =
    ap (λ (n : ℕ). size (removing S s) + n) (sym (tally_one slots s (has_lt S s e)))
    ∙ size_left S (removing S s) (λ t. eqb t s) (has-removing S s) (λ t q. subst (In S) (sym (eqb-true t s q)) e)

pub size-difference : (S R : SlotSet) → ((t : ℕ) → In R t → In S t) → size (difference S R) + size R ≡ size S
unfolding size
size-difference S R h = size_left S (difference S R) (has R) (has-difference S R) h

-- ---- none

pub size_pos : (S : SlotSet) (t : ℕ) → In S t → 0 < size S
size_pos S t e = omega (arith, size-removing S t e)

pub size_zero : (S : SlotSet) → size S ≡ 0 → (t : ℕ) → Out S t
size_zero S z t = out S t (λ e. omega (arith, size_pos S t e))

pub size_out : (S : SlotSet) → ((t : ℕ) → Out S t) → size S ≡ 0
unfolding size
size_out S h = tally-none slots (has S) (λ t l. h t)

pub size_none : size none ≡ 0
size_none = size_out none has-none

pub empty_out : (S : SlotSet) (t : ℕ) → is_empty S ≡ true → Out S t
unfolding is_empty
empty_out S t e = size_zero S (eqb-true (size S) 0 e) t

pub none_empty : (S : SlotSet) → ((t : ℕ) → Out S t) → is_empty S ≡ true
unfolding is_empty
none_empty S h = eq-eqb (size S) 0 (size_out S h)

pub not_empty : (S : SlotSet) (t : ℕ) → In S t → is_empty S ≡ false
not_empty S t e = is_false (λ z. in_not_out S t e (empty_out S t z))
