-- The members of a set. Below 64 the members of `set_of p` are what passes `p` (`has_set`); what is in each operation follows from that by
-- laws of Booleans, first as an equation, then as rules on what is in and what is out. Two sets of the code with the same members are the
-- same set, since a number below 2 ^ 64 is its 64 digits.
use Prim.Native.Nat.{ℕ, ◌^◌, ◌≤◌, ◌<◌}
use mathlib.Core.Path.{◌≡◌, refl, sym, ap, ◌∙◌}
use mathlib.Core.Logic.{◌⊎◌, inl, inr, ⊎_elim}
use mathlib.Core.Bool.{Bool, true, false, not, ◌&&◌, ◌||◌, and-true, and-false, or-false, and_assoc, and_self_left, and-or_distrib_left}
use native.Mathlib.Omega.{arith}
use lib.Dec.{ltb, eqb}
use borrow.Author.Tests.{not-true, ltb-true, ltb-false, lt-ltb, eqb-true, eqb-false, eq-eqb, ne_eqb}
use Rattle.slots.specs.Sizes.{slots}
use Rattle.slots.specs.Sets.{digits, digit, has, set_of, none, adding, removing, above, union, difference}
use Rattle.slots.specs.declared.set.SlotSet.{SlotSet}
use Rattle.slots.proofs.Truth.{and_l, and_r, and_i, or_l, or_r, or_cases, is_false, not_both, alike, split}
use Rattle.slots.proofs.Digits.{digit-pack, pack_lt, digit_zero, same_digits}

-- slot t is in the set S, and is not
abbrev pub In : SlotSet → ℕ → Type 0
In S t = has S t ≡ true

abbrev pub Out : SlotSet → ℕ → Type 0
Out S t = has S t ≡ false

pub in_not_out : (S : SlotSet) (t : ℕ) → In S t → Out S t → ⊥
in_not_out S t p q = not_both p q

pub out : (S : SlotSet) (t : ℕ) → (In S t → ⊥) → Out S t
out S t h = is_false h

-- every set of the code is a number of 64 digits
abbrev pub Proper : SlotSet → Type 0
Proper S = S.0 < 2 ^ 64

-- ---- members are below 64

pub has_lt : (S : SlotSet) (t : ℕ) → In S t → t < slots
unfolding has
has_lt S t e = ltb-true t slots (and_l (ltb t slots) (digit S.0 t) e)

pub has_high : (S : SlotSet) (t : ℕ) → slots ≤ t → Out S t
has_high S t h = out S t (λ e. let l : t < slots = has_lt S t e in omega arith)

-- below 64 a member is a digit
pub has-digit : (S : SlotSet) (t : ℕ) → t < slots → has S t ≡ digit S.0 t
unfolding has
has-digit S t h = ap (λ (b : Bool). b && digit S.0 t) (lt-ltb t slots h)

-- to ask that a member be below 64 adds nothing
has_below : (S : SlotSet) (t : ℕ) → (ltb t slots && has S t) ≡ has S t
unfolding has
has_below S t = and_self_left (ltb t slots) (digit S.0 t)

-- ---- sets by their members

pub same : (S R : SlotSet) → Proper S → Proper R → ((t : ℕ) → t < slots → has S t ≡ has R t) → S ≡ R
same S R hS hR h = ap digits (same_digits slots S.0 R.0 hS hR (λ t l. sym (has-digit S t l) ∙ h t l ∙ has-digit R t l))

-- the one law of `set_of`
pub has_set : (p : ℕ → Bool) (t : ℕ) → has (set_of p) t ≡ (ltb t slots && p t)
unfolding has set_of
has_set p t = ap (λ (b : Bool). ltb t slots && b) (digit-pack slots p t) ∙ and_self_left (ltb t slots) (p t)

pub set_proper : (p : ℕ → Bool) → Proper (set_of p)
unfolding set_of
set_proper p = pack_lt slots p

-- of the members of S those that pass a test; the members of S, and more
has_part : (S : SlotSet) (p : ℕ → Bool) (t : ℕ) → has (set_of (λ t. has S t && p t)) t ≡ (has S t && p t)
has_part S p t =
    has_set (λ t. has S t && p t) t ∙ sym (and_assoc (ltb t slots) (has S t) (p t)) ∙ ap (λ (b : Bool). b && p t) (has_below S t)

has_more : (S : SlotSet) (p : ℕ → Bool) (t : ℕ) → has (set_of (λ t. has S t || p t)) t ≡ (has S t || (ltb t slots && p t))
has_more S p t =
    has_set (λ t. has S t || p t) t ∙ and-or_distrib_left (ltb t slots) (has S t) (p t)
    ∙ ap (λ (b : Bool). b || (ltb t slots && p t)) (has_below S t)

-- ---- none

pub none_proper : Proper none
none_proper = omega arith

pub has-none : (t : ℕ) → Out none t
has-none t = out none t (λ e. not_both (sym (has-digit none t (has_lt none t e)) ∙ e) (digit_zero t))

-- ---- adding

pub adding_proper : (S : SlotSet) (s : ℕ) → Proper (adding S s)
unfolding adding
adding_proper S s = set_proper (λ t. has S t || eqb t s)

has-adding_below : (S : SlotSet) (s t : ℕ) → has (adding S s) t ≡ (has S t || (ltb t slots && eqb t s))
unfolding adding
has-adding_below S s t = has_more S (λ t. eqb t s) t

pub has-adding : (S : SlotSet) (s t : ℕ) → s < slots → has (adding S s) t ≡ (has S t || eqb t s)
has-adding S s t h =
    has-adding_below S s t
    ∙ ap (λ (b : Bool). has S t || b) (alike (and_r (ltb t slots) (eqb t s)) (λ q. and_i (lt-ltb t slots (omega (arith, eqb-true t s q))) q))

pub in_adding : (S : SlotSet) (s t : ℕ) → In (adding S s) t → In S t ⊎ (t ≡ s)
in_adding S s t e =
    ⊎_elim (λ p. inl p) (λ q. inr (eqb-true t s (and_r (ltb t slots) (eqb t s) q)))
    (or_cases (has S t) (ltb t slots && eqb t s) (sym (has-adding_below S s t) ∙ e))

pub adding_here : (S : SlotSet) (s : ℕ) → s < slots → In (adding S s) s
adding_here S s h = has-adding S s s h ∙ or_r (has S s) (eq-eqb s s refl)

pub adding_keeps : (S : SlotSet) (s t : ℕ) → In S t → In (adding S s) t
adding_keeps S s t e = has-adding_below S s t ∙ or_l (ltb t slots && eqb t s) e

pub adding_other : (S : SlotSet) (s t : ℕ) → (t ≡ s → ⊥) → has (adding S s) t ≡ has S t
adding_other S s t n =
    has-adding_below S s t ∙ ap (λ (b : Bool). has S t || (ltb t slots && b)) (ne_eqb t s n)
    ∙ ap (λ (b : Bool). has S t || b) (and-false (ltb t slots)) ∙ or-false (has S t)

-- ---- removing

pub removing_proper : (S : SlotSet) (s : ℕ) → Proper (removing S s)
unfolding removing
removing_proper S s = set_proper (λ t. has S t && not (eqb t s))

pub has-removing : (S : SlotSet) (s t : ℕ) → has (removing S s) t ≡ (has S t && not (eqb t s))
unfolding removing
has-removing S s t = has_part S (λ t. not (eqb t s)) t

pub in_removing : (S : SlotSet) (s t : ℕ) → In (removing S s) t → In S t × (t ≡ s → ⊥)
in_removing S s t e =
    let f : (has S t && not (eqb t s)) ≡ true = sym (has-removing S s t) ∙ e in
    (and_l (has S t) (not (eqb t s)) f, eqb-false t s (not-true (eqb t s) (and_r (has S t) (not (eqb t s)) f)))

pub removing_here : (S : SlotSet) (s : ℕ) → Out (removing S s) s
removing_here S s = out (removing S s) s (λ e. (in_removing S s s e).1 refl)

pub removing_other : (S : SlotSet) (s t : ℕ) → (t ≡ s → ⊥) → has (removing S s) t ≡ has S t
removing_other S s t n = has-removing S s t ∙ ap (λ (b : Bool). has S t && not b) (ne_eqb t s n) ∙ and-true (has S t)

-- ---- above

pub above_proper : (S : SlotSet) (s : ℕ) → Proper (above S s)
unfolding above
above_proper S s = set_proper (λ t. has S t && ltb s t)

pub has_above : (S : SlotSet) (s t : ℕ) → has (above S s) t ≡ (has S t && ltb s t)
unfolding above
has_above S s t = has_part S (ltb s) t

pub in_above : (S : SlotSet) (s t : ℕ) → In (above S s) t → In S t × (s < t)
in_above S s t e =
    let f : (has S t && ltb s t) ≡ true = sym (has_above S s t) ∙ e in
    (and_l (has S t) (ltb s t) f, ltb-true s t (and_r (has S t) (ltb s t) f))

pub above_in : (S : SlotSet) (s t : ℕ) → In S t → s < t → In (above S s) t
above_in S s t e h = has_above S s t ∙ and_i e (lt-ltb s t h)

pub out_above : (S : SlotSet) (s t : ℕ) → In S t → Out (above S s) t → t ≤ s
out_above S s t e o = split (ltb s t) (λ l. absurd (in_not_out (above S s) t (above_in S s t e (ltb-true s t l)) o)) (ltb-false s t)

-- ---- union

pub union_proper : (S R : SlotSet) → Proper (union S R)
unfolding union
union_proper S R = set_proper (λ t. has S t || has R t)

pub has-union : (S R : SlotSet) (t : ℕ) → has (union S R) t ≡ (has S t || has R t)
unfolding union
has-union S R t = has_more S (has R) t ∙ ap (λ (b : Bool). has S t || b) (has_below R t)

pub in_union : (S R : SlotSet) (t : ℕ) → In (union S R) t → In S t ⊎ In R t
in_union S R t e = or_cases (has S t) (has R t) (sym (has-union S R t) ∙ e)

pub union_left : (S R : SlotSet) (t : ℕ) → In S t → In (union S R) t
union_left S R t e = has-union S R t ∙ or_l (has R t) e

pub union_right : (S R : SlotSet) (t : ℕ) → In R t → In (union S R) t
union_right S R t e = has-union S R t ∙ or_r (has S t) e

-- ---- difference

pub difference_proper : (S R : SlotSet) → Proper (difference S R)
unfolding difference
difference_proper S R = set_proper (λ t. has S t && not (has R t))

pub has-difference : (S R : SlotSet) (t : ℕ) → has (difference S R) t ≡ (has S t && not (has R t))
unfolding difference
has-difference S R t = has_part S (λ t. not (has R t)) t

pub in_difference : (S R : SlotSet) (t : ℕ) → In (difference S R) t → In S t × Out R t
in_difference S R t e =
    let f : (has S t && not (has R t)) ≡ true = sym (has-difference S R t) ∙ e in
    (and_l (has S t) (not (has R t)) f, not-true (has R t) (and_r (has S t) (not (has R t)) f))

pub difference_in : (S R : SlotSet) (t : ℕ) → In S t → Out R t → In (difference S R) t
difference_in S R t e o = has-difference S R t ∙ and_i e (ap not o)
