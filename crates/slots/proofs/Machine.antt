-- What the machine's operations make of a set: each is the set that `specs/Sets.antt` defines. The two have the same members, by the law
-- of the operation's digits (`Digits`) and that of the set's members (`Members`), and so they are the same set. A slot above 63 changes no
-- member.
use Prim.Native.Nat.{ℕ, ◌+◌, ◌-◌, ◌*◌, ◌/◌, ◌%◌, ◌^◌, ◌≤◌, ◌<◌}
use mathlib.Core.Path.{◌≡◌, sym, ap, ap₂, ◌∙◌}
use mathlib.Core.Bool.{Bool, not, ◌&&◌, ◌||◌}
use native.Mathlib.Nat.{one-mul, mod-eq_of_lt, div-mul-le_self, lt_of_le_of_lt}
use native.Mathlib.Numerals.{add-one}
use native.Mathlib.Omega.{arith}
use lib.Dec.{leb, eqb}
use lib.Bits.{bit_or, bit_and, and_mask, or_lt, and_le_l}
use lib.Pow.{pow-lt}
use lib.Count.{ones, count_trailing_zeros}
use borrow.Author.Tests.{eqb-true, eq-eqb}
use Rattle.slots.specs.Sizes.{slots}
use Rattle.slots.specs.Sets.{digits, digit, has, none, adding, removing, above, union, difference, size, is_empty, smallest}
use Rattle.slots.specs.declared.set.SlotSet.{SlotSet}
use Rattle.slots.proofs.Truth.{alike}
use Rattle.slots.proofs.Tally.{tally_same, first_same}
use Rattle.slots.proofs.Digits.{digit_or, digit_and, digit_pow, digit_not, digit_cleared, ones_tally, trailing_first}
use Rattle.slots.proofs.Members.{Proper, out, has-digit, same, none_proper, has-none, adding_proper, has-adding, adding_other}
use Rattle.slots.proofs.Members.{removing_proper, has-removing, removing_other, above_proper, has_above, in_above}
use Rattle.slots.proofs.Members.{union_proper, has-union, difference_proper, has-difference}
use Rattle.slots.proofs.Counting.{none_empty, empty_out}

-- a number of 64 digits is the set whose members they are
built : (n : ℕ) (R : SlotSet) → n < 2 ^ 64 → Proper R → ((t : ℕ) → t < slots → digit n t ≡ has R t) → digits n ≡ R
built n R hn hR h = same (digits n) R hn hR (λ t l. has-digit (digits n) t l ∙ h t l)

-- `1 << s`
one_at : (s : ℕ) → s < slots → (1 * 2 ^ s) % 2 ^ 64 ≡ 2 ^ s
one_at s h = ap (λ (x : ℕ). x % 2 ^ 64) (one-mul (2 ^ s)) ∙ mod-eq_of_lt (pow-lt h)

-- the digits of `S | n` and of `S & !n`
or_digit : (S : SlotSet) (n t : ℕ) → t < slots → digit (bit_or S.0 n) t ≡ (has S t || digit n t)
or_digit S n t l = digit_or S.0 n t ∙ ap (λ (b : Bool). b || digit n t) (sym (has-digit S t l))

and_not_digit : (S : SlotSet) (n t : ℕ) → n < 2 ^ 64 → t < slots → digit (bit_and S.0 ((2 ^ 64 - 1) - n)) t ≡ (has S t && not (digit n t))
and_not_digit S n t h l =
    digit_and S.0 ((2 ^ 64 - 1) - n) t ∙ ap₂ (λ (a b : Bool). a && b) (sym (has-digit S t l)) (digit_not 64 n t h l)

and_lt : (S : SlotSet) (n : ℕ) → Proper S → bit_and S.0 n < 2 ^ 64
and_lt S n h = lt_of_le_of_lt (and_le_l S.0 n) h

-- ---- one slot

pub shifted_has : (S : SlotSet) (s : ℕ) → s < slots → eqb (bit_and (S.0 / 2 ^ s) 1) 1 ≡ has S s
unfolding digit
shifted_has S s h = ap (λ (x : ℕ). eqb x 1) (and_mask (S.0 / 2 ^ s) 1) ∙ sym (has-digit S s h)

pub or_adds : (S : SlotSet) (s : ℕ) → Proper S → s < slots → digits (bit_or S.0 ((1 * 2 ^ s) % 2 ^ 64)) ≡ adding S s
or_adds S s hS hs =
    ap (λ (n : ℕ). digits (bit_or S.0 n)) (one_at s hs)
    ∙ built (bit_or S.0 (2 ^ s)) (adding S s) (or_lt 64 S.0 (2 ^ s) hS (pow-lt hs)) (adding_proper S s)
    (λ t l. or_digit S (2 ^ s) t l ∙ ap (λ (b : Bool). has S t || b) (digit_pow s t) ∙ sym (has-adding S s t hs))

pub high_adds : (S : SlotSet) (s : ℕ) → Proper S → slots ≤ s → S ≡ adding S s
high_adds S s hS hs = same S (adding S s) hS (adding_proper S s) (λ t l. sym (adding_other S s t (λ q. omega arith)))

pub and_removes : (S : SlotSet) (s : ℕ) → Proper S → s < slots → digits (bit_and S.0 ((2 ^ 64 - 1) - (1 * 2 ^ s) % 2 ^ 64)) ≡ removing S s
and_removes S s hS hs =
    ap (λ (n : ℕ). digits (bit_and S.0 ((2 ^ 64 - 1) - n))) (one_at s hs)
    ∙ built (bit_and S.0 ((2 ^ 64 - 1) - 2 ^ s)) (removing S s) (and_lt S ((2 ^ 64 - 1) - 2 ^ s) hS) (removing_proper S s)
    (λ t l. and_not_digit S (2 ^ s) t (pow-lt hs) l ∙ ap (λ (b : Bool). has S t && not b) (digit_pow s t) ∙ sym (has-removing S s t))

pub high_removes : (S : SlotSet) (s : ℕ) → Proper S → slots ≤ s → S ≡ removing S s
high_removes S s hS hs = same S (removing S s) hS (removing_proper S s) (λ t l. sym (removing_other S s t (λ q. omega arith)))

pub shifts_above : (S : SlotSet) (s : ℕ) → Proper S → digits ((S.0 / 2 ^ (s + 1) * 2 ^ (s + 1)) % 2 ^ 64) ≡ above S s
shifts_above S s hS =
    let h : S.0 / 2 ^ (s + 1) * 2 ^ (s + 1) < 2 ^ 64 = lt_of_le_of_lt (div-mul-le_self S.0 (2 ^ (s + 1))) hS in
    ap digits (mod-eq_of_lt h)
    ∙ built (S.0 / 2 ^ (s + 1) * 2 ^ (s + 1)) (above S s) h (above_proper S s)
    (λ t l. digit_cleared (s + 1) S.0 t ∙ ap₂ (λ (a b : Bool). a && b) (sym (has-digit S t l)) (ap (λ (k : ℕ). leb k t) (add-one s))
    ∙ sym (has_above S s t))

pub high_above : (S : SlotSet) (s : ℕ) → slots - 1 ≤ s → none ≡ above S s
high_above S s h =
    same none (above S s) none_proper (above_proper S s)
    (λ t l. has-none t ∙ sym (out (above S s) t (λ e. omega (arith, (in_above S s t e).1))))

-- ---- two sets

pub or_union : (S R : SlotSet) → Proper S → Proper R → digits (bit_or S.0 R.0) ≡ union S R
or_union S R hS hR =
    built (bit_or S.0 R.0) (union S R) (or_lt 64 S.0 R.0 hS hR) (union_proper S R)
    (λ t l. or_digit S R.0 t l ∙ ap (λ (b : Bool). has S t || b) (sym (has-digit R t l)) ∙ sym (has-union S R t))

pub and_difference : (S R : SlotSet) → Proper S → Proper R → digits (bit_and S.0 ((2 ^ 64 - 1) - R.0)) ≡ difference S R
and_difference S R hS hR =
    built (bit_and S.0 ((2 ^ 64 - 1) - R.0)) (difference S R) (and_lt S ((2 ^ 64 - 1) - R.0) hS) (difference_proper S R)
    (λ t l. and_not_digit S R.0 t hR l ∙ ap (λ (b : Bool). has S t && not b) (sym (has-digit R t l)) ∙ sym (has-difference S R t))

-- ---- what is asked of a set

pub zero_empty : (S : SlotSet) → Proper S → eqb S.0 0 ≡ is_empty S
zero_empty S hS =
    alike (λ z. none_empty S (λ t. ap (λ (n : ℕ). has (digits n) t) (eqb-true S.0 0 z) ∙ has-none t))
    (λ z. eq-eqb S.0 0 (ap (λ (R : SlotSet). R.0) (same S none hS none_proper (λ t l. empty_out S t z ∙ sym (has-none t)))))

pub ones_size : (S : SlotSet) → Proper S → ones S.0 ≡ size S
unfolding size
ones_size S h = ones_tally slots S.0 h ∙ tally_same slots (digit S.0) (has S) (λ t l. sym (has-digit S t l))

pub zeros_smallest : (S : SlotSet) → count_trailing_zeros slots S.0 ≡ smallest S
unfolding smallest
zeros_smallest S = trailing_first slots S.0 ∙ first_same slots (digit S.0) (has S) (λ t l. sym (has-digit S t l))
