-- The digits of a number, one at a time: what `digit` says of the machine's operations and of `pack`. An operation on two numbers goes
-- digit by digit, so its law is a table of the digits 0 and 1. The other laws go by induction on the digit's place, with two equations
-- for it: the lowest digit, and the digits of the half.
use Prim.Native.Nat.{ℕ, zero, suc, ◌+◌, ◌-◌, ◌*◌, ◌/◌, ◌%◌, ◌^◌, ◌<◌}
use mathlib.Core.Path.{◌≡◌, refl, sym, ap, ap₂, ◌∙◌}
use mathlib.Core.Bool.{Bool, true, false, true≢false, false≢true, not, cond, ◌&&◌, ◌||◌, and-true, and-false}
use native.Mathlib.Nat.{div-one, div-div-eq-div-mul, pow-succ', pow-suc, mod-lt, mul-one, mul_assoc, zero-lt-suc, add-zero}
use native.Mathlib.Omega.{arith}
use lib.Dec.{ltb, leb, eqb, leb-suc-suc, leb-zero, leb-suc-zero, eqb-suc-suc, eqb-zero-suc, eqb-suc-zero}
use lib.Arith.{digits_div, digits_mod, lt-one}
use lib.Bits.{bit_or, bit_and, or_shr, or_mod, and_shr, and_mod}
use lib.Count.{ones, ones_step, count_trailing_zeros, under}
use Rattle.slots.proofs.Tally.{rest, tally_same, first_same}
use Rattle.slots.specs.Sets.{digit, pack, tally, first}

two_pos : 0 < 2
two_pos = zero-lt-suc 1

-- what holds of 0 and of 1 holds of a digit
bit : (P : ℕ → Type 0) → P 0 → P 1 → (x : ℕ) → x < 2 → P x
bit P a b zero h = a
bit P a b (suc zero) h = b
bit P a b (suc (suc x)) h = absurd (omega arith)

bits : (P : ℕ → ℕ → Type 0) → P 0 0 → P 0 1 → P 1 0 → P 1 1 → (x y : ℕ) → x < 2 → y < 2 → P x y
bits P a b c d x y hx hy = bit (λ (u : ℕ). P u y) (bit (P 0) a b y hy) (bit (P 1) c d y hy) x hx

-- ---- the lowest digit, and the half

digit_low : (n : ℕ) → digit n 0 ≡ eqb (n % 2) 1
unfolding digit
digit_low n = ap (λ (x : ℕ). eqb (x % 2) 1) (div-one n)

half_pow : (n t : ℕ) → n / 2 ^ suc t ≡ n / 2 / 2 ^ t
half_pow n t = ap (λ (x : ℕ). n / x) (pow-succ' 2 t) ∙ sym (div-div-eq-div-mul n 2 (2 ^ t))

digit_half : (n t : ℕ) → digit n (suc t) ≡ digit (n / 2) t
unfolding digit
digit_half n t = ap (λ (x : ℕ). eqb (x % 2) 1) (half_pow n t)

-- a number whose lowest digit is c
digit_more_low : (q : ℕ) {c : ℕ} → c < 2 → digit (q * 2 + c) 0 ≡ eqb c 1
digit_more_low q {c} h = digit_low (q * 2 + c) ∙ ap (λ (x : ℕ). eqb x 1) (digits_mod q h)

digit_more : (q : ℕ) {c : ℕ} (t : ℕ) → c < 2 → digit (q * 2 + c) (suc t) ≡ digit q t
digit_more q {c} t h = digit_half (q * 2 + c) t ∙ ap (λ (x : ℕ). digit x t) (digits_div q h)

pub digit_zero : (t : ℕ) → digit 0 t ≡ false
digit_zero zero = digit_low 0
digit_zero (suc t) = digit_half 0 t ∙ digit_zero t

-- ---- the operations on two numbers

module _ (op : ℕ → ℕ → ℕ) (g : Bool → Bool → Bool)
    (high : (a b k : ℕ) → op a b / 2 ^ k ≡ op (a / 2 ^ k) (b / 2 ^ k))
    (low : (a b k : ℕ) → op a b % 2 ^ k ≡ op (a % 2 ^ k) (b % 2 ^ k))
    (table : (x y : ℕ) → x < 2 → y < 2 → eqb (op x y) 1 ≡ g (eqb x 1) (eqb y 1)) where
  by_digit : (a b t : ℕ) → digit (op a b) t ≡ g (digit a t) (digit b t)
  unfolding digit
  by_digit a b t =
      ap (λ (x : ℕ). eqb (x % 2) 1) (high a b t) ∙ ap (λ (x : ℕ). eqb x 1) (low (a / 2 ^ t) (b / 2 ^ t) 1)
      ∙ table (a / 2 ^ t % 2) (b / 2 ^ t % 2) (mod-lt (a / 2 ^ t) two_pos) (mod-lt (b / 2 ^ t) two_pos)

pub digit_or : (a b t : ℕ) → digit (bit_or a b) t ≡ (digit a t || digit b t)
digit_or = by_digit bit_or (λ p q. p || q) or_shr or_mod (bits (λ (x y : ℕ). eqb (bit_or x y) 1 ≡ (eqb x 1 || eqb y 1)) refl refl refl refl)

pub digit_and : (a b t : ℕ) → digit (bit_and a b) t ≡ (digit a t && digit b t)
digit_and = by_digit bit_and (λ p q. p && q) and_shr and_mod (bits (λ (x y : ℕ). eqb (bit_and x y) 1 ≡ (eqb x 1 && eqb y 1)) refl refl refl refl)

-- ---- a single digit, the complement, and a number with its k low digits cleared

pub digit_pow : (s t : ℕ) → digit (2 ^ s) t ≡ eqb t s
digit_pow zero zero = digit_low 1
digit_pow (suc s) zero =
    let e : 2 ^ suc s % 2 ≡ 0 = omega (arith, pow-suc 2 s) in
    digit_low (2 ^ suc s) ∙ ap (λ (x : ℕ). eqb x 1) e ∙ sym (eqb-zero-suc s)
digit_pow zero (suc t) = digit_half 1 t ∙ digit_zero t ∙ sym (eqb-suc-zero t)
digit_pow (suc s) (suc t) =
    let e : 2 ^ suc s / 2 ≡ 2 ^ s = omega (arith, pow-suc 2 s) in
    digit_half (2 ^ suc s) t ∙ ap (λ (x : ℕ). digit x t) e ∙ digit_pow s t ∙ sym (eqb-suc-suc t s)

pub digit_not : (k n t : ℕ) → n < 2 ^ k → t < k → digit ((2 ^ k - 1) - n) t ≡ not (digit n t)
digit_not zero n t hn ht = absurd (omega arith)
digit_not (suc k) n zero hn ht =
    let e : ((2 ^ suc k - 1) - n) % 2 ≡ 1 - n % 2 = omega (arith, pow-suc 2 k) in
    digit_low ((2 ^ suc k - 1) - n) ∙ ap (λ (x : ℕ). eqb x 1) e
    ∙ bit (λ (x : ℕ). eqb (1 - x) 1 ≡ not (eqb x 1)) refl refl (n % 2) (mod-lt n two_pos) ∙ ap not (sym (digit_low n))
digit_not (suc k) n (suc t) hn ht =
    let e : ((2 ^ suc k - 1) - n) / 2 ≡ (2 ^ k - 1) - n / 2 = omega (arith, pow-suc 2 k) in
    let h : n / 2 < 2 ^ k = omega (arith, pow-suc 2 k) in
    digit_half ((2 ^ suc k - 1) - n) t ∙ ap (λ (x : ℕ). digit x t) e ∙ digit_not k (n / 2) t h (omega arith) ∙ ap not (sym (digit_half n t))

shift_more : (a k : ℕ) → a * 2 ^ suc k ≡ a * 2 ^ k * 2 + 0
shift_more a k = ap (λ (x : ℕ). a * x) (pow-suc 2 k) ∙ sym (mul_assoc a (2 ^ k) 2) ∙ sym (add-zero (a * 2 ^ k * 2))

pub digit_cleared : (k n t : ℕ) → digit (n / 2 ^ k * 2 ^ k) t ≡ (digit n t && leb k t)
digit_cleared zero n t =
    ap (λ (x : ℕ). digit x t) (mul-one (n / 1) ∙ div-one n) ∙ sym (ap (λ (b : Bool). digit n t && b) (leb-zero t) ∙ and-true (digit n t))
digit_cleared (suc k) n zero =
    ap (λ (x : ℕ). digit x 0) (shift_more (n / 2 ^ suc k) k) ∙ digit_more_low (n / 2 ^ suc k * 2 ^ k) two_pos
    ∙ sym (ap (λ (b : Bool). digit n 0 && b) (leb-suc-zero k) ∙ and-false (digit n 0))
digit_cleared (suc k) n (suc t) =
    ap (λ (x : ℕ). digit x (suc t)) (shift_more (n / 2 ^ suc k) k ∙ ap (λ (x : ℕ). x * 2 ^ k * 2 + 0) (half_pow n k))
    ∙ digit_more (n / 2 / 2 ^ k * 2 ^ k) t two_pos ∙ digit_cleared k (n / 2) t
    ∙ sym (ap₂ (λ (p q : Bool). p && q) (digit_half n t) (leb-suc-suc k t))

-- ---- numbers with the same digits

bit_same : (x y : ℕ) → x < 2 → y < 2 → eqb x 1 ≡ eqb y 1 → x ≡ y
bit_same =
    bits (λ (x y : ℕ). eqb x 1 ≡ eqb y 1 → x ≡ y)
    (λ e. refl) (λ e. absurd (false≢true e)) (λ e. absurd (true≢false e)) (λ e. refl)

pub same_digits : (k m n : ℕ) → m < 2 ^ k → n < 2 ^ k → ((t : ℕ) → t < k → digit m t ≡ digit n t) → m ≡ n
same_digits zero m n hm hn h = lt-one hm ∙ sym (lt-one hn)
same_digits (suc k) m n hm hn h =
    let gm : m / 2 < 2 ^ k = omega (arith, pow-suc 2 k) in
    let gn : n / 2 < 2 ^ k = omega (arith, pow-suc 2 k) in
    let high : m / 2 ≡ n / 2 = same_digits k (m / 2) (n / 2) gm gn (λ t l. sym (digit_half m t) ∙ h (suc t) (omega arith) ∙ digit_half n t) in
    let low : m % 2 ≡ n % 2 =
    bit_same (m % 2) (n % 2) (mod-lt m two_pos) (mod-lt n two_pos) (sym (digit_low m) ∙ h 0 (omega arith) ∙ digit_low n) in
    omega arith

-- ---- `pack`, and the machine's count of ones and of the zeros below the lowest one

cond_lt : (b : Bool) → cond b 1 0 < 2
cond_lt true = omega arith
cond_lt false = omega arith

cond_is : (b : Bool) → eqb (cond b 1 0) 1 ≡ b
cond_is true = refl
cond_is false = refl

pub pack_lt : (k : ℕ) (p : ℕ → Bool) → pack p k < 2 ^ k
unfolding pack
pack_lt zero p = omega arith
pack_lt (suc k) p = omega (arith, pack_lt k (rest p), cond_lt (p 0), pow-suc 2 k)

pub digit-pack : (k : ℕ) (p : ℕ → Bool) (t : ℕ) → digit (pack p k) t ≡ (ltb t k && p t)
unfolding pack
digit-pack zero p t = digit_zero t ∙ ap (λ (b : Bool). b && p t) (sym (leb-suc-zero t))
digit-pack (suc k) p zero =
    digit_more_low (pack (rest p) k) (cond_lt (p 0)) ∙ cond_is (p 0) ∙ ap (λ (b : Bool). b && p 0) (sym (leb-suc-suc 0 k ∙ leb-zero k))
digit-pack (suc k) p (suc t) =
    digit_more (pack (rest p) k) t (cond_lt (p 0)) ∙ digit-pack k (rest p) t
    ∙ ap (λ (b : Bool). b && p (suc t)) (sym (leb-suc-suc (suc t) k))

pub ones_tally : (k n : ℕ) → n < 2 ^ k → ones n ≡ tally (digit n) k
unfolding tally ones
ones_tally zero n h = ap ones (lt-one h)
ones_tally (suc k) n h =
    let g : n / 2 < 2 ^ k = omega (arith, pow-suc 2 k) in
    let low : n % 2 ≡ cond (digit n 0) 1 0 =
    bit (λ (x : ℕ). x ≡ cond (eqb x 1) 1 0) refl refl (n % 2) (mod-lt n two_pos) ∙ ap (λ (b : Bool). cond b 1 0) (sym (digit_low n)) in
    ones_step n
    ∙ ap₂ (λ (x y : ℕ). x + y) low (ones_tally k (n / 2) g ∙ tally_same k (digit (n / 2)) (rest (digit n)) (λ t l. sym (digit_half n t)))

pub trailing_first : (k n : ℕ) → count_trailing_zeros k n ≡ first (digit n) k
unfolding first count_trailing_zeros
trailing_first zero n = refl
trailing_first (suc k) n =
    bit (λ (x : ℕ). under x (count_trailing_zeros k (n / 2)) ≡ cond (eqb x 1) 0 (suc (count_trailing_zeros k (n / 2)))) refl refl (n % 2) (mod-lt n two_pos)
    ∙ ap₂ (λ (b : Bool) (m : ℕ). cond b 0 (suc m)) (sym (digit_low n))
    (trailing_first k (n / 2) ∙ first_same k (digit (n / 2)) (rest (digit n)) (λ t l. sym (digit_half n t)))
