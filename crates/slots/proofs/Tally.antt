-- How many of the numbers below k pass a test, and which is the first: laws on tests, with no digits in them. Each goes by induction
-- on k, as `tally` and `first` do: the test at 0, and then the test from 1 up.
use Prim.Native.Nat.{ℕ, zero, suc, ◌+◌, ◌≤◌, ◌<◌}
use mathlib.Core.Path.{◌≡◌, refl, ap, ap₂, ◌∙◌}
use mathlib.Core.Bool.{Bool, true, false, cond, ◌||◌}
use native.Mathlib.Omega.{arith}
use lib.Dec.{eqb, eqb-suc-suc, eqb-zero-suc, eqb-suc-zero}
use Rattle.slots.specs.Sets.{tally, first}

-- the test from 1 up
abbrev pub rest : (ℕ → Bool) → ℕ → Bool
rest p t = p (suc t)

-- ---- how many

pub tally_same : (k : ℕ) (p q : ℕ → Bool) → ((t : ℕ) → t < k → p t ≡ q t) → tally p k ≡ tally q k
unfolding tally
tally_same zero p q h = refl
tally_same (suc k) p q h =
    ap₂ (λ (b : Bool) (n : ℕ). cond b 1 0 + n) (h 0 (omega arith)) (tally_same k (rest p) (rest q) (λ t l. h (suc t) (omega arith)))

pub tally-none : (k : ℕ) (p : ℕ → Bool) → ((t : ℕ) → t < k → p t ≡ false) → tally p k ≡ 0
unfolding tally
tally-none zero p h = refl
tally-none (suc k) p h =
    ap₂ (λ (b : Bool) (n : ℕ). cond b 1 0 + n) (h 0 (omega arith)) (tally-none k (rest p) (λ t l. h (suc t) (omega arith)))

-- r is passed by what passes p or q, and nothing passes both
bit_join : (a b c : Bool) → c ≡ (a || b) → (a ≡ true → b ≡ true → ⊥) → cond c 1 0 ≡ cond a 1 0 + cond b 1 0
bit_join true true c e d = absurd (d refl refl)
bit_join true false c e d = rw e
bit_join false true c e d = rw e
bit_join false false c e d = rw e

pub tally_join : (k : ℕ) (p q r : ℕ → Bool) → ((t : ℕ) → t < k → r t ≡ (p t || q t)) → ((t : ℕ) → t < k → p t ≡ true → q t ≡ true → ⊥)
    → tally r k ≡ tally p k + tally q k
unfolding tally
tally_join zero p q r e d = refl
tally_join (suc k) p q r e d =
    omega (
      arith,
      bit_join (p 0) (q 0) (r 0) (e 0 (omega arith)) (d 0 (omega arith)),
      tally_join k (rest p) (rest q) (rest r) (λ t l. e (suc t) (omega arith)) (λ t l. d (suc t) (omega arith)),
    )

bit_mono : (a b : Bool) → (a ≡ true → b ≡ true) → cond a 1 0 ≤ cond b 1 0
bit_mono false b h = omega arith
bit_mono true b h = rw (h refl) (omega arith)

pub tally_mono : (k : ℕ) (p q : ℕ → Bool) → ((t : ℕ) → t < k → p t ≡ true → q t ≡ true) → tally p k ≤ tally q k
unfolding tally
tally_mono zero p q h = omega arith
tally_mono (suc k) p q h =
    omega (arith, bit_mono (p 0) (q 0) (h 0 (omega arith)), tally_mono k (rest p) (rest q) (λ t l. h (suc t) (omega arith)))

pub tally_le : (k : ℕ) (p : ℕ → Bool) → tally p k ≤ k
unfolding tally
tally_le zero p = omega arith
tally_le (suc k) p = omega (arith, bit_mono (p 0) true (λ e. refl), tally_le k (rest p))

pub tally_one : (k s : ℕ) → s < k → tally (λ t. eqb t s) k ≡ 1
unfolding tally
tally_one zero s h = absurd (omega arith)
tally_one (suc k) zero h = ap (λ (n : ℕ). 1 + n) (tally-none k (λ t. eqb (suc t) 0) (λ t l. eqb-suc-zero t))
tally_one (suc k) (suc s) h =
    ap₂ (λ (b : Bool) (n : ℕ). cond b 1 0 + n) (eqb-zero-suc s)
    (tally_same k (λ t. eqb (suc t) (suc s)) (λ t. eqb t s) (λ t l. eqb-suc-suc t s) ∙ tally_one k s (omega arith))

-- ---- the first

pub first_same : (k : ℕ) (p q : ℕ → Bool) → ((t : ℕ) → t < k → p t ≡ q t) → first p k ≡ first q k
unfolding first
first_same zero p q h = refl
first_same (suc k) p q h =
    ap₂ (λ (b : Bool) (n : ℕ). cond b 0 (suc n)) (h 0 (omega arith)) (first_same k (rest p) (rest q) (λ t l. h (suc t) (omega arith)))

-- a first that is one further on
step_le : (b : Bool) (n m : ℕ) → n ≤ m → cond b 0 (suc n) ≤ suc m
step_le true n m h = omega arith
step_le false n m h = omega arith

pub first_le : (k : ℕ) (p : ℕ → Bool) → first p k ≤ k
unfolding first
first_le zero p = omega arith
first_le (suc k) p = step_le (p 0) (first (rest p) k) k (first_le k (rest p))

-- what passes is not before the first
pub first-before : (k : ℕ) (p : ℕ → Bool) (t : ℕ) → t < k → p t ≡ true → first p k ≤ t
unfolding first
first-before zero p t h e = absurd (omega arith)
first-before (suc k) p zero h e = rw e (omega arith)
first-before (suc k) p (suc t) h e = step_le (p 0) (first (rest p) k) t (first-before k (rest p) t (omega arith) e)

-- the first passes, if there is one
pub first_passes : (k : ℕ) (p : ℕ → Bool) → first p k < k → p (first p k) ≡ true
unfolding first
first_passes zero p h = absurd (omega arith)
first_passes (suc k) p h = go (p 0) (first (rest p) k) refl (first_passes k (rest p)) h
  where
    go : (b : Bool) (n : ℕ) → p 0 ≡ b → (n < k → p (suc n) ≡ true) → cond b 0 (suc n) < suc k → p (cond b 0 (suc n)) ≡ true
    go true n e ih l = e
    go false n e ih l = ih (omega arith)
