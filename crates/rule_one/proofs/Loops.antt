-- Tests in a row, and a test at every number below a bound. A row of tests passes if and only if each of its tests does, by laws of
-- Booleans; `all f n` passes if and only if f passes at each number below n, by induction on n. A loop that tests each number below n knows
-- that all before the current one passed: one more passes, one fails and with it all, or the end is reached. A chain tests the elements of a
-- list from the first on, which is the same by induction on the list.
use Prim.Native.Nat.{ℕ, zero, suc, ◌+◌, ◌≤◌, ◌<◌}
use mathlib.Core.Path.{◌≡◌, refl, sym, ap, ap₂, ◌∙◌, subst}
use mathlib.Core.Bool.{Bool, true, false, ◌&&◌, and-true, and-false}
use mathlib.Core.List.{List, [], ◌∷◌}
use native.Mathlib.Omega.{arith}
use native.Mathlib.Numerals.{add-one}
use lib.Dec.{eqb}
use lib.ListN.{length, get_or}
use Rattle.std.specs.List.{list_all, range_with_len, zip}
use borrow.Author.Tests.{eqb-true, eqb-false}
use Rattle.slots.proofs.Truth.{and_l, and_r, and_i, split}
use Rattle.rule_one.specs.Tests.{all}

-- ---- three tests and four

pub three : (a b c : Bool) → (a && b && c) ≡ true → (a ≡ true) × ((b ≡ true) × (c ≡ true))
three a b c e = let f = and_l (a && b) c e in (and_l a b f, (and_r a b f, and_r (a && b) c e))

pub four : (a b c d : Bool) → (a && b && c && d) ≡ true → (a ≡ true) × ((b ≡ true) × ((c ≡ true) × (d ≡ true)))
four a b c d e =
    let f = three a b c (and_l (a && b && c) d e) in
    (f.0, (f.1.0, (f.1.1, and_r (a && b && c) d e)))

pub and_assoc : (a b c : Bool) → (a && (b && c)) ≡ (a && b && c)
and_assoc true b c = refl
and_assoc false b c = refl

-- ---- at every number

module _ (f : ℕ → Bool) where
  pub all_none : all f 0 ≡ true
  unfolding all
  all_none = refl

  pub all_more : (n : ℕ) → all f n ≡ true → f n ≡ true → all f (n + 1) ≡ true
  unfolding all
  all_more n h e = rw add-one (and_i h e)

  pub all_done : (i n : ℕ) → all f i ≡ true → i ≤ n → n ≤ i → all f n ≡ true
  all_done i n h a b = let e : i ≡ n = omega arith in subst (λ (m : ℕ). all f m ≡ true) e h

  -- in words: each number below n passes, or one does not
  pub all_at : (n : ℕ) → all f n ≡ true → (i : ℕ) → i < n → f i ≡ true
  unfolding all
  all_at zero e i h = absurd (omega arith)
  all_at (suc n) e i h =
      split (eqb i n) (λ q. subst (λ (k : ℕ). f k ≡ true) (sym (eqb-true i n q)) (and_r (all f n) (f n) e))
      (λ q. let u : i ≡ n → ⊥ = eqb-false i n q in all_at n (and_l (all f n) (f n) e) i (omega arith))

  pub all_of : (n : ℕ) → ((i : ℕ) → i < n → f i ≡ true) → all f n ≡ true
  unfolding all
  all_of zero h = refl
  all_of (suc n) h = and_i (all_of n (λ i l. h i (omega arith))) (h n (omega arith))

  pub all_fails : (i n : ℕ) → f i ≡ false → i < n → all f n ≡ false
  unfolding all
  all_fails i zero e h = absurd (omega arith)
  all_fails i (suc n) e h =
      let below : i < n → all f n ≡ false = all_fails i n e in
      split (eqb i n)
      (λ q. rw (sym (ap f (eqb-true i n q)) ∙ e) (and-false (all f n)))
      (λ q. let u : (i ≡ n → ⊥) = eqb-false i n q in rw (below (omega arith)))

pub all_alike : (f g : ℕ → Bool) → ((k : ℕ) → f k ≡ g k) → (n : ℕ) → all f n ≡ all g n
unfolding all
all_alike f g h zero = refl
all_alike f g h (suc n) = ap₂ (λ (x y : Bool). x && y) (all_alike f g h n) (h n)

-- ---- at every element of a list

-- the first number is tested first
pub all_front : (f : ℕ → Bool) (n : ℕ) → all f (suc n) ≡ (f 0 && all (λ k. f (suc k)) n)
unfolding all
all_front f zero = sym (and-true (f 0))
all_front f (suc n) = ap (λ (b : Bool). b && f (suc n)) (all_front f n) ∙ sym (and_assoc (f 0) (all (λ k. f (suc k)) n) (f (suc n)))

-- elements tested together with their numbers, from a on and from 0
numbered_from : {A : Type 0} (test : ℕ → A → Bool) (d : A) (xs : List A) (a n : ℕ) → length xs ≡ n
    → list_all (λ p. test p.0 p.1) (zip (range_with_len a n) xs) ≡ all (λ k. test (a + k) (get_or xs k d)) n
numbered_from test d [] a zero e = sym (all_none _)
numbered_from test d [] a (suc n) e = absurd (omega arith)
numbered_from test d (x ∷ xs) a zero e = absurd (omega arith)
numbered_from test d (x ∷ xs) a (suc n) e =
    let here : a ≡ a + 0 = omega arith in
    let next : (k : ℕ) → (a + 1) + k ≡ a + suc k = λ k. omega arith in
    ap (λ (b : Bool). test a x && b) (numbered_from test d xs (a + 1) n (omega arith)
    ∙ all_alike _ (λ k. test (a + suc k) (get_or xs k d)) (λ k. ap (λ (m : ℕ). test m (get_or xs k d)) (next k)) n)
    ∙ ap (λ (m : ℕ). test m x && all (λ k. test (a + suc k) (get_or xs k d)) n) here
    ∙ sym (all_front (λ k. test (a + k) (get_or (x ∷ xs) k d)) n)

pub all_numbered : {A : Type 0} (test : ℕ → A → Bool) (d : A) (xs : List A) (n : ℕ) → length xs ≡ n
    → list_all (λ p. test p.0 p.1) (zip (range_with_len 0 n) xs) ≡ all (λ k. test k (get_or xs k d)) n
all_numbered test d xs n e =
    let number : (k : ℕ) → 0 + k ≡ k = λ k. omega arith in
    numbered_from test d xs 0 n e ∙ all_alike _ (λ k. test k (get_or xs k d)) (λ k. ap (λ (m : ℕ). test m (get_or xs k d)) (number k)) n
