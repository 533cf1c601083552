-- The digits of n are those of n / 10 and one more, or n itself: the fuel of the definition is enough for a number of 32 bits, so what holds
-- of one digit and goes on from n / 10 to n holds of all. The text that std writes for n is built in the same way, so it is the same.
use Prim.Native.Nat.{ℕ, zero, suc, ◌+◌, ◌/◌, ◌%◌, ◌^◌, ◌≤◌, ◌<◌}
use mathlib.Core.Path.{◌≡◌, refl, sym, ap, ◌∙◌, subst}
use mathlib.Core.Bool.{Bool, true, false, cond}
use mathlib.Core.List.{List, [], ◌∷◌, ◌++◌}
use native.Mathlib.Omega.{arith}
use native.Mathlib.Nat.{pow-suc}
use lib.ListN.{length, length-append}
use lib.Dec.{ltb}
use borrow.Author.Tests.{lt-ltb, le-ltb, ltb-true, ltb-false}
use Rattle.std.specs.Fmt.{decimal}
use Rattle.std.proofs.lemmas.Fmt.{decimal_by_steps}
use Rattle.text.specs.Decimal.{zero_byte, largest, digits_in, digits, most_digits}

-- ---- one step of the definition

in_one : (k n : ℕ) → n < 10 → digits_in (suc k) n ≡ (zero_byte + n) ∷ []
unfolding digits_in
in_one k n h = rw (lt-ltb n 10 h)

in_more : (k n : ℕ) → 10 ≤ n → digits_in (suc k) n ≡ digits_in k (n / 10) ++ ((zero_byte + n % 10) ∷ [])
unfolding digits_in
in_more k n h = rw (le-ltb n 10 h)

enough : (k n : ℕ) → n < 10 ^ suc k → digits_in (suc k) n ≡ digits_in (suc (suc k)) n
unfolding digits_in
enough zero n h = rw (lt-ltb n 10 (omega arith))
enough (suc k) n h =
    ap (λ (l : List ℕ). cond (ltb n 10) ((zero_byte + n) ∷ []) (l ++ ((zero_byte + n % 10) ∷ [])))
    (enough k (n / 10) (omega (arith, pow-suc 10 (suc k))))

pub digits_one : (n : ℕ) → n < 10 → digits n ≡ (zero_byte + n) ∷ []
unfolding digits
digits_one n h = in_one 9 n h

pub digits_more : (n : ℕ) → 10 ≤ n → n ≤ largest → digits n ≡ digits (n / 10) ++ ((zero_byte + n % 10) ∷ [])
unfolding digits
digits_more n h l = in_more 9 n h ∙ ap (λ (d : List ℕ). d ++ ((zero_byte + n % 10) ∷ [])) (enough 8 (n / 10) (omega arith))

pub digits_two : (n : ℕ) → 10 ≤ n → n < 100 → digits n ≡ (zero_byte + n / 10) ∷ (zero_byte + n % 10) ∷ []
digits_two n h l =
    digits_more n h (omega arith) ∙ ap (λ (d : List ℕ). d ++ ((zero_byte + n % 10) ∷ [])) (digits_one (n / 10) (omega arith))

-- ---- how many there are

pub length_one : (n : ℕ) → n < 10 → length (digits n) ≡ 1
length_one n h = ap length (digits_one n h)

pub length_more : (n : ℕ) → 10 ≤ n → n ≤ largest → length (digits n) ≡ length (digits (n / 10)) + 1
length_more n h l = ap length (digits_more n h l) ∙ length-append (digits (n / 10)) ((zero_byte + n % 10) ∷ [])

length_in : (k n : ℕ) → length (digits_in k n) ≤ k
unfolding digits_in
length_in zero n = omega arith
length_in (suc k) n = go (ltb n 10) (digits_in k (n / 10)) (length_in k (n / 10))
  where
    go : (b : Bool) (l : List ℕ) → length l ≤ k → length (cond b ((zero_byte + n) ∷ []) (l ++ ((zero_byte + n % 10) ∷ []))) ≤ suc k
    go true l h = omega arith
    go false l h = omega (arith, length-append l ((zero_byte + n % 10) ∷ []))

pub length_digits : (n : ℕ) → length (digits n) ≤ most_digits
unfolding digits
length_digits n = length_in most_digits n

-- ---- what holds of one digit, and of n where it holds of n / 10, holds of all

module _ (P : ℕ → List ℕ → Type 0) (one : (n : ℕ) → n < 10 → P n ((zero_byte + n) ∷ []))
    (more : (n : ℕ) (l : List ℕ) → 10 ≤ n → P (n / 10) l → P n (l ++ ((zero_byte + n % 10) ∷ []))) where
  by_digits_in : (k n : ℕ) → n < 10 ^ suc k → P n (digits_in (suc k) n)
  by_digits_in zero n h = subst (P n) (sym (in_one 0 n (omega arith))) (one n (omega arith))
  by_digits_in (suc k) n h = go (ltb n 10) refl (by_digits_in k (n / 10) (omega (arith, pow-suc 10 (suc k))))
    where
      go : (b : Bool) → ltb n 10 ≡ b → P (n / 10) (digits_in (suc k) (n / 10)) → P n (digits_in (suc (suc k)) n)
      go true e p = subst (P n) (sym (in_one (suc k) n (ltb-true n 10 e))) (one n (ltb-true n 10 e))
      go false e p = subst (P n) (sym (in_more (suc k) n (ltb-false n 10 e))) (more n (digits_in (suc k) (n / 10)) (ltb-false n 10 e) p)

  pub by_digits : (n : ℕ) → n ≤ largest → P n (digits n)
  unfolding digits
  by_digits n h = by_digits_in 9 n (omega arith)

-- ---- they are the text that std writes for n

pub decimal_digits : (n : ℕ) → n ≤ largest → decimal n ≡ digits n
decimal_digits n h =
    decimal_by_steps
    (λ (m : ℕ) (d : List ℕ). m ≤ largest → d ≡ digits m)
    (λ m h l. sym (digits_one m h))
    (λ m d h e l. ap (λ (x : List ℕ). x ++ ((zero_byte + m % 10) ∷ [])) (e (omega arith)) ∙ sym (digits_more m h l))
    n
    (omega arith)
    h
