-- The reader of numbers, by the ways through its code. A number that does not begin with 0 is read digit by digit: what is read so far,
-- followed by the digits that are left, is worth as much as the whole; and what is worth too much already only grows.
use Prim.Native.Nat.{ℕ, ◌+◌, ◌-◌, ◌*◌, ◌≤◌, ◌<◌}
use mathlib.Core.Path.{◌≡◌, refl, ap, ◌∙◌}
use mathlib.Core.Bool.{Bool, true, false, cond, ◌&&◌}
use mathlib.Core.List.{List, []}
use native.Mathlib.Omega.{arith}
use native.Mathlib.Numerals.{add-one}
use lib.ListN.{length, get_or, drop, drop_of_length-le}
use lib.Seq.{drop-cons}
use lib.Dec.{leb, eqb}
use borrow.Author.Tests.{le-leb, lt-leb, lt-ltb, le-ltb, eq-eqb, ne_eqb, eqb-true}
use Rattle.std.specs.Prelude.{Some, None}
use Rattle.text.specs.Decimal.{zero_byte, largest, is_digit, all_digits, value_from, value_of, is_plain, is_number, number_in}
use Rattle.text.proofs.Numerals.{value_grows}

module _ (s : List ℕ) where
  bad : is_number s ≡ false → None ≡ number_in s
  unfolding number_in
  bad e = rw e

  not_plain : is_plain s ≡ false → None ≡ number_in s
  unfolding is_number
  not_plain e = bad (rw e (go (all_digits s)))
    where
      go : (b : Bool) → (b && false) ≡ false
      go true = refl
      go false = refl

  pub none : length s ≡ 0 → None ≡ number_in s
  unfolding is_plain
  none e = not_plain (rw (e) (go (eqb (get_or s 0 0) zero_byte)))
    where
      go : (b : Bool) → cond b false false ≡ false
      go true = refl
      go false = refl

  pub padded : get_or s 0 0 ≡ zero_byte → 1 < length s → None ≡ number_in s
  unfolding is_plain
  padded e l = not_plain (rw (eq-eqb (get_or s 0 0) zero_byte e) (ne_eqb (length s) 1 (λ q. omega arith)))

  pub plain : 1 ≤ length s → (get_or s 0 0 ≡ zero_byte → length s ≤ 1) → is_plain s ≡ true
  unfolding is_plain
  plain l h = go (eqb (get_or s 0 0) zero_byte) refl
    where
      go : (b : Bool) → eqb (get_or s 0 0) zero_byte ≡ b → cond b (eqb (length s) 1) (leb 1 (length s)) ≡ true
      go true e = let q = h (eqb-true (get_or s 0 0) zero_byte e) in eq-eqb (length s) 1 (omega arith)
      go false e = le-leb 1 (length s) l

  pub not_digits : all_digits s ≡ false → None ≡ number_in s
  unfolding is_number
  not_digits e = bad (rw e)

  pub too_large : largest < value_of s → None ≡ number_in s
  unfolding is_number
  too_large h = bad (rw (lt-leb (value_of s) largest h) (go (all_digits s) (is_plain s)))
    where
      go : (a b : Bool) → (a && (b && false)) ≡ false
      go true true = refl
      go true false = refl
      go false b = refl

  number : (v : ℕ) → all_digits s ≡ true → is_plain s ≡ true → value_of s ≡ v → v ≤ largest → Some v ≡ number_in s
  unfolding number_in is_number
  number v a p e h = rw (a, p, e, le-leb v largest h)

-- ---- at the place i, with v read so far

module _ (s : List ℕ) (i : ℕ) (h : i < length s) where
  stop : is_digit (get_or s i 0) ≡ false → all_digits (drop i s) ≡ false
  unfolding all_digits
  stop e = rw (drop-cons s i 0 h, e)

  pub stop_low : get_or s i 0 < zero_byte → all_digits (drop i s) ≡ false
  stop_low l = stop (rw (lt-leb zero_byte (get_or s i 0) l))

  pub stop_high : zero_byte + 9 < get_or s i 0 → all_digits (drop i s) ≡ false
  stop_high l = stop (rw (le-leb zero_byte (get_or s i 0) (omega arith), le-ltb (get_or s i 0) (zero_byte + 10) (omega arith)))

  pub digit_passed : zero_byte ≤ get_or s i 0 → get_or s i 0 ≤ zero_byte + 9 → all_digits (drop i s) ≡ all_digits (drop (i + 1) s)
  unfolding all_digits
  digit_passed l m =
      rw (drop-cons s i 0 h, le-leb zero_byte (get_or s i 0) l, lt-ltb (get_or s i 0) (zero_byte + 10) (omega arith), add-one i)

  pub value_passed : (v : ℕ) → value_from v (drop i s) ≡ value_from (v * 10 + (get_or s i 0 - zero_byte)) (drop (i + 1) s)
  unfolding value_from
  value_passed v = rw (drop-cons s i 0 h, add-one i)

pub too_large_already : (s : List ℕ) (v : ℕ) (t : List ℕ) → value_of s ≡ value_from v t → largest < v → None ≡ number_in s
too_large_already s v t e h = too_large s (omega (arith, e, value_grows v t))

pub all_passed : (s : List ℕ) (v i : ℕ) → length s ≤ i → is_plain s ≡ true → all_digits s ≡ all_digits (drop i s)
    → value_of s ≡ value_from v (drop i s) → v ≤ largest → Some v ≡ number_in s
unfolding all_digits value_from
all_passed s v i h p a e m = let z : drop i s ≡ [] = drop_of_length-le s h in number s v (a ∙ ap all_digits z) p (e ∙ ap (value_from v) z) m

-- what the reader of numbers needs: its returns, and what a turn of its loop does
pub ruleset reading = (none, padded, plain, not_digits, stop_low, stop_high, digit_passed, value_passed, too_large_already, all_passed)
