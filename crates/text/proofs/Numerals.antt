-- What is written is read back, since the digits of n are digits, have no 0 in front and are worth n. Only what is written so is read:
-- a digit b behind a number v of at least 1 is the last digit of v * 10 + b, so all digits behind the first are those of the value.
use Prim.Native.Nat.{ℕ, zero, suc, ◌+◌, ◌-◌, ◌*◌, ◌/◌, ◌%◌, ◌≤◌, ◌<◌}
use mathlib.Core.Path.{◌≡◌, refl, sym, ap, ap₂, ◌∙◌}
use mathlib.Core.Bool.{Bool, true, false, false≢true, cond, ◌&&◌}
use mathlib.Core.List.{List, [], ◌∷◌, ◌++◌, append_assoc, append-nil}
use native.Mathlib.Omega.{arith}
use lib.ListN.{length, get_or, length-append, get_or-append}
use lib.Dec.{ltb, leb, eqb}
use borrow.Author.Tests.{le-leb, lt-ltb, eq-eqb, ne_eqb, leb-true, ltb-true, eqb-true, eqb-false}
use Rattle.std.specs.Prelude.{Some, None}
use Rattle.text.specs.Decimal.{zero_byte, largest, digits, is_digit, all_digits, value_from, value_of, is_plain, is_number, number_in}
use Rattle.text.specs.Decimal.{ReadBack, WrittenSo, FewDigits}
use Rattle.text.proofs.Digits.{digits_one, digits_more, length_digits, by_digits}

pub few_digits : FewDigits
unfolding FewDigits
few_digits n = length_digits n

and_both : (a b : Bool) → (a && b) ≡ true → (a ≡ true) × (b ≡ true)
and_both true b e = (refl, e)
and_both false b e = absurd (false≢true e)

-- ---- one digit more, behind

digit_is : (n : ℕ) → n < 10 → is_digit (zero_byte + n) ≡ true
digit_is n h = rw (le-leb zero_byte (zero_byte + n) (omega arith), lt-ltb (zero_byte + n) (zero_byte + 10) (omega arith))

all_last : (s : List ℕ) (b : ℕ) → all_digits s ≡ true → is_digit b ≡ true → all_digits (s ++ (b ∷ [])) ≡ true
unfolding all_digits
all_last [] b e p = rw p
all_last (x ∷ s) b e p = go (is_digit x) e (λ h. all_last s b h p)
  where
    go : (t : Bool) → (t && all_digits s) ≡ true
        → (all_digits s ≡ true → all_digits (s ++ (b ∷ [])) ≡ true) → (t && all_digits (s ++ (b ∷ []))) ≡ true
    go true h f = f h
    go false h f = h

value_last : (v : ℕ) (s : List ℕ) (b : ℕ) → value_from v (s ++ (b ∷ [])) ≡ value_from v s * 10 + (b - zero_byte)
unfolding value_from
value_last v [] b = refl
value_last v (x ∷ s) b = value_last (v * 10 + (x - zero_byte)) s b

-- ---- what the digits l of n are

record Written (n : ℕ) (l : List ℕ) : Type 0 where
  all : all_digits l ≡ true
  worth : value_from 0 l ≡ n
  some : 1 ≤ length l
  nought : n ≡ 0 → length l ≡ 1
  lead : 1 ≤ n → zero_byte < get_or l 0 0

written_one : (n : ℕ) → n < 10 → Written n ((zero_byte + n) ∷ [])
unfolding all_digits value_from
written_one n h = record { all = rw (digit_is n h); worth = omega arith; some = omega arith; nought = λ e. refl; lead = λ l. omega arith }

written_more : (n : ℕ) (l : List ℕ) → 10 ≤ n → Written (n / 10) l → Written n (l ++ ((zero_byte + n % 10) ∷ []))
written_more n l h w =
    let b = zero_byte + n % 10 in
    record {
      all = all_last l b w.all (digit_is (n % 10) (omega arith));
      worth = value_last 0 l b ∙ omega (arith, w.worth);
      some = omega (arith, length-append l (b ∷ []));
      nought = λ e. absurd (omega arith);
      lead = λ q. rw (get_or-append l (b ∷ []) 0 0 w.some) (w.lead (omega arith));
    }

plain : (n : ℕ) (l : List ℕ) → Written n l → is_plain l ≡ true
unfolding is_plain
plain zero l w = go (eqb (get_or l 0 0) zero_byte)
  where
    go : (b : Bool) → cond b (eqb (length l) 1) (leb 1 (length l)) ≡ true
    go true = eq-eqb (length l) 1 (w.nought refl)
    go false = le-leb 1 (length l) w.some
plain (suc n) l w = let d = w.lead (omega arith) in rw (ne_eqb (get_or l 0 0) zero_byte (λ q. omega arith)) (le-leb 1 (length l) w.some)

pub read_back : ReadBack
unfolding ReadBack number_in is_number value_of
read_back n h =
    let w = by_digits Written written_one written_more n h in
    rw (w.all, plain n (digits n) w, w.worth, le-leb n largest h)

-- ---- only what is written so is read

digit_range : (b : ℕ) → is_digit b ≡ true → (zero_byte ≤ b) × (b < zero_byte + 10)
digit_range b e = go (leb zero_byte b) refl e
  where
    go : (t : Bool) → leb zero_byte b ≡ t → (t && ltb b (zero_byte + 10)) ≡ true → (zero_byte ≤ b) × (b < zero_byte + 10)
    go true p q = (leb-true zero_byte b p, ltb-true b (zero_byte + 10) q)
    go false p q = absurd (false≢true q)

pub value_grows : (v : ℕ) (s : List ℕ) → v ≤ value_from v s
unfolding value_from
value_grows v [] = omega arith
value_grows v (b ∷ s) = omega (arith, value_grows (v * 10 + (b - zero_byte)) s)

-- a digit behind v is the last digit of the number
behind_one : (v b : ℕ) → 1 ≤ v → zero_byte ≤ b → b < zero_byte + 10 → v * 10 + (b - zero_byte) ≤ largest
    → digits (v * 10 + (b - zero_byte)) ≡ digits v ++ (b ∷ [])
behind_one v b h l m q =
    let w = v * 10 + (b - zero_byte) in
    let d : w / 10 ≡ v = omega arith in
    let r : zero_byte + w % 10 ≡ b = omega arith in
    digits_more w (omega arith) q ∙ ap₂ (λ (x y : ℕ). digits x ++ (y ∷ [])) d r

behind-all : (v : ℕ) (s : List ℕ) → 1 ≤ v → all_digits s ≡ true → value_from v s ≤ largest → digits (value_from v s) ≡ digits v ++ s
unfolding all_digits value_from
behind-all v [] h a q = sym (append-nil (digits v))
behind-all v (b ∷ s) h a q =
    let w = v * 10 + (b - zero_byte) in
    let k = and_both (is_digit b) (all_digits s) a in
    let r = digit_range b k.0 in
    behind-all w s (omega arith) k.1 q
    ∙ ap (λ (x : List ℕ). x ++ s) (behind_one v b h r.0 r.1 (omega (arith, value_grows w s)))
    ∙ append_assoc (digits v) (b ∷ []) s

module _ (b : ℕ) (s : List ℕ) (low : zero_byte ≤ b) (high : b < zero_byte + 10) where
  value-first : value_of (b ∷ s) ≡ value_from (b - zero_byte) s
  unfolding value_of value_from
  value-first = let e : 0 * 10 + (b - zero_byte) ≡ b - zero_byte = omega arith in ap (λ (v : ℕ). value_from v s) e

  first : digits (b - zero_byte) ≡ b ∷ []
  first = let e : zero_byte + (b - zero_byte) ≡ b = omega arith in digits_one (b - zero_byte) (omega arith) ∙ ap (λ (x : ℕ). x ∷ []) e

  spelled_alone : length s ≡ 0 → b ∷ s ≡ digits (value_of (b ∷ s))
  unfolding value_from
  spelled_alone e = sym (ap digits value-first ∙ go s e)
    where
      go : (s : List ℕ) → length s ≡ 0 → digits (value_from (b - zero_byte) s) ≡ b ∷ s
      go [] e = first
      go (x ∷ s) e = absurd (omega arith)

  spelled_more : (b ≡ zero_byte → ⊥) → all_digits s ≡ true → value_of (b ∷ s) ≤ largest → b ∷ s ≡ digits (value_of (b ∷ s))
  spelled_more n a q =
      let p : 1 ≤ b - zero_byte = omega (arith, n) in
      sym (ap digits value-first ∙ behind-all (b - zero_byte) s p a (omega (arith, value-first)) ∙ ap (λ (x : List ℕ). x ++ s) first)

spelled : (s : List ℕ) → all_digits s ≡ true → is_plain s ≡ true → value_of s ≤ largest → s ≡ digits (value_of s)
unfolding all_digits is_plain
spelled [] a p q = absurd (false≢true p)
spelled (b ∷ s) a p q = go (eqb b zero_byte) refl p
  where
    go : (t : Bool) → eqb b zero_byte ≡ t → cond t (eqb (suc (length s)) 1) (leb 1 (suc (length s))) ≡ true → b ∷ s ≡ digits (value_of (b ∷ s))
    go true e h =
        let k = and_both (is_digit b) (all_digits s) a in
        let r = digit_range b k.0 in
        spelled_alone b s r.0 r.1 (omega (arith, eqb-true (suc (length s)) 1 h))
    go false e h =
        let k = and_both (is_digit b) (all_digits s) a in
        let r = digit_range b k.0 in
        spelled_more b s r.0 r.1 (eqb-false b zero_byte e) k.1 q

number_parts : (s : List ℕ) → is_number s ≡ true → (all_digits s ≡ true) × ((is_plain s ≡ true) × (leb (value_of s) largest ≡ true))
unfolding is_number
number_parts s p =
    let k = and_both (all_digits s) (is_plain s && leb (value_of s) largest) p in
    (k.0, and_both (is_plain s) (leb (value_of s) largest) k.1)

pub written_so : WrittenSo
unfolding WrittenSo number_in
written_so s n e = go (is_number s) refl e
  where
    go : (t : Bool) → is_number s ≡ t → cond t (Some (value_of s)) None ≡ Some n → (n ≤ largest) × (s ≡ digits n)
    go true p e =
        let v : value_of s ≡ n = cc in
        let k = number_parts s p in
        let l = leb-true (value_of s) largest k.1.1 in
        (omega arith, spelled s k.0 k.1.0 l ∙ ap digits v)
    go false p e = let z : ◌≡◌ {A = ℕ} 0 1 = cc in absurd (omega arith)
