-- Hex is tested byte by byte and decoded in pairs. The test is that each byte is a nibble and their number is even, by induction on the pairs;
-- the bytes that s stands for are one for each pair, and the k-th stands at 2 * k. So what passes the test decodes pair by pair, with nothing lost.
use Prim.Native.Nat.{ℕ, zero, suc, ◌+◌, ◌-◌, ◌*◌, ◌/◌, ◌%◌, ◌≤◌, ◌<◌}
use mathlib.Core.Path.{◌≡◌, refl, sym, ap, ap₂, ◌∙◌}
use mathlib.Core.Logic.{◌⊎◌, inl, inr, ⊎_elim}
use mathlib.Core.Bool.{Bool, true, false, false≢true, ◌&&◌, ◌||◌}
use mathlib.Core.List.{List, [], ◌∷◌, ◌++◌}
use native.Mathlib.Omega.{arith}
use native.Mathlib.Numerals.{add-one}
use lib.ListN.{length, get_or, drop, set, length-append, length-drop, get_or-append}
use lib.Seq.{drop-drop, drop_at, get_or-drop, paste, paste-suc}
use lib.Dec.{ltb, leb, eqb}
use borrow.Author.Tests.{le-leb, lt-ltb, le-ltb, leb-true, ltb-true, eq-eqb, ne_eqb}
use Rattle.std.specs.List.{list_all}
use Rattle.std.proofs.lemmas.Grind.{common_steps}
use Rattle.text.specs.Hex.{is_numeral, is_letter, nibble, all_hex, hex_bytes}

-- 0 to 9 or a to f
abbrev pub is_nibble : ℕ → Bool
is_nibble b = is_numeral b || is_letter b

both : (a b c : Bool) → (a && (b && c)) ≡ true → (a ≡ true) × ((b ≡ true) × (c ≡ true))
both true true c e = (refl, (refl, e))
both true false c e = absurd (false≢true e)
both false b c e = absurd (false≢true e)

module _ (b : ℕ) where
  numeral : 48 ≤ b → b < 58 → is_numeral b ≡ true
  numeral l m = rw (le-leb 48 b l, lt-ltb b 58 m)

  no_numeral : 58 ≤ b → is_numeral b ≡ false
  no_numeral l = rw (le-leb 48 b (omega arith), le-ltb b 58 l)

  -- ---- what a nibble is worth

  range : is_nibble b ≡ true → ((48 ≤ b) × (b < 58)) ⊎ ((97 ≤ b) × (b < 103))
  range e = go (leb 48 b) (ltb b 58) (leb 97 b) refl refl refl e
    where
      go : (p q r : Bool) → leb 48 b ≡ p → ltb b 58 ≡ q → leb 97 b ≡ r → (p && q || (r && ltb b 103)) ≡ true
          → ((48 ≤ b) × (b < 58)) ⊎ ((97 ≤ b) × (b < 103))
      go true true r x y z e = inl (leb-true 48 b x, ltb-true b 58 y)
      go true false true x y z e = inr (leb-true 97 b z, ltb-true b 103 e)
      go true false false x y z e = absurd (false≢true e)
      go false q true x y z e = inr (leb-true 97 b z, ltb-true b 103 e)
      go false q false x y z e = absurd (false≢true e)

  pub worth_numeral : is_nibble b ≡ true → b < 58 → (b - 48 ≡ nibble b) × (b - 48 < 16)
  unfolding nibble
  worth_numeral e h =
      ⊎_elim
      (λ (w : (48 ≤ b) × (b < 58)). (rw (numeral w.0 h), omega arith))
      (λ (w : (97 ≤ b) × (b < 103)). absurd (omega arith))
      (range e)

  pub worth_letter : is_nibble b ≡ true → 58 ≤ b → (b - 97 + 10 ≡ nibble b) × (b - 97 + 10 < 16)
  unfolding nibble
  worth_letter e h =
      ⊎_elim
      (λ (w : (48 ≤ b) × (b < 58)). absurd (omega arith))
      (λ (w : (97 ≤ b) × (b < 103)). (rw (no_numeral h) (omega arith), omega arith))
      (range e)

-- ---- the test, one byte after the other

abbrev is_even : List ℕ → Bool
is_even s = eqb (length s % 2) 0

all_hex_even : (s : List ℕ) → all_hex s ≡ (is_even s && list_all is_nibble s)
unfolding all_hex
all_hex_even [] = refl
all_hex_even (a ∷ []) = refl
all_hex_even (a ∷ b ∷ s) =
    let e : is_even (a ∷ b ∷ s) ≡ is_even s = ap (λ (r : ℕ). eqb r 0) (omega arith) in
    rw (all_hex_even s, e) (go (is_nibble a) (is_nibble b) (is_even s) (list_all is_nibble s))
  where
    go : (x y e l : Bool) → (x && (y && (e && l))) ≡ (e && (x && (y && l)))
    go true true e l = refl
    go true false true l = refl
    go true false false l = refl
    go false y true l = refl
    go false y false l = refl

pub even_hex : (s : List ℕ) → length s % 2 ≡ 0 → list_all is_nibble s ≡ all_hex s
even_hex s h = sym (all_hex_even s ∙ ap (λ (e : Bool). e && list_all is_nibble s) (eq-eqb (length s % 2) 0 h))

pub odd_hex : (s : List ℕ) → (length s % 2 ≡ 0 → ⊥) → eqb (length s % 2) 0 ≡ all_hex s
odd_hex s h = rw (all_hex_even s, ne_eqb (length s % 2) 0 h)

-- ---- the bytes

pub bytes_length : (s : List ℕ) → length (hex_bytes s) ≡ length s / 2
unfolding hex_bytes
bytes_length [] = refl
bytes_length (a ∷ []) = refl
bytes_length (a ∷ b ∷ s) = omega (arith, bytes_length s)

pub byte_at : (s : List ℕ) (i : ℕ) → 2 * i + 1 < length s
    → get_or (hex_bytes s) i 0 ≡ nibble (get_or s (2 * i) 0) * 16 + nibble (get_or s (2 * i + 1) 0)
unfolding hex_bytes
byte_at [] i h = absurd (omega arith)
byte_at (a ∷ []) i h = absurd (omega arith)
byte_at (a ∷ b ∷ s) zero h = refl
byte_at (a ∷ b ∷ s) (suc i) h =
    let e : 2 * suc i ≡ suc (suc (2 * i)) = omega arith in
    let f : 2 * suc i + 1 ≡ suc (suc (2 * i + 1)) = omega arith in
    byte_at s i (omega arith) ∙ sym (ap₂ (λ (x y : ℕ). nibble (get_or (a ∷ b ∷ s) x 0) * 16 + nibble (get_or (a ∷ b ∷ s) y 0)) e f)

pub nibbles_at : (s : List ℕ) (i : ℕ) → all_hex s ≡ true → 2 * i + 1 < length s
    → (is_nibble (get_or s (2 * i) 0) ≡ true) × (is_nibble (get_or s (2 * i + 1) 0) ≡ true)
unfolding all_hex
nibbles_at [] i a h = absurd (omega arith)
nibbles_at (x ∷ []) i a h = absurd (omega arith)
nibbles_at (x ∷ y ∷ s) zero a h = let k = both (is_nibble x) (is_nibble y) (all_hex s) a in (k.0, k.1.0)
nibbles_at (x ∷ y ∷ s) (suc i) a h =
    let e : 2 * suc i ≡ suc (suc (2 * i)) = omega arith in
    let f : 2 * suc i + 1 ≡ suc (suc (2 * i + 1)) = omega arith in
    let k = nibbles_at s i (both (is_nibble x) (is_nibble y) (all_hex s) a).1.1 (omega arith) in
    (ap (λ (j : ℕ). is_nibble (get_or (x ∷ y ∷ s) j 0)) e ∙ k.0, ap (λ (j : ℕ). is_nibble (get_or (x ∷ y ∷ s) j 0)) f ∙ k.1)

-- ---- the decoding

module _ (s d : List ℕ) where
  -- one byte more
  pub decoded_more : (i : ℕ) {e : List ℕ} {x y : ℕ} → 2 * i + 1 < length s → i < length d → e ≡ paste d 0 (hex_bytes s) i
      → x ≡ nibble (get_or s (2 * i) 0) → y ≡ nibble (get_or s (2 * i + 1) 0) → set e i (x * 16 + y) ≡ paste d 0 (hex_bytes s) (i + 1)
  decoded_more i h l p q r =
      let z : i ≡ 0 + i = omega arith in
      let v = ap₂ (λ (x y : ℕ). x * 16 + y) q r ∙ sym (byte_at s i h) in
      ap₂ (λ (e : List ℕ) (v : ℕ). set e i v) p v
      ∙ ap (λ (j : ℕ). set (paste d 0 (hex_bytes s) i) j (get_or (hex_bytes s) i 0)) z
      ∙ paste-suc d 0 (hex_bytes s) i 0 (omega arith) (omega (arith, bytes_length s))
      ∙ ap (paste d 0 (hex_bytes s)) (sym (add-one i))

-- ---- a pair, behind k of them

module _ (s : List ℕ) (k : ℕ) (pair rest : List ℕ) (e : drop (2 * k) s ≡ pair ++ rest) (two : length pair ≡ 2) where
  pub pair_room : 2 * k + 1 < length s
  pair_room = omega (arith, length-append pair rest, ap length e, length-drop (2 * k) s)

  pub pair_rest : rest ≡ drop (2 * (k + 1)) s
  pair_rest =
      let n : 2 * k + 2 ≡ 2 * (k + 1) = omega arith in
      sym (drop_at pair rest 2 two) ∙ sym (ap (drop 2) e) ∙ drop-drop 2 (2 * k) s ∙ ap (λ (j : ℕ). drop j s) n

  at : (j : ℕ) → j < 2 → get_or pair j 0 ≡ get_or s (2 * k + j) 0
  at j l = sym (get_or-append pair rest 0 j (omega arith)) ∙ sym (ap (λ (l : List ℕ). get_or l j 0) e) ∙ get_or-drop (2 * k) s j 0

  first : get_or pair 0 0 ≡ get_or s (2 * k) 0
  first = let n : 2 * k + 0 ≡ 2 * k = omega arith in at 0 (omega arith) ∙ ap (λ (j : ℕ). get_or s j 0) n

  pub pair_nibbles : all_hex s ≡ true → (is_nibble (get_or pair 0 0) ≡ true) × (is_nibble (get_or pair 1 0) ≡ true)
  pair_nibbles a =
      let h = nibbles_at s k a pair_room in (ap is_nibble first ∙ h.0, ap is_nibble (at 1 (omega arith)) ∙ h.1)

  -- one byte more
  pub pair_decoded : (d : List ℕ) {f : List ℕ} {x y : ℕ} → k < length d → f ≡ paste d 0 (hex_bytes s) k
      → x ≡ nibble (get_or pair 0 0) → y ≡ nibble (get_or pair 1 0) → set f k (x * 16 + y) ≡ paste d 0 (hex_bytes s) (k + 1)
  pair_decoded d l p q r = decoded_more s d k pair_room l p (q ∙ ap nibble first) (r ∙ ap nibble (at 1 (omega arith)))

-- what the decoding needs
pub ruleset decoding = (bytes_length, common_steps)
