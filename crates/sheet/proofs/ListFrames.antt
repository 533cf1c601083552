-- The hex of an opening, as the code reads it. A line has at most 65,536 bytes, and two of them stand for one, so there is always room, and
-- hex is at least one byte: nothing is read exactly where there is no hex, and otherwise the bytes are at the front.
use Prim.Native.Nat.{ℕ, zero, suc, ◌*◌, ◌≤◌, ◌<◌}
use mathlib.Core.Path.{◌≡◌, refl, sym}
use mathlib.Core.Bool.{Bool, true, false, cond, ◌&&◌, false≢true}
use mathlib.Core.List.{List, [], ◌∷◌}
use native.Mathlib.Omega.{arith}
use lib.Dec.{leb}
use lib.ListN.{length, take}
use lib.Seq.{take-append_seam}
use borrow.Author.Tests.{le-leb, leb-true}
use Rattle.std.specs.Prelude.{Some, None}
use Rattle.slots.proofs.Truth.{and_r, split, is_false}
use Rattle.text.specs.Hex.{all_hex, hex_bytes, is_hex, can_hex, counted, hexed, hexed_into}
use Rattle.sheet.specs.Listings.{most_input}
use Rattle.sheet.specs.Turns.{most_frame}

-- ---- a count

counted_some : (n k : ℕ) → Some k ≡ counted n → (k ≡ n) × (0 < n)
unfolding counted
counted_some zero k e = let z : ◌≡◌ {A = ℕ} 0 1 = cc in absurd (omega arith)
counted_some (suc n) k e = let z : k ≡ suc n = cc in (z, omega arith)

counted_none : (n : ℕ) → None ≡ counted n → n ≡ 0
unfolding counted
counted_none zero e = refl
counted_none (suc n) e = let z : ◌≡◌ {A = ℕ} 0 1 = cc in absurd (omega arith)

-- ---- hex

half : (s : List ℕ) → length (hex_bytes s) * 2 ≤ length s
unfolding hex_bytes
half [] = omega arith
half (a ∷ []) = omega arith
half (a ∷ b ∷ s) = omega (arith, half s)

some : (s : List ℕ) → is_hex s ≡ true → 0 < length (hex_bytes s)
unfolding is_hex all_hex hex_bytes
some [] e = absurd (false≢true e)
some (a ∷ []) e = absurd (false≢true (and_r (leb 1 1) false e))
some (a ∷ b ∷ s) e = omega arith

-- ---- what is read of s into f

pub frame_fits : (s f : List ℕ) (k : ℕ) → Some k ≡ counted (hexed s f) → k ≤ length f
unfolding hexed can_hex
frame_fits s f k e = let q = counted_some (hexed s f) k e in go (is_hex s) (leb (length (hex_bytes s)) (length f)) refl q.0
  where
    go : (a b : Bool) → leb (length (hex_bytes s)) (length f) ≡ b → k ≡ cond (a && b) (length (hex_bytes s)) 0 → k ≤ length f
    go true true h z = omega (arith, leb-true (length (hex_bytes s)) (length f) h)
    go true false h z = omega arith
    go false b h z = omega arith

module _ (s f : List ℕ) (n : length s ≤ most_input) (m : length f ≡ most_frame) where
  room : can_hex s f ≡ is_hex s
  unfolding can_hex
  room = rw (le-leb (length (hex_bytes s)) (length f) (omega (arith, half s))) (both (is_hex s))
    where
      both : (b : Bool) → (b && true) ≡ b
      both true = refl
      both false = refl

  pub frame_none : None ≡ counted (hexed s f) → is_hex s ≡ false
  unfolding hexed
  frame_none e =
      is_false (λ h. let z : length (hex_bytes s) ≡ 0 = rw (room, h) at (counted_none (hexed s f) e) in omega (arith, some s h))

  module _ (k : ℕ) (e : Some k ≡ counted (hexed s f)) where
    pub frame_hex : is_hex s ≡ true
    unfolding hexed
    frame_hex =
        split (is_hex s) (λ h. h) (λ h. let z : 0 < 0 = rw (room, h) at ((counted_some (hexed s f) k e).1) in absurd (omega arith))

    pub frame_front : hex_bytes s ≡ take k (hexed_into s f)
    unfolding hexed hexed_into
    frame_front =
        let q : k ≡ length (hex_bytes s) = rw (room, frame_hex) at ((counted_some (hexed s f) k e).0) in
        sym (rw (q, room, frame_hex) (take-append_seam (hex_bytes s) _))
