-- The bytes in front of a separator are a front of the whole, by induction on the bytes. They are as many as a search for the
-- separator passes, since both recur over the bytes in the same way.
use Prim.Native.Nat.{ℕ, suc, ◌+◌, ◌≤◌}
use mathlib.Core.Path.{◌≡◌, refl, sym, ap}
use mathlib.Core.Bool.{Bool, true, false, cond}
use mathlib.Core.List.{List, [], ◌∷◌}
use native.Mathlib.Omega.{arith}
use lib.ListN.{length, take}
use lib.Dec.{ltb, eqb}
use borrow.Author.Tests.{ltb-false}
use Rattle.std.specs.Prelude.{position, unwrap_or, Some, None}
use Rattle.std.specs.List.{position_or_len}
use Rattle.std.proofs.lemmas.List.Recursion.{is_position_or_len}
use Rattle.text.specs.Pieces.{before}

pub before_length : (b : ℕ) (s : List ℕ) → length (before b s) ≤ length s
unfolding before
before_length b [] = omega arith
before_length b (x ∷ s) = go (eqb x b) (before b s) (before_length b s)
  where
    go : (t : Bool) (r : List ℕ) → length r ≤ length s → length (cond t [] (x ∷ r)) ≤ suc (length s)
    go true r h = omega arith
    go false r h = omega arith

pub before_part : (b : ℕ) (s : List ℕ) → take (length (before b s)) s ≡ before b s
unfolding before
before_part b [] = refl
before_part b (x ∷ s) = go (eqb x b) (before b s) (before_part b s)
  where
    go : (t : Bool) (r : List ℕ) → take (length r) s ≡ r → take (length (cond t [] (x ∷ r))) (x ∷ s) ≡ cond t [] (x ∷ r)
    go true r e = refl
    go false r e = ap (λ (l : List ℕ). x ∷ l) e

-- ---- they are as many as a search passes

before_passed : (b : ℕ) (s : List ℕ) → length (before b s) ≡ position_or_len (λ x. eqb x b) s
unfolding before
before_passed b = is_position_or_len (λ s. length (before b s)) (λ x. eqb x b) refl (λ x s. step (eqb x b) x (before b s))
  where
    step : (t : Bool) (x : ℕ) (r : List ℕ) → length (cond t [] (x ∷ r)) ≡ cond t 0 (1 + length r)
    step true x r = refl
    step false x r = omega arith

pub before_found : (b : ℕ) (s : List ℕ) → unwrap_or (position (λ x. eqb x b) s) (length s) ≡ length (before b s)
before_found b s = go (ltb n (length s)) refl
  where
    n : ℕ
    n = position_or_len (λ x. eqb x b) s

    go : (t : Bool) → ltb n (length s) ≡ t → unwrap_or (cond t (Some n) None) (length s) ≡ length (before b s)
    go true e = sym (before_passed b s)
    go false e = omega (arith, ltb-false n (length s) e, before_passed b s, before_length b s)
