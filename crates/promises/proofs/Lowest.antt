-- The number given by a list of checks is the lowest that applies, since the numbers of the list rise from above 0: the first check that
-- applies gives its number, and every check behind it has a higher one. That the numbers rise is a computed test, whatever the checks ask.
use Prim.Native.Nat.{ℕ, ◌<◌}
use mathlib.Core.Path.{◌≡◌, refl, sym, subst}
use mathlib.Core.Logic.{inl, inr}
use mathlib.Core.Bool.{Bool, true, false, ◌&&◌}
use mathlib.Core.List.{List, [], ◌∷◌}
use native.Mathlib.Omega.{arith}
use lib.Dec.{ltb}
use borrow.Author.Tests.{ltb-true}
use Rattle.slots.specs.Refusals.{Check, refusal}
use Rattle.slots.proofs.Checks.{applies, passed}
use Rattle.slots.proofs.Truth.{and_l, and_r, not_both, split}
use Rattle.promises.specs.Demand1.{Applies, Lowest}

-- the numbers are above n, and rise
abbrev pub rising : ℕ → List Check → Bool
rising n [] = true
rising n (k ∷ ks) = ltb n k.number && rising k.number ks

rising_parts : (n : ℕ) (k : Check) (ks : List Check) → rising n (k ∷ ks) ≡ true → (n < k.number) × (rising k.number ks ≡ true)
rising_parts n k ks e =
    let first : Bool = ltb n k.number in
    (ltb-true n k.number (and_l first (rising k.number ks) e), and_r first (rising k.number ks) e)

rising-above : (n m : ℕ) (ks : List Check) → rising n ks ≡ true → Applies ks m → n < m
unfolding Applies
rising-above n m [] e a = absurd a
rising-above n m (k ∷ ks) e a =
    let r = rising_parts n k ks e in
    elim a [
      | inl h ↦ omega (arith, r.0, h.0)
      | inr b ↦ omega (arith, r.0, rising-above k.number m ks r.1 b)
    ]

-- the first check applies
lowest_first : (n : ℕ) (k : Check) (ks : List Check) → rising n (k ∷ ks) ≡ true → k.applies ≡ true → Lowest (k ∷ ks) k.number
unfolding Applies
lowest_first n k ks e t =
    let r = rising_parts n k ks e in
    record {
      applies = λ z. inl (refl, t);
      lowest = λ m a. elim a [
        | inl h ↦ (omega (arith, r.0), omega (arith, h.0))
        | inr b ↦ (omega (arith, r.0), omega (arith, rising-above k.number m ks r.1 b))
      ];
    }

-- it does not, and then the others decide
lowest_later : {n : ℕ} (k : Check) {ks : List Check} → k.applies ≡ false → Lowest ks n → Lowest (k ∷ ks) n
unfolding Applies
lowest_later k f h =
    record {
      applies = λ z. inr (h.applies z);
      lowest = λ m a. elim a [
        | inl b ↦ absurd (not_both b.1 f)
        | inr b ↦ h.lowest m b
      ];
    }

pub lowest_rising : (n : ℕ) (ks : List Check) → rising n ks ≡ true → Lowest ks (refusal ks)
unfolding Applies refusal
lowest_rising n [] e = record { applies = λ l. omega arith; lowest = λ m a. absurd a }
lowest_rising n (k ∷ ks) e =
    split k.applies
    (λ t. subst (Lowest (k ∷ ks)) (sym (applies k.number ks t)) (lowest_first n k ks e t))
    (λ f. subst (Lowest (k ∷ ks)) (sym (passed k.number ks f)) (lowest_later k f (lowest_rising k.number ks (rising_parts n k ks e).1)))
