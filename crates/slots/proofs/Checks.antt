-- Lists of checks. The first check that applies gives the number, so a number is found by going down the list, one check at a time; a number
-- that is given stays whatever checks follow, and where none is given no check applies.
use Prim.Native.Nat.{ℕ}
use mathlib.Core.Path.{◌≡◌, refl, sym, ◌∙◌}
use mathlib.Core.Bool.{Bool, true, false}
use mathlib.Core.List.{List, [], ◌∷◌, ◌++◌}
use lib.Dec.{eqb}
use borrow.Author.Tests.{eqb-true, eqb-false}
use Rattle.slots.specs.Refusals.{Check, ◌when◌, refusal}
use Rattle.slots.proofs.Truth.{split}

pub none : refusal [] ≡ 0
unfolding refusal
none = refl

pub applies : {b : Bool} (n : ℕ) (ks : List Check) → b ≡ true → refusal ((n when b) ∷ ks) ≡ n
unfolding refusal
applies n ks e = rw e

pub passed : {b : Bool} (n : ℕ) (ks : List Check) → b ≡ false → refusal ((n when b) ∷ ks) ≡ refusal ks
unfolding refusal
passed n ks e = rw e

-- no number is given: the first check does not apply, and the others give none
pub none_given : (n : ℕ) (b : Bool) (ks : List Check) → (n ≡ 0 → ⊥) → refusal ((n when b) ∷ ks) ≡ 0 → (b ≡ false) × (refusal ks ≡ 0)
unfolding refusal
none_given n true ks h e = absurd (h e)
none_given n false ks h e = (refl, e)

pub given : (ks js : List Check) → (refusal ks ≡ 0 → ⊥) → refusal (ks ++ js) ≡ refusal ks
unfolding refusal
given [] js h = absurd (h refl)
given (k ∷ ks) js h = split k.applies (λ t. rw t) (λ t. rw t (given ks js (λ e. h (rw t e))))

pub none_first : (ks js : List Check) → refusal (ks ++ js) ≡ 0 → refusal ks ≡ 0
none_first ks js e = split (eqb (refusal ks) 0) (eqb-true (refusal ks) 0) (λ t. sym (given ks js (eqb-false (refusal ks) 0 t)) ∙ e)
