-- A rule of a table, shown at all of its entries by one test that antt computes, one entry after the other: where the test of the whole
-- table passes, the test of each entry at its place does. By induction on the table.
use Prim.Native.Nat.{ℕ, zero, suc, ◌+◌, ◌<◌}
use mathlib.Core.Path.{◌≡◌, sym, ◌∙◌, subst}
use mathlib.Core.Bool.{Bool, true, ◌&&◌}
use mathlib.Core.List.{List, [], ◌∷◌}
use native.Mathlib.Nat.{add-zero, zero-add, add-suc, suc-add, le_of_suc-le-suc, not-suc-le-zero}
use lib.ListN.{length, get_or}
use Rattle.slots.proofs.Truth.{and_l, and_r}

-- the test f passes at each place, counted from i, and its entry
abbrev pub every : (ℕ → ℕ → Bool) → ℕ → List ℕ → Bool
every f i [] = true
every f i (x ∷ xs) = f i x && every f (suc i) xs

every-from : (f : ℕ → ℕ → Bool) (xs : List ℕ) (i : ℕ) → every f i xs ≡ true → (k : ℕ) → k < length xs → f (i + k) (get_or xs k 0) ≡ true
every-from f [] i e k h = absurd (not-suc-le-zero h)
every-from f (x ∷ xs) i e zero h = rw add-zero (and_l (f i x) (every f (suc i) xs) e)
every-from f (x ∷ xs) i e (suc k) h =
    subst (λ (m : ℕ). f m (get_or xs k 0) ≡ true) (suc-add i k ∙ sym (add-suc i k))
    (every-from f xs (suc i) (and_r (f i x) (every f (suc i) xs) e) k (le_of_suc-le-suc h))

pub every_at : (f : ℕ → ℕ → Bool) (xs : List ℕ) → every f 0 xs ≡ true → (k : ℕ) → k < length xs → f k (get_or xs k 0) ≡ true
every_at f xs e k h = rw zero-add at (every-from f xs 0 e k h)
