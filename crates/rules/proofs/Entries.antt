-- Lists of seats, by their entries: what is an entry of a list with one more in front, and when nothing stands twice in two lists put
-- together: nothing does in either, and nothing stands in both. By induction on the first list.
use Prim.Native.Nat.{ℕ}
use mathlib.Core.Path.{◌≡◌, refl, sym, ◌∙◌, subst}
use mathlib.Core.Logic.{⊎_elim}
use mathlib.Core.Bool.{true, false≢true}
use mathlib.Core.List.{List, [], ◌∷◌, ◌++◌}
use lib.Dec.{eqb}
use borrow.Author.Tests.{eqb-true, eq-eqb}
use Rattle.slots.proofs.Truth.{or_l, or_r, or_cases, is_false, not_both}
use Rattle.seats.specs.Queues.{is_entry}
use Rattle.seats.proofs.Lines.{entry_append}
use Rattle.rules.specs.Rules.{Distinct}

-- ---- entries of a list

pub entry_cases : {A : Type 0} (i x : ℕ) (xs : List ℕ) → is_entry i (x ∷ xs) ≡ true → (x ≡ i → A) → (is_entry i xs ≡ true → A) → A
unfolding is_entry
entry_cases i x xs e f g = ⊎_elim (λ q. f (eqb-true x i q)) g (or_cases (eqb x i) (is_entry i xs) e)

pub entry_first : (x : ℕ) (xs : List ℕ) → is_entry x (x ∷ xs) ≡ true
unfolding is_entry
entry_first x xs = or_l (is_entry x xs) (eq-eqb x x refl)

pub entry_later : (i x : ℕ) (xs : List ℕ) → is_entry i xs ≡ true → is_entry i (x ∷ xs) ≡ true
unfolding is_entry
entry_later i x xs e = or_r (eqb x i) e

pub no_entry : {A : Type 0} (i : ℕ) → is_entry i [] ≡ true → A
unfolding is_entry
no_entry i e = absurd (false≢true e)

-- ---- two lists

module _ (ys : List ℕ) where
  pub distinct_left : (xs : List ℕ) → Distinct (xs ++ ys) → Distinct xs
  unfolding Distinct
  distinct_left [] d = tt
  distinct_left (x ∷ xs) d =
      (is_false (λ m. not_both (entry_append x xs ys ∙ or_l (is_entry x ys) m) d.0), distinct_left xs d.1)

  pub distinct_right : (xs : List ℕ) → Distinct (xs ++ ys) → Distinct ys
  unfolding Distinct
  distinct_right [] d = d
  distinct_right (x ∷ xs) d = distinct_right xs d.1

  pub distinct_apart : (xs : List ℕ) → Distinct (xs ++ ys) → (i : ℕ) → is_entry i xs ≡ true → is_entry i ys ≡ true → ⊥
  unfolding Distinct
  distinct_apart [] d i m n = no_entry i m
  distinct_apart (x ∷ xs) d i m n =
      entry_cases i x xs m
      (λ q. not_both (entry_append x xs ys ∙ or_r (is_entry x xs) (subst (λ (k : ℕ). is_entry k ys ≡ true) (sym q) n)) d.0)
      (λ k. distinct_apart xs d.1 i k n)

  pub distinct_append : (xs : List ℕ) → Distinct xs → Distinct ys → ((i : ℕ) → is_entry i xs ≡ true → is_entry i ys ≡ true → ⊥)
      → Distinct (xs ++ ys)
  unfolding Distinct
  distinct_append [] d e h = e
  distinct_append (x ∷ xs) d e h = (
    is_false (λ m. ⊎_elim (λ k. not_both k d.0) (h x (entry_first x xs))
        (or_cases (is_entry x xs) (is_entry x ys) (sym (entry_append x xs ys) ∙ m))),
    distinct_append xs d.1 e (λ i m. h i (entry_later i x xs m)),
  )
