-- Rules 2 and 3 test each number below n, and the code each element of a list. `all` has its last test apart; with the first apart instead,
-- it goes down two lists as `==` does, and a list cut off at n as `all` of an iterator.
use Prim.Native.Nat.{ℕ, zero, suc, ◌≤◌}
use mathlib.Core.Path.{◌≡◌, refl, sym, ap, ◌∙◌}
use mathlib.Core.Bool.{Bool, ◌&&◌, and-true, and_assoc}
use mathlib.Core.List.{List, [], ◌∷◌}
use native.Mathlib.Omega.{arith}
use native.Mathlib.Numerals.{add-one}
use lib.Dec.{eqb}
use lib.ListN.{length, take, get_or}
use lib.Pointwise.{pointwise}
use Rattle.std.specs.List.{list_all}
use Rattle.std.proofs.lemmas.List.Folds.{list_all_more}
use Rattle.slots.specs.declared.set.SlotSet.{SlotSet}
use Rattle.seats.specs.declared.seat.Run.{Run}
use Rattle.seats.specs.declared.seat.Write.{Write}
use Rattle.seats.specs.Seats.{no_write}
use Rattle.rule_one.specs.Tests.{all}
use Rattle.soundness.specs.Tests.{cell_held, kept_test}

first_apart : (f : ℕ → Bool) (n : ℕ) → all f (suc n) ≡ (f 0 && all (λ k. f (suc k)) n)
unfolding all
first_apart f zero = sym (and-true (f 0))
first_apart f (suc n) = ap (λ (b : Bool). b && f (suc n)) (first_apart f n) ∙ and_assoc (f 0) (all (λ k. f (suc k)) n) (f (suc n))

pub same_each : (xs ys : List ℕ) (n : ℕ) → length xs ≡ n → length ys ≡ n
    → pointwise eqb xs ys ≡ all (λ k. eqb (get_or xs k 0) (get_or ys k 0)) n
unfolding all
same_each [] [] zero l m = refl
same_each [] ys (suc n) l m = absurd (omega arith)
same_each (x ∷ xs) ys zero l m = absurd (omega arith)
same_each xs (y ∷ ys) zero l m = absurd (omega arith)
same_each (x ∷ xs) [] (suc n) l m = absurd (omega arith)
same_each (x ∷ xs) (y ∷ ys) (suc n) l m =
    ap (λ (b : Bool). eqb x y && b) (same_each xs ys n (omega arith) (omega arith))
    ∙ sym (first_apart (λ k. eqb (get_or (x ∷ xs) k 0) (get_or (y ∷ ys) k 0)) n)

taken_each : {X : Type 0} (p : X → Bool) (xs : List X) (d : X) (n : ℕ) → n ≤ length xs → list_all p (take n xs) ≡ all (λ k. p (get_or xs k d)) n
unfolding all
taken_each p xs d zero h = refl
taken_each p xs d (suc n) h =
    (rw add-one at (list_all_more p xs n d (omega arith))) ∙ ap (λ (b : Bool). b && p (get_or xs n d)) (taken_each p xs d n (omega arith))

pub kept_each : (own : ℕ → ℕ) (ρ : Run) (h : SlotSet) → ρ.kept ≤ length ρ.writes
    → list_all (λ (w : Write). cell_held own h w.cell.0) (take ρ.kept ρ.writes) ≡ kept_test own ρ h
unfolding kept_test
kept_each own ρ h l = taken_each (λ (w : Write). cell_held own h w.cell.0) ρ.writes no_write ρ.kept l
