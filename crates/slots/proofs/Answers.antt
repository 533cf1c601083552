-- An answer is told by its number and its value: no two refusals have one number, since the number gives the refusal back, and none has
-- the number 0.
use Rattle.std.specs.Prelude.{◌≡◌, ℕ, ◌<◌, List, [], ◌∷◌, get_or, Result, Ok, Err}
use mathlib.Core.Path.{refl, sym, ap, ◌∙◌}
use native.Mathlib.Omega.{arith}
use Rattle.slots.specs.Refusals.{number_of, number_in, value_in}
use Rattle.slots.specs.declared.refusals.Refusal.{Refusal}
use Rattle.slots.specs.declared.refusals.Refusal.TheVariants.{TableNotSound, ImageNotWhole, SeatTooHigh, SeatOpen, SeatNotOpen, SeatNotEnded, NoFrame, TooManyInstrs, InstrNotLegal, CellTooHigh, SlotTooHigh, ShelfDamaged, OnNeitherShelf, DestinationTooShort}

-- number 0 is nobody's
in_order : List Refusal
in_order =
    TableNotSound ∷ TableNotSound ∷ ImageNotWhole ∷ SeatTooHigh ∷ SeatOpen ∷ SeatNotOpen ∷
    SeatNotEnded ∷ NoFrame ∷ TooManyInstrs ∷ InstrNotLegal ∷ CellTooHigh ∷
    SlotTooHigh ∷ ShelfDamaged ∷ OnNeitherShelf ∷ DestinationTooShort ∷ []

refusal_with : ℕ → Refusal
refusal_with n = get_or in_order n TableNotSound

given_back : (r : Refusal) → refusal_with (number_of r) ≡ r
unfolding refusal_with in_order
given_back TableNotSound = refl
given_back ImageNotWhole = refl
given_back SeatTooHigh = refl
given_back SeatOpen = refl
given_back SeatNotOpen = refl
given_back SeatNotEnded = refl
given_back NoFrame = refl
given_back TooManyInstrs = refl
given_back InstrNotLegal = refl
given_back CellTooHigh = refl
given_back SlotTooHigh = refl
given_back ShelfDamaged = refl
given_back OnNeitherShelf = refl
given_back DestinationTooShort = refl

pub one_number : (r q : Refusal) → number_of r ≡ number_of q → r ≡ q
one_number r q e = sym (given_back r) ∙ ap refusal_with e ∙ given_back q

pub number_given : (r : Refusal) → 0 < number_of r
number_given TableNotSound = omega arith
number_given ImageNotWhole = omega arith
number_given SeatTooHigh = omega arith
number_given SeatOpen = omega arith
number_given SeatNotOpen = omega arith
number_given SeatNotEnded = omega arith
number_given NoFrame = omega arith
number_given TooManyInstrs = omega arith
number_given InstrNotLegal = omega arith
number_given CellTooHigh = omega arith
number_given SlotTooHigh = omega arith
number_given ShelfDamaged = omega arith
number_given OnNeitherShelf = omega arith
number_given DestinationTooShort = omega arith

pub no_number : (r : Refusal) → number_of r ≡ 0 → ⊥
no_number r e = let h : 0 < number_of r = number_given r in omega arith

pub one_answer : {A : Type 0} (zeros : A) (x y : Result A Refusal) → number_in x ≡ number_in y → value_in zeros x ≡ value_in zeros y → x ≡ y
one_answer zeros (Ok a) (Ok b) n v = ap Ok v
one_answer zeros (Ok a) (Err q) n v = absurd (no_number q (sym n))
one_answer zeros (Err r) (Ok b) n v = absurd (no_number r n)
one_answer zeros (Err r) (Err q) n v = ap Err (one_number r q n)
