-- 'Numbers for what is refused': every call has a list of checks, in the order of their numbers, and the lowest applicable
-- number is given. 0 stands for no refusal.
use Rattle.std.specs.Prelude.{ℕ, Bool, cond, List, [], ◌∷◌, eqb, Result, Ok, Err}
use Rattle.slots.specs.declared.refusals.Refusal.{Refusal}
use Rattle.slots.specs.declared.refusals.Refusal.TheVariants.{TableNotSound, ImageNotWhole, SeatTooHigh, SeatOpen, SeatNotOpen, SeatNotEnded, NoFrame, TooManyInstrs, InstrNotLegal, CellTooHigh, SlotTooHigh, ShelfDamaged, OnNeitherShelf, DestinationTooShort}

-- a number, and whether it applies
pub record Check : Type 0 where
  pub number : ℕ
  pub applies : Bool

infix 10 ◌when◌
abbrev pub ◌when◌ : ℕ → Bool → Check
n when b = record { number = n; applies = b }

-- the number given
unfoldable pub refusal : List Check → ℕ
refusal [] = 0
refusal (k ∷ ks) = cond k.applies k.number (refusal ks)

-- the value where the number is that of no refusal, and zeros otherwise
abbrev pub granted : {A : Type 0} → ℕ → A → A → A
granted n value zeros = cond (eqb n 0) value zeros

-- ---- the code's answers: a value, or a refusal

-- the table of numbers
abbrev pub number_of : Refusal → ℕ
number_of TableNotSound = 1
number_of ImageNotWhole = 2
number_of SeatTooHigh = 3
number_of SeatOpen = 4
number_of SeatNotOpen = 5
number_of SeatNotEnded = 6
number_of NoFrame = 7
number_of TooManyInstrs = 8
number_of InstrNotLegal = 9
number_of CellTooHigh = 10
number_of SlotTooHigh = 11
number_of ShelfDamaged = 12
number_of OnNeitherShelf = 13
number_of DestinationTooShort = 14

-- the number of an answer, 0 for none
abbrev pub number_in : {A : Type 0} → Result A Refusal → ℕ
number_in (Ok x) = 0
number_in (Err r) = number_of r

-- its value, or zeros
abbrev pub value_in : {A : Type 0} → A → Result A Refusal → A
value_in zeros (Ok x) = x
value_in zeros (Err r) = zeros
