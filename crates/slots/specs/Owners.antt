-- 'Cells and who owns them': the rule of the owner list, and what `owner` answers.
use Rattle.std.specs.Prelude.{◌≡◌, ℕ, ◌+◌, ◌*◌, ◌/◌, ◌%◌, ◌<◌, List, [], ◌∷◌, leb, eqb, get_or, Result}
use Rattle.slots.specs.Sizes.{cells, slots}
use Rattle.slots.specs.Refusals.{Check, ◌when◌, refusal, granted, number_in, value_in}
use Rattle.slots.specs.Sets.{slot, tally}
use Rattle.slots.specs.declared.Cell.{Cell}
use Rattle.slots.specs.declared.Slot.{Slot}
use Rattle.slots.specs.declared.refusals.Refusal.{Refusal}

-- a number as the code's cell
abbrev pub cell : ℕ → Cell
cell c = record { 0 = c }

-- cell c belongs to record c div 8
abbrev pub record_of : ℕ → ℕ
record_of c = c / 8

-- the owner of cell c, of record r, is slot (r + 5 × (r div 64)) mod 64
unfoldable pub owner_of : ℕ → ℕ
owner_of c = (record_of c + 5 * (record_of c / 64)) % slots

-- entry c of a list, and 0 past its end
abbrev pub listed : List ℕ → ℕ → ℕ
listed l c = get_or l c 0

-- the list gives each cell its owner
unfoldable pub Lists : List ℕ → Type 0
Lists l = (c : ℕ) → c < cells → listed l c ≡ owner_of c

-- an answer in the description's numbers: the refusal, 0 for none, and the slot
pub record Says : Type 0 where
  pub number : ℕ
  pub value : ℕ

abbrev pub says : ℕ → ℕ → Says
says n v = record { number = n; value = v }

-- what each answer says
abbrev pub said : Result Slot Refusal → Says
said a = says (number_in a) (value_in (slot 0) a).0

-- 10, cell above 1,023
abbrev pub owner_checks : ℕ → List Check
owner_checks c = (10 when leb cells c) ∷ []

unfoldable pub owner_refusal : ℕ → ℕ
owner_refusal c = refusal (owner_checks c)

-- cell c's owner, or the refusal
unfoldable pub owner_says : ℕ → Says
owner_says c = says (owner_refusal c) (granted (owner_refusal c) (owner_of c) 0)

-- ---- what is shown of the list

-- all owners are below 64
unfoldable pub OwnersBelow : Type 0
OwnersBelow = (c : ℕ) → owner_of c < slots

-- each slot owns exactly 16 cells
unfoldable pub EachOwnsSixteen : Type 0
EachOwnsSixteen = (s : ℕ) → s < slots → tally (λ c. eqb (owner_of c) s) cells ≡ 16
