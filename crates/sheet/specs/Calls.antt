-- What the library's call answers: the listing at the front of the destination.
use Rattle.std.specs.Prelude.{ℕ, List, [], ◌∷◌, ◌++◌, ltb, length, drop, Result}
use Rattle.slots.specs.declared.refusals.Refusal.{Refusal}
use Rattle.slots.specs.Refusals.{Check, ◌when◌, refusal, granted, number_in, value_in}
use Rattle.sheet.specs.Listings.{listing}
use Rattle.sheet.specs.Bounds.{most_listing}

-- 14, destination too short: shorter than the longest listing
abbrev pub list_checks : ℕ → List Check
list_checks room = (14 when ltb room most_listing) ∷ []

unfoldable pub list_refusal : ℕ → ℕ
list_refusal room = refusal (list_checks room)

-- an answer in the description's numbers: the refusal, 0 for none, and how many bytes
pub record Listed : Type 0 where
  pub number : ℕ
  pub len : ℕ

-- what each answer says
abbrev pub said_listed : Result ℕ Refusal → Listed
said_listed a = record { number = number_in a; len = value_in 0 a }

-- how many bytes are written, or a refusal's number and none
unfoldable pub listed : List ℕ → ℕ → Listed
listed s room = record { number = list_refusal room; len = granted (list_refusal room) (length (listing s)) 0 }

-- what the destination then holds: the listing at its front, with the bytes behind kept; or d as it was
unfoldable pub destination : List ℕ → List ℕ → List ℕ
destination s d = granted (list_refusal (length d)) (listing s ++ drop (length (listing s)) d) d
