-- 'Shelves': a shelf is a run of entries, each a script number, two bytes high first, and then a frame.
use Rattle.std.specs.Prelude.{ℕ, zero, suc, ◌+◌, ◌-◌, Bool, true, false, not, cond, ◌&&◌, List, [], ◌∷◌, length, get_or, take, drop, leb, eqb}
use Rattle.slots.specs.Refusals.{Check, ◌when◌, refusal, granted}
use Rattle.script.specs.Scripts.{head_bytes, word}
use Rattle.script.specs.Frames.{version}

-- ---- the entry at the front of the bytes s

abbrev pub number_bytes : ℕ
number_bytes = 2

unfoldable pub entry_number : List ℕ → ℕ
entry_number s = word (get_or s 0 0) (get_or s 1 0)

-- its script number, the head of its frame, and as many bytes as the head says
unfoldable pub span : List ℕ → ℕ
span s = number_bytes + head_bytes + word (get_or s 3 0) (get_or s 4 0)

-- not cut short, and of version 1; instructions are not examined
unfoldable pub is_whole : List ℕ → Bool
is_whole s = leb (number_bytes + head_bytes) (length s) && eqb (get_or s 2 0) version && leb (span s) (length s)

-- its frame, as it stands
abbrev pub frame_in : List ℕ → List ℕ
frame_in s = take (span s - number_bytes) (drop number_bytes s)

-- its bytes, and 0 where it is damaged
unfoldable pub entry_bytes : List ℕ → ℕ
entry_bytes s = cond (is_whole s) (span s) 0

-- ---- a shelf, taken apart

pub data Shelf : Type 0 where
  nothing : Shelf
  damage : Shelf
  entry : ℕ → List ℕ → Shelf → Shelf

-- n entries of s at most
unfoldable pub entries : ℕ → List ℕ → Shelf
entries zero s = nothing
entries (suc n) s =
    cond (eqb (length s) 0) nothing
    (cond (is_whole s) (entry (entry_number s) (frame_in s) (entries n (drop (span s) s))) damage)

-- all of s: an entry has bytes, so there are no more entries than bytes
unfoldable pub shelf : List ℕ → Shelf
shelf s = entries (length s) s

-- no entry is damaged; an empty shelf is sound
unfoldable pub is_sound : Shelf → Bool
is_sound nothing = true
is_sound damage = false
is_sound (entry m f rest) = is_sound rest

-- the frame of the first entry with the number n; no frame is empty, so [] says that there is none
unfoldable pub find : ℕ → Shelf → List ℕ
find n nothing = []
find n damage = []
find n (entry m f rest) = cond (eqb m n) f (find n rest)

-- ---- lookup

-- the site's frame, or the works' where the site has none
unfoldable pub or_else : List ℕ → List ℕ → List ℕ
or_else [] b = b
or_else (x ∷ a) b = x ∷ a

unfoldable pub on_either : List ℕ → List ℕ → ℕ → List ℕ
on_either site works n = or_else (find n (shelf site)) (find n (shelf works))

-- 12, a shelf damaged; 13, number on neither shelf
abbrev pub lookup_checks : List ℕ → List ℕ → ℕ → List Check
lookup_checks site works n =
    (12 when not (is_sound (shelf site) && is_sound (shelf works))) ∷ (13 when eqb (length (on_either site works n)) 0) ∷ []

unfoldable pub lookup_refusal : List ℕ → List ℕ → ℕ → ℕ
lookup_refusal site works n = refusal (lookup_checks site works n)

-- the frame handed out, or an empty part
unfoldable pub frame_found : List ℕ → List ℕ → ℕ → List ℕ
frame_found site works n = granted (lookup_refusal site works n) (on_either site works n) []
