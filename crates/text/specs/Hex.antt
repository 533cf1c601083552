-- 'The frame is lower-case hex, at least one byte': which bytes are hex, and what they stand for.
use Rattle.std.specs.Prelude.{ℕ, zero, suc, ◌+◌, ◌-◌, ◌*◌, Bool, true, false, cond, ◌&&◌, ◌||◌, List, [], ◌∷◌, ◌++◌, length, drop, ltb, leb, Option, Some, None}

-- 0 to 9, then a to f
abbrev pub is_numeral : ℕ → Bool
is_numeral b = leb 48 b && ltb b 58

abbrev pub is_letter : ℕ → Bool
is_letter b = leb 97 b && ltb b 103

unfoldable pub nibble : ℕ → ℕ
nibble b = cond (is_numeral b) (b - 48) (b - 87)

-- two for each byte
unfoldable pub all_hex : List ℕ → Bool
all_hex [] = true
all_hex (a ∷ []) = false
all_hex (a ∷ b ∷ s) = (is_numeral a || is_letter a) && ((is_numeral b || is_letter b) && all_hex s)

unfoldable pub hex_bytes : List ℕ → List ℕ
hex_bytes [] = []
hex_bytes (a ∷ []) = []
hex_bytes (a ∷ b ∷ s) = (nibble a * 16 + nibble b) ∷ hex_bytes s

-- at least one byte
unfoldable pub is_hex : List ℕ → Bool
is_hex s = leb 1 (length s) && all_hex s

-- ---- what `read_hex` answers, where the destination d has room for the bytes

unfoldable pub can_hex : List ℕ → List ℕ → Bool
can_hex s d = is_hex s && leb (length (hex_bytes s)) (length d)

-- how many bytes: none where s is no hex, or where there is no room
unfoldable pub hexed : List ℕ → List ℕ → ℕ
hexed s d = cond (can_hex s d) (length (hex_bytes s)) 0

-- the bytes at the front of d, with those behind kept; or d as it was
unfoldable pub hexed_into : List ℕ → List ℕ → List ℕ
hexed_into s d = cond (can_hex s d) (hex_bytes s ++ drop (length (hex_bytes s)) d) d

-- a count, where 0 says that there is nothing
unfoldable pub counted : ℕ → Option ℕ
counted zero = None
counted (suc n) = Some (suc n)
