-- 'The sheet program and its listing', the sheet: 'Lines: `o seat reading frame` opens, `s seat` steps. Numbers are decimal, 0 to
-- 4294967295, no leading zeros; the frame is lower-case hex, at least one byte; one space between.'
use Rattle.std.specs.Prelude.{ℕ, zero, suc, ◌+◌, ◌≡◌, Bool, true, false, cond, List, [], ◌∷◌, eqb, length, get_or, drop, Option, Some, None}
use Rattle.sheet.specs.declared.lines.Line.{Line}
use Rattle.sheet.specs.declared.lines.Line.TheVariants as line
use Rattle.text.specs.Pieces.{before, behind}
use Rattle.text.specs.Decimal.{number_in}
use Rattle.text.specs.Hex.{is_hex, hex_bytes}

abbrev pub space : ℕ
space = 32

abbrev pub line_feed : ℕ
line_feed = 10

-- the letters o and s
abbrev pub letter_o : ℕ
letter_o = 111

abbrev pub letter_s : ℕ
letter_s = 115

-- ---- what a line says

pub data Item : Type 0 where
  -- seat, reading, frame
  opens : ℕ → ℕ → List ℕ → Item
  -- seat
  steps : ℕ → Item
  -- a line of another shape
  bad : Item

unfoldable pub opening : Option ℕ → Option ℕ → List ℕ → Item
opening None x h = bad
opening (Some i) None h = bad
opening (Some i) (Some x) h = cond (is_hex h) (opens i x (hex_bytes h)) bad

unfoldable pub stepping : Option ℕ → Item
stepping None = bad
stepping (Some i) = steps i

-- behind the letter and the space; where a space is missing, what should follow it is empty, and so neither a number nor hex
unfoldable pub open_item : List ℕ → Item
open_item r = opening (number_in (before space r)) (number_in (before space (behind space r))) (behind space (behind space r))

unfoldable pub item_of : List ℕ → Item
item_of l =
    cond (eqb (get_or l 1 0) space)
    (cond (eqb (get_or l 0 0) letter_o) (open_item (drop 2 l)) (cond (eqb (get_or l 0 0) letter_s) (stepping (number_in (drop 2 l))) bad))
    bad

-- ---- the code's answer about a line, which leaves the hex to be read: the frame begins at the place given

unfoldable pub opened_line : Option ℕ → Option ℕ → ℕ → Option Line
opened_line None x at = None
opened_line (Some i) None at = None
opened_line (Some i) (Some x) at = Some (line.Open i x at)

unfoldable pub stepped_line : Option ℕ → Option Line
stepped_line None = None
stepped_line (Some i) = Some (line.Step i)

-- behind the letter, a space, the seat, a space, the reading and a space
unfoldable pub frame_at : List ℕ → ℕ
frame_at r = 2 + length (before space r) + 1 + length (before space (behind space r)) + 1

unfoldable pub line_of : List ℕ → Option Line
line_of l =
    cond (eqb (get_or l 1 0) space)
    (cond (eqb (get_or l 0 0) letter_o)
    (opened_line (number_in (before space (drop 2 l))) (number_in (before space (behind space (drop 2 l)))) (frame_at (drop 2 l)))
    (cond (eqb (get_or l 0 0) letter_s) (stepped_line (number_in (drop 2 l))) None))
    None

unfoldable pub item_in : Option Line → List ℕ → Item
item_in (Some (line.Open i x at)) l = cond (is_hex (drop at l)) (opens i x (hex_bytes (drop at l))) bad
item_in (Some (line.Step i)) l = steps i
item_in None l = bad

unfoldable pub SameItem : Type 0
SameItem = (l : List ℕ) → item_in (line_of l) l ≡ item_of l

-- ---- the lines

-- the first line, and the bytes behind its line feed; the last line may lack it
abbrev pub first_line : List ℕ → List ℕ
first_line s = before line_feed s

abbrev pub other_lines : List ℕ → List ℕ
other_lines s = behind line_feed s

-- n lines of s at most
unfoldable pub items : ℕ → List ℕ → List Item
items zero s = []
items (suc n) s = cond (eqb (length s) 0) [] (item_of (first_line s) ∷ items n (other_lines s))

-- all of s: a line takes at least one byte, so there are no more lines than bytes
unfoldable pub sheet : List ℕ → List Item
sheet s = items (length s) s

-- no line is bad
unfoldable pub is_bad : Item → Bool
is_bad (opens i x f) = false
is_bad (steps i) = false
is_bad bad = true
