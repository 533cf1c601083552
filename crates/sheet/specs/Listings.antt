-- 'The sheet program and its listing', the listing: what is written, line by line. Every line ends in a line feed.
use Rattle.std.specs.Prelude.{ℕ, suc, ◌+◌, cond, List, [], ◌∷◌, ◌++◌, leb, eqb, length, replicate}
use Rattle.slots.specs.Sizes.{cells}
use Rattle.slots.specs.Owners.{owner_of}
use Rattle.seats.specs.declared.table.Table.{Table}
use Rattle.seats.specs.Tables.{fresh}
use Rattle.course.specs.Words.{Word}
use Rattle.course.specs.Words as word
use Rattle.table.specs.Calls.{open_call, step_call, step_image}
use Rattle.text.specs.Decimal.{digits}
use Rattle.sheet.specs.Lines.{Item, opens, steps, bad, line_feed, space, letter_o, letter_s, is_bad, sheet}
use Rattle.course.specs.Words.{word_bytes}
use Rattle.sheet.specs.Words.{header}

-- ---- lines

-- the letter, a space, a number
abbrev pub led : ℕ → ℕ → List ℕ
led letter n = letter ∷ space ∷ digits n

abbrev pub line : List ℕ → List ℕ
line bs = bs ++ (line_feed ∷ [])

-- `o seat number`
unfoldable pub open_line : ℕ → ℕ → List ℕ
open_line i n = led letter_o i ++ (space ∷ line (digits n))

-- `no number`, or the word
unfoldable pub reply_bytes : ℕ → Word → List ℕ
reply_bytes n w = cond (eqb n 0) (word_bytes w) (110 ∷ 111 ∷ space ∷ digits n)

-- `s seat word`, or `s seat no number`
unfoldable pub step_line : ℕ → ℕ → Word → List ℕ
step_line i n w = led letter_s i ++ (space ∷ line (reply_bytes n w))

-- `c cell value`, of each non-zero cell, rising: v is cell c
unfoldable pub cell_line : ℕ → ℕ → List ℕ
cell_line c v = cond (eqb v 0) [] (led 99 c ++ (space ∷ line (digits v)))

unfoldable pub cell_lines : ℕ → List ℕ → List ℕ
cell_lines c [] = []
cell_lines c (v ∷ vs) = cell_line c v ++ cell_lines (suc c) vs

-- `e` and how many transactions ended
unfoldable pub end_line : ℕ → List ℕ
end_line n = line (led 101 n)

-- `bad` and the line's number
unfoldable pub bad_line : ℕ → List ℕ
bad_line n = 98 ∷ 97 ∷ 100 ∷ space ∷ line (digits n)

-- ---- what the lines do

pub record World : Type 0 where
  pub table : Table
  pub image : List ℕ
  pub ended : ℕ

-- a zero image and a fresh table
unfoldable pub begin : World
begin = record { table = fresh; image = replicate cells 0; ended = 0 }

unfoldable pub endings : Word → ℕ
endings word.None = 0
endings word.Got = 0
endings word.Blocked = 0
endings word.Queued = 0
endings word.Committed = 1
endings word.Ran = 0
endings word.Failed = 1
endings word.Restarted = 0

unfoldable pub opened : World → ℕ → ℕ → List ℕ → World
opened w i x f = record { table = (open_call owner_of w.table i x f).table; image = w.image; ended = w.ended }

unfoldable pub stepped : World → ℕ → World
stepped w i =
    record {
      table = (step_call owner_of w.table w.image i).table;
      image = step_image owner_of w.table w.image i;
      ended = w.ended + endings (step_call owner_of w.table w.image i).word;
    }

-- ---- the listing

-- the world after a line
unfoldable pub world_after : World → Item → World
world_after w (opens i x f) = opened w i x f
world_after w (steps i) = stepped w i
world_after w bad = w

-- and what is written, where its number is n
unfoldable pub reply_to : ℕ → World → Item → List ℕ
reply_to n w (opens i x f) = open_line i (open_call owner_of w.table i x f).number
reply_to n w (steps i) =
    step_line i (step_call owner_of w.table w.image i).number (step_call owner_of w.table w.image i).word
reply_to n w bad = bad_line n

unfoldable pub last_lines : World → List ℕ
last_lines w = cell_lines 0 w.image ++ end_line w.ended

-- of the lines from number n on; a bad one ends the listing
unfoldable pub list_from : ℕ → World → List Item → List ℕ
list_from n w [] = last_lines w
list_from n w (l ∷ ls) = reply_to n w l ++ cond (is_bad l) [] (list_from (suc n) (world_after w l) ls)

-- the most bytes that a sheet has
abbrev pub most_input : ℕ
most_input = 65536

unfoldable pub listing : List ℕ → List ℕ
listing s = header ++ cond (leb (length s) most_input) (list_from 1 begin (sheet s)) (bad_line 0)
