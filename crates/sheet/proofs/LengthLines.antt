-- No line of a listing is long. A number has ten digits at most, a reply word nine letters, and the number of a refused step is below ten, so
-- that a reply, to an opening or to a step, takes 24 bytes with its line feed. The lines of the cells come to 24 bytes for each cell.
use Prim.Native.Nat.{ℕ, suc, ◌+◌, ◌*◌, ◌≤◌, ◌<◌}
use mathlib.Core.Path.{◌≡◌}
use mathlib.Core.Bool.{Bool, true, false, not, cond}
use mathlib.Core.List.{List, [], ◌∷◌, ◌++◌}
use native.Mathlib.Omega.{arith}
use lib.Dec.{leb, eqb}
use lib.ListN.{length, length-append}
use Rattle.slots.specs.Sizes.{cells}
use Rattle.slots.specs.Refusals.{◌when◌, refusal}
use Rattle.seats.specs.declared.table.Table.{Table}
use Rattle.seats.specs.Queues.{seats}
use Rattle.seats.specs.Seats.{is_open}
use Rattle.seats.specs.Tables.{seat_at}
use Rattle.course.specs.Words.{Word}
use Rattle.course.specs.Words as word
use Rattle.soundness.specs.Tests.{sound_test}
use Rattle.table.specs.Calls.{step_call, step_refusal}
use Rattle.text.specs.Decimal.{digits}
use Rattle.text.proofs.Digits.{length_digits, length_one}
use Rattle.sheet.specs.Lines.{space, line_feed, letter_o, letter_s}
use Rattle.course.specs.Words.{word_bytes}
use Rattle.sheet.specs.Listings.{led, line, open_line, reply_bytes, step_line, cell_line, cell_lines, end_line, bad_line}

-- the most bytes of a reply, and of a cell's line
abbrev pub most_line : ℕ
most_line = 24

-- ---- a line of a letter, a number and something more

line_length : (bs : List ℕ) → length (line bs) ≡ length bs + 1
line_length bs = length-append bs (line_feed ∷ [])

led_length : (letter i : ℕ) (d : List ℕ) → length (led letter i ++ (space ∷ line d)) ≡ length (digits i) + length d + 4
led_length letter i d = omega (arith, length-append (led letter i) (space ∷ line d), line_length d)

led_most : (letter i : ℕ) (d : List ℕ) → length d ≤ 10 → length (led letter i ++ (space ∷ line d)) ≤ most_line
led_most letter i d h = omega (arith, led_length letter i d, length_digits i)

-- ---- replies

pub open_line_lem : (i n : ℕ) → length (open_line i n) ≤ most_line
unfolding open_line
open_line_lem i n = led_most letter_o i (digits n) (length_digits n)

word_length : (w : Word) → length (word_bytes w) ≤ 9
unfolding word_bytes
word_length word.None = omega arith
word_length word.Got = omega arith
word_length word.Blocked = omega arith
word_length word.Queued = omega arith
word_length word.Committed = omega arith
word_length word.Ran = omega arith
word_length word.Failed = omega arith
word_length word.Restarted = omega arith

step_line_lem : (i n : ℕ) (w : Word) → n < 10 → length (step_line i n w) ≤ most_line
unfolding step_line reply_bytes
step_line_lem i n w h = led_most letter_s i (reply_bytes n w) (go (eqb n 0))
  where
    go : (b : Bool) → length (cond b (word_bytes w) (110 ∷ 111 ∷ space ∷ digits n)) ≤ 10
    go true = omega (arith, word_length w)
    go false = omega (arith, length_one n h)

one_digit : (p q r z : Bool) → refusal ((1 when p) ∷ (2 when q) ∷ (3 when r) ∷ (5 when z) ∷ []) < 10
unfolding refusal
one_digit true q r z = omega arith
one_digit false true r z = omega arith
one_digit false false true z = omega arith
one_digit false false false true = omega arith
one_digit false false false false = omega arith

refused_step : (own : ℕ → ℕ) (t : Table) (m i : ℕ) → step_refusal own t m i < 10
unfolding step_refusal
refused_step own t m i = one_digit (not (sound_test own t)) (not (eqb m cells)) (leb seats i) (not (is_open (seat_at t i).phase))

pub step_reply_lem : (own : ℕ → ℕ) (t : Table) (img : List ℕ) (i : ℕ)
    → length (step_line i (step_call own t img i).number (step_call own t img i).word) ≤ most_line
unfolding step_call
step_reply_lem own t img i = step_line_lem i (step_refusal own t (length img) i) _ (refused_step own t (length img) i)

-- ---- the lines behind them

cell-line : (c v : ℕ) → length (cell_line c v) ≤ most_line
unfolding cell_line
cell-line c v = go (eqb v 0)
  where
    go : (b : Bool) → length (cond b [] (led 99 c ++ (space ∷ line (digits v)))) ≤ most_line
    go true = omega arith
    go false = led_most 99 c (digits v) (length_digits v)

pub cell-lines : (c : ℕ) (vs : List ℕ) → length (cell_lines c vs) ≤ most_line * length vs
unfolding cell_lines
cell-lines c [] = omega arith
cell-lines c (v ∷ vs) = omega (arith, length-append {A = ℕ}, cell-line c v, cell-lines (suc c) vs)

pub end_line_lem : (n : ℕ) → length (end_line n) ≤ 13
unfolding end_line
end_line_lem n = omega (arith, line_length (led 101 n), length_digits n)

pub bad_line_lem : (n : ℕ) → length (bad_line n) ≤ 15
unfolding bad_line
bad_line_lem n = omega (arith, line_length (digits n), length_digits n)
