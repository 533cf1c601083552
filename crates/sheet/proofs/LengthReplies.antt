-- A listing of items is as long as its replies and what follows them: at most 24 bytes for each item in front of the first bad one, and then
-- the cells and the end, or a bad line, which is shorter. The image keeps its 1,024 cells (`step_length`).
use Prim.Native.Nat.{ℕ, suc, ◌+◌, ◌*◌, ◌≤◌}
use mathlib.Core.Path.{◌≡◌, refl, ◌∙◌}
use mathlib.Core.Bool.{cond}
use mathlib.Core.List.{List, [], ◌∷◌, ◌++◌}
use native.Mathlib.Omega.{arith}
use lib.ListN.{length, length-append}
use Rattle.slots.specs.Sizes.{cells}
use Rattle.slots.specs.Owners.{owner_of}
use Rattle.table.specs.Calls.{open_call}
use Rattle.upkeep.proofs.Calls.{step_length}
use Rattle.sheet.specs.Lines.{Item, opens, steps, bad, is_bad}
use Rattle.sheet.specs.Listings.{World, opened, stepped, world_after, reply_to, cell_lines, end_line, last_lines, list_from}
use Rattle.sheet.proofs.LengthLines.{most_line, open_line_lem, step_reply_lem, cell-lines, end_line_lem, bad_line_lem}

-- ---- the items that are replied to

unfoldable pub replies : List Item → ℕ
replies [] = 0
replies (opens i x f ∷ ls) = suc (replies ls)
replies (steps i ∷ ls) = suc (replies ls)
replies (bad ∷ ls) = 0

-- the most bytes of the cells' lines and the end's
abbrev pub most_last : ℕ
most_last = most_line * cells + 13

last_lines_lem : (w : World) → length w.image ≡ cells → length (last_lines w) ≤ most_last
unfolding last_lines
last_lines_lem w e = omega (arith, length-append (cell_lines 0 w.image) (end_line w.ended), cell-lines 0 w.image, end_line_lem w.ended)

-- ---- one item and the rest

reply_length : (n : ℕ) (w : World) (x : Item) → length (reply_to n w x) ≤ most_line
unfolding reply_to
reply_length n w (opens i x f) = open_line_lem i (open_call owner_of w.table i x f).number
reply_length n w (steps i) = step_reply_lem owner_of w.table w.image i
reply_length n w bad = omega (arith, bad_line_lem n)

after_length : (w : World) (x : Item) → length (world_after w x).image ≡ length w.image
unfolding world_after opened stepped
after_length w (opens i x f) = refl
after_length w (steps i) = step_length owner_of w.table w.image i
after_length w bad = refl

one_more : (x : Item) (ls : List Item) (a b : List ℕ) → length a ≤ most_line → length b ≤ most_line * replies ls + most_last
    → length (a ++ cond (is_bad x) [] b) ≤ most_line * replies (x ∷ ls) + most_last
unfolding replies is_bad
one_more (opens i x f) ls a b h g = omega (arith, length-append a b)
one_more (steps i) ls a b h g = omega (arith, length-append a b)
one_more bad ls a b h g = omega (arith, length-append a [])

pub list_from_lem : (ls : List Item) (n : ℕ) (w : World) → length w.image ≡ cells
    → length (list_from n w ls) ≤ most_line * replies ls + most_last
unfolding list_from replies
list_from_lem [] n w e = last_lines_lem w e
list_from_lem (x ∷ ls) n w e =
    one_more x ls (reply_to n w x) (list_from (suc n) (world_after w x) ls) (reply_length n w x)
    (list_from_lem ls (suc n) (world_after w x) (after_length w x ∙ e))
