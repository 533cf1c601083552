-- The lines of the cells from c on are the line of c and those of the cells behind it. So where they are left to be put, there is room for
-- the first of them, and then the others are left.
use Prim.Native.Nat.{ℕ, ◌+◌, ◌≤◌, ◌<◌}
use mathlib.Core.Path.{◌≡◌}
use mathlib.Core.List.{List, [], ◌∷◌, ◌++◌}
use native.Mathlib.Numerals.{add-one}
use lib.ListN.{length, get_or, drop, drop_of_length-le}
use lib.Seq.{drop-cons}
use Rattle.std.proofs.lemmas.List.{nil_from_length}
use Rattle.text.specs.declared.page.Page.{Page}
use Rattle.text.specs.Pages.{HasRoom, Adds}
use Rattle.sheet.specs.Listings.{cell_line, cell_lines}
use Rattle.sheet.proofs.Putting.{room_first, Rest, rest_room, rest_more, rest_none}

-- the cells from c on have the values vs, and the cell i is the first of them
module _ {p q : Page} {whole : List ℕ} (room : HasRoom p whole) (c : ℕ) (vs : List ℕ) (left : Rest p whole q (cell_lines c vs)) where
  module _ {i v : ℕ} {us : List ℕ} (first : i ≡ c) (e : vs ≡ v ∷ us) where
    turn : Rest p whole q (cell_line i v ++ cell_lines (c + 1) us)
    unfolding cell_lines
    turn = rw (first, add-one c) (rw e at left)

    pub cell_room : HasRoom q (cell_line i v)
    cell_room = room_first q _ _ (rest_room p whole room q _ turn)

    pub cell_put : {r : Page} → Adds q r (cell_line i v) → Rest p whole r (cell_lines (c + 1) us)
    cell_put w = rest_more p whole room q _ _ turn w

  pub cells_put : length vs ≡ 0 → Adds p q whole
  unfolding cell_lines
  cells_put e = rest_none p whole room q (rw (nil_from_length vs e) at left)

-- ---- the same of the cells of one list, from a place in it on

abbrev pub line_at : List ℕ → ℕ → List ℕ
line_at vs c = cell_line c (get_or vs c 0)

abbrev pub lines_from : List ℕ → ℕ → List ℕ
lines_from vs c = cell_lines c (drop c vs)

pub lines_more : (vs : List ℕ) (c : ℕ) → c < length vs → lines_from vs c ≡ line_at vs c ++ lines_from vs (c + 1)
unfolding cell_lines
lines_more vs c h = rw (add-one c, drop-cons vs c 0 h)

pub lines_none : (vs : List ℕ) (c : ℕ) → length vs ≤ c → lines_from vs c ≡ []
unfolding cell_lines
lines_none vs c h = rw (drop_of_length-le vs h)
