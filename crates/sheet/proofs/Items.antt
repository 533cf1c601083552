-- A line's item from the reader's answer. The place of the frame counts all that stands in front of it, so what is dropped there is what is
-- dropped piece by piece; and the reader's cases are those of the item.
use Prim.Native.Nat.{ℕ, ◌+◌}
use mathlib.Core.Path.{◌≡◌, refl, sym, ap, ◌∙◌}
use mathlib.Core.Bool.{Bool, true, false, cond}
use mathlib.Core.List.{List}
use native.Mathlib.Omega.{arith}
use lib.Dec.{eqb}
use lib.ListN.{length, get_or, drop}
use lib.Seq.{drop-drop}
use Rattle.std.specs.Prelude.{Option, Some, None}
use Rattle.text.specs.Pieces.{before, behind}
use Rattle.text.specs.Decimal.{number_in}
use Rattle.text.specs.Hex.{is_hex, hex_bytes}
use Rattle.sheet.specs.Lines.{opens, bad, space, letter_o, letter_s, opening, open_item, item_of, stepping}
use Rattle.sheet.specs.Lines.{opened_line, stepped_line, frame_at, line_of, item_in, SameItem}

frame_at_lem : (l : List ℕ) → drop (frame_at (drop 2 l)) l ≡ behind space (behind space (drop 2 l))
unfolding frame_at behind
frame_at_lem l =
    let r = drop 2 l in
    let n = length (before space r) in
    let m = length (before space (drop (n + 1) r)) in
    let e : 2 + n + 1 + m + 1 ≡ 2 + (n + 1) + (m + 1) = omega arith in
    ap (λ (k : ℕ). drop k l) e ∙ sym (ap (drop (m + 1)) (drop-drop (n + 1) 2 l) ∙ drop-drop (m + 1) (2 + (n + 1)) l)

same_opening : (seat reading : Option ℕ) (at : ℕ) (l h : List ℕ) → drop at l ≡ h
    → item_in (opened_line seat reading at) l ≡ opening seat reading h
unfolding item_in opened_line opening
same_opening None x at l h e = refl
same_opening (Some i) None at l h e = refl
same_opening (Some i) (Some x) at l h e = ap (λ (f : List ℕ). cond (is_hex f) (opens i x (hex_bytes f)) bad) e

same_step : (seat : Option ℕ) (l : List ℕ) → item_in (stepped_line seat) l ≡ stepping seat
unfolding item_in stepped_line stepping
same_step None l = refl
same_step (Some i) l = refl

pub same_item : SameItem
unfolding SameItem line_of item_of open_item item_in
same_item l = go (eqb (get_or l 1 0) space) (eqb (get_or l 0 0) letter_o) (eqb (get_or l 0 0) letter_s)
  where
    r : List ℕ
    r = drop 2 l

    go : (a b c : Bool)
        → item_in (cond a (cond b (opened_line (number_in (before space r)) (number_in (before space (behind space r))) (frame_at r))
        (cond c (stepped_line (number_in r)) None)) None) l
        ≡ cond a (cond b (open_item r) (cond c (stepping (number_in r)) bad)) bad
    go true true c = same_opening (number_in (before space r)) (number_in (before space (behind space r))) (frame_at r) l _ (frame_at_lem l)
    go true false true = same_step (number_in r) l
    go true false false = refl
    go false b c = refl
