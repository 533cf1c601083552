-- A sheet of few bytes has few lines that are replied to. A line that is not bad has a letter, a space and a number, which is not empty: three
-- bytes, and with its line feed four; only the last line may lack its line feed. So four times the replies are at most one more than the bytes.
use Prim.Native.Nat.{ℕ, zero, suc, ◌+◌, ◌*◌, ◌≤◌, ◌<◌}
use mathlib.Core.Path.{◌≡◌, refl, sym}
use mathlib.Core.Bool.{Bool, true, false, cond}
use mathlib.Core.List.{List, [], ◌∷◌}
use native.Mathlib.Omega.{arith}
use lib.Dec.{ltb, eqb}
use lib.ListN.{length, get_or, drop, length-drop, drop_of_length-le}
use borrow.Author.Tests.{ltb-true, ltb-false}
use Rattle.std.specs.Prelude.{None}
use Rattle.text.specs.Pieces.{before, behind}
use Rattle.text.specs.Decimal.{number_in}
use Rattle.text.proofs.Separators.{before_length}
use Rattle.text.proofs.Readings.{none}
use Rattle.slots.proofs.Truth.{split}
use Rattle.sheet.specs.Lines.{Item, opens, steps, bad, space, line_feed, letter_o, letter_s, opening, stepping, open_item, item_of, items}
use Rattle.sheet.proofs.LengthReplies.{replies}

-- ---- a short line is bad

no_number : number_in [] ≡ None
no_number = sym (none [] refl)

nothing_opened : open_item [] ≡ bad
unfolding open_item opening before
nothing_opened = rw no_number

nothing_stepped : stepping (number_in []) ≡ bad
unfolding stepping
nothing_stepped = rw no_number

short_bad : (l : List ℕ) → length l < 3 → item_of l ≡ bad
unfolding item_of
short_bad l h =
    let e : drop 2 l ≡ [] = drop_of_length-le l {i = 2} (omega arith) in
    rw (e, nothing_opened, nothing_stepped) (go (eqb (get_or l 1 0) space) (eqb (get_or l 0 0) letter_o) (eqb (get_or l 0 0) letter_s))
  where
    go : (a b c : Bool) → cond a (cond b bad (cond c bad bad)) bad ≡ bad
    go true true c = refl
    go true false true = refl
    go true false false = refl
    go false b c = refl

-- ---- one line and the rest

replied : (x : Item) (ls : List Item) → replies (x ∷ ls) ≤ suc (replies ls)
unfolding replies
replied (opens i x f) ls = omega arith
replied (steps i) ls = omega arith
replied bad ls = omega arith

bad_first : (x : Item) (ls : List Item) → x ≡ bad → replies (x ∷ ls) ≡ 0
unfolding replies
bad_first x ls e = rw e

-- the rest is shorter by a line and its line feed, or there is none
one_more : (s : List ℕ) (ls : List Item) → 4 * replies ls ≤ length (behind line_feed s) + 1
    → 4 * replies (item_of (before line_feed s) ∷ ls) ≤ length s + 1
unfolding behind
one_more s ls h =
    let l = before line_feed s in
    split (ltb (length l) 3)
    (λ t. omega (arith, bad_first (item_of l) ls (short_bad l (ltb-true (length l) 3 t))))
    (λ t. omega (arith, ltb-false (length l) 3 t, length-drop (length l + 1) s, before_length line_feed s, replied (item_of l) ls))

pub few_replies : (n : ℕ) (s : List ℕ) → 4 * replies (items n s) ≤ length s + 1
unfolding items replies
few_replies zero s = omega arith
few_replies (suc n) s = go (eqb (length s) 0) _ (one_more s (items n (behind line_feed s)) (few_replies n (behind line_feed s)))
  where
    go : (b : Bool) (ls : List Item) → 4 * replies ls ≤ length s + 1 → 4 * replies (cond b [] ls) ≤ length s + 1
    go true ls h = omega arith
    go false ls h = h
