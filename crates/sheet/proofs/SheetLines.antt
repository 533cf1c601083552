-- A sheet is its first line and then the sheet of the others. A line takes at least one byte, so the bytes behind it are fewer, and taking
-- as many lines as there are bytes takes them all: more would make no difference.
use Prim.Native.Nat.{ℕ, zero, suc, ◌+◌, ◌-◌, ◌≤◌, ◌<◌}
use mathlib.Core.Path.{◌≡◌, refl, sym, ap}
use mathlib.Core.List.{List, [], ◌∷◌}
use native.Mathlib.Omega.{arith}
use lib.Dec.{eqb}
use lib.ListN.{length, drop, length-drop}
use borrow.Author.Tests.{eq-eqb, ne_eqb}
use Rattle.slots.proofs.Truth.{split}
use Rattle.text.specs.Pieces.{before, behind}
use Rattle.text.proofs.Separators.{before_length}
use Rattle.sheet.specs.Lines.{Item, item_of, first_line, other_lines, items, sheet}

pub both_within : (b : ℕ) (s : List ℕ) → length (before b s) + length (before b (behind b s)) ≤ length s
unfolding behind
both_within b s =
    let n = length (before b s) in
    omega (arith, before_length b s, before_length b (drop (n + 1) s), length-drop (n + 1) s)

pub others_length : (s : List ℕ) → length (other_lines s) ≡ length s - (length (first_line s) + 1)
unfolding behind
others_length s = length-drop (length (first_line s) + 1) s

items-none : (n : ℕ) (s : List ℕ) → length s ≡ 0 → items n s ≡ []
unfolding items
items-none zero s e = refl
items-none (suc n) s e = rw (eq-eqb (length s) 0 e)

items_enough : (n m : ℕ) (s : List ℕ) → length s ≤ n → length s ≤ m → items n s ≡ items m s
unfolding items
items_enough zero m s h k = sym (items-none m s (omega arith))
items_enough (suc n) zero s h k = items-none (suc n) s (omega arith)
items_enough (suc n) (suc m) s h k =
    split (eqb (length s) 0) (λ e. rw e) (λ e. rw e
    (ap (λ (ls : List Item). item_of (first_line s) ∷ ls)
    (items_enough n m (other_lines s) (omega (arith, others_length s)) (omega (arith, others_length s)))))

pub sheet-none : (s : List ℕ) → length s ≡ 0 → sheet s ≡ []
unfolding sheet
sheet-none s e = items-none (length s) s e

pub sheet_more : (s : List ℕ) → 0 < length s → sheet s ≡ item_of (first_line s) ∷ sheet (other_lines s)
unfolding sheet items
sheet_more [] h = absurd (omega arith)
sheet_more (x ∷ r) h =
    let o = other_lines (x ∷ r) in
    rw (ne_eqb (suc (length r)) 0 (λ q. omega arith))
    (ap (λ (ls : List Item). item_of (first_line (x ∷ r)) ∷ ls)
    (items_enough (length r) (length o) o (omega (arith, others_length (x ∷ r))) (omega arith)))
