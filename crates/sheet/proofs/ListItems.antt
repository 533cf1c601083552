-- The item that a line is, from what the code finds in it: the reader's answer, and for an opening whether its hex could be read.
use Prim.Native.Nat.{ℕ, ◌-◌, ◌≤◌, ◌<◌}
use mathlib.Core.Path.{◌≡◌, sym, ap, ◌∙◌}
use mathlib.Core.Bool.{true, false}
use mathlib.Core.List.{List}
use native.Mathlib.Omega.{arith}
use lib.ListN.{length, take, drop, length-drop, drop_of_length-le}
use lib.Seq.{take_all, length-take-le}
use Rattle.std.specs.Prelude.{Option, Some, None}
use Rattle.text.specs.Hex.{hex_bytes, is_hex, counted, hexed, hexed_into}
use Rattle.sheet.specs.declared.lines.Line.{Line}
use Rattle.sheet.specs.declared.lines.Line.TheVariants as line
use Rattle.sheet.specs.Lines.{opens, steps, bad, item_of, line_of, item_in, SameItem}
use Rattle.sheet.specs.Listings.{most_input}
use Rattle.sheet.specs.Turns.{most_frame}
use Rattle.sheet.proofs.Items.{same_item}
use Rattle.sheet.proofs.ListFrames.{frame_none, frame_hex, frame_front, frame_fits}
use Rattle.sheet.proofs.Putting.{adds_none}
use Rattle.std.proofs.lemmas.Grind.{common_steps}

-- the part of l that a slice's end `l[at..]` is
abbrev pub from : ℕ → List ℕ → List ℕ
from at l = take (length l - at) (drop at l)

from_drop : (at : ℕ) (l : List ℕ) → from at l ≡ drop at l
from_drop at l = take_all (length l - at) (drop at l) (omega (arith, length-drop at l))

module _ (l : List ℕ) where
  item : (r : Option Line) → r ≡ line_of l → item_of l ≡ item_in r l
  unfolding SameItem
  item r e = sym (same_item l) ∙ ap (λ (x : Option Line). item_in x l) (sym e)

  pub item_none : None ≡ line_of l → item_of l ≡ bad
  unfolding item_in
  item_none e = item None e

  pub item_step : (i : ℕ) → Some (line.Step i) ≡ line_of l → item_of l ≡ steps i
  unfolding item_in
  item_step i e = item (Some (line.Step i)) e

  module _ (i x at : ℕ) (e : Some (line.Open i x at) ≡ line_of l) where
    no_hex : is_hex (drop at l) ≡ false → item_of l ≡ bad
    unfolding item_in
    no_hex q = item (Some (line.Open i x at)) e ∙ rw q

    hex : is_hex (drop at l) ≡ true → item_of l ≡ opens i x (hex_bytes (drop at l))
    unfolding item_in
    hex q = item (Some (line.Open i x at)) e ∙ rw q

    pub item_short : length l < at → item_of l ≡ bad
    unfolding is_hex
    item_short q = let k : length l ≤ at = omega arith in no_hex (rw (drop_of_length-le l k))

    -- its hex is read into f
    module _ (f : List ℕ) (n : length l ≤ most_input) (m : length f ≡ most_frame) where
      short : length (drop at l) ≤ most_input
      short = omega (arith, length-drop at l)

      pub item_no_hex : None ≡ counted (hexed (from at l) f) → item_of l ≡ bad
      item_no_hex z = no_hex (frame_none (drop at l) f short m (rw (from_drop at l) at z))

      pub item_open : (k : ℕ) → Some k ≡ counted (hexed (from at l) f) → (g : List ℕ) → g ≡ hexed_into (from at l) f
          → item_of l ≡ opens i x (take k g)
      item_open k z g q =
          let y : Some k ≡ counted (hexed (drop at l) f) = rw (from_drop at l) at z in
          let w : g ≡ hexed_into (drop at l) f = rw (from_drop at l) at q in
          hex (frame_hex (drop at l) f short m k y)
          ∙ ap (λ (b : List ℕ). opens i x b) (frame_front (drop at l) f short m k y ∙ ap (take k) (sym w))

-- what the code needs that follows a line: its item by each of its returns, and that the frame read is within the buffer
pub ruleset finding = (item_none, item_step, item_short, item_no_hex, item_open, frame_fits, adds_none, length-take-le, common_steps)
