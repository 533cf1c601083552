-- No listing is longer than the bound: its header, six bytes for each byte of a sheet that is not too long and one more, and the last lines;
-- and that of a sheet that is too long is its header and a bad line.
use Prim.Native.Nat.{ℕ, ◌+◌, ◌*◌, ◌≤◌}
use mathlib.Core.Bool.{Bool, true, false, cond}
use mathlib.Core.Path.{◌≡◌, refl}
use mathlib.Core.List.{List, ◌++◌}
use native.Mathlib.Omega.{arith}
use lib.Dec.{leb}
use lib.ListN.{length, length-append, length-replicate}
use borrow.Author.Tests.{leb-true}
use Rattle.slots.specs.Sizes.{cells}
use Rattle.sheet.specs.Lines.{sheet}
use Rattle.sheet.specs.Words.{header}
use Rattle.sheet.specs.Listings.{begin, bad_line, list_from, most_input, listing}
use Rattle.sheet.specs.Bounds.{most_listing, NoLonger}
use Rattle.sheet.proofs.LengthLines.{bad_line_lem}
use Rattle.sheet.proofs.LengthReplies.{most_last, list_from_lem}
use Rattle.sheet.proofs.LengthSheets.{few_replies}

begin_length : length begin.image ≡ cells
unfolding begin
begin_length = length-replicate {A = ℕ} cells 0

sheet-listed : (s : List ℕ) → length s ≤ most_input → length (list_from 1 begin (sheet s)) ≤ 6 * (most_input + 1) + most_last
unfolding sheet
sheet-listed s h = omega (arith, list_from_lem (sheet s) 1 begin begin_length, few_replies (length s) s)

header_length : length header ≡ 11
unfolding header
header_length = refl

pub no_longer : NoLonger
unfolding NoLonger listing
no_longer s = go (leb (length s) most_input) refl
  where
    go : (b : Bool) → leb (length s) most_input ≡ b → length (header ++ cond b (list_from 1 begin (sheet s)) (bad_line 0)) ≤ most_listing
    go true e =
        omega (arith, header_length, length-append header (list_from 1 begin (sheet s)), sheet-listed s (leb-true (length s) most_input e))
    go false e = omega (arith, header_length, length-append header (bad_line 0), bad_line_lem 0)
