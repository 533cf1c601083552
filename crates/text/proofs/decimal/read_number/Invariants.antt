-- The reader of numbers. The loop's invariant: the whole has no 0 in front of other digits, and is all digits if what is left is; what is
-- read so far fits 32 bits, and with the bytes left it is worth as much as the whole.
use Prim.Native.Nat.{◌≤◌}
use mathlib.Core.Path.{◌≡◌}
use mathlib.Core.Bool.{true}
use lib.ListN.{drop}
use Rattle.text.specs.Decimal.{largest, all_digits, value_from, value_of, is_plain}
use Rattle.text.proofs.decimal.read_number.Given as goal

abbrev pub invariant-loop-b : goal.invariant-loop-b
invariant-loop-b l =
    (is_plain l.s ≡ true)
    × (l.value ≤ largest)
    × (all_digits l.s ≡ all_digits (drop l.b-index l.s))
    × (value_of l.s ≡ value_from l.value (drop l.b-index l.s))
