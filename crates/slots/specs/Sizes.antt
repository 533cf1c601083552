-- 'Fixed sizes': how many cells and how many slots there are.
use Rattle.std.specs.Prelude.{ℕ}

abbrev pub cells : ℕ
cells = 1024

abbrev pub slots : ℕ
slots = 64
