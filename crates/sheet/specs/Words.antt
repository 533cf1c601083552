-- The fixed byte strings of a listing: its header here, and the words of the replies in crate `course`.
use Rattle.std.specs.Prelude.{ℕ, List, [], ◌∷◌}

-- `wear-run 1` and a line feed
unfoldable pub header : List ℕ
header = 119 ∷ 101 ∷ 97 ∷ 114 ∷ 45 ∷ 114 ∷ 117 ∷ 110 ∷ 32 ∷ 49 ∷ 10 ∷ []
