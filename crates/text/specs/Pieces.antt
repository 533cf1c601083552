-- Bytes up to a separator, and behind it.
use Rattle.std.specs.Prelude.{ℕ, ◌+◌, cond, List, [], ◌∷◌, eqb, length, drop}

-- the bytes in front of the first b, and all of them where there is none
unfoldable pub before : ℕ → List ℕ → List ℕ
before b [] = []
before b (x ∷ s) = cond (eqb x b) [] (x ∷ before b s)

-- the bytes behind the first b
unfoldable pub behind : ℕ → List ℕ → List ℕ
behind b s = drop (length (before b s) + 1) s
