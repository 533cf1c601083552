-- Writing to a destination, one piece behind the other.
use Rattle.std.specs.Prelude.{◌≡◌, ℕ, ◌+◌, ◌≤◌, Bool, cond, List, ◌++◌, length, take, drop, leb}
use Rattle.text.specs.declared.page.Page.{Page}

-- there is room for bs at the place at of d
unfoldable pub fits : List ℕ → ℕ → List ℕ → Bool
fits d at bs = leb (at + length bs) (length d)

-- d with bs at the place at; unchanged where bs does not fit
unfoldable pub put : List ℕ → ℕ → List ℕ → List ℕ
put d at bs = cond (fits d at bs) (take at d ++ (bs ++ drop (at + length bs) d)) d

-- the place behind it; the same place where bs does not fit
unfoldable pub next : List ℕ → ℕ → List ℕ → ℕ
next d at bs = cond (fits d at bs) (at + length bs) at

-- ---- pages: a destination, and the place up to which it is written

-- there is room on the page p for the bytes bs
abbrev pub HasRoom : Page → List ℕ → Type 0
HasRoom p bs = p.at + length bs ≤ length p.dst.now

-- the page q is the page p with the bytes bs behind what was written, over the same destination
pub record Adds (p q : Page) (bs : List ℕ) : Type 0 where
  pub same_reference : q.dst.ghost_name ≡ p.dst.ghost_name
  pub place : q.at ≡ p.at + length bs
  pub bytes : q.dst.now ≡ put p.dst.now p.at bs
