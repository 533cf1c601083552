-- How long a listing can be: the room that the program has for it.
use Rattle.std.specs.Prelude.{ℕ, ◌≤◌, List, length}
use Rattle.sheet.specs.Listings.{listing}

abbrev pub most_listing : ℕ
most_listing = 420000

unfoldable pub NoLonger : Type 0
NoLonger = (s : List ℕ) → length (listing s) ≤ most_listing
