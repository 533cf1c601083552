-- The call as a whole. It is refused where the destination is shorter than the longest listing; otherwise there is room for the listing
-- (`no_longer`), which stands at the front of the destination.
use Prim.Native.Nat.{ℕ, ◌+◌, ◌≤◌, ◌<◌}
use mathlib.Core.Path.{◌≡◌, ◌∙◌}
use mathlib.Core.List.{List, [], ◌++◌}
use native.Mathlib.Omega.{arith}
use native.Mathlib.Nat.{zero-add}
use lib.ListN.{length, drop}
use borrow.Author.Tests.{lt-ltb, le-ltb, le-leb}
use Rattle.std.proofs.lemmas.Grind.{common_steps}
use Rattle.slots.proofs.Checks.{applies, passed, none}
use Rattle.text.specs.Pages.{fits, put}
use Rattle.sheet.specs.Listings.{listing}
use Rattle.sheet.specs.Bounds.{most_listing, NoLonger}
use Rattle.sheet.specs.Calls.{list_refusal, destination}
use Rattle.sheet.proofs.BoundListing.{no_longer}

pub refuses : (n : ℕ) → n < most_listing → list_refusal n ≡ 14
unfolding list_refusal
refuses n h = applies 14 [] (lt-ltb n most_listing h)

pub grants : (n : ℕ) → most_listing ≤ n → list_refusal n ≡ 0
unfolding list_refusal
grants n h = passed 14 [] (le-ltb n most_listing h) ∙ none

pub room : (s d : List ℕ) → most_listing ≤ length d → 0 + length (listing s) ≤ length d
unfolding NoLonger
room s d h = omega (arith, no_longer s)

pub front : (s d : List ℕ) → most_listing ≤ length d → put d 0 (listing s) ≡ listing s ++ drop (length (listing s)) d
unfolding put fits
front s d h = rw (le-leb (0 + length (listing s)) (length d) (room s d h), zero-add (length (listing s)))

pub placed : (s d e : List ℕ) → most_listing ≤ length d → e ≡ put d 0 (listing s) → e ≡ destination s d
unfolding destination
placed s d e h q = rw (grants (length d) h) (q ∙ front s d h)

-- what the call needs
pub ruleset wholly = (refuses, grants, room, front, common_steps)
