-- A destination of the longest listing's length is never refused, and the listing stands within it.
use Prim.Native.Nat.{ℕ, ◌≤◌}
use mathlib.Core.Path.{◌≡◌, sym, ap, ◌∙◌}
use mathlib.Core.List.{List}
use native.Mathlib.Omega.{arith}
use lib.ListN.{length}
use Rattle.std.specs.Prelude.{Result, Ok}
use Rattle.std.specs.Result.{IsOk}
use Rattle.slots.specs.declared.refusals.Refusal.{Refusal}
use Rattle.slots.specs.Refusals.{number_in, value_in}
use Rattle.slots.proofs.Answers.{one_answer}
use Rattle.sheet.specs.Listings.{listing}
use Rattle.sheet.specs.Bounds.{most_listing, NoLonger}
use Rattle.sheet.specs.Calls.{Listed, said_listed, listed}
use Rattle.sheet.proofs.BoundListing.{no_longer}
use Rattle.sheet.proofs.ListWhole.{grants}

-- r is answered, with n bytes of room
module _ (s : List ℕ) (n : ℕ) (r : Result ℕ Refusal) (h : n ≡ most_listing) (e : said_listed r ≡ listed s n) where
  whole : r ≡ Ok (length (listing s))
  unfolding listed
  whole =
      let z = rw (grants n (omega arith)) at e in
      one_answer 0 r (Ok (length (listing s))) (ap (λ (x : Listed). x.number) z) (ap (λ (x : Listed). x.len) z)

  pub not_refused : IsOk r
  not_refused = rw whole

  pub within : (k : ℕ) → r ≡ Ok k → k ≤ n
  unfolding NoLonger
  within k q = let z : length (listing s) ≡ k = ap (value_in 0) (sym whole ∙ q) in omega (arith, z, no_longer s, h)
