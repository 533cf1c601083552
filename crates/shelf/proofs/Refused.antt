-- A lookup gives a frame or a number, and never both. The number is that of the first of two checks that applies: where it is 0, the check
-- for 13 does not apply, so the frame found is not empty; where it is not 0, `granted` gives the empty part. The frame found is the site's,
-- if that is not empty, and the works' otherwise.
use Prim.Native.Nat.{ℕ, ◌<◌}
use native.Mathlib.Omega.{arith}
use mathlib.Core.Path.{◌≡◌, refl, sym}
use mathlib.Core.Bool.{true, false, not, ◌&&◌}
use mathlib.Core.List.{List, [], ◌∷◌}
use lib.ListN.{length}
use lib.Dec.{eqb}
use borrow.Author.Tests.{eqb-false, ne_eqb}
use Rattle.std.proofs.lemmas.Grind.{common_steps}
use Rattle.std.specs.Prelude.{Option, None, Some, MatchOption, ok_or}
use Rattle.std.proofs.Common.{Bor}
use Rattle.slots.specs.Refusals.{◌when◌, refusal, number_in, number_of}
use Rattle.slots.specs.declared.refusals.Refusal.TheVariants.{OnNeitherShelf}
use Rattle.slots.proofs.Checks.{none_given}
use Rattle.shelf.specs.Shelves.{shelf, is_sound, find, or_else, on_either, lookup_refusal, frame_found}

first_there : (a b : List ℕ) → 0 < length a → or_else a b ≡ a
unfolding or_else
first_there [] b h = absurd (omega arith)
first_there (x ∷ a) b h = refl

module _ (site works : List ℕ) (n : ℕ) where
  -- ---- the number, by the checks

  pub refused_site : is_sound (shelf site) ≡ false → lookup_refusal site works n ≡ 12
  unfolding lookup_refusal refusal
  refused_site s = simp s

  module _ (s : is_sound (shelf site) ≡ true) where
    pub refused_works : is_sound (shelf works) ≡ false → lookup_refusal site works n ≡ 12
    unfolding lookup_refusal refusal
    refused_works w = simp (s, w)

    module _ (w : is_sound (shelf works) ≡ true) where
      pub refused_13 : on_either site works n ≡ [] → lookup_refusal site works n ≡ 13
      unfolding lookup_refusal refusal
      refused_13 e = simp (s, w, e)

      pub refused_not : 0 < length (on_either site works n) → lookup_refusal site works n ≡ 0
      unfolding lookup_refusal refusal
      refused_not h = simp (s, w, ne_eqb (length (on_either site works n)) 0 (λ q. omega arith))

  -- ---- the frame, by the shelf that has it

  pub on_site : 0 < length (find n (shelf site)) → on_either site works n ≡ find n (shelf site)
  unfolding on_either
  on_site h = first_there (find n (shelf site)) (find n (shelf works)) h

  pub on_works : find n (shelf site) ≡ [] → on_either site works n ≡ find n (shelf works)
  unfolding on_either or_else
  on_works e = rw e refl

  -- ---- the answer's number

  pub answered :
      (o : Option (Bor (List ℕ)))
      → is_sound (shelf site) ≡ true
      → is_sound (shelf works) ≡ true
      → MatchOption o (on_either site works n ≡ []) (λ f. 0 < length (on_either site works n))
      → number_in (ok_or o OnNeitherShelf) ≡ lookup_refusal site works n
  answered None s w h = sym (refused_13 s w h)
  answered (Some f) s w h = sym (refused_not s w h)

  -- ---- the frame, by the number

  pub frame_either : lookup_refusal site works n ≡ 0 → frame_found site works n ≡ on_either site works n
  unfolding frame_found
  frame_either e = rw e

  pub refused_empty : (lookup_refusal site works n ≡ 0 → ⊥) → frame_found site works n ≡ []
  unfolding frame_found
  refused_empty h = rw (ne_eqb (lookup_refusal site works n) 0 h)

  pub found_not_refused : lookup_refusal site works n ≡ 0 → 0 < length (frame_found site works n)
  unfolding lookup_refusal
  found_not_refused e =
      let m = length (on_either site works n) in
      let later = none_given 12 (not (is_sound (shelf site) && is_sound (shelf works))) ((13 when eqb m 0) ∷ []) (λ q. omega arith) e in
      rw (frame_either e) (omega (arith, eqb-false m 0 (none_given 13 (eqb m 0) [] (λ q. omega arith) later.1).0))

pub ruleset finding = (refused_site, refused_works, refused_13, refused_not, on_site, on_works, frame_either, common_steps)
