-- What is in both of two sets: the test makes it as the first set without what it has beyond the second. So a slot is in it if and only if
-- it is in both, by the laws of a difference, used twice.
use Prim.Native.Nat.{ℕ}
use Rattle.slots.specs.declared.set.SlotSet.{SlotSet}
use Rattle.slots.specs.Sets.{difference}
use Rattle.slots.proofs.Truth.{is_true}
use Rattle.slots.proofs.Members.{In, in_not_out, out, in_difference, difference_in}
use Rattle.rule_one.specs.Tests.{common}

module _ (S R : SlotSet) (s : ℕ) where
  pub in_common : In (common S R) s → In S s × In R s
  unfolding common
  in_common e =
      let d = in_difference S (difference S R) s e in
      (d.0, is_true (λ o. in_not_out (difference S R) s (difference_in S R s d.0 o) d.1))

  pub common_in : In S s → In R s → In (common S R) s
  unfolding common
  common_in e f = difference_in S (difference S R) s e (out (difference S R) s (λ d. in_not_out R s f (in_difference S R s d).1))
