-- A seat that gets the smallest pending slot back: one slot less is pending, and none is new to the seat. What is pending now is above the
-- slot that came, and what was held is at most it, so the seat still holds nothing above its smallest pending slot, and nothing pending.
use Prim.Native.Nat.{ℕ, ◌≤◌, ◌<◌}
use mathlib.Core.Path.{◌≡◌, sym, ◌∙◌, subst}
use mathlib.Core.Logic.{◌⊎◌, ⊎_elim}
use mathlib.Core.Bool.{false}
use native.Mathlib.Omega.{arith}
use lib.Dec.{eqb}
use borrow.Author.Tests.{eqb-true, eqb-false}
use Rattle.slots.specs.declared.set.SlotSet.{SlotSet}
use Rattle.slots.specs.Sets.{removing, is_empty, size, smallest}
use Rattle.slots.proofs.Truth.{split}
use Rattle.slots.proofs.Members.{In, Out, in_not_out, in_removing, removing_other}
use Rattle.slots.proofs.Counting.{size_mono, size-removing}
use Rattle.slots.proofs.Least.{smallest_some}
use Rattle.slots.proofs.Restart.{next_pending}
use Rattle.seats.specs.declared.seat.Seat.{Seat}
use Rattle.course.specs.Steps.{worked, goes_on}
use Rattle.upkeep.proofs.OwnNumbers.{few_more, bound_got}
use Rattle.upkeep.proofs.OwnParts.{Three, Five, Parts, concern}
use Rattle.upkeep.proofs.OwnSets.{in_concern, concern-held, concern_pending, awaited_le, two_more}

-- the seat held H and holds J; it was queued for U and is for W, and both are nothing
module _ (own : ℕ → ℕ) (z : Seat) (H J : SlotSet) (some : is_empty z.pending ≡ false) (keeps : (k : ℕ) → In H k → In J k)
    (here : In J (smallest z.pending)) (from : (k : ℕ) → In J k → In H k ⊎ (k ≡ smallest z.pending)) where
  abbrev P : SlotSet
  P = z.pending

  abbrev m : ℕ
  m = smallest P

  abbrev rest : SlotSet
  rest = removing P m

  three_got : Three z.run P H → is_empty rest ≡ false → Three z.run rest J
  three_got r e =
      let later : m < smallest rest = next_pending P (smallest rest) (smallest_some rest e) in
      record {
        position = r.position;
        nothing = r.nothing;
        opening = r.opening;
        below = λ s a n. ⊎_elim
            (λ h. split (eqb s m) (λ q. omega (arith, eqb-true s m q)) (λ q. omega (arith, r.below s h (eqb-false s m q))))
            (λ q. omega arith) (from s a);
        lacks = λ s p n a. let k = in_removing P m s p in ⊎_elim (λ h. r.lacks s k.0 k.1 h) (λ q. k.1 q) (from s a);
      }

  module _ (U W : SlotSet) (calm : (k : ℕ) → Out U k) (calm' : (k : ℕ) → Out W k) where
    grown : size (concern P H U) ≤ size (concern rest J W)
    grown =
        size_mono (concern P H U) (concern rest J W)
        (λ k e. ⊎_elim
        (λ a. ⊎_elim (λ h. concern-held rest J W k (keeps k h))
        (λ p. split (eqb k m) (λ q. concern-held rest J W k (subst (In J) (sym (eqb-true k m q)) here))
        (λ q. concern_pending rest J W k (removing_other P m k (eqb-false k m q) ∙ p))) a)
        (λ u. absurd (in_not_out U k u (calm k))) (in_concern P H U k e))

    five_got : Five z.script.len z.run.at z.tally P H U → Five z.script.len z.run.at (worked z.tally) rest J W
    five_got r =
        record {
          restarts = few_more r.restarts grown;
          working = bound_got _ _ _ _ _ _ _ _ _ _ (size-removing P m (smallest_some P some)) r.working
              (awaited_le P H U) grown;
        }

    pub parts_got : Parts own z H U → Parts own (goes_on z z.run rest) J W
    parts_got r =
        record {
          two = two_more r.two keeps;
          three = three_got (r.three some);
          four = λ s u. absurd (in_not_out W s u (calm' s));
          five = five_got r.five;
        }
