-- A seat that joins the queue of the slot it wants. It is another's, so the seat does not hold it, and holds nothing above it: by rule 3 for
-- a pending slot, and for an access since that is what the case asks. A pending slot is not new to the seat, but now it is waited for (q is
-- 1); a slot to access is one more.
use Prim.Native.Nat.{ℕ, ◌+◌, ◌≤◌, ◌<◌}
use mathlib.Core.Path.{◌≡◌, refl, sym, ap, ◌∙◌, subst}
use mathlib.Core.Logic.{⊎_elim}
use mathlib.Core.Bool.{true, false}
use native.Mathlib.Omega.{arith}
use Rattle.slots.specs.declared.Slot.{Slot}
use Rattle.slots.specs.declared.set.SlotSet.{SlotSet}
use Rattle.slots.specs.Sets.{is_empty, size, smallest}
use Rattle.slots.proofs.Members.{In, Out, in_not_out}
use Rattle.slots.proofs.Counting.{size_mono, size_part, empty_out}
use Rattle.slots.proofs.Least.{none_above}
use Rattle.seats.specs.declared.seat.Seat.{Seat}
use Rattle.course.specs.declared.wants.Want.TheVariants.{Back, Access}
use Rattle.course.specs.Wants.{act_at, want_of, slot_of}
use Rattle.course.specs.Steps.{goes_on}
use Rattle.course.proofs.Known.{Waits, known_want}
use Rattle.upkeep.proofs.OwnNumbers.{few_more, bound_queued}
use Rattle.upkeep.proofs.OwnParts.{Four, Parts, concern, awaited}
use Rattle.upkeep.proofs.OwnSets.{in_concern, concern-held, concern_pending, concern_queued, concern_out}
use Rattle.upkeep.proofs.OwnSets.{awaited-none, awaited_queued, awaited_calm, unawaited}

-- the seat holds H; it was queued for U, which is nothing, and is for W, which is s alone
module _ (own : ℕ → ℕ) (z : Seat) (H o U W : SlotSet) (s : Slot) (waits : Waits s (want_of own z) H o) (calm : (k : ℕ) → Out U k)
    (here : In W s.0) (alone : (k : ℕ) → In W k → k ≡ s.0) (r : Parts own z H U) where
  abbrev P : SlotSet
  P = z.pending

  abbrev on : Seat
  on = goes_on z z.run P

  want_same : want_of own on ≡ want_of own z
  unfolding want_of act_at
  want_same = refl

  -- a pending slot, or an access, with nothing pending
  back : want_of own z ≡ Back s → (is_empty P ≡ false) × (s.0 ≡ smallest P)
  back e = known_want own z e

  idle : want_of own z ≡ Access s → is_empty P ≡ true
  idle e = (known_want own z e).0.calm

  wanted : s.0 ≡ slot_of (want_of own z)
  unfolding slot_of
  wanted = ⊎_elim (λ e. sym (ap slot_of e)) (λ e. sym (ap slot_of e.0)) waits.wanted

  highest : (u : ℕ) → In H u → u < s.0
  highest u h =
      let n : u ≡ s.0 → ⊥ = λ q. in_not_out H s.0 (subst (In H) q h) waits.not_held in
      ⊎_elim
      (λ e. let k = back e in omega (arith, k.1, (r.three k.0).below u h (λ q. n (q ∙ sym k.1))))
      (λ e. let l : u ≤ s.0 = none_above H s.0 u e.1 h in omega arith) waits.wanted

  four_queued : (k : ℕ) → In W k → Four (slot_of (want_of own on)) H k
  four_queued k e =
      let q : s.0 ≡ k = sym (alone k e) in
      subst (Four (slot_of (want_of own on)) H) q
      (record { is = wanted ∙ sym (ap slot_of want_same); lacks = λ h. in_not_out H s.0 h waits.not_held; above = highest })

  part : (k : ℕ) → In (concern P H U) k → In (concern P H W) k
  part k e =
      ⊎_elim (λ a. ⊎_elim (concern-held P H W k) (concern_pending P H W k) a) (λ u. absurd (in_not_out U k u (calm k))) (in_concern P H U k e)

  grown : size (concern P H U) ≤ size (concern P H W)
  grown = size_mono (concern P H U) (concern P H W) part

  -- nothing was waited for
  before : awaited P H U ≡ 0
  before =
      ⊎_elim
      (λ e. awaited-none P H U (subst (Out H) (back e).1 waits.not_held) (calm (smallest P)))
      (λ e. awaited_calm P H U (idle e.0)) waits.wanted

  paid : size (concern P H U) < size (concern P H W) + awaited P H W
  paid =
      ⊎_elim
      (λ e. omega (arith, grown, awaited_queued P H W (subst (In W) (back e).1 here)))
      (λ e. omega (
        arith,
        size_part (concern P H U) (concern P H W) s.0 part (concern_queued P H W s.0 here)
            (concern_out P H U s.0 waits.not_held (empty_out P s.0 (idle e.0)) (calm s.0)),
      ))
      waits.wanted

  pub parts_queued : Parts own on H W
  parts_queued =
      record {
        two = r.two;
        three = r.three;
        four = four_queued;
        five = record {
          restarts = few_more r.five.restarts grown;
          working = bound_queued _ _ _ _ _ _ _ _ (unawaited r.five before) grown paid;
        };
      }
