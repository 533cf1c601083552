-- A transaction that ends keeps the bounds. Its seat wants no slot when it ends, so nothing is pending and it is in no queue, since a queued
-- seat waits for what it wants. Then rule 5 speaks of the slots it holds alone, the position is at most the number of instructions, and the
-- step that ends it adds one. At most 64 instructions, 64 slots and so 63 restarts give 12,225.
use Prim.Native.Nat.{ℕ, ◌+◌, ◌*◌, ◌≤◌, ◌<◌}
use mathlib.Core.Path.{◌≡◌, sym, ◌∙◌}
use mathlib.Core.Logic.{◌⊎◌, inl, inr}
use mathlib.Core.Bool.{Bool, true, or-false, false≢true}
use native.Mathlib.Omega.{arith}
use native.Mathlib.Nat.{mul-le-mul}
use lib.Dec.{ltb}
use Rattle.slots.specs.Sizes.{slots}
use Rattle.slots.specs.declared.set.SlotSet.{SlotSet}
use Rattle.slots.specs.Sets.{union, is_empty, size}
use Rattle.slots.proofs.Members.{Out, out, has_lt, has_high, has_set, has-union}
use Rattle.slots.proofs.Counting.{size_le, size_same, empty_out}
use Rattle.slots.proofs.Least.{smallest-none}
use Rattle.slots.proofs.Truth.{and_r}
use Rattle.seats.specs.declared.table.Table.{Table}
use Rattle.seats.specs.Queues.{waits_in}
use Rattle.seats.specs.SlotTables.{held_by, queue_of, owned}
use Rattle.seats.specs.Tables.{seat_at}
use Rattle.course.specs.declared.wants.Want.{Want}
use Rattle.course.specs.declared.wants.Want.TheVariants.{End, NoCell}
use Rattle.course.specs.declared.cases.Case.{Case}
use Rattle.course.specs.declared.cases.Case.TheVariants as case
use Rattle.course.specs.Wants.{want_of, slot_of}
use Rattle.course.specs.Cases.{word_of}
use Rattle.course.proofs.Known.{Known, known, known_want}
use Rattle.soundness.proofs.Bounds.{script_short}
use Rattle.rules.specs.Rules.{OpenRules, queued_for, concerned, q}
use Rattle.table.specs.Calls.{case_of}
use Rattle.promises.specs.Histories.{ends}
use Rattle.promises.specs.Demand3.{formula, Within}

-- ---- over plain numbers: k instructions, position a, l slots, r restarts, w working steps before the last

few : {r l : ℕ} → (r ≡ 0) ⊎ (r < l) → l ≤ slots → r ≤ 63
few (inl e) h = omega arith
few (inr e) h = omega arith

within : (k a l r w : ℕ) → (r ≡ 0) ⊎ (r < l) → w ≤ r * k + a + l + 2 * (r * l) → a ≤ k → k ≤ 64 → l ≤ 64 → Within k l r (w + 1)
within k a l r w f h g x y =
    let m : r ≤ 63 = few f y in
    let last : w + 1 ≤ formula k l r = omega arith in
    record {
      no_slots = λ e. elim f [ inl z ↦ z | inr z ↦ absurd (omega arith) ];
      fewer = λ e. elim f [ inl z ↦ omega arith | inr z ↦ z ];
      working = last;
      most = omega (arith, mul-le-mul m x, mul-le-mul m y);
    }

-- ---- a seat that ends wants no slot

ends_known : (c : Case) (w : Want) (h o : SlotSet) (b : Bool) → ends (word_of c) ≡ true → Known c w h o b → (w ≡ End) ⊎ (w ≡ NoCell)
unfolding ends word_of
ends_known (case.Got s) w h o b e k = absurd (false≢true e)
ends_known case.Blocked w h o b e k = absurd (false≢true e)
ends_known (case.Queued s) w h o b e k = absurd (false≢true e)
ends_known case.Committed w h o b e k = inl k
ends_known case.Ran w h o b e k = absurd (false≢true e)
ends_known (case.Took s) w h o b e k = absurd (false≢true e)
ends_known case.Failed w h o b e k = inr k
ends_known (case.Restarted s) w h o b e k = absurd (false≢true e)

module _ (own : ℕ → ℕ) (t : Table) (i : ℕ) where
  -- nothing is pending, and the seat wants no slot
  record Finishing : Type 0 where
    calm : is_empty (seat_at t i).pending ≡ true
    wants : slot_of (want_of own (seat_at t i)) ≡ slots

  finishing : ends (word_of (case_of own t i)) ≡ true → Finishing
  unfolding case_of slot_of
  finishing e =
      let w = want_of own (seat_at t i) in
      let h = held_by t.slots i in
      let o = owned t.slots in
      let b = waits_in (queue_of t.slots (slot_of w)) i in
      elim (ends_known (case_of own t i) w h o b e (known w h o b)) [
        | inl f ↦ record { calm = (known_want own (seat_at t i) f).0; wants = rw f }
        | inr f ↦ record { calm = (known_want own (seat_at t i) f).0.calm; wants = rw f }
      ]

  module _ (r : OpenRules own t i) (f : Finishing) where
    no_queue_lem : (s : ℕ) → Out (queued_for t i) s
    unfolding queued_for
    no_queue_lem s =
        out (queued_for t i) s (λ e. let l : s < slots = has_lt (queued_for t i) s e in
        let k = r.four s l (and_r (ltb s slots) (waits_in (queue_of t.slots s) i) (sym (has_set (λ u. waits_in (queue_of t.slots u) i) s) ∙ e)) in
        omega (arith, k.wanted, f.wants))

    concerned-held : size (concerned t i) ≡ size (held_by t.slots i)
    unfolding concerned
    concerned-held =
        size_same (concerned t i) (held_by t.slots i) (λ s. has-union _ (queued_for t i) s
        ∙ rw (no_queue_lem s, has-union (held_by t.slots i) (seat_at t i).pending s, empty_out (seat_at t i).pending s f.calm)
        (or-false _ ∙ or-false _))

    no_q : q own t i ≡ 0
    no_q = rw (smallest-none (seat_at t i).pending f.calm, has_high (union (held_by t.slots i) (queued_for t i)) slots (omega arith))

  pub ends_within : OpenRules own t i → ends (word_of (case_of own t i)) ≡ true
      → Within (seat_at t i).script.len (size (held_by t.slots i)) (seat_at t i).tally.restarts ((seat_at t i).tally.working + 1)
  ends_within r e =
      let f = finishing e in
      let z = seat_at t i in
      let c = concerned-held r f in
      let few = rw c at r.five.restarts in
      let most = rw c at r.five.working in
      within z.script.len z.run.at (size (held_by t.slots i)) z.tally.restarts z.tally.working few
      (omega (arith, most, no_q r f)) r.two.position (script_short z.script r.two.legal) (size_le (held_by t.slots i))
