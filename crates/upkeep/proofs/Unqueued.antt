-- A seat that waits is blocked. By rule 4 it waits for the slot that it wants, does not hold it, and holds nothing above it; by rule 1
-- the slot is owned. That is the case 'blocked', whatever kind of want it is. So a seat whose step is of another case is in no queue. The
-- slot that a case names is the smallest of what is pending or the owner of a cell, and below 64 either way.
use Prim.Native.Nat.{ℕ, ◌<◌}
use mathlib.Core.Path.{◌≡◌, sym, ap, ◌∙◌, subst}
use mathlib.Core.Logic.{inl, inr}
use mathlib.Core.Bool.{Bool, true}
use native.Mathlib.Omega.{arith}
use Rattle.slots.specs.Sizes.{slots}
use Rattle.slots.specs.declared.Slot.{Slot}
use Rattle.slots.specs.declared.set.SlotSet.{SlotSet}
use Rattle.slots.specs.Sets.{above, is_empty}
use Rattle.slots.proofs.Members.{In, Out, out, has_lt}
use Rattle.slots.proofs.Least.{smallest_some, above-none}
use Rattle.seats.specs.declared.table.Table.{Table}
use Rattle.seats.specs.Queues.{waits_in}
use Rattle.seats.specs.SlotTables.{held_by, queue_of, owned}
use Rattle.seats.specs.Tables.{seat_at}
use Rattle.seats.proofs.Owned.{held-owned}
use Rattle.course.specs.declared.wants.Want.{Want}
use Rattle.course.specs.declared.wants.Want.TheVariants.{Back, End, Nothing, Access, NoCell}
use Rattle.course.specs.declared.cases.Case.{Case}
use Rattle.course.specs.declared.cases.Case.TheVariants as case
use Rattle.course.specs.Wants.{want_of, slot_of}
use Rattle.course.specs.Cases.{waiting, case_for}
use Rattle.course.proofs.Known as known
use Rattle.rules.specs.Rules.{Waits, IsOpen, OpenRules}
use Rattle.rules.proofs.Phases.{rules_of_open}
use Rattle.table.specs.Calls.{case_of}
use Rattle.upkeep.specs.SoundTables.{Stands}

-- ---- a seat that waits for the slot it wants

blocked : (w : Want) (h o : SlotSet) → slot_of w < slots → Out h (slot_of w) → In o (slot_of w) → is_empty (above h (slot_of w)) ≡ true
    → case_for w h o true ≡ case.Blocked
unfolding case_for slot_of waiting
blocked (Back s) h o l a b n = rw (a, b)
blocked End h o l a b n = absurd (omega arith)
blocked Nothing h o l a b n = absurd (omega arith)
blocked (Access s) h o l a b n = rw (a, b, n)
blocked NoCell h o l a b n = absurd (omega arith)

-- an open seat of a sound table follows rules 2 to 5
pub open_rules : {own : ℕ → ℕ} (t : Table) (i : ℕ) → Stands own t → IsOpen t i → OpenRules own t i
open_rules {own} t i st o = rules_of_open own t i (st.sound.seats i o.seat) o.phase

module _ {own : ℕ → ℕ} (t : Table) (i : ℕ) (st : Stands own t) (o : IsOpen t i) where
  pub waits_blocked : (s : ℕ) → s < slots → Waits t i s → case_of own t i ≡ case.Blocked
  unfolding case_of
  waits_blocked s l m =
      let four = (open_rules t i st o).four s l m in
      let w : ℕ = slot_of (want_of own (seat_at t i)) in
      let h : SlotSet = held_by t.slots i in
      let e : s ≡ w = four.wanted in
      let here : waits_in (queue_of t.slots w) i ≡ true = subst (Waits t i) e m in
      let r = st.sound.table.owned i s l m in
      ap (λ (b : Bool). case_for (want_of own (seat_at t i)) h (owned t.slots) b) here
      ∙ blocked (want_of own (seat_at t i)) h (owned t.slots) (subst (λ (k : ℕ). k < slots) e l)
      (out h w (λ k. four.lacks (subst (In h) (sym e) k)))
      (subst (In (owned t.slots)) e (held-owned t.slots s r.0 r.1.1))
      (above-none h w (λ u k. omega (arith, four.above u k)))

  pub unqueued : (case_of own t i ≡ case.Blocked → ⊥) → (s : ℕ) → s < slots → Waits t i s → ⊥
  unqueued n s l m = n (waits_blocked s l m)

-- ---- the slot that a case names

abbrev pub Small : Case → Type 0
Small (case.Got s) = s.0 < slots
Small case.Blocked = Unit {0}
Small (case.Queued s) = s.0 < slots
Small case.Committed = Unit {0}
Small case.Ran = Unit {0}
Small (case.Took s) = s.0 < slots
Small case.Failed = Unit {0}
Small (case.Restarted s) = s.0 < slots

module _ (own : ℕ → ℕ) (below : (c : ℕ) → own c < slots) (t : Table) (i : ℕ) where
  back_small : (s : Slot) → want_of own (seat_at t i) ≡ Back s → s.0 < slots
  back_small s e =
      let k = known.known_want own (seat_at t i) e in
      omega (arith, k.1, has_lt _ _ (smallest_some (seat_at t i).pending k.0))

  access_small : (s : Slot) → want_of own (seat_at t i) ≡ Access s → s.0 < slots
  access_small s e = let k = known.known_want own (seat_at t i) e in omega (arith, k.1.3, below k.1.0)

  waits_small : (s : Slot) (h o : SlotSet) → known.Waits s (want_of own (seat_at t i)) h o → s.0 < slots
  waits_small s h o k = elim k.wanted [ inl e ↦ back_small s e | inr e ↦ access_small s e.0 ]

  pub wanted_slot : {c : Case} → case_of own t i ≡ c → Small c
  unfolding case_of
  wanted_slot {c} e = go _ _ _ c (known.known_case _ _ _ _ e)
    where
      go : (h o : SlotSet) (b : Bool) (c : Case) → known.Known c (want_of own (seat_at t i)) h o b → Small c
      go h o b (case.Got s) k = back_small s k.0
      go h o b case.Blocked k = tt
      go h o b (case.Queued s) k = waits_small s h o k.0
      go h o b case.Committed k = tt
      go h o b case.Ran k = tt
      go h o b (case.Took s) k = access_small s k.wanted
      go h o b case.Failed k = tt
      go h o b (case.Restarted s) k = access_small s k.wanted
