-- A step that runs an instruction, whether the seat holds the slot or takes it, keeps the rules of the seat, and so does a restart. An access
-- is to a cell in range, and the slot wanted is the cell's, so a write that is kept is to a cell whose slot the seat holds.
use Prim.Native.Nat.{ℕ, ◌<◌}
use mathlib.Core.Path.{◌≡◌, sym, ap, ◌∙◌, subst}
use mathlib.Core.Logic.{◌⊎◌, inl, inr}
use mathlib.Core.List.{List}
use native.Mathlib.Omega.{arith}
use Rattle.slots.specs.declared.Slot.{Slot}
use Rattle.slots.specs.declared.set.SlotSet.{SlotSet}
use Rattle.slots.specs.Sizes.{cells, slots}
use Rattle.slots.specs.Sets.{above}
use Rattle.slots.proofs.Members.{In, Out}
use Rattle.script.specs.Meaning.{Act, local, writes}
use Rattle.seats.specs.declared.seat.Seat.{Seat}
use Rattle.seats.specs.declared.slot_table.SlotTable.{SlotTable}
use Rattle.seats.specs.declared.table.Table.{Table}
use Rattle.seats.specs.SlotTables.{held_by, taken, released}
use Rattle.seats.specs.Tables.{seat_at}
use Rattle.course.specs.declared.wants.Want.TheVariants.{Nothing, Access}
use Rattle.course.specs.declared.cases.Case.TheVariants as case
use Rattle.runs.specs.Runs.{after_act}
use Rattle.course.specs.Wants.{act_at, want_of}
use Rattle.course.specs.Steps.{goes_on, restarted, seat_after, slots_after}
use Rattle.course.proofs.Known.{Accesses, Runs, known_want}
use Rattle.rules.specs.Rules.{IsOpen}
use Rattle.table.specs.Calls.{case_of}
use Rattle.upkeep.specs.SoundTables.{Stands}
use Rattle.upkeep.proofs.Unqueued.{wanted_slot}
use Rattle.upkeep.proofs.OwnParts.{Parts, queued_in}
use Rattle.upkeep.proofs.OwnSlots.{taken_keeps, taken_here, taken_queued, released-from, released_keeps, released_calm}
use Rattle.upkeep.proofs.OwnRan.{parts_ran}
use Rattle.upkeep.proofs.OwnRestart.{parts_restarted}
use Rattle.upkeep.proofs.Moves.{lined, calm}
use Rattle.upkeep.proofs.OwnBase.{before, known_of, in_none, open_kept, Kept}

-- a write is an access to its own cell
written-cell : (a : Act) (c d v : ℕ) → Accesses a c → a ≡ writes d v → d ≡ c
written-cell a c d v (inl k) e =
    let f = k.1 in
    let z : ◌≡◌ {A = ℕ} 0 1 = cc in absurd (omega arith)
written-cell a c d v (inr k) e = let f = k.1 in cc

no_write_lem : {A : Type 0} (a : Act) (r : List ℕ) (n d v : ℕ) → a ≡ local r n → a ≡ writes d v → A
no_write_lem a r n d v f e = let z : ◌≡◌ {A = ℕ} 0 1 = cc in absurd (omega arith)

module _ (own : ℕ → ℕ) (below : (c : ℕ) → own c < slots) (t : Table) (img : List ℕ) (i : ℕ) (st : Stands own t) (o : IsOpen t i) where
  abbrev z : Seat
  z = seat_at t i

  abbrev σ : SlotTable
  σ = t.slots

  abbrev H : SlotSet
  H = held_by σ i

  abbrev U : SlotSet
  U = queued_in σ i

  abbrev ran : Seat
  ran = goes_on z (after_act (act_at z) img z.run) z.pending

  -- what is written is in range, and its slot is one of J
  abbrev Written : SlotSet → Type 0
  Written J = (c v : ℕ) → act_at z ≡ writes c v → (c < cells) × In J (own c)

  wrote : (s : Slot) (J : SlotSet) → want_of own z ≡ Access s → In J s.0 → Written J
  wrote s J w h c v e =
      let k = known_want own z w in
      let q : c ≡ k.1.0 = written-cell (act_at z) k.1.0 c v k.1.1 e in
      (subst (λ (d : ℕ). d < cells) (sym q) k.1.2, subst (In J) (k.1.3 ∙ ap own (sym q)) h)

  pub ran_kept : case_of own t i ≡ case.Ran → Kept own t img i case.Ran
  unfolding seat_after slots_after
  ran_kept is = open_kept t i st o ran σ o.phase (go (known_of t i st o is))
    where
      runs : Runs z → Written H → Parts own ran H U
      runs k new =
          let n = in_none t i (calm t i st o is (λ x. x)) in
          parts_ran own z H H U U img (st.shaped.each i o.seat) k (λ k e. e) new n n (before t i st o)

      go : (want_of own z ≡ Nothing) ⊎ ((s : Slot) × (want_of own z ≡ Access s) × In H s.0) → Parts own ran H U
      go (inl w) =
          let k = known_want own z w in
          runs k.0 (λ c v e. no_write_lem (act_at z) k.1.0 k.1.1 c v k.1.2 e)
      go (inr k) = runs (known_want own z k.1).0 (wrote k.0 H k.1 k.2)

  pub took_kept : (s : Slot) → case_of own t i ≡ case.Took s → Kept own t img i (case.Took s)
  unfolding seat_after slots_after
  took_kept s is =
      let small : s.0 < slots = wanted_slot own below t i is in
      let k = known_of t i st o is in
      let w = st.shaped.arrays in
      let n = in_none t i (calm t i st o is (λ x. x)) in
      let J : SlotSet = held_by (taken σ i s.0) i in
      open_kept t i st o ran (taken σ i s.0) o.phase
      (parts_ran own z H J U (queued_in (taken σ i s.0) i) img (st.shaped.each i o.seat) (known_want own z k.wanted).0
      (taken_keeps σ i w o.seat s.0 small) (wrote s J k.wanted (taken_here σ i w o.seat s.0 small)) n
      (subst (λ (S : SlotSet). (k : ℕ) → Out S k) (sym (taken_queued σ i w o.seat s.0 small)) n) (before t i st o))

  pub restarted_kept : (s : Slot) → case_of own t i ≡ case.Restarted s → Kept own t img i (case.Restarted s)
  unfolding seat_after slots_after restarted
  restarted_kept s is =
      let k = known_of t i st o is in
      let w = st.shaped.arrays in
      let n = in_none t i (calm t i st o is (λ x. x)) in
      let R : SlotSet = above H s.0 in
      open_kept t i st o (restarted z H s.0) (released σ i R) o.phase
      (parts_restarted own z H (held_by (released σ i R) i) U (queued_in (released σ i R) i) s.0 (wanted_slot own below t i is)
      (known_want own z k.wanted).0 k.not_held k.higher (released-from σ i w o.seat (lined t i st o) n R)
      (released_keeps σ i w o.seat (lined t i st o) n R) n (released_calm σ i w o.seat (lined t i st o) n R) (before t i st o))
