-- In a table that stands with an open seat some open seat is not blocked. A blocked seat waits for a slot, and that slot has an owner, which
-- is open and holds it. If the owner is blocked too then it waits for a slot above all it holds, so for a higher one; and there are 64 slots.
use Prim.Native.Nat.{ℕ, zero, suc, ◌+◌, ◌≤◌, ◌<◌}
use mathlib.Core.Path.{◌≡◌, refl, sym, ap, ◌∙◌}
use mathlib.Core.Logic.{inl, inr}
use native.Mathlib.Omega.{arith}
use lib.Dec.{eqb}
use lib.ListN.{length}
use borrow.Author.Tests.{eqb-true, eqb-false}
use Rattle.slots.specs.Sizes.{cells, slots}
use Rattle.slots.specs.declared.Slot.{Slot}
use Rattle.slots.specs.declared.set.SlotSet.{SlotSet}
use Rattle.slots.proofs.Truth.{split}
use Rattle.slots.proofs.Members.{has_lt}
use Rattle.seats.specs.declared.table.Table.{Table}
use Rattle.seats.specs.Queues.{waits_in}
use Rattle.seats.specs.SlotTables.{held_by, queue_of, owned}
use Rattle.seats.specs.Tables.{seat_at}
use Rattle.course.specs.declared.wants.Want.{Want}
use Rattle.course.specs.declared.cases.Case.{Case}
use Rattle.course.specs.declared.cases.Case.TheVariants as case
use Rattle.course.specs.Wants.{want_of, slot_of}
use Rattle.course.specs.Cases.{word_of}
use Rattle.course.proofs.Known as known
use Rattle.course.proofs.Known.{known_case}
use Rattle.rules.specs.Rules.{Waits, IsOpen}
use Rattle.table.specs.Calls.{case_of}
use Rattle.upkeep.proofs.Unqueued.{open_rules}
use Rattle.upkeep.specs.SoundTables.{Stands}
use Rattle.upkeep.proofs.Stands.{Upkeep}
use Rattle.promises.specs.Histories.{World, saucebell, begin, works, history}
use Rattle.promises.specs.Demand3.{OpenIn, CanMove, SomeSeatMoves}
use Rattle.upkeep.proofs.Replies.{open_phase, phase_open, step_open}
use Rattle.promises.proofs.Reached.{after_length, history_stands}

-- only a blocked step counts for nothing
pub blocked_case : (c : Case) → works (word_of c) ≡ 0 → c ≡ case.Blocked
unfolding works word_of
blocked_case (case.Got s) e = absurd (omega arith)
blocked_case case.Blocked e = refl
blocked_case (case.Queued s) e = absurd (omega arith)
blocked_case case.Committed e = absurd (omega arith)
blocked_case case.Ran e = absurd (omega arith)
blocked_case (case.Took s) e = absurd (omega arith)
blocked_case case.Failed e = absurd (omega arith)
blocked_case (case.Restarted s) e = absurd (omega arith)

-- the slot that is waited for is the one wanted
wanted_slot : (s : Slot) (w : Want) (h o : SlotSet) → known.Waits s w h o → slot_of w ≡ s.0
unfolding slot_of
wanted_slot s w h o k = elim k.wanted [ inl e ↦ rw e | inr e ↦ rw e.0 ]

module _ (own : ℕ → ℕ) (t : Table) where
  -- a blocked seat is in a queue
  blocked_waits : (i : ℕ) → works (word_of (case_of own t i)) ≡ 0 → (s : ℕ) × (s < slots) × Waits t i s
  unfolding case_of
  blocked_waits i e =
      let w = want_of own (seat_at t i) in
      let h = held_by t.slots i in
      let o = owned t.slots in
      let b = waits_in (queue_of t.slots (slot_of w)) i in
      let k = known_case w h o b (blocked_case (case_of own t i) e) in
      let n : slot_of w ≡ k.0.0 = wanted_slot k.0 w h o k.1 in
      (slot_of w, rw n (has_lt o k.0.0 k.1.owned), k.2)

  module _ (st : Stands own t) where
    -- from a seat that waits, over the owner of the slot, to one that is not blocked: n slots are at most to go
    chase : (n i s : ℕ) → s < slots → slots ≤ s + n → Waits t i s → (j : ℕ) × IsOpen t j × (works (word_of (case_of own t j)) ≡ 0 → ⊥)
    chase zero i s l m w = absurd (omega arith)
    chase (suc n) i s l m w =
        let o = st.sound.table.owned i s l w in
        let j = o.0 in
        let open-j : IsOpen t j = st.sound.table.owners j s o.1.0 o.1.1 in
        split (eqb (works (word_of (case_of own t j))) 0)
        (λ b. let u = blocked_waits j (eqb-true _ _ b) in
        let higher : s < u.0 = ((open_rules t j st open-j).four u.0 u.1 u.2).above s o.1.1 in
        chase n j u.0 u.1 (omega arith) u.2)
        (λ b. (j, open-j, eqb-false _ _ b))

    pub unblocked : (i : ℕ) → IsOpen t i → (j : ℕ) × IsOpen t j × (works (word_of (case_of own t j)) ≡ 0 → ⊥)
    unblocked i o =
        split (eqb (works (word_of (case_of own t i))) 0)
        (λ b. let u = blocked_waits i (eqb-true _ _ b) in chase slots i u.0 u.1 (omega arith) u.2)
        (λ b. (i, o, eqb-false _ _ b))

module _ (own : ℕ → ℕ) where
  pub some_moves : (w : World) → Stands own w.table → length w.image ≡ cells → (i : ℕ) → OpenIn (saucebell own) w i
      → (j : ℕ) × CanMove (saucebell own) w j
  unfolding works
  some_moves w st n i o =
      let u = unblocked own w.table st i (record { seat = o.0; phase = open_phase _ o.1 }) in
      let j = u.0 in
      let g = step_open own w.table w.image j st n u.1 in (
        j,
        record {
          opens = (u.1.seat, phase_open u.1.phase);
          granted = g.number;
          unblocked = λ e. u.2 (ap works (sym g.reply ∙ e));
        },
      )

  pub some_seat_moves : Upkeep own → SomeSeatMoves (saucebell own)
  unfolding SomeSeatMoves history begin
  some_seat_moves up img cs n i o =
      some_moves (history (saucebell own) img cs) (history_stands own up img cs) (after_length own cs (begin img) ∙ n) i o
