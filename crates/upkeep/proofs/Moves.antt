-- The table after a step, case by case. All seats but the stepping one are as they were, and that one is open still unless its step ends
-- it. What each case asks of the slots before: the slot taken is nobody else's, the slot waited for is another's, and a seat whose step is
-- not 'blocked' is in no queue, so that there is room for it in the queue that it joins.
use Prim.Native.Nat.{ℕ, ◌<◌}
use mathlib.Core.Path.{◌≡◌, sym, ap, ◌∙◌, subst}
use mathlib.Core.Logic.{◌≢◌, ⊎_elim}
use mathlib.Core.List.{List}
use native.Mathlib.Omega.{arith}
use lib.ListN.{length, set}
use lib.Seq.{get_or-set_same, get_or-set_other}
use Rattle.slots.specs.Sizes.{slots}
use Rattle.slots.specs.declared.Slot.{Slot}
use Rattle.slots.proofs.Members.{in_not_out}
use Rattle.seats.specs.declared.seat.Phase.TheVariants.{Open}
use Rattle.seats.specs.declared.seat.Seat.{Seat}
use Rattle.seats.specs.declared.table.Table.{Table}
use Rattle.seats.specs.Queues.{seats, entries, waits_in}
use Rattle.seats.specs.SlotTables.{held_by, queue_of, owned}
use Rattle.seats.specs.Tables.{no_seat, seat_at}
use Rattle.seats.proofs.Shape.{Lined}
use Rattle.seats.proofs.Owned.{owner, free_out}
use Rattle.course.specs.declared.cases.Case.{Case}
use Rattle.course.specs.declared.cases.Case.TheVariants as case
use Rattle.course.specs.Wants.{want_of, slot_of}
use Rattle.course.specs.Steps.{seat_after, slots_after}
use Rattle.course.proofs.Known as known
use Rattle.rules.specs.Rules.{Owns, Waits, IsOpen}
use Rattle.table.specs.Calls.{case_of}
use Rattle.upkeep.specs.SoundTables.{Stands}
use Rattle.upkeep.proofs.Unqueued.{unqueued}
use Rattle.upkeep.proofs.Room.{room_left}

-- ---- the seats

module _ (t : Table) (img : List ℕ) (i : ℕ) where
  -- the stepping seat, and the table, after case c
  abbrev pub here : Case → Seat
  here c = seat_after c (seat_at t i) (held_by t.slots i) img

  abbrev pub after : Case → Table
  after c = record { seats = set t.seats i (here c); slots = slots_after c t.slots i }

  pub seat_other : (c : Case) (j : ℕ) → j ≢ i → seat_at (after c) j ≡ seat_at t j
  seat_other c j n = get_or-set_other t.seats i j (here c) no_seat n

  pub open_other : (c : Case) (j : ℕ) → j ≢ i → IsOpen t j → IsOpen (after c) j
  open_other c j n o = record { seat = o.seat; phase = ap (λ (z : Seat). z.phase) (seat_other c j n) ∙ o.phase }

  pub open_here : (c : Case) → i < length t.seats → i < seats → (here c).phase ≡ Open → IsOpen (after c) i
  open_here c l b e = record { seat = b; phase = ap (λ (z : Seat). z.phase) (get_or-set_same t.seats i (here c) no_seat l) ∙ e }

-- ---- the slots

abbrev Blocks : Case → Type 0
Blocks (case.Got s) = ⊥
Blocks case.Blocked = Unit {0}
Blocks (case.Queued s) = ⊥
Blocks case.Committed = ⊥
Blocks case.Ran = ⊥
Blocks (case.Took s) = ⊥
Blocks case.Failed = ⊥
Blocks (case.Restarted s) = ⊥

module _ {own : ℕ → ℕ} (t : Table) (i : ℕ) (st : Stands own t) (o : IsOpen t i) where
  pub lined : Lined t.slots
  lined k l = record { array = st.shaped.queues16 k l; short = st.sound.table.room k l }

  pub calm : {c : Case} → case_of own t i ≡ c → (Blocks c → ⊥) → (s : ℕ) → s < slots → Waits t i s → ⊥
  calm e n = unqueued t i st o (λ b. n (subst Blocks (sym b ∙ e) tt))

  knows : {c : Case} → case_of own t i ≡ c
      → known.Known c (want_of own (seat_at t i)) (held_by t.slots i) (owned t.slots)
      (waits_in (queue_of t.slots (slot_of (want_of own (seat_at t i)))) i)
  unfolding case_of
  knows e = known.known_case _ _ _ _ e

  pub got_alone : (s : Slot) → case_of own t i ≡ case.Got s → (j : ℕ) → j < seats → Owns t j s.0 → i ≡ j
  got_alone s e j b k =
      ⊎_elim (λ h. st.sound.table.one i j s.0 o.seat b h k)
      (λ f. absurd (in_not_out (held_by t.slots j) s.0 k (free_out t.slots s.0 f j))) (knows e).1

  pub took_alone : (s : Slot) → case_of own t i ≡ case.Took s → (j : ℕ) → j < seats → Owns t j s.0 → i ≡ j
  took_alone s e j b k = absurd (in_not_out (held_by t.slots j) s.0 k (free_out t.slots s.0 (knows e).free j))

  module _ (s : Slot) (e : case_of own t i ≡ case.Queued s) where
    pub queued_lacks : Owns t i s.0 → ⊥
    queued_lacks k = in_not_out (held_by t.slots i) s.0 k (knows e).0.not_held

    pub queued_owner : (j : ℕ) × ((j < seats) × Owns t j s.0)
    queued_owner =
        let r = owner t.slots s.0 (knows e).0.owned in
        (r.0, (omega (arith, r.1.0, st.shaped.arrays.held16), r.1.1))

    pub queued_room : s.0 < slots → length (entries (queue_of t.slots s.0)) < seats
    queued_room l = room_left t i s.0 st.sound.table o.seat l (calm e (λ x. x) s.0 l)
