-- What is common to all cases of a step: the seat's rules before it, and what is known in the case. The table after the step has the seat's
-- new state in the seat's place, so the seat's rules there are those of that state.
use Prim.Native.Nat.{ℕ, ◌<◌}
use mathlib.Core.Path.{◌≡◌, sym, ap, ◌∙◌, subst}
use mathlib.Core.List.{List}
use native.Mathlib.Omega.{arith}
use lib.ListN.{set}
use lib.Seq.{get_or-set_same}
use Rattle.slots.specs.Sizes.{slots}
use Rattle.slots.proofs.Members.{Out, out}
use Rattle.seats.specs.declared.seat.Phase.{Phase}
use Rattle.seats.specs.declared.seat.Phase.TheVariants.{Open}
use Rattle.seats.specs.declared.seat.Seat.{Seat}
use Rattle.seats.specs.declared.slot_table.SlotTable.{SlotTable}
use Rattle.seats.specs.declared.table.Table.{Table}
use Rattle.seats.specs.Queues.{waits_in}
use Rattle.seats.specs.SlotTables.{held_by, queue_of, owned}
use Rattle.seats.specs.Tables.{no_seat, seat_at}
use Rattle.course.specs.declared.cases.Case.{Case}
use Rattle.course.specs.Wants.{want_of, slot_of}
use Rattle.course.specs.Steps.{seat_after, slots_after}
use Rattle.course.proofs.Known.{Known, known_case}
use Rattle.rules.specs.Rules.{Waits, IsOpen, PhaseRules}
use Rattle.table.specs.Calls.{case_of}
use Rattle.upkeep.specs.SoundTables.{Stands}
use Rattle.upkeep.proofs.Unqueued.{open_rules}
use Rattle.upkeep.proofs.OwnParts.{Parts, queued_in, queued_waits, parts, rules}

-- a seat that waits for no slot is queued for none
pub in_none : (t : Table) (i : ℕ) → ((s : ℕ) → s < slots → Waits t i s → ⊥) → (k : ℕ) → Out (queued_in t.slots i) k
in_none t i n k = out (queued_in t.slots i) k (λ e. let w = queued_waits t.slots i k e in n k w.0 w.1)

module _ {own : ℕ → ℕ} (t : Table) (i : ℕ) (st : Stands own t) (o : IsOpen t i) where
  -- ---- before

  pub before : Parts own (seat_at t i) (held_by t.slots i) (queued_in t.slots i)
  before = parts own t i (open_rules t i st o)

  module _ {c : Case} (is : case_of own t i ≡ c) where
    pub known_of : Known c (want_of own (seat_at t i)) (held_by t.slots i) (owned t.slots)
        (waits_in (queue_of t.slots (slot_of (want_of own (seat_at t i)))) i)
    unfolding case_of
    known_of = known_case (want_of own (seat_at t i)) (held_by t.slots i) (owned t.slots) _ is

  -- ---- after: the table with the seat y, and the slot table τ

  abbrev pub put : Seat → SlotTable → Table
  put y τ = record { seats = set t.seats i y; slots = τ }

  pub here : (y : Seat) (τ : SlotTable) → seat_at (put y τ) i ≡ y
  here y τ = get_or-set_same t.seats i y no_seat (omega (arith, st.shaped.seats16, o.seat))

  pub phase_kept : (y : Seat) (τ : SlotTable) (p : Phase) → y.phase ≡ p → PhaseRules own (put y τ) i p
      → PhaseRules own (put y τ) i (seat_at (put y τ) i).phase
  phase_kept y τ p e = subst (PhaseRules own (put y τ) i) (sym (ap (λ (x : Seat). x.phase) (here y τ) ∙ e))

  pub open_kept : (y : Seat) (τ : SlotTable) → y.phase ≡ Open → Parts own y (held_by τ i) (queued_in τ i)
      → PhaseRules own (put y τ) i (seat_at (put y τ) i).phase
  unfolding PhaseRules
  open_kept y τ e x = phase_kept y τ Open e (rules own (put y τ) i (here y τ) x)

-- the rules of the seat that stepped, after case c
abbrev pub Kept : (ℕ → ℕ) → Table → List ℕ → ℕ → Case → Type 0
Kept own t img i c =
    let u : Table = record { seats = set t.seats i (seat_after c (seat_at t i) (held_by t.slots i) img); slots = slots_after c t.slots i } in
    PhaseRules own u i (seat_at u i).phase
