-- What a table that stands gives of an open seat to the comparison with the machine: every queue is a line, a slot has one owner, who waits is
-- one of the 16 seats and waits for what another owns, a seat that joins a queue finds room, and a seat that waits is blocked.
use Prim.Native.Nat.{ℕ, ◌<◌}
use mathlib.Core.Path.{◌≡◌}
use mathlib.Core.Bool.{true, false}
use lib.ListN.{length}
use Rattle.slots.specs.Sizes.{slots}
use Rattle.slots.proofs.Truth.{not_both}
use Rattle.slots.proofs.Members.{In}
use Rattle.seats.specs.declared.seat.Seat.{Seat}
use Rattle.seats.specs.declared.slot_table.SlotTable.{SlotTable}
use Rattle.seats.specs.declared.table.Table.{Table}
use Rattle.seats.specs.Queues.{seats, entries}
use Rattle.seats.specs.SlotTables.{held_by, queue_of, owned}
use Rattle.seats.specs.Seats.{is_open}
use Rattle.seats.specs.Tables.{seat_at}
use Rattle.seats.proofs.Shape.{Whole, Lined}
use Rattle.seats.proofs.Owned.{held-owned}
use Rattle.course.specs.declared.wants.Want.{Want}
use Rattle.course.specs.declared.cases.Case.{Case}
use Rattle.course.specs.declared.cases.Case.TheVariants as case
use Rattle.course.specs.Wants.{want_of, slot_of}
use Rattle.course.specs.Cases.{case_for}
use Rattle.rules.specs.Rules.{IsOpen}
use Rattle.table.specs.Calls.{case_of}
use Rattle.upkeep.specs.SoundTables.{Stands}
use Rattle.upkeep.proofs.Replies.{phase_open}
use Rattle.promises.proofs.FigureAlike.{waits}
use Rattle.upkeep.proofs.Room.{room_left}
use Rattle.upkeep.proofs.Unqueued.{waits_blocked}

-- the case of a step of seat i = z, if it wants w
abbrev pub case_by : Want → SlotTable → ℕ → Case
case_by w T i = case_for w (held_by T i) (owned T) (waits T i (slot_of w))

pub record Ground (own : ℕ → ℕ) (z : Seat) (T : SlotTable) (i : ℕ) : Type 0 where
  pub opens : is_open z.phase ≡ true
  pub seat : i < seats
  pub whole : Whole T
  pub lines : Lined T
  pub sole : (s j : ℕ) → j < seats → In (held_by T i) s → In (held_by T j) s → j ≡ i
  pub waiter : (s j : ℕ) → s < slots → waits T j s ≡ true → j < seats
  pub room : (s : ℕ) → s < slots → waits T i s ≡ false → length (entries (queue_of T s)) < seats
  pub taken : (s : ℕ) → s < slots → waits T i s ≡ true → In (owned T) s
  pub blocked : (s : ℕ) → s < slots → waits T i s ≡ true → case_by (want_of own z) T i ≡ case.Blocked

pub ground : {own : ℕ → ℕ} (t : Table) (i : ℕ) → Stands own t → IsOpen t i → Ground own (seat_at t i) t.slots i
unfolding case_of
ground t i st o =
    let r = st.sound.table in
    record {
      opens = phase_open o.phase;
      seat = o.seat;
      whole = st.shaped.arrays;
      lines = λ s l. record { array = st.shaped.queues16 s l; short = r.room s l };
      sole = λ s j b m n. r.one j i s b o.seat n m;
      waiter = λ s j l m. (r.waiters j s l m).seat;
      room = λ s l n. room_left t i s r o.seat l (λ m. not_both m n);
      taken = λ s l m. let w = r.owned i s l m in held-owned t.slots s w.0 w.1.1;
      blocked = waits_blocked t i st o;
    }
