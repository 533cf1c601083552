-- 'A sound table', rule by rule, to be read: refusal 1 is given exactly if one of these does not hold. `Tests` is the same as a test, and
-- that the two say the same is proved.
use Rattle.std.specs.Prelude.{◌≡◌, ◌≢◌, ◌⊎◌, true, false, cond, List, [], ◌∷◌, ℕ, ◌+◌, ◌*◌, ◌≤◌, ◌<◌, get_or}
use Rattle.slots.specs.declared.set.SlotSet.{SlotSet}
use Rattle.slots.specs.Sizes.{cells, slots}
use Rattle.slots.specs.Refusals.{refusal}
use Rattle.slots.specs.Sets.{has, set_of, union, is_empty, size, smallest}
use Rattle.script.specs.Scripts.{registers}
use Rattle.script.specs.Legal.{script_checks}
use Rattle.script.specs.Meaning.{opening_registers}
use Rattle.seats.specs.declared.seat.Phase.{Phase}
use Rattle.seats.specs.declared.seat.Phase.TheVariants.{Blank, Open, Committed, Failed}
use Rattle.seats.specs.declared.seat.Run.{Run}
use Rattle.seats.specs.declared.table.Table.{Table}
use Rattle.seats.specs.Queues.{seats, entries, waits_in, is_entry}
use Rattle.seats.specs.SlotTables.{held_by, queue_of}
use Rattle.seats.specs.Seats.{most_restarts, most_working, no_write, blank_seat}
use Rattle.seats.specs.Tables.{seat_at}
use Rattle.course.specs.Wants.{want_of, slot_of}

-- seat i owns slot s; seat i is in the queue of slot s; seat i is open
abbrev pub Owns : Table → ℕ → ℕ → Type 0
Owns t i s = has (held_by t.slots i) s ≡ true

abbrev pub Waits : Table → ℕ → ℕ → Type 0
Waits t i s = waits_in (queue_of t.slots s) i ≡ true

pub record IsOpen (t : Table) (i : ℕ) : Type 0 where
  pub seat : i < seats
  pub phase : (seat_at t i).phase ≡ Open

-- no entry of the list stands in it twice
unfoldable pub Distinct : List ℕ → Type 0
Distinct [] = Unit {0}
Distinct (x ∷ xs) = (is_entry x xs ≡ false) × Distinct xs

-- ---- 1
pub record Rule1 (t : Table) : Type 0 where
  -- each slot is free or owned by one open seat
  pub one : (i j s : ℕ) → i < seats → j < seats → Owns t i s → Owns t j s → i ≡ j
  pub owners : (i s : ℕ) → i < seats → Owns t i s → IsOpen t i
  -- a queue holds open seats, each at most once and in one queue only
  pub room : (s : ℕ) → s < slots → (queue_of t.slots s).len ≤ seats
  pub waiters : (i s : ℕ) → s < slots → Waits t i s → IsOpen t i
  pub once : (s : ℕ) → s < slots → Distinct (entries (queue_of t.slots s))
  pub single : (i s u : ℕ) → s < slots → u < slots → Waits t i s → Waits t i u → s ≡ u
  -- a slot with a queue is owned, and not by a seat in it
  pub owned : (i s : ℕ) → s < slots → Waits t i s → (j : ℕ) × ((j < seats) × Owns t j s)
  pub apart : (i s : ℕ) → s < slots → Waits t i s → Owns t i s → ⊥

-- the slots that seat i is queued for
unfoldable pub queued_for : Table → ℕ → SlotSet
queued_for t i = set_of (λ s. waits_in (queue_of t.slots s) i)

-- the slots held, pending or queued for
unfoldable pub concerned : Table → ℕ → SlotSet
concerned t i = union (union (held_by t.slots i) (seat_at t i).pending) (queued_for t i)

abbrev pub cell_of : Run → ℕ → ℕ
cell_of ρ k = (get_or ρ.writes k no_write).cell.0

module _ (own : ℕ → ℕ) (t : Table) (i : ℕ) where
  -- ---- 2
  pub record Rule2 : Type 0 where
    pub position : (seat_at t i).run.at ≤ (seat_at t i).script.len
    pub legal : refusal (script_checks (seat_at t i).script) ≡ 0
    pub few : (seat_at t i).run.kept ≤ (seat_at t i).run.at
    pub cell : (k : ℕ) → k < (seat_at t i).run.kept → cell_of (seat_at t i).run k < cells
    pub held : (k : ℕ) → k < (seat_at t i).run.kept → Owns t i (own (cell_of (seat_at t i).run k))

  -- ---- 3, with pending not empty
  pub record Rule3 : Type 0 where
    pub position : (seat_at t i).run.at ≡ 0
    pub nothing : (seat_at t i).run.kept ≡ 0
    pub opening : (k : ℕ) → k < registers → get_or (seat_at t i).run.regs k 0 ≡ get_or (opening_registers (seat_at t i).run.reading) k 0
    pub below : (s : ℕ) → Owns t i s → s ≢ smallest (seat_at t i).pending → s < smallest (seat_at t i).pending
    pub lacks : (s : ℕ) → has (seat_at t i).pending s ≡ true → s ≢ smallest (seat_at t i).pending → Owns t i s → ⊥

  -- ---- 4, of a seat that is queued for slot s
  pub record Rule4 (s : ℕ) : Type 0 where
    pub wanted : s ≡ slot_of (want_of own (seat_at t i))
    pub lacks : Owns t i s → ⊥
    pub above : (u : ℕ) → Owns t i u → u < s

  -- ---- 5
  abbrev pub q : ℕ
  q = cond (has (union (held_by t.slots i) (queued_for t i)) (smallest (seat_at t i).pending)) 1 0

  pub record Rule5 : Type 0 where
    pub restarts : ((seat_at t i).tally.restarts ≡ 0) ⊎ ((seat_at t i).tally.restarts < size (concerned t i))
    pub working :
        (seat_at t i).tally.working + 2 * size (seat_at t i).pending
        ≤ (seat_at t i).tally.restarts * (seat_at t i).script.len + (seat_at t i).run.at + size (concerned t i)
        + 2 * ((seat_at t i).tally.restarts * size (concerned t i)) + q

  -- 2 to 5 are of open seats
  pub record OpenRules : Type 0 where
    pub two : Rule2
    pub three : is_empty (seat_at t i).pending ≡ false → Rule3
    pub four : (s : ℕ) → s < slots → Waits t i s → Rule4 s
    pub five : Rule5

  -- ---- 6: a seat not open holds, wants and keeps nothing
  pub record Closed : Type 0 where
    pub holds : (s : ℕ) → Owns t i s → ⊥
    pub waits : (s : ℕ) → s < slots → Waits t i s → ⊥
    pub wants : is_empty (seat_at t i).pending ≡ true
    pub keeps : (seat_at t i).run.kept ≡ 0

  pub record Ended : Type 0 where
    pub restarts : (seat_at t i).tally.restarts ≤ most_restarts
    pub reported : (seat_at t i).tally.slots ≤ slots
    pub working : (seat_at t i).tally.working ≤ most_working

  unfoldable pub PhaseRules : Phase → Type 0
  PhaseRules Blank = Closed × (seat_at t i ≡ blank_seat)
  PhaseRules Open = OpenRules
  PhaseRules Committed = Closed × Ended
  PhaseRules Failed = Closed × Ended

pub record Sound (own : ℕ → ℕ) (t : Table) : Type 0 where
  pub table : Rule1 t
  pub seats : (i : ℕ) → i < seats → PhaseRules own t i (seat_at t i).phase
