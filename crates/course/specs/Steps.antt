-- What a case does: to the seat, to the slot table, to the image; and with it the whole step.
use Rattle.std.specs.Prelude.{ℕ, ◌+◌, ◌≤◌, Bool, false, List}
use Rattle.slots.specs.declared.set.SlotSet.{SlotSet}
use Rattle.slots.specs.Sets.{none, adding, removing, above, size}
use Rattle.script.specs.Scripts.{max_instructions}
use Rattle.seats.specs.declared.seat.Phase.{Phase}
use Rattle.seats.specs.declared.seat.Phase.TheVariants as phase
use Rattle.seats.specs.declared.seat.Run.{Run}
use Rattle.seats.specs.declared.seat.Tally.{Tally}
use Rattle.seats.specs.declared.seat.Seat.{Seat}
use Rattle.seats.specs.declared.slot_table.SlotTable.{SlotTable}
use Rattle.seats.specs.Seats.{most_restarts, most_working, blank_run, opened_run}
use Rattle.seats.specs.Queues.{waits_in}
use Rattle.seats.specs.SlotTables.{held_by, queue_of, owned, taken, joined_by, released}
use Rattle.course.specs.declared.wants.Want.{Want}
use Rattle.course.specs.declared.wants.Want.TheVariants.{Back, End, Nothing, Access, NoCell}
use Rattle.course.specs.declared.cases.Case.{Case}
use Rattle.course.specs.declared.cases.Case.TheVariants as case
use Rattle.runs.specs.Runs.{kept_writes, written, after_act}
use Rattle.course.specs.Words.{Word}
use Rattle.course.specs.Wants.{act_at, want_of, slot_of}
use Rattle.course.specs.Cases.{case_for, word_of}

-- ---- the seat

-- every step not refused and not blocked adds 1 to the seat's working count
abbrev pub worked : Tally → Tally
worked y = record { restarts = y.restarts; working = y.working + 1; slots = y.slots }

-- the seat goes on with this run, and this pending
abbrev pub goes_on : Seat → Run → SlotSet → Seat
goes_on z ρ p = record { phase = z.phase; script = z.script; run = ρ; pending = p; tally = worked z.tally }

-- D, the last line: kept writes dropped, registers as at opening, position 0, restarts + 1; pending becomes the held slots above s, and s
unfoldable pub restarted : Seat → SlotSet → ℕ → Seat
restarted z h s =
    record {
      phase = z.phase;
      script = z.script;
      run = opened_run z.run.reading;
      pending = adding (above h s) s;
      tally = record { restarts = z.tally.restarts + 1; working = z.tally.working + 1; slots = z.tally.slots };
    }

-- an ended seat keeps script, outcome, registers, restarts, working count and the number of slots held just before the end; all else
-- in it is blank
unfoldable pub ended : Seat → SlotSet → Phase → Seat
ended z h p =
    record {
      phase = p;
      script = z.script;
      run = record { reading = 0; at = 0; regs = z.run.regs; writes = blank_run.writes; kept = 0 };
      pending = none;
      tally = record { restarts = z.tally.restarts; working = z.tally.working + 1; slots = size h };
    }

-- the seat z, which holds h, after the case; img is the image that it reads
unfoldable pub seat_after : Case → Seat → SlotSet → List ℕ → Seat
seat_after (case.Got s) z h img = goes_on z z.run (removing z.pending s.0)
seat_after case.Blocked z h img = z
seat_after (case.Queued s) z h img = goes_on z z.run z.pending
seat_after case.Committed z h img = ended z h phase.Committed
seat_after case.Ran z h img = goes_on z (after_act (act_at z) img z.run) z.pending
seat_after (case.Took s) z h img = goes_on z (after_act (act_at z) img z.run) z.pending
seat_after case.Failed z h img = ended z h phase.Failed
seat_after (case.Restarted s) z h img = restarted z h s.0

-- counts that the code can add to: those of every open seat of a sound table are
pub record Fits (z : Seat) : Type 0 where
  pub position : z.run.at ≤ max_instructions
  pub kept : z.run.kept ≤ max_instructions
  pub restarts : z.tally.restarts ≤ most_restarts
  pub working : z.tally.working ≤ most_working

-- ---- the slot table, of seat i

unfoldable pub slots_after : Case → SlotTable → ℕ → SlotTable
slots_after (case.Got s) t i = taken t i s.0
slots_after case.Blocked t i = t
slots_after (case.Queued s) t i = joined_by t i s.0
slots_after case.Committed t i = released t i (held_by t i)
slots_after case.Ran t i = t
slots_after (case.Took s) t i = taken t i s.0
slots_after case.Failed t i = released t i (held_by t i)
slots_after (case.Restarted s) t i = released t i (above (held_by t i) s.0)

-- ---- the image: it changes at a commit alone, where the kept writes go to it

unfoldable pub image_after : Case → Run → List ℕ → List ℕ
image_after (case.Got s) ρ img = img
image_after case.Blocked ρ img = img
image_after (case.Queued s) ρ img = img
image_after case.Committed ρ img = written (kept_writes ρ) img
image_after case.Ran ρ img = img
image_after (case.Took s) ρ img = img
image_after case.Failed ρ img = img
image_after (case.Restarted s) ρ img = img

-- ---- all of it, of seat i: z is the seat and t the slot table

-- the reply, and the seat and the slot table after it
pub record Turn : Type 0 where
  pub word : Word
  pub seat : Seat
  pub slots : SlotTable

abbrev pub turn : Word → Seat → SlotTable → Turn
turn w z t = record { word = w; seat = z; slots = t }

-- seat i is in the queue of the slot that it wants, if it wants one
unfoldable pub waits_for : Want → SlotTable → ℕ → Bool
waits_for (Back s) t i = waits_in (queue_of t s.0) i
waits_for End t i = false
waits_for Nothing t i = false
waits_for (Access s) t i = waits_in (queue_of t s.0) i
waits_for NoCell t i = false

module _ (own : ℕ → ℕ) where
  abbrev pub case_in : Seat → SlotTable → ℕ → Case
  case_in z t i =
      case_for (want_of own z) (held_by t i) (owned t) (waits_in (queue_of t (slot_of (want_of own z))) i)

  unfoldable pub turn_of : Seat → SlotTable → List ℕ → ℕ → Turn
  turn_of z t img i =
      record {
        word = word_of (case_in z t i);
        seat = seat_after (case_in z t i) z (held_by t i) img;
        slots = slots_after (case_in z t i) t i;
      }
