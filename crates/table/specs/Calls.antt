-- The calls on a table: their refusals, what they answer, and what they leave. `own` gives the owner of each cell.
use Rattle.std.specs.Prelude.{ℕ, ◌-◌, Bool, true, false, not, cond, List, [], ◌∷◌, ◌++◌, ltb, leb, eqb, length, get_or, set, replicate}
use Rattle.slots.specs.Sizes.{cells, slots}
use Rattle.slots.specs.Refusals.{Check, ◌when◌, refusal, granted}
use Rattle.slots.specs.Sets.{has, none, first}
use Rattle.script.specs.declared.code.Script.{Script}
use Rattle.script.specs.Frames.{read_checks, read_script}
use Rattle.seats.specs.declared.queue.Queue.{Queue}
use Rattle.seats.specs.declared.seat.Phase.{Phase}
use Rattle.seats.specs.declared.seat.Phase.TheVariants.{Blank, Open, Committed, Failed}
use Rattle.seats.specs.declared.seat.Seat.{Seat}
use Rattle.seats.specs.declared.slot_table.SlotTable.{SlotTable}
use Rattle.seats.specs.declared.table.Table.{Table}
use Rattle.seats.specs.Queues.{seats, entries}
use Rattle.seats.specs.SlotTables.{held_by, queue_of}
use Rattle.seats.specs.Seats.{is_open, opened_run, no_tally}
use Rattle.seats.specs.Tables.{seat_at}
use Rattle.course.specs.declared.cases.Case.{Case}
use Rattle.course.specs.Words.{Word}
use Rattle.course.specs.Words as word
use Rattle.course.specs.Cases.{word_of}
use Rattle.course.specs.Steps.{case_in, seat_after, slots_after, image_after}
use Rattle.soundness.specs.Tests.{sound_test}
use Rattle.table.specs.Answers.{Opened, Stepped, Report, no_report, SlotView, no_view, CellRead}

abbrev pub with_seat : Table → ℕ → Seat → Table
with_seat t i z = record { seats = set t.seats i z; slots = t.slots }

-- ---- opening: 1, 3, 4, 7, 8, 9

-- register 0 is the reading given, the others are zero, position is 0; counts begin at zero
unfoldable pub opened_seat : Script → ℕ → Seat
opened_seat s reading = record { phase = Open; script = s; run = opened_run reading; pending = none; tally = no_tally }

-- the reply to a step, and the table after it
pub record Moved : Type 0 where
  pub word : Word
  pub table : Table

module _ (own : ℕ → ℕ) (t : Table) where
  abbrev pub open_checks : ℕ → List ℕ → List Check
  open_checks i f = (1 when not (sound_test own t)) ∷ (3 when leb seats i) ∷ (4 when is_open (seat_at t i).phase) ∷ read_checks f

  unfoldable pub open_refusal : ℕ → List ℕ → ℕ
  open_refusal i f = refusal (open_checks i f)

  unfoldable pub open_call : ℕ → ℕ → List ℕ → Opened
  open_call i reading f =
      record {
        number = open_refusal i f;
        table = granted (open_refusal i f) (with_seat t i (opened_seat (read_script f).script reading)) t;
      }

  -- ---- step: 1, 2, 3, 5

  -- which case a step of seat i is
  unfoldable pub case_of : ℕ → Case
  case_of i = case_in own (seat_at t i) t.slots i

  unfoldable pub moved_by : List ℕ → ℕ → Moved
  moved_by img i =
      record {
        word = word_of (case_of i);
        table = record {
          seats = set t.seats i (seat_after (case_of i) (seat_at t i) (held_by t.slots i) img);
          slots = slots_after (case_of i) t.slots i;
        };
      }

  unfoldable pub image_by : List ℕ → ℕ → List ℕ
  image_by img i = image_after (case_of i) (seat_at t i).run img

  -- n cells in the image
  abbrev pub step_checks : ℕ → ℕ → List Check
  step_checks n i =
      (1 when not (sound_test own t))
      ∷ (2 when not (eqb n cells))
      ∷ (3 when leb seats i)
      ∷ (5 when not (is_open (seat_at t i).phase))
      ∷ []

  unfoldable pub step_refusal : ℕ → ℕ → ℕ
  step_refusal n i = refusal (step_checks n i)

  unfoldable pub step_call : List ℕ → ℕ → Stepped
  step_call img i =
      record {
        number = step_refusal (length img) i;
        word = granted (step_refusal (length img) i) (moved_by img i).word word.None;
        table = granted (step_refusal (length img) i) (moved_by img i).table t;
      }

  unfoldable pub step_image : List ℕ → ℕ → List ℕ
  step_image img i = granted (step_refusal (length img) i) (image_by img i) img

-- ---- result: 1, 3, 6

unfoldable pub is_ended : Phase → Bool
is_ended Blank = false
is_ended Open = false
is_ended Committed = true
is_ended Failed = true

abbrev pub report_of : Seat → Report
report_of z = record { number = 0; outcome = z.phase; regs = z.run.regs; tally = z.tally }

module _ (own : ℕ → ℕ) (t : Table) where
  abbrev pub result_checks : ℕ → List Check
  result_checks i = (1 when not (sound_test own t)) ∷ (3 when leb seats i) ∷ (6 when not (is_ended (seat_at t i).phase)) ∷ []

  unfoldable pub result_refusal : ℕ → ℕ
  result_refusal i = refusal (result_checks i)

  unfoldable pub result_call : ℕ → Report
  result_call i = granted (result_refusal i) (report_of (seat_at t i)) (no_report (result_refusal i))

-- ---- slot view: 1, 11

-- the seat that owns slot s, and 16 where it is free
unfoldable pub holder_of : SlotTable → ℕ → ℕ
holder_of t s = first (λ i. has (held_by t i) s) seats

-- those who wait, in their order, in front of zeros
unfoldable pub line_up : Queue → List ℕ
line_up q = entries q ++ replicate (seats - length (entries q)) 0

-- the queue with nothing else behind its length
abbrev pub lined_up : Queue → Queue
lined_up q = record { seats = line_up q; len = q.len }

abbrev pub view_of : SlotTable → ℕ → SlotView
view_of t s =
    record {
      number = 0;
      owned = ltb (holder_of t s) seats;
      owner = cond (ltb (holder_of t s) seats) (holder_of t s) 0;
      queue = line_up (queue_of t s);
      len = (queue_of t s).len;
    }

module _ (own : ℕ → ℕ) (t : Table) where
  abbrev pub view_checks : ℕ → List Check
  view_checks s = (1 when not (sound_test own t)) ∷ (11 when leb slots s) ∷ []

  unfoldable pub view_refusal : ℕ → ℕ
  view_refusal s = refusal (view_checks s)

  unfoldable pub slot_view_call : ℕ → SlotView
  slot_view_call s = granted (view_refusal s) (view_of t.slots s) (no_view (view_refusal s))

-- ---- cell read: 2, 10

abbrev pub cell_checks : List ℕ → ℕ → List Check
cell_checks img c = (2 when not (eqb (length img) cells)) ∷ (10 when leb cells c) ∷ []

unfoldable pub cell_refusal : List ℕ → ℕ → ℕ
cell_refusal img c = refusal (cell_checks img c)

unfoldable pub cell_read_call : List ℕ → ℕ → CellRead
cell_read_call img c = record { number = cell_refusal img c; value = granted (cell_refusal img c) (get_or img c 0) 0 }
