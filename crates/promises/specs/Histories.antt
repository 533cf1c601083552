-- Sequences of calls on one table and one image, each call given what the last one left, and what somebody sees who writes down the
-- calls and their answers. The demands speak of these.
use Rattle.std.specs.Prelude.{ℕ, ◌+◌, Bool, true, false, cond, ◌&&◌, List, [], ◌∷◌, ◌++◌, eqb}
use Rattle.slots.specs.Sizes.{slots}
use Rattle.slots.specs.Refusals.{granted}
use Rattle.slots.specs.Sets.{tally}
use Rattle.script.specs.declared.code.Instr.{Instr}
use Rattle.script.specs.Frames.{decode, body}
use Rattle.seats.specs.declared.table.Table.{Table}
use Rattle.seats.specs.Tables.{fresh}
use Rattle.course.specs.Words.{Word}
use Rattle.course.specs.Words as word
use Rattle.table.specs.Answers.{Opened, Stepped, Report, SlotView, no_report}
use Rattle.table.specs.Calls.{open_call, step_call, step_image, result_call, slot_view_call}

-- ---- the calls that are given a table, as any library of this kind has them

pub record Library : Type 0 where
  -- seat, reading, frame
  pub opens : Table → ℕ → ℕ → List ℕ → Opened
  -- image, seat; and the image that it leaves
  pub steps : Table → List ℕ → ℕ → Stepped
  pub leaves : Table → List ℕ → ℕ → List ℕ
  -- seat
  pub result : Table → ℕ → Report
  -- slot
  pub view : Table → ℕ → SlotView

-- this library: the definitions that its contracts equate the calls with
abbrev pub saucebell : (ℕ → ℕ) → Library
saucebell own =
    record { opens = open_call own; steps = step_call own; leaves = step_image own; result = result_call own; view = slot_view_call own }

-- the calls that change something
pub data Call : Type 0 where
  -- seat, reading, frame
  opening : ℕ → ℕ → List ℕ → Call
  -- seat
  step : ℕ → Call

-- ---- what is written down

-- of a seat: what its last opening that was not refused gave it, what was counted in the replies since, and what `result` said when it ended
pub record Notes : Type 0 where
  pub code : List Instr
  pub reading : ℕ
  pub restarts : ℕ
  pub working : ℕ
  pub slots : ℕ
  pub report : Report

-- an ended transaction: what it was given, and what `result` said
pub record Transaction : Type 0 where
  pub code : List Instr
  pub reading : ℕ
  pub report : Report

pub record World : Type 0 where
  pub table : Table
  pub image : List ℕ
  pub notes : ℕ → Notes
  -- in their order of ending
  pub ended : List Transaction

abbrev pub notes_of : List Instr → ℕ → Notes
notes_of code reading = record { code = code; reading = reading; restarts = 0; working = 0; slots = 0; report = no_report 0 }

-- a fresh table, and nothing has been written down
unfoldable pub begin : List ℕ → World
begin img = record { table = fresh; image = img; notes = λ i. notes_of [] 0; ended = [] }

-- what is written down of seat i, and of the others as before
unfoldable pub noting : (ℕ → Notes) → ℕ → Notes → ℕ → Notes
noting f i n j = cond (eqb j i) n (f j)

-- ---- what a reply counts for

-- every step not refused and not blocked
unfoldable pub works : Word → ℕ
works word.None = 0
works word.Got = 1
works word.Blocked = 0
works word.Queued = 1
works word.Committed = 1
works word.Ran = 1
works word.Failed = 1
works word.Restarted = 1

unfoldable pub restarts : Word → ℕ
restarts word.None = 0
restarts word.Got = 0
restarts word.Blocked = 0
restarts word.Queued = 0
restarts word.Committed = 0
restarts word.Ran = 0
restarts word.Failed = 0
restarts word.Restarted = 1

unfoldable pub ends : Word → Bool
ends word.None = false
ends word.Got = false
ends word.Blocked = false
ends word.Queued = false
ends word.Committed = true
ends word.Ran = false
ends word.Failed = true
ends word.Restarted = false

module _ (lib : Library) where
  -- how many slots the slot views give to seat i
  unfoldable pub viewed : Table → ℕ → ℕ
  viewed t i = tally (λ s. (lib.view t s).owned && eqb (lib.view t s).owner i) slots

  -- the reply w came, the seat was seen to have n slots before, and `result` says r after
  unfoldable pub noted : Notes → Word → ℕ → Report → Notes
  noted v w n r =
      record {
        code = v.code;
        reading = v.reading;
        restarts = v.restarts + restarts w;
        working = v.working + works w;
        slots = cond (ends w) n v.slots;
        report = cond (ends w) r v.report;
      }

  abbrev pub transaction : Notes → Report → Transaction
  transaction v r = record { code = v.code; reading = v.reading; report = r }

  unfoldable pub opened : World → ℕ → ℕ → List ℕ → World
  opened w i reading f =
      record {
        table = (lib.opens w.table i reading f).table;
        image = w.image;
        notes = granted (lib.opens w.table i reading f).number (noting w.notes i (notes_of (decode (body f)) reading)) w.notes;
        ended = w.ended;
      }

  abbrev pub step_reply : World → ℕ → Stepped
  step_reply w i = lib.steps w.table w.image i

  unfoldable pub stepped : World → ℕ → World
  stepped w i =
      record {
        table = (step_reply w i).table;
        image = lib.leaves w.table w.image i;
        notes = noting w.notes i (noted (w.notes i) (step_reply w i).word (viewed w.table i) (lib.result (step_reply w i).table i));
        ended = cond (ends (step_reply w i).word) (w.ended ++ (transaction (w.notes i) (lib.result (step_reply w i).table i) ∷ [])) w.ended;
      }

  unfoldable pub called : World → Call → World
  called w (opening i reading f) = opened w i reading f
  called w (step i) = stepped w i

  unfoldable pub after : World → List Call → World
  after w [] = w
  after w (c ∷ cs) = after (called w c) cs

  -- the calls cs from a fresh table and the image img
  unfoldable pub history : List ℕ → List Call → World
  history img cs = after (begin img) cs
