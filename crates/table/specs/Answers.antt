-- What each call on a table answers, in the description's numbers: the refusal, 0 for none, and the values, or zeros. The code's answers
-- are values or refusals, and the tables are changed in place; here each is set beside what it leaves.
use Rattle.std.specs.Prelude.{ℕ, Bool, true, false, List, replicate, Option, Some, None, Result, Ok, Err}
use Rattle.slots.specs.declared.refusals.Refusal.{Refusal}
use Rattle.slots.specs.Refusals.{number_of, number_in, value_in}
use Rattle.script.specs.Scripts.{registers}
use Rattle.seats.specs.declared.seat.Phase.{Phase}
use Rattle.seats.specs.declared.seat.Phase.TheVariants.{Blank}
use Rattle.seats.specs.declared.seat.Tally.{Tally}
use Rattle.seats.specs.declared.table.Table.{Table}
use Rattle.seats.specs.Queues.{seats}
use Rattle.seats.specs.Seats.{no_tally}
use Rattle.course.specs.Words.{Word, said_word}
use Rattle.course.specs.Words as word
use Rattle.course.specs.declared.cases.Word as reply
use Rattle.table.specs.declared.asking.Report as report
use Rattle.table.specs.declared.asking.SlotView as view

-- ---- opening: the table afterwards

pub record Opened : Type 0 where
  pub number : ℕ
  pub table : Table

abbrev pub said_opened : Result (Unit {0}) Refusal → Table → Opened
said_opened a t = record { number = number_in a; table = t }

-- ---- step: the reply, and the table afterwards

pub record Stepped : Type 0 where
  pub number : ℕ
  pub word : Word
  pub table : Table

-- a refused step has no word
abbrev pub word_in : Result reply.Word Refusal → Word
word_in (Ok w) = said_word w
word_in (Err r) = word.None

abbrev pub said_stepped : Result reply.Word Refusal → Table → Stepped
said_stepped a t = record { number = number_in a; word = word_in a; table = t }

-- ---- result: outcome, registers and counts

pub record Report : Type 0 where
  pub number : ℕ
  pub outcome : Phase
  pub regs : List ℕ
  pub tally : Tally

-- the zeros of a report: no outcome
abbrev pub no_report : ℕ → Report
no_report n = record { number = n; outcome = Blank; regs = replicate registers 0; tally = no_tally }

abbrev pub said_report : Result report.Report Refusal → Report
said_report (Ok x) = record { number = 0; outcome = x.outcome; regs = x.regs; tally = x.tally }
said_report (Err r) = no_report (number_of r)

-- ---- slot view: whether the slot is owned and by which seat, and the seats that wait for it in their order, in front of zeros

pub record SlotView : Type 0 where
  pub number : ℕ
  pub owned : Bool
  pub owner : ℕ
  pub queue : List ℕ
  pub len : ℕ

abbrev pub no_view : ℕ → SlotView
no_view n = record { number = n; owned = false; owner = 0; queue = replicate seats 0; len = 0 }

abbrev pub is_owned : Option ℕ → Bool
is_owned None = false
is_owned (Some i) = true

abbrev pub owner_or_0 : Option ℕ → ℕ
owner_or_0 None = 0
owner_or_0 (Some i) = i

abbrev pub said_view : Result view.SlotView Refusal → SlotView
said_view (Ok v) =
    record { number = 0; owned = is_owned v.owner; owner = owner_or_0 v.owner; queue = v.queue.seats; len = v.queue.len }
said_view (Err r) = no_view (number_of r)

-- the seat that owns a slot, and 16 where none does
abbrev pub said_holder : Option ℕ → ℕ
said_holder None = seats
said_holder (Some i) = i

-- ---- cell read

pub record CellRead : Type 0 where
  pub number : ℕ
  pub value : ℕ

abbrev pub said_cell : Result ℕ Refusal → CellRead
said_cell a = record { number = number_in a; value = value_in 0 a }
