-- What is said of an answer, and of the table beside it, tells them: two that are said alike are equal. The number of what is said is the
-- answer's, and its value, or zeros, can be read back from the rest; by those two an answer is told.
use Rattle.std.proofs.Common.{◌≡◌, ℕ, replicate, Option, Some, None, Result, Ok, Err, refl, sym, ap, ap₂, ◌∙◌}
use mathlib.Core.Bool.{cond}
use Rattle.slots.specs.declared.refusals.Refusal.{Refusal}
use Rattle.slots.specs.Refusals.{number_in, value_in}
use Rattle.slots.specs.Settling.{Settles}
use Rattle.slots.proofs.Answers.{one_answer}
use Rattle.slots.proofs.Settled.{told}
use Rattle.script.specs.Scripts.{registers}
use Rattle.seats.specs.declared.seat.Phase.TheVariants.{Blank}
use Rattle.seats.specs.declared.table.Table.{Table}
use Rattle.seats.specs.Queues.{seats}
use Rattle.seats.specs.Seats.{no_tally}
use Rattle.course.specs.Words.{said_word}
use Rattle.course.specs.Words as word
use Rattle.course.specs.declared.cases.Word as reply
use Rattle.course.specs.declared.cases.Word.TheVariants as replies
use Rattle.table.specs.declared.asking.Report as report
use Rattle.table.specs.declared.asking.SlotView as view
use Rattle.table.specs.Answers.{Opened, said_opened, Stepped, word_in, said_stepped, Report, said_report, SlotView, is_owned, owner_or_0, said_view, CellRead, said_cell}

-- ---- opening

pub opened_told : (x y : Result (Unit {0}) Refusal) (t u : Table) → said_opened x t ≡ said_opened y u → (x ≡ y) × (t ≡ u)
opened_told x y t u e = (one_answer tt x y (ap (λ (o : Opened). o.number) e) refl, ap (λ (o : Opened). o.table) e)

-- ---- step: each word is said of one reply

reply_of : word.Word → reply.Word
reply_of word.None = replies.Got
reply_of word.Got = replies.Got
reply_of word.Blocked = replies.Blocked
reply_of word.Queued = replies.Queued
reply_of word.Committed = replies.Committed
reply_of word.Ran = replies.Ran
reply_of word.Failed = replies.Failed
reply_of word.Restarted = replies.Restarted

given_back : (w : reply.Word) → reply_of (said_word w) ≡ w
unfolding reply_of
given_back replies.Got = refl
given_back replies.Blocked = refl
given_back replies.Queued = refl
given_back replies.Committed = refl
given_back replies.Ran = refl
given_back replies.Failed = refl
given_back replies.Restarted = refl

reply_in : (a : Result reply.Word Refusal) → value_in replies.Got a ≡ reply_of (word_in a)
unfolding reply_of
reply_in (Ok w) = sym (given_back w)
reply_in (Err r) = refl

pub stepped_told : (x y : Result reply.Word Refusal) (t u : Table) → said_stepped x t ≡ said_stepped y u → (x ≡ y) × (t ≡ u)
stepped_told x y t u e =
    let w = ap (λ (s : Stepped). reply_of s.word) e in
    (one_answer replies.Got x y (ap (λ (s : Stepped). s.number) e) (reply_in x ∙ w ∙ sym (reply_in y)), ap (λ (s : Stepped). s.table) e)

-- ---- result

report_of : Report → report.Report
report_of s = record { outcome = s.outcome; regs = s.regs; tally = s.tally }

-- the zeros of a report
blank : report.Report
blank = record { outcome = Blank; regs = replicate registers 0; tally = no_tally }

report_number : (a : Result report.Report Refusal) → number_in a ≡ (said_report a).number
report_number (Ok x) = refl
report_number (Err r) = refl

report_in : (a : Result report.Report Refusal) → value_in blank a ≡ report_of (said_report a)
unfolding report_of blank
report_in (Ok x) = refl
report_in (Err r) = refl

pub report_told : (x y : Result report.Report Refusal) → said_report x ≡ said_report y → x ≡ y
report_told x y e =
    one_answer blank x y (report_number x ∙ ap (λ (s : Report). s.number) e ∙ sym (report_number y))
    (report_in x ∙ ap report_of e ∙ sym (report_in y))

-- ---- slot view

view_of : SlotView → view.SlotView
view_of s = record { owner = cond s.owned (Some s.owner) None; queue = record { seats = s.queue; len = s.len } }

nobody : view.SlotView
nobody = record { owner = None; queue = record { seats = replicate seats 0; len = 0 } }

owner_back : (o : Option ℕ) → o ≡ cond (is_owned o) (Some (owner_or_0 o)) None
owner_back None = refl
owner_back (Some i) = refl

view_number : (a : Result view.SlotView Refusal) → number_in a ≡ (said_view a).number
view_number (Ok v) = refl
view_number (Err r) = refl

view_in : (a : Result view.SlotView Refusal) → value_in nobody a ≡ view_of (said_view a)
unfolding view_of nobody
view_in (Ok v) = ap (λ (o : Option ℕ). record { owner = o; queue = v.queue }) (owner_back v.owner)
view_in (Err r) = refl

pub view_told : (x y : Result view.SlotView Refusal) → said_view x ≡ said_view y → x ≡ y
view_told x y e =
    one_answer nobody x y (view_number x ∙ ap (λ (s : SlotView). s.number) e ∙ sym (view_number y))
    (view_in x ∙ ap view_of e ∙ sym (view_in y))

-- ---- cell read

pub cell_told : (x y : Result ℕ Refusal) → said_cell x ≡ said_cell y → x ≡ y
cell_told x y e = one_answer 0 x y (ap (λ (s : CellRead). s.number) e) (ap (λ (s : CellRead). s.value) e)

-- ---- so any two results that a contract allows are equal, with what they leave

pub open_settled : (value : Opened) → Settles (λ (r : Result (Unit {0}) Refusal × Table). said_opened r.0 r.1 ≡ value)
open_settled =
    told (λ (r : Result (Unit {0}) Refusal × Table). said_opened r.0 r.1)
    (λ x y e. let f = opened_told x.0 y.0 x.1 y.1 e in ap₂ (λ (a : Result (Unit {0}) Refusal) (t : Table). (a, t)) f.0 f.1)

pub step_settled : (value : Stepped) → Settles (λ (r : Result reply.Word Refusal × Table). said_stepped r.0 r.1 ≡ value)
step_settled =
    told (λ (r : Result reply.Word Refusal × Table). said_stepped r.0 r.1)
    (λ x y e. let f = stepped_told x.0 y.0 x.1 y.1 e in ap₂ (λ (a : Result reply.Word Refusal) (t : Table). (a, t)) f.0 f.1)

pub result_settled : (value : Report) → Settles (λ (r : Result report.Report Refusal). said_report r ≡ value)
result_settled = told said_report report_told

pub view_settled : (value : SlotView) → Settles (λ (r : Result view.SlotView Refusal). said_view r ≡ value)
view_settled = told said_view view_told

pub cell_settled : (value : CellRead) → Settles (λ (r : Result ℕ Refusal). said_cell r ≡ value)
cell_settled = told said_cell cell_told
