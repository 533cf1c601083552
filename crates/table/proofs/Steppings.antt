-- A step that no check refuses stores the seat and the slot table of its turn, and changes the image as its turn does. That is what
-- `moved_by` and `image_by` say, since a turn depends on the owners of the 1,024 cells alone.
use Rattle.std.proofs.Common.{◌≡◌, ℕ, ◌<◌, true, List, Ok, length, set, ap, ◌∙◌}
use borrow.Author.Tests.{eq-eqb, lt-leb}
use Rattle.slots.specs.Sizes.{cells}
use Rattle.slots.specs.Refusals.{refusal, number_in}
use Rattle.seats.specs.declared.seat.Seat.{Seat}
use Rattle.seats.specs.declared.slot_table.SlotTable.{SlotTable}
use Rattle.seats.specs.declared.table.Table.{Table}
use Rattle.seats.specs.Queues.{seats, waits_in}
use Rattle.seats.specs.SlotTables.{held_by, queue_of, owned}
use Rattle.seats.specs.Seats.{is_open}
use Rattle.seats.specs.Tables.{seat_at}
use Rattle.course.specs.declared.cases.Word as reply
use Rattle.course.specs.declared.wants.Want.{Want}
use Rattle.course.specs.Wants.{slot_of}
use Rattle.course.specs.Words.{said_word}
use Rattle.course.specs.Cases.{case_for}
use Rattle.course.specs.Steps.{Turn, turn, case_in, turn_of, image_after}
use Rattle.course.proofs.Alike.{want_alike}
use Rattle.soundness.specs.Tests.{sound_test}
use Rattle.table.specs.Answers.{Stepped, said_stepped, word_in}
use Rattle.table.specs.Calls.{case_of, moved_by, image_by, step_refusal, step_call, step_image}

abbrev answer : Turn → Table → ℕ → Stepped
answer r t i = record { number = 0; word = r.word; table = record { seats = set t.seats i r.seat; slots = r.slots } }

module _ (own : ℕ → ℕ) (t : Table) (img : List ℕ) (i : ℕ) where
  -- no check applies
  granted_lem : sound_test own t ≡ true → length img ≡ cells → i < seats → is_open (seat_at t i).phase ≡ true
      → step_refusal own t (length img) i ≡ 0
  unfolding step_refusal refusal
  granted_lem s n l o = rw (s, eq-eqb (length img) cells n, lt-leb seats i l, o)

  case_alike : (own' : ℕ → ℕ) → ((c : ℕ) → c < cells → own' c ≡ own c) → case_in own' (seat_at t i) t.slots i ≡ case_of own t i
  unfolding case_of
  case_alike own' h =
      ap (λ (w : Want). case_for w (held_by t.slots i) (owned t.slots) (waits_in (queue_of t.slots (slot_of w)) i))
      (want_alike own' own h (seat_at t i))

  module _ (own' : ℕ → ℕ) (h : (c : ℕ) → c < cells → own' c ≡ own c) (s : sound_test own t ≡ true) (n : length img ≡ cells) (l : i < seats)
      (o : is_open (seat_at t i).phase ≡ true) where
    told : answer (turn_of own' (seat_at t i) t.slots img i) t i ≡ step_call own t img i
    unfolding step_call moved_by turn_of
    told = rw (granted_lem s n l o, case_alike own' h)

    pub stepped : (w : reply.Word) (z : Seat) (q : SlotTable) → turn (said_word w) z q ≡ turn_of own' (seat_at t i) t.slots img i
        → said_stepped (Ok w) (record { seats = set t.seats i z; slots = q }) ≡ step_call own t img i
    stepped w z q e = ap (λ (x : Turn). answer x t i) e ∙ told

    pub written : image_after (case_in own' (seat_at t i) t.slots i) (seat_at t i).run img ≡ step_image own t img i
    unfolding step_image image_by
    written = rw (granted_lem s n l o, case_alike own' h)
