-- The test of a seat by its phase. A seat that is not queued passes or fails whatever is said of the slot it wants. A seat that was not
-- left over when all who wait were met is queued; so the code's turn at a seat is that seat's test, and past rule 1 a table is sound if every
-- turn passes.
use Prim.Native.Nat.{ℕ, ◌<◌}
use mathlib.Core.Path.{◌≡◌, refl, sym, ap, ap₂, ◌∙◌}
use mathlib.Core.Bool.{Bool, true, false, not}
use mathlib.Core.List.{List}
use borrow.Author.Tests.{not-true}
use Rattle.std.proofs.Common.{Ok, Err}
use Rattle.slots.specs.declared.set.SlotSet.{SlotSet}
use Rattle.slots.specs.Sets.{has}
use Rattle.slots.specs.Owners.{listed, Lists, owner_of}
use Rattle.slots.proofs.Truth.{split}
use Rattle.seats.specs.declared.seat.Phase.{Phase}
use Rattle.seats.specs.declared.seat.Phase.TheVariants.{Blank, Open, Committed, Failed}
use Rattle.seats.specs.declared.seat.Seat.{Seat}
use Rattle.seats.specs.declared.table.Table.{Table}
use Rattle.seats.specs.Queues.{seats, waits_in}
use Rattle.seats.specs.SlotTables.{held_by, queue_of}
use Rattle.seats.specs.Tables.{seat_at}
use Rattle.course.specs.Wants.{want_of, slot_of}
use Rattle.rule_one.specs.Tests.{Unmet, all, left_over, said_unmet, is_queued}
use Rattle.rule_one.proofs.Meets.{left_fine, left_queued}
use Rattle.soundness.specs.Tests.{wait_test, open_test, phase_test, seat_test, sound_test}
use Rattle.soundness.proofs.Alike.{seat_alike}

pub not_queued : (own : ℕ → ℕ) (p : Phase) (z : Seat) (h : SlotSet) (a b : Bool) → phase_test own p z h false a ≡ phase_test own p z h false b
unfolding phase_test open_test wait_test
not_queued own Blank z h a b = refl
not_queued own Open z h a b = refl
not_queued own Committed z h a b = refl
not_queued own Failed z h a b = refl

-- the code asks whether the seat is in the queue of the slot it wants only where it is queued at all
turn : (own : ℕ → ℕ) (t : Table) (i : ℕ) (queued here : Bool) → queued ≡ is_queued t.slots i
    → (queued ≡ true → here ≡ waits_in (queue_of t.slots (slot_of (want_of own (seat_at t i)))) i)
    → phase_test own (seat_at t i).phase (seat_at t i) (held_by t.slots i) queued here ≡ seat_test own t i
unfolding seat_test
turn own t i queued here e h =
    let z = seat_at t i in
    let waits = waits_in (queue_of t.slots (slot_of (want_of own z))) i in
    let test : Bool → Bool → Bool = phase_test own z.phase z (held_by t.slots i) in
    split queued
    (λ q. ap₂ test e (h q))
    (λ q. ap (λ (b : Bool). test b here) q ∙ not_queued own z.phase z (held_by t.slots i) here waits ∙ ap (λ (b : Bool). test b waits) (sym q ∙ e))

-- ---- a table by the code's answer about rule 1, then seat after seat

module _ (own : ℕ → ℕ) (t : Table) where
  pub unsound : (rest : SlotSet) → said_unmet (Err rest) ≡ left_over t.slots → sound_test own t ≡ false
  unfolding sound_test
  unsound rest e = rw (sym (left_fine t.slots) ∙ ap (λ (u : Unmet). u.fine) (sym e))

  -- where rule 1 holds, the seats are left to ask
  pub seats_left : (free : SlotSet) → said_unmet (Ok free) ≡ left_over t.slots → sound_test own t ≡ all (seat_test own t) seats
  unfolding sound_test
  seats_left free e = rw (sym (left_fine t.slots) ∙ ap (λ (u : Unmet). u.fine) (sym e))

-- a turn tests seat i: `free` is what is left over of rule 1, f says that the seat is in it, and r is what the code found by the owner list l
pub seat_tested : (l : List ℕ) (t : Table) (i : ℕ) (free : SlotSet) (f here r : Bool) → Lists l → i < seats
    → said_unmet (Ok free) ≡ left_over t.slots → f ≡ has free i
    → (f ≡ false → here ≡ waits_in (queue_of t.slots (slot_of (want_of (listed l) (seat_at t i)))) i)
    → r ≡ phase_test (listed l) (seat_at t i).phase (seat_at t i) (held_by t.slots i) (not f) here
    → r ≡ seat_test owner_of t i
unfolding Lists
seat_tested l t i free f here r o h e q w p =
    let fine = ap (λ (u : Unmet). u.fine) (sym e) in
    let queued = ap not (q ∙ ap (λ (u : Unmet). has u.seats i) e) ∙ left_queued t.slots i h fine in
    p ∙ turn (listed l) t i (not f) here queued (λ z. w (not-true f z)) ∙ seat_alike (listed l) owner_of o t i
