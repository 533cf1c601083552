-- A seat is tested by the owners of the 1,024 cells alone: two owner lists that agree on those give the same tests. Rule 2 asks for an owner
-- behind the test that the cell is there, and what a seat wants is the same by both lists.
use Prim.Native.Nat.{ℕ, ◌<◌}
use mathlib.Core.Path.{◌≡◌, refl, ap, ap₂}
use mathlib.Core.Bool.{Bool, ◌&&◌}
use lib.Dec.{ltb, leb, eqb}
use lib.ListN.{get_or}
use borrow.Author.Tests.{ltb-true}
use Rattle.slots.specs.Sizes.{cells}
use Rattle.slots.specs.Refusals.{refusal}
use Rattle.slots.specs.declared.set.SlotSet.{SlotSet}
use Rattle.slots.specs.Sets.{has}
use Rattle.slots.proofs.Truth.{split}
use Rattle.script.specs.Legal.{script_checks}
use Rattle.seats.specs.declared.seat.Phase.{Phase}
use Rattle.seats.specs.declared.seat.Phase.TheVariants.{Blank, Open, Committed, Failed}
use Rattle.seats.specs.declared.seat.Run.{Run}
use Rattle.seats.specs.declared.seat.Seat.{Seat}
use Rattle.seats.specs.declared.table.Table.{Table}
use Rattle.seats.specs.Queues.{waits_in}
use Rattle.seats.specs.SlotTables.{held_by, queue_of}
use Rattle.seats.specs.Seats.{no_write}
use Rattle.seats.specs.Tables.{seat_at}
use Rattle.course.specs.declared.wants.Want.{Want}
use Rattle.course.specs.Wants.{slot_of}
use Rattle.course.proofs.Alike.{want_alike}
use Rattle.rule_one.specs.Tests.{is_queued}
use Rattle.soundness.specs.Tests.{cell_held, kept_test, place_test, pending_test, wait_test, queued_set, count_test, open_test, phase_test, seat_test}
use Rattle.rule_one.proofs.Loops.{all_alike}

module _ (own own' : ℕ → ℕ) (h : (c : ℕ) → c < cells → own c ≡ own' c) where
  held_alike : (H : SlotSet) (c : ℕ) → cell_held own H c ≡ cell_held own' H c
  unfolding cell_held
  held_alike H c = split (ltb c cells) (λ e. rw e (ap (has H) (h c (ltb-true c cells e)))) (λ e. rw e)

  kept_alike : (ρ : Run) (H : SlotSet) → kept_test own ρ H ≡ kept_test own' ρ H
  unfolding kept_test
  kept_alike ρ H = all_alike _ _ (λ k. held_alike H (get_or ρ.writes k no_write).cell.0) ρ.kept

  place_alike : (z : Seat) (H : SlotSet) → place_test own z H ≡ place_test own' z H
  unfolding place_test
  place_alike z H =
      ap (λ (b : Bool). eqb (refusal (script_checks z.script)) 0 && leb z.run.at z.script.len && leb z.run.kept z.run.at && b)
      (kept_alike z.run H)

  open_alike : (z : Seat) (H : SlotSet) (queued here : Bool) → open_test own z H queued here ≡ open_test own' z H queued here
  unfolding open_test
  open_alike z H queued here =
      ap₂
      (λ (b : Bool) (w : Want). b && pending_test z.run H z.pending && wait_test queued here H (slot_of w)
      && count_test z.tally z.script.len z.run.at H z.pending (queued_set queued (slot_of w)))
      (place_alike z H) (want_alike own own' h z)

  phase_alike : (p : Phase) (z : Seat) (H : SlotSet) (queued here : Bool) → phase_test own p z H queued here ≡ phase_test own' p z H queued here
  unfolding phase_test
  phase_alike Blank z H queued here = refl
  phase_alike Open z H queued here = open_alike z H queued here
  phase_alike Committed z H queued here = refl
  phase_alike Failed z H queued here = refl

  pub seat_alike : (t : Table) (i : ℕ) → seat_test own t i ≡ seat_test own' t i
  unfolding seat_test
  seat_alike t i =
      let z = seat_at t i in
      ap₂ (λ (b : Bool → Bool) (w : Want). b (waits_in (queue_of t.slots (slot_of w)) i))
      (λ j b. phase_alike z.phase z (held_by t.slots i) (is_queued t.slots i) b j) (want_alike own own' h z)
