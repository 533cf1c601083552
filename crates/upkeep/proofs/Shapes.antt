-- A step keeps the lengths of all arrays, and a seat stored in a table keeps them if the seat's own arrays are whole. The slot table's
-- changes keep its arrays and its queues; a queue that is served or joined has its array still.
use Prim.Native.Nat.{ℕ, ◌<◌}
use mathlib.Core.Path.{◌≡◌, refl, sym, ◌∙◌, subst}
use mathlib.Core.List.{List}
use native.Mathlib.Omega.{arith}
use lib.Dec.{eqb}
use lib.ListN.{length, set, length-set}
use lib.Seq.{get_or-set_same, get_or-set_other}
use borrow.Author.Tests.{eqb-true, eqb-false}
use Rattle.slots.specs.Sizes.{slots}
use Rattle.slots.specs.Sets.{above}
use Rattle.slots.proofs.Truth.{split}
use Rattle.seats.specs.declared.seat.Seat.{Seat}
use Rattle.seats.specs.declared.slot_table.SlotTable.{SlotTable}
use Rattle.seats.specs.declared.table.Table.{Table}
use Rattle.seats.specs.Queues.{seats}
use Rattle.seats.specs.SlotTables.{held_by, queue_of}
use Rattle.seats.specs.Tables.{no_seat, seat_at}
use Rattle.seats.proofs.Shape.{Whole, Lined}
use Rattle.seats.proofs.Hands.{lined_taken, lined_joined, lined_released}
use Rattle.course.specs.declared.cases.Case.{Case}
use Rattle.course.specs.declared.cases.Case.TheVariants as case
use Rattle.course.specs.Steps.{seat_after, slots_after}
use Rattle.rules.specs.Rules.{IsOpen}
use Rattle.rules.proofs.Shaped.{Shaped, ShapedSeat}
use Rattle.table.specs.Calls.{case_of, moved_by}
use Rattle.upkeep.specs.SoundTables.{Stands}
use Rattle.upkeep.proofs.Unqueued.{Small, wanted_slot}
use Rattle.upkeep.proofs.Moves.{lined}
use Rattle.upkeep.proofs.Others.{whole_after}
use Rattle.upkeep.proofs.ShapeSeats.{shaped_after}

-- ---- a seat stored, and a slot table

module _ (t : Table) (i : ℕ) (y : Seat) (τ : SlotTable) where
  abbrev put : Table
  put = record { seats = set t.seats i y; slots = τ }

  seat_shaped : length t.seats ≡ seats → ((j : ℕ) → j < seats → ShapedSeat (seat_at t j)) → ShapedSeat y
      → (j : ℕ) → j < seats → ShapedSeat (seat_at put j)
  seat_shaped n each s j l =
      split (eqb j i)
      (λ e. let q : j ≡ i = eqb-true j i e in
      subst (λ (k : ℕ). ShapedSeat (seat_at put k)) (sym q)
      (subst ShapedSeat (sym (get_or-set_same t.seats i y no_seat (omega arith))) s))
      (λ e. subst ShapedSeat (sym (get_or-set_other t.seats i j y no_seat (eqb-false j i e))) (each j l))

  pub put_shaped : Shaped t → ShapedSeat y → Whole τ → ((k : ℕ) → k < slots → length (queue_of τ k).seats ≡ seats) → Shaped put
  put_shaped h s w q =
      record {
        seats16 = length-set t.seats i y ∙ h.seats16;
        arrays = w;
        queues16 = q;
        each = seat_shaped h.seats16 h.each s;
      }

-- ---- a step

module _ (τ : SlotTable) (i : ℕ) (w : Whole τ) where
  lined_after : Lined τ → (c : Case) → Small c → Lined (slots_after c τ i)
  unfolding slots_after
  lined_after l (case.Got s) b = lined_taken τ i s.0 l
  lined_after l case.Blocked b = l
  lined_after l (case.Queued s) b = lined_joined τ i s.0 w b l
  lined_after l case.Committed b = lined_released τ i (held_by τ i) w l
  lined_after l case.Ran b = l
  lined_after l (case.Took s) b = lined_taken τ i s.0 l
  lined_after l case.Failed b = lined_released τ i (held_by τ i) w l
  lined_after l (case.Restarted s) b = lined_released τ i (above (held_by τ i) s.0) w l

module _ (own : ℕ → ℕ) (below : (c : ℕ) → own c < slots) (t : Table) (img : List ℕ) (i : ℕ) (st : Stands own t) (o : IsOpen t i) where
  pub shaped_kept : Shaped (moved_by own t img i).table
  unfolding moved_by
  shaped_kept =
      let c : Case = case_of own t i in
      let w = st.shaped.arrays in
      put_shaped t i (seat_after c (seat_at t i) (held_by t.slots i) img) (slots_after c t.slots i) st.shaped
      (shaped_after (seat_at t i) (held_by t.slots i) img (st.shaped.each i o.seat) c)
      (whole_after t.slots i c w)
      (λ k l. (lined_after t.slots i w (lined t i st o) c (wanted_slot own below t i refl) k l).array)
