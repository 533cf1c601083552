-- The total of the working counts of all seats. A step changes one seat, and adds to the total what its reply counts for. In a table that
-- stands every count is at most 12,225, whatever the seat's phase, so the total is at most 16 times that: 195,600.
use Prim.Native.Nat.{ℕ, zero, suc, ◌+◌, ◌*◌, ◌≤◌, ◌<◌}
use mathlib.Core.Path.{◌≡◌, refl}
use mathlib.Core.List.{List, [], ◌∷◌}
use native.Mathlib.Omega.{arith}
use native.Mathlib.Nat.{suc-mul}
use lib.ListN.{length, get_or, set}
use Rattle.seats.specs.declared.seat.Phase.{Phase}
use Rattle.seats.specs.declared.seat.Phase.TheVariants.{Blank, Open, Committed, Failed}
use Rattle.seats.specs.declared.seat.Seat.{Seat}
use Rattle.seats.specs.declared.table.Table.{Table}
use Rattle.seats.specs.Queues.{seats}
use Rattle.seats.specs.Seats.{most_working, blank_seat}
use Rattle.seats.specs.SlotTables.{held_by}
use Rattle.seats.specs.Tables.{no_seat, seat_at}
use Rattle.course.specs.Cases.{word_of}
use Rattle.rules.specs.Rules.{PhaseRules}
use Rattle.table.specs.Calls.{case_of, moved_by}
use Rattle.table.proofs.Fitting.{fits}
use Rattle.upkeep.specs.SoundTables.{Stands}
use Rattle.promises.specs.Histories.{works}
use Rattle.promises.specs.Demand3.{most_rounds}
use Rattle.upkeep.proofs.Replies.{stands_test, phase_open}
use Rattle.promises.proofs.CountCases.{counted}

-- ---- of a list of seats

unfoldable pub total : List Seat → ℕ
total [] = 0
total (z ∷ zs) = z.tally.working + total zs

total_set : (zs : List Seat) (i : ℕ) (z : Seat) (n : ℕ) → i < length zs → z.tally.working ≡ (get_or zs i no_seat).tally.working + n
    → total (set zs i z) ≡ total zs + n
unfolding total
total_set [] i z n h e = absurd (omega arith)
total_set (y ∷ ys) zero z n h e = omega arith
total_set (y ∷ ys) (suc i) z n h e = omega (arith, total_set ys i z n (omega arith) e)

total_le : (b : ℕ) (zs : List Seat) → ((i : ℕ) → i < length zs → (get_or zs i no_seat).tally.working ≤ b) → total zs ≤ length zs * b
unfolding total
total_le b [] h = omega arith
total_le b (z ∷ zs) h = rw suc-mul (omega (arith, total_le b zs (λ i l. h (suc i) (omega arith)), h 0 (omega arith)))

-- ---- of a table that stands

module _ (own : ℕ → ℕ) (t : Table) (st : Stands own t) where
  -- a step of seat i adds what its reply counts for
  pub total-moved : (img : List ℕ) (i : ℕ) → i < seats
      → total (moved_by own t img i).table.seats ≡ total t.seats + works (word_of (case_of own t i))
  unfolding moved_by
  total-moved img i l =
      total_set t.seats i _ _ (omega (arith, st.shaped.seats16)) (counted (seat_at t i) (held_by t.slots i) img (case_of own t i)).working

  working_most : (i : ℕ) → i < seats → (p : Phase) → (seat_at t i).phase ≡ p → PhaseRules own t i p → (seat_at t i).tally.working ≤ most_working
  unfolding PhaseRules blank_seat
  working_most i l Blank e r = rw r.1 (omega arith)
  working_most i l Open e r = (fits own t i st.shaped (stands_test own t st) l (phase_open e)).working
  working_most i l Committed e r = r.1.working
  working_most i l Failed e r = r.1.working

  pub total_most : total t.seats ≤ most_rounds
  total_most =
      let n = st.shaped.seats16 in
      let k = total_le most_working t.seats (λ i l. let b : i < seats = omega arith in working_most i b (seat_at t i).phase refl (st.sound.seats i b)) in
      omega (arith, rw n at k)
