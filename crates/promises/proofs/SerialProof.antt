-- After any sequence of calls the image is the starting image after the ended transactions run alone, one by one in their order of ending,
-- and they ended as reported. By induction over the calls, with more kept than is asked: the table stands, the image has its length, and every
-- open seat is good, for what its notes say. A call that is refused changes none of this, and in a fresh table no seat is open.
use Prim.Native.Nat.{ℕ, ◌<◌}
use mathlib.Core.Path.{◌≡◌, refl, sym, ap, ◌∙◌}
use mathlib.Core.Logic.{inl, inr}
use mathlib.Core.Bool.{false, false≢true}
use mathlib.Core.List.{List, [], ◌∷◌}
use native.Mathlib.Omega.{arith}
use lib.ListN.{length, get_or-replicate}
use borrow.Author.Tests.{ne_eqb}
use Rattle.slots.specs.Sizes.{cells, slots}
use Rattle.seats.specs.declared.seat.Seat.{Seat}
use Rattle.seats.specs.Queues.{seats}
use Rattle.seats.specs.Seats.{is_open, blank_seat}
use Rattle.seats.specs.Tables.{no_seat, seat_at, fresh}
use Rattle.upkeep.specs.SoundTables.{Stands}
use Rattle.upkeep.proofs.Stands.{Upkeep}
use Rattle.promises.specs.Histories.{Call, opening, step, World, saucebell}
use Rattle.promises.specs.Histories.{ends, begin, opened, stepped, called, after, history}
use Rattle.promises.specs.Demand2.{in_turn, Agree, Serial}
use Rattle.upkeep.proofs.Replies.{phase_open, step_any, open_any}
use Rattle.promises.proofs.Reached.{called_length, called_stands}
use Rattle.promises.proofs.GoodTables.{AllGood, counted_good, opened_good, moved_good}
use Rattle.promises.proofs.SerialSteps.{Turn, turn_moved}

fresh_shut : (j : ℕ) → j < seats → is_open (seat_at fresh j).phase ≡ false
unfolding fresh blank_seat is_open
fresh_shut j l = ap (λ (z : Seat). is_open z.phase) (get_or-replicate seats j blank_seat no_seat l)

module _ (own : ℕ → ℕ) (below : (c : ℕ) → own c < slots) (up : Upkeep own) (img : List ℕ) where
  record Kept (w : World) : Type 0 where
    stands : Stands own w.table
    size : length w.image ≡ cells
    good : AllGood own w.notes w.table w.image
    turn : Turn w.ended img w.image

  -- ---- an opening

  module _ (w : World) (k : Kept w) (i reading : ℕ) (f : List ℕ) where
    good_opened : AllGood own (opened (saucebell own) w i reading f).notes (opened (saucebell own) w i reading f).table w.image
    unfolding opened
    good_opened = elim (open_any own w.table i reading f) [
      | inl r ↦ rw (r.table, ne_eqb _ 0 r.number) k.good
      | inr g ↦ rw (g.number, g.table)
          (opened_good own w.notes w.table w.image k.good i (omega (arith, k.stands.shaped.seats16, g.seat)) reading f g.read)
    ]

  -- ---- a step

  module _ (w : World) (k : Kept w) (i : ℕ) where
    good_stepped : AllGood own (stepped (saucebell own) w i).notes (stepped (saucebell own) w i).table (stepped (saucebell own) w i).image
    unfolding stepped
    good_stepped = elim (step_any own w.table w.image i) [
      | inl r ↦ rw (r.table, r.image) (counted_good own w.notes w.table w.image i _ _ _ k.good)
      | inr g ↦ rw (g.table, g.image)
          (moved_good own w.notes w.table w.image k.good i (omega (arith, k.stands.shaped.seats16, g.opens.seat)) below
          k.stands g.opens _ _ _)
    ]

    turn_stepped : Turn (stepped (saucebell own) w i).ended img (stepped (saucebell own) w i).image
    unfolding stepped ends AllGood
    turn_stepped = elim (step_any own w.table w.image i) [
      | inl r ↦ rw (r.reply, r.image) k.turn
      | inr g ↦ rw (g.reply, g.table, g.image)
          (turn_moved own w.table i k.stands g.opens (w.notes i) w.image k.size (k.good i g.opens) w.ended img k.turn up)
    ]

  -- ---- all calls

  called_kept : (w : World) (c : Call) → Kept w → Kept (called (saucebell own) w c)
  unfolding called opened stepped
  called_kept w (opening i reading f) k =
      record {
        stands = called_stands own up w (opening i reading f) k.stands;
        size = k.size;
        good = good_opened w k i reading f;
        turn = k.turn;
      }
  called_kept w (step i) k =
      record {
        stands = called_stands own up w (step i) k.stands;
        size = called_length own w (step i) ∙ k.size;
        good = good_stepped w k i;
        turn = turn_stepped w k i;
      }

  after_kept : (cs : List Call) (w : World) → Kept w → Kept (after (saucebell own) w cs)
  unfolding after
  after_kept [] w k = k
  after_kept (c ∷ cs) w k = after_kept cs (called (saucebell own) w c) (called_kept w c k)

  begin_kept : length img ≡ cells → Kept (begin img)
  unfolding begin AllGood in_turn Agree
  begin_kept n =
      record {
        stands = up.fresh;
        size = n;
        good = λ j o. absurd (false≢true (sym (fresh_shut j o.seat) ∙ phase_open o.phase));
        turn = record { image = refl; reports = tt };
      }

pub serial : (own : ℕ → ℕ) → ((c : ℕ) → own c < slots) → Upkeep own → Serial (saucebell own)
unfolding Serial history
serial own below up img cs n =
    let k = (after_kept own below up img cs (begin img) (begin_kept own below up img n)).turn in
    record { image = k.image; reports = k.reports }
