-- The fresh table is sound: nobody holds a slot and nobody waits for one, so there is nothing for rule 1 to forbid, and every seat is the
-- blank one.
use Prim.Native.Nat.{ℕ, ◌<◌}
use mathlib.Core.Path.{◌≡◌, sym, ap, ◌∙◌, subst}
use lib.ListN.{length-replicate, get_or-replicate}
use Rattle.slots.specs.Sizes.{slots}
use Rattle.slots.specs.declared.set.SlotSet.{SlotSet}
use Rattle.slots.specs.Sets.{has, none, is_empty}
use Rattle.slots.proofs.Truth.{not_both}
use Rattle.slots.proofs.Members.{has-none}
use Rattle.slots.proofs.Counting.{none_empty}
use Rattle.seats.specs.declared.queue.Queue.{Queue}
use Rattle.seats.specs.declared.seat.Seat.{Seat}
use Rattle.seats.specs.Queues.{seats, no_one, entries, waits_in}
use Rattle.seats.specs.Seats.{blank_run, blank_seat}
use Rattle.seats.specs.Tables.{no_seat, seat_at, fresh}
use Rattle.seats.proofs.Lines.{entries_none, waits_none}
use Rattle.seats.proofs.Hands.{whole_free, queue_free, held_free, lined_free}
use Rattle.rules.specs.Rules.{Owns, Waits, Distinct, Rule1, Closed, PhaseRules}
use Rattle.rules.proofs.Shaped.{Shaped, ShapedSeat}
use Rattle.upkeep.specs.SoundTables.{Stands}
use Rattle.upkeep.proofs.ShapeSeats.{shaped_blank}

seat_fresh : (i : ℕ) → i < seats → seat_at fresh i ≡ blank_seat
unfolding fresh
seat_fresh i l = get_or-replicate seats i blank_seat no_seat l

owns_fresh : (i s : ℕ) → Owns fresh i s → ⊥
unfolding fresh
owns_fresh i s e = not_both e (ap (λ (S : SlotSet). has S s) (held_free i) ∙ has-none s)

waits_fresh : (i s : ℕ) → s < slots → Waits fresh i s → ⊥
unfolding fresh
waits_fresh i s l e = not_both e (ap (λ (q : Queue). waits_in q i) (queue_free s l) ∙ waits_none no_one entries_none i)

shaped_fresh : Shaped fresh
unfolding fresh
shaped_fresh =
    record {
      seats16 = length-replicate seats blank_seat;
      arrays = whole_free;
      queues16 = λ s l. (lined_free s l).array;
      each = λ i l. subst ShapedSeat (sym (seat_fresh i l)) shaped_blank;
    }

rule1_fresh : Rule1 fresh
unfolding fresh Distinct
rule1_fresh =
    record {
      one = λ i j s a b e f. absurd (owns_fresh i s e);
      owners = λ i s a e. absurd (owns_fresh i s e);
      room = λ s l. (lined_free s l).short;
      waiters = λ i s l e. absurd (waits_fresh i s l e);
      once = λ s l. subst Distinct (sym (ap entries (queue_free s l) ∙ entries_none)) tt;
      single = λ i s u l k e f. absurd (waits_fresh i s l e);
      owned = λ i s l e. absurd (waits_fresh i s l e);
      apart = λ i s l e f. owns_fresh i s f;
    }

closed_fresh : (own : ℕ → ℕ) (i : ℕ) → i < seats → Closed own fresh i
unfolding blank_seat blank_run
closed_fresh own i l =
    record {
      holds = owns_fresh i;
      waits = waits_fresh i;
      wants = ap (λ (z : Seat). is_empty z.pending) (seat_fresh i l) ∙ none_empty none has-none;
      keeps = ap (λ (z : Seat). z.run.kept) (seat_fresh i l);
    }

pub fresh_stands : (own : ℕ → ℕ) → Stands own fresh
unfolding PhaseRules blank_seat
fresh_stands own =
    record {
      shaped = shaped_fresh;
      sound = record {
        table = rule1_fresh;
        seats = λ i l. subst (PhaseRules own fresh i) (sym (ap (λ (z : Seat). z.phase) (seat_fresh i l))) (closed_fresh own i l, seat_fresh i l);
      };
    }
