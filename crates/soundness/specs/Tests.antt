-- Refusal 1 as a test: a part for each rule of 'A sound table', of which rules 1 and 6 stand apart. `Rules` has them in words of membership.
use Rattle.std.specs.Prelude.{Bool, not, cond, ◌&&◌, ◌||◌, ℕ, ◌+◌, ◌*◌, ltb, leb, eqb, get_or}
use Rattle.slots.specs.declared.set.SlotSet.{SlotSet}
use Rattle.slots.specs.Sizes.{cells}
use Rattle.slots.specs.Refusals.{refusal}
use Rattle.slots.specs.Sets.{has, none, adding, removing, above, union, is_empty, size, smallest}
use Rattle.script.specs.Scripts.{registers}
use Rattle.script.specs.Legal.{script_checks}
use Rattle.script.specs.Meaning.{opening_registers}
use Rattle.seats.specs.declared.seat.Phase.{Phase}
use Rattle.seats.specs.declared.seat.Phase.TheVariants.{Blank, Open, Committed, Failed}
use Rattle.seats.specs.declared.seat.Run.{Run}
use Rattle.seats.specs.declared.seat.Tally.{Tally}
use Rattle.seats.specs.declared.seat.Seat.{Seat}
use Rattle.seats.specs.declared.table.Table.{Table}
use Rattle.seats.specs.Queues.{seats, waits_in}
use Rattle.seats.specs.SlotTables.{held_by, queue_of}
use Rattle.seats.specs.Seats.{no_write}
use Rattle.seats.specs.Tables.{seat_at}
use Rattle.course.specs.Wants.{want_of, slot_of}
use Rattle.rule_one.specs.Tests.{all, common, apart, queues_test, is_queued}
use Rattle.rule_six.specs.Tests.{closed_test, ended_test, blank_test}

-- ---- 2, of a seat that holds h

-- cell c is below 1,024 and its slot is held
unfoldable pub cell_held : (ℕ → ℕ) → SlotSet → ℕ → Bool
cell_held own h c = ltb c cells && has h (own c)

unfoldable pub kept_test : (ℕ → ℕ) → Run → SlotSet → Bool
kept_test own ρ h = all (λ k. cell_held own h (get_or ρ.writes k no_write).cell.0) ρ.kept

unfoldable pub place_test : (ℕ → ℕ) → Seat → SlotSet → Bool
place_test own z h =
    eqb (refusal (script_checks z.script)) 0 && leb z.run.at z.script.len && leb z.run.kept z.run.at && kept_test own z.run h

-- ---- 3

unfoldable pub at_opening : Run → Bool
at_opening ρ =
    eqb ρ.at 0 && eqb ρ.kept 0 && all (λ k. eqb (get_or ρ.regs k 0) (get_or (opening_registers ρ.reading) k 0)) registers

unfoldable pub pending_test : Run → SlotSet → SlotSet → Bool
pending_test ρ h p =
    is_empty p || (at_opening ρ && is_empty (above h (smallest p)) && is_empty (removing (common h p) (smallest p)))

-- ---- 4, of a seat that wants the slot s: whether it is queued at all, and whether for s

unfoldable pub wait_test : Bool → Bool → SlotSet → ℕ → Bool
wait_test queued here h s = not queued || (here && not (has h s) && is_empty (above h s))

-- ---- 5

-- the slot it is queued for
unfoldable pub queued_set : Bool → ℕ → SlotSet
queued_set queued s = cond queued (adding none s) none

unfoldable pub restarts_test : ℕ → ℕ → Bool
restarts_test r l = eqb r 0 || ltb r l

-- r restarts, w working, k instructions, at a, p pending, l in all
unfoldable pub working_test : ℕ → ℕ → ℕ → ℕ → ℕ → ℕ → ℕ → Bool
working_test r w k a p l q = leb (w + 2 * p) (r * k + a + l + 2 * (r * l) + q)

-- y is the tally, u the set of the slot queued for
unfoldable pub count_test : Tally → ℕ → ℕ → SlotSet → SlotSet → SlotSet → Bool
count_test y k a h p u =
    restarts_test y.restarts (size (union (union h p) u))
    && working_test y.restarts y.working k a (size p) (size (union (union h p) u)) (cond (has (union h u) (smallest p)) 1 0)

-- 2 to 5
unfoldable pub open_test : (ℕ → ℕ) → Seat → SlotSet → Bool → Bool → Bool
open_test own z h queued here =
    place_test own z h
    && pending_test z.run h z.pending
    && wait_test queued here h (slot_of (want_of own z))
    && count_test z.tally z.script.len z.run.at h z.pending (queued_set queued (slot_of (want_of own z)))

-- ---- all

unfoldable pub phase_test : (ℕ → ℕ) → Phase → Seat → SlotSet → Bool → Bool → Bool
phase_test own Blank z h queued here = closed_test z h queued && blank_test z
phase_test own Open z h queued here = open_test own z h queued here
phase_test own Committed z h queued here = closed_test z h queued && ended_test z.tally
phase_test own Failed z h queued here = closed_test z h queued && ended_test z.tally

unfoldable pub seat_test : (ℕ → ℕ) → Table → ℕ → Bool
seat_test own t i =
    phase_test own (seat_at t i).phase (seat_at t i) (held_by t.slots i) (is_queued t.slots i)
    (waits_in (queue_of t.slots (slot_of (want_of own (seat_at t i)))) i)

unfoldable pub sound_test : (ℕ → ℕ) → Table → Bool
sound_test own t = apart t.slots.held && queues_test t.slots && all (seat_test own t) seats
