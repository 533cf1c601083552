-- A seat that ends holds, wants and keeps nothing: its slots are released and it is in no queue. At its end nothing was pending and its
-- position was at most k, so rule 5 bounds its counts by what k ≤ 64 instructions and 64 slots allow.
use Prim.Native.Nat.{ℕ, ◌≤◌}
use mathlib.Core.Path.{◌≡◌, sym, ap, ◌∙◌, subst}
use mathlib.Core.Bool.{true}
use Rattle.slots.specs.declared.set.SlotSet.{SlotSet}
use Rattle.slots.specs.Sizes.{slots}
use Rattle.slots.specs.Sets.{none, is_empty}
use Rattle.slots.proofs.Members.{Out, in_not_out, has-none}
use Rattle.slots.proofs.Counting.{size_le, none_empty}
use Rattle.seats.specs.declared.seat.Phase.{Phase}
use Rattle.seats.specs.declared.seat.Seat.{Seat}
use Rattle.seats.specs.declared.table.Table.{Table}
use Rattle.seats.specs.Seats.{most_restarts, most_working}
use Rattle.seats.specs.SlotTables.{held_by}
use Rattle.seats.specs.Tables.{seat_at}
use Rattle.course.specs.Steps.{ended}
use Rattle.rules.specs.Rules.{Closed, Ended}
use Rattle.soundness.proofs.Bounds.{script_short}
use Rattle.upkeep.proofs.OwnNumbers.{few_end, bound_end}
use Rattle.upkeep.proofs.OwnParts.{Parts, concern, queued_in, waits_queued}
use Rattle.upkeep.proofs.OwnSets.{idle_bound}

module _ (own : ℕ → ℕ) (t : Table) (i : ℕ) (z : Seat) (H U : SlotSet) (p : Phase) (here : seat_at t i ≡ ended z H p) where
  pub closed_ended : ((k : ℕ) → Out (held_by t.slots i) k) → ((k : ℕ) → Out (queued_in t.slots i) k) → Closed own t i
  unfolding ended
  closed_ended free calm =
      record {
        holds = λ s e. in_not_out (held_by t.slots i) s e (free s);
        waits = λ s l e. in_not_out (queued_in t.slots i) s (waits_queued t.slots i s l e) (calm s);
        wants = ap (λ (y : Seat). is_empty y.pending) here ∙ none_empty none has-none;
        keeps = ap (λ (y : Seat). y.run.kept) here;
      }

  pub counts_ended : is_empty z.pending ≡ true → Parts own z H U → Ended own t i
  unfolding ended
  counts_ended e r =
      let few = few_end r.five.restarts (size_le (concern z.pending H U)) in
      record {
        restarts = subst (λ (n : ℕ). n ≤ most_restarts) (sym (ap (λ (y : Seat). y.tally.restarts) here)) few;
        reported = subst (λ (n : ℕ). n ≤ slots) (sym (ap (λ (y : Seat). y.tally.slots) here)) (size_le H);
        working = subst (λ (n : ℕ). n ≤ most_working) (sym (ap (λ (y : Seat). y.tally.working) here))
            (bound_end _ _ _ _ _ _ (idle_bound r.five e) few r.two.position
            (script_short z.script r.two.legal) (size_le (concern z.pending H U)));
      }
