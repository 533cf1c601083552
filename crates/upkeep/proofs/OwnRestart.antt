-- A seat that restarts for slot s: it keeps what it holds up to s, and what it held above is pending again, with s. So s is the smallest
-- pending slot, nothing pending is held, and the slots that the seat is concerned with are those before and s, which is new. The run is that
-- of an opening.
use Prim.Native.Nat.{ℕ, ◌≤◌, ◌<◌}
use mathlib.Core.Path.{◌≡◌, refl, sym, ◌∙◌, subst}
use mathlib.Core.Logic.{⊎_elim}
use mathlib.Core.Bool.{false}
use native.Mathlib.Omega.{arith}
use Rattle.slots.specs.declared.set.SlotSet.{SlotSet}
use Rattle.slots.specs.Sizes.{slots}
use Rattle.slots.specs.Refusals.{refusal}
use Rattle.slots.specs.Sets.{has, adding, above, is_empty, size, smallest}
use Rattle.slots.proofs.Truth.{split}
use Rattle.slots.proofs.Members.{In, Out, in_not_out, in_adding, adding_here, adding_keeps, in_above, out_above}
use Rattle.slots.proofs.Counting.{size_mono, size_part, size_pos, empty_out}
use Rattle.slots.proofs.Least.{smallest_some}
use Rattle.slots.proofs.Restart.{restart_smallest}
use Rattle.script.specs.declared.code.Script.{Script}
use Rattle.script.specs.Legal.{script_checks}
use Rattle.seats.specs.declared.seat.Seat.{Seat}
use Rattle.seats.specs.Seats.{opened_run}
use Rattle.course.specs.Steps.{restarted}
use Rattle.course.proofs.Known.{Runs}
use Rattle.upkeep.proofs.OwnNumbers.{few_restart, bound_restart}
use Rattle.upkeep.proofs.OwnParts.{Two, Three, Parts, concern}
use Rattle.upkeep.proofs.OwnSets.{in_concern, concern-held, concern_pending, concern_out, idle_bound}

-- rule 2 at the start of a run
pub two_opened : (own : ℕ → ℕ) (s : Script) (reading : ℕ) (H : SlotSet) → refusal (script_checks s) ≡ 0 → Two own s (opened_run reading) H
unfolding opened_run
two_opened own s reading H e =
    record { position = omega arith; legal = e; few = omega arith; cell = λ k l. absurd (omega arith); held = λ k l. absurd (omega arith) }

-- the seat held H and holds J; it was queued for U and is for W, and both are nothing
module _ (own : ℕ → ℕ) (z : Seat) (H J U W : SlotSet) (s : ℕ) (small : s < slots) (runs : Runs z) (lacks : Out H s)
    (higher : is_empty (above H s) ≡ false) (from : (k : ℕ) → In J k → In H k × Out (above H s) k)
    (keeps : (k : ℕ) → In H k → Out (above H s) k → In J k) (calm : (k : ℕ) → Out U k) (calm' : (k : ℕ) → Out W k) (r : Parts own z H U) where
  abbrev P : SlotSet
  P = z.pending

  abbrev Q : SlotSet
  Q = adding (above H s) s

  low : (k : ℕ) → In J k → k < s
  low k e =
      let f = from k e in
      let n : k ≡ s → ⊥ = λ q. in_not_out H s (subst (In H) q f.0) lacks in
      let l : k ≤ s = out_above H s k f.0 f.1 in
      omega arith

  least : smallest Q ≡ s
  least = restart_smallest H s small

  three_restarted : Three (opened_run z.run.reading) Q J
  unfolding opened_run
  three_restarted =
      record {
        position = refl;
        nothing = refl;
        opening = λ k l. refl;
        below = λ k e n. omega (arith, low k e, least);
        lacks = λ k p n e. ⊎_elim (λ a. omega (arith, low k e, (in_above H s k a).1)) (λ q. n (q ∙ sym least)) (in_adding (above H s) s k p);
      }

  part : (k : ℕ) → In (concern P H U) k → In (concern Q J W) k
  part k e =
      ⊎_elim
      (λ a. ⊎_elim
      (λ h. split (has (above H s) k) (λ b. concern_pending Q J W k (adding_keeps (above H s) s k b)) (λ b. concern-held Q J W k (keeps k h b)))
      (λ p. absurd (in_not_out P k p (empty_out P k runs.calm))) a)
      (λ u. absurd (in_not_out U k u (calm k))) (in_concern P H U k e)

  grown : size (concern P H U) < size (concern Q J W)
  grown =
      size_part (concern P H U) (concern Q J W) s part (concern_pending Q J W s (adding_here (above H s) s small))
      (concern_out P H U s lacks (empty_out P s runs.calm) (calm s))

  some : 0 < size (concern P H U)
  some =
      let k = in_above H s (smallest (above H s)) (smallest_some (above H s) higher) in
      size_pos (concern P H U) (smallest (above H s)) (concern-held P H U (smallest (above H s)) k.0)

  few : size Q ≤ size (concern Q J W)
  few = size_mono Q (concern Q J W) (concern_pending Q J W)

  pub parts_restarted : Parts own (restarted z H s) J W
  unfolding restarted opened_run
  parts_restarted =
      record {
        two = two_opened own z.script z.run.reading J r.two.legal;
        three = λ e. three_restarted;
        four = λ k u. absurd (in_not_out W k u (calm' k));
        five = record {
          restarts = few_restart z.tally.restarts r.five.restarts some grown;
          working = bound_restart _ _ _ _ _ _ _ _ _ (idle_bound r.five runs.calm) r.two.position grown few;
        };
      }
