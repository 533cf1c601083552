-- A seat that runs an instruction: a legal script's position rises and stays at most k, so the bound of the working count rises by one too,
-- and at most one write more is kept. That write is to the cell of the act, which is in range and whose slot the seat holds; the others
-- stand where they stood. It is one law for a slot already held and for one taken by the step.
use Prim.Native.Nat.{ℕ, ◌+◌, ◌≤◌, ◌<◌}
use mathlib.Core.Path.{◌≡◌, refl, sym, ap, ◌∙◌, subst}
use mathlib.Core.Logic.{⊎_elim}
use mathlib.Core.List.{List}
use native.Mathlib.Omega.{arith}
use lib.Dec.{eqb}
use lib.ListN.{length, get_or}
use lib.Seq.{get_or-set_same, get_or-set_other}
use borrow.Author.Tests.{eqb-true, eqb-false}
use Rattle.slots.specs.declared.set.SlotSet.{SlotSet}
use Rattle.slots.specs.Sizes.{cells}
use Rattle.slots.specs.Refusals.{refusal}
use Rattle.slots.specs.Owners.{cell}
use Rattle.slots.specs.Sets.{size}
use Rattle.slots.proofs.Truth.{split, not_both}
use Rattle.slots.proofs.Members.{In, Out, in_not_out}
use Rattle.slots.proofs.Counting.{size_mono}
use Rattle.script.specs.declared.code.Script.{Script}
use Rattle.script.specs.Scripts.{max_instructions, no_instr, instrs}
use Rattle.script.specs.Legal.{script_checks}
use Rattle.script.specs.Meaning.{Act, local, reads, writes, act_of}
use Rattle.script.specs.Alone.{Place, place, next}
use Rattle.script.proofs.Lawful.{code_ok}
use Rattle.script.proofs.Scripts.{length_instrs, instr_is}
use Rattle.script.proofs.Forward.{forward}
use Rattle.seats.specs.declared.seat.Run.{Run}
use Rattle.seats.specs.declared.seat.Seat.{Seat}
use Rattle.seats.specs.declared.seat.Write.{Write}
use Rattle.seats.specs.Seats.{no_write}
use Rattle.runs.specs.Runs.{keeping, after_act}
use Rattle.course.specs.Wants.{act_at}
use Rattle.course.specs.Steps.{goes_on}
use Rattle.course.proofs.Known.{Runs}
use Rattle.rules.specs.Rules.{cell_of}
use Rattle.rules.proofs.Shaped.{ShapedSeat}
use Rattle.soundness.proofs.Bounds.{script_short}
use Rattle.upkeep.proofs.OwnNumbers.{few_more, bound_ran}
use Rattle.upkeep.proofs.OwnParts.{Two, Parts, concern}
use Rattle.upkeep.proofs.OwnSets.{in_concern, concern-held, concern_pending, idle_bound}

-- ---- the position

-- the run goes where a run alone goes
next_at : (a : Act) (img : List ℕ) (ρ : Run) → (after_act a img ρ).at ≡ (next a (place ρ.at ρ.regs img)).position
unfolding after_act next keeping
next_at (local r n) img ρ = omega arith
next_at (reads r c) img ρ = omega arith
next_at (writes c v) img ρ = omega arith

rises : (s : Script) (img : List ℕ) (ρ : Run) → length s.code ≡ max_instructions → refusal (script_checks s) ≡ 0 → ρ.at < s.len
    → (a : Act) → act_of (get_or s.code ρ.at no_instr) ρ.regs ≡ a → (ρ.at < (after_act a img ρ).at) × ((after_act a img ρ).at ≤ s.len)
rises s img ρ whole lawful l a e =
    let ok = code_ok s.len (instrs s) lawful in
    let n : length (instrs s) ≡ s.len = length_instrs s whole ok.0 in
    let same : act_of (get_or (instrs s) ρ.at no_instr) ρ.regs ≡ a = ap (λ x. act_of x ρ.regs) (instr_is s ρ.at l) ∙ e in
    let p : Place = place ρ.at ρ.regs img in
    let f = forward (instrs s) img ok.1 p (omega arith) in
    let g : (ρ.at < (next a p).position) × ((next a p).position ≤ length (instrs s)) = rw same at f in
    (omega (arith, next_at a img ρ, g.0), omega (arith, next_at a img ρ, g.1))

-- ---- rule 2

module _ (own : ℕ → ℕ) (s : Script) (ρ : Run) (H J : SlotSet) (img : List ℕ) (keeps : (k : ℕ) → In H k → In J k)
    (whole : length ρ.writes ≡ max_instructions) (short : s.len ≤ max_instructions) (inside : ρ.at < s.len) (r : Two own s ρ H) where
  -- the cell of a kept write: that of one before, or the new one
  kept_cell : (c v k : ℕ) → k < ρ.kept + 1 → (C : ℕ → Type 0) → (k < ρ.kept → C (cell_of ρ k)) → C c → C (cell_of (keeping ρ c v) k)
  unfolding keeping
  kept_cell c v k l C old new =
      let w : Write = record { cell = cell c; value = v } in
      split (eqb k ρ.kept)
      (λ e. rw (eqb-true k ρ.kept e) (subst C (sym (ap at_cell (get_or-set_same ρ.writes ρ.kept w no_write (omega (arith, r.few))))) new))
      (λ e. let n = eqb-false k ρ.kept e in
      subst C (sym (ap at_cell (get_or-set_other ρ.writes ρ.kept k w no_write n))) (old (omega (arith, n))))
    where
      at_cell : Write → ℕ
      at_cell x = x.cell.0

  two_after : (a : Act) → ρ.at < (after_act a img ρ).at → (after_act a img ρ).at ≤ s.len
      → ((c v : ℕ) → a ≡ writes c v → (c < cells) × In J (own c)) → Two own s (after_act a img ρ) J
  unfolding after_act keeping
  two_after (local x n) up to new =
      record { position = to; legal = r.legal; few = omega (arith, r.few); cell = r.cell; held = λ k l. keeps _ (r.held k l) }
  two_after (reads x c) up to new =
      record { position = to; legal = r.legal; few = omega (arith, r.few); cell = r.cell; held = λ k l. keeps _ (r.held k l) }
  two_after (writes c v) up to new =
      record {
        position = to;
        legal = r.legal;
        few = omega (arith, r.few);
        cell = λ k l. kept_cell c v k l (λ (d : ℕ). d < cells) (r.cell k) (new c v refl).0;
        held = λ k l. kept_cell c v k l (λ (d : ℕ). In J (own d)) (λ m. keeps _ (r.held k m)) (new c v refl).1;
      }

-- ---- all rules

-- the seat held H and holds J; it was queued for U and is for W, and both are nothing
module _ (own : ℕ → ℕ) (z : Seat) (H J U W : SlotSet) (img : List ℕ) (shaped : ShapedSeat z) (runs : Runs z)
    (keeps : (k : ℕ) → In H k → In J k) (new : (c v : ℕ) → act_at z ≡ writes c v → (c < cells) × In J (own c))
    (calm : (k : ℕ) → Out U k) (calm' : (k : ℕ) → Out W k) (r : Parts own z H U) where
  abbrev P : SlotSet
  P = z.pending

  abbrev ρ : Run
  ρ = after_act (act_at z) img z.run

  up : (z.run.at < ρ.at) × (ρ.at ≤ z.script.len)
  unfolding act_at
  up = rises z.script img z.run shaped.code64 r.two.legal runs.inside (act_at z) refl

  grown : size (concern P H U) ≤ size (concern P J W)
  grown =
      size_mono (concern P H U) (concern P J W)
      (λ k e. ⊎_elim (λ a. ⊎_elim (λ h. concern-held P J W k (keeps k h)) (concern_pending P J W k) a) (λ u. absurd (in_not_out U k u (calm k)))
      (in_concern P H U k e))

  pub parts_ran : Parts own (goes_on z ρ P) J W
  parts_ran =
      record {
        two = two_after own z.script z.run H J img keeps shaped.writes64 (script_short z.script r.two.legal) runs.inside r.two
            (act_at z) up.0 up.1 new;
        three = λ e. absurd (not_both runs.calm e);
        four = λ k u. absurd (in_not_out W k u (calm' k));
        five = record {
          restarts = few_more r.five.restarts grown;
          working = bound_ran _ _ _ _ _ _ _ _ _ (idle_bound r.five runs.calm) up.0 grown;
        };
      }
