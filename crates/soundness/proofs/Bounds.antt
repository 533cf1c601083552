-- The numbers of rule 5 are small: restarts that pass their test are at most 64, and a legal script has at most 64 instructions. The code
-- has it from an answer that refuses nothing, which is one with the number 0.
use Prim.Native.Nat.{ℕ, ◌≤◌}
use mathlib.Core.Path.{◌≡◌, refl, sym, ◌∙◌}
use mathlib.Core.Bool.{true, ◌&&◌}
use native.Mathlib.Omega.{arith}
use lib.Dec.{leb, eqb}
use borrow.Author.Tests.{eqb-true, ltb-true, leb-true, ne_eqb}
use Rattle.std.specs.Prelude.{Result, Ok, Err}
use Rattle.std.specs.Result.{is_ok}
use Rattle.slots.specs.Sizes.{slots}
use Rattle.slots.specs.declared.set.SlotSet.{SlotSet}
use Rattle.slots.specs.declared.refusals.Refusal.{Refusal}
use Rattle.slots.specs.Refusals.{refusal, number_in}
use Rattle.slots.proofs.Answers.{no_number}
use Rattle.slots.proofs.Truth.{and_l, and_r, split}
use Rattle.script.specs.declared.code.Script.{Script}
use Rattle.script.specs.Scripts.{max_instructions, instrs}
use Rattle.script.specs.Legal.{script_checks}
use Rattle.script.proofs.Lawful.{code_ok}
use Rattle.seats.specs.declared.seat.Seat.{Seat}
use Rattle.soundness.specs.Tests.{kept_test, place_test, restarts_test}

pub restarts_few : (r l : ℕ) → l ≤ slots → restarts_test r l ≡ true → r ≤ slots
unfolding restarts_test
restarts_few r l h e =
    split (eqb r 0) (λ q. omega (arith, eqb-true r 0 q)) (λ q. omega (arith, ltb-true r l (rw q at e)))

-- nothing is refused where the number of an answer is 0
pub ok_by_number : {A : Type 0} (r : Result A Refusal) → is_ok r ≡ eqb (number_in r) 0
ok_by_number (Ok x) = refl
ok_by_number (Err r) = sym (ne_eqb _ 0 (no_number r))

pub script_short : (s : Script) → refusal (script_checks s) ≡ 0 → s.len ≤ max_instructions
script_short s e = (code_ok s.len (instrs s) e).0

-- by the code's answer about it
pub checked_short : {A : Type 0} (r : Result A Refusal) (s : Script) → number_in r ≡ refusal (script_checks s) → is_ok r ≡ true
    → s.len ≤ max_instructions
checked_short r s e k = script_short s (sym e ∙ eqb-true (number_in r) 0 (sym (ok_by_number r) ∙ k))

pub placed : (own : ℕ → ℕ) (z : Seat) (h : SlotSet) → place_test own z h ≡ true
    → (z.script.len ≤ max_instructions) × (z.run.at ≤ max_instructions)
unfolding place_test
placed own z h e =
    let legal = eqb (refusal (script_checks z.script)) 0 in
    let inside = leb z.run.at z.script.len in
    let few = leb z.run.kept z.run.at in
    let both = and_l (legal && inside) few (and_l (legal && inside && few) (kept_test own z.run h) e) in
    let short = script_short z.script (eqb-true (refusal (script_checks z.script)) 0 (and_l legal inside both)) in
    let below = leb-true z.run.at z.script.len (and_r legal inside both) in
    (short, omega arith)
