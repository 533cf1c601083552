-- The script writer, by the ways through its code. The number of the script itself comes first, whatever room there is, and only a script
-- without one is held against the room. Where a number is given the destination stays, and otherwise it has the frame at its front.
use Rattle.std.proofs.Common.{◌≡◌, ℕ, ◌<◌, ◌≤◌, true, ltb, List, [], ◌∷◌, ◌++◌, length, drop, sym, ap, ◌∙◌, le-ltb, lt-ltb, ne_eqb}
use Rattle.std.specs.Prelude.{Result, Ok, Err}
use Rattle.slots.specs.declared.refusals.Refusal.{Refusal}
use Rattle.slots.specs.Refusals.{◌when◌, refusal, number_of, number_in, value_in}
use Rattle.slots.proofs.Answers.{no_number, one_answer}
use Rattle.script.specs.declared.code.Script.{Script}
use Rattle.script.specs.Scripts.{max_instructions, instrs}
use Rattle.script.specs.Legal.{legal, script_checks}
use Rattle.script.specs.Frames.{Written, frame_bytes, frame_of, write_refusal, said_written, written, destination}
use Rattle.slots.proofs.Checks.{none, applies, passed, given, none_first}
use Rattle.script.proofs.Lawful.{code_free, code_ok}

module _ (s : Script) where
  -- a script without a number has at most 64 instructions
  pub few : 0 ≡ refusal (script_checks s) → s.len ≤ max_instructions
  few free = (code_ok s.len (instrs s) (sym free)).0

  module _ (room : ℕ) where
    pub write_first : {n : ℕ} → n ≡ refusal (script_checks s) → (n ≡ 0 → ⊥) → write_refusal s room ≡ n
    unfolding write_refusal
    write_first e h = given (script_checks s) _ (λ q. h (e ∙ q)) ∙ sym e

    module _ (e : refusal (script_checks s) ≡ 0) where
      past_9 : write_refusal s room ≡ refusal ((14 when ltb room (frame_bytes s.len)) ∷ [])
      unfolding write_refusal
      past_9 = let o = code_ok s.len (instrs s) e in code_free s.len (instrs s) o.0 o.1 _

      pub write_14 : room < frame_bytes s.len → write_refusal s room ≡ 14
      write_14 h = past_9 ∙ applies 14 [] (lt-ltb room (frame_bytes s.len) h)

      pub write_0 : frame_bytes s.len ≤ room → write_refusal s room ≡ 0
      write_0 h = past_9 ∙ passed 14 [] (le-ltb room (frame_bytes s.len) h) ∙ none

    pub write_ok : write_refusal s room ≡ 0 → (s.len ≤ max_instructions) × (legal (instrs s) ≡ true)
    unfolding write_refusal
    write_ok e = code_ok s.len (instrs s) (none_first (script_checks s) _ e)

  module _ (d : List ℕ) where
    pub write_no : (r : Refusal) → write_refusal s (length d) ≡ number_of r
        → (said_written (Err r) ≡ written s (length d)) × (d ≡ destination s d)
    unfolding written destination
    write_no r e = (rw (e, ne_eqb (number_of r) 0 (no_number r)), rw (e, ne_eqb (number_of r) 0 (no_number r)))

    pub write_script : write_refusal s (length d) ≡ 0
        → (said_written (Ok (frame_bytes s.len)) ≡ written s (length d)) × (frame_of (instrs s) ++ drop (frame_bytes s.len) d ≡ destination s d)
    unfolding written destination
    write_script e = (rw e, rw e)

-- what is said tells the answer
pub written_one : (a b : Result ℕ Refusal) → said_written a ≡ said_written b → a ≡ b
written_one a b e = one_answer 0 a b (ap (λ (w : Written). w.number) e) (ap (λ (w : Written). w.len) e)
