-- What is read of a frame can be opened: the script made of the frame's instructions has an array of 64 and those instructions at its front,
-- and the reader's number is 0 only where they are few enough and legal.
use Prim.Native.Nat.{ℕ, ◌≤◌}
use mathlib.Core.Path.{◌≡◌, ap, ◌∙◌}
use mathlib.Core.List.{List, []}
use native.Mathlib.Omega.{arith}
use lib.ListN.{length, length-append, length-replicate}
use Rattle.slots.specs.Refusals.{refusal}
use Rattle.slots.proofs.Checks.{none}
use Rattle.script.specs.declared.code.Instr.{Instr}
use Rattle.script.specs.declared.code.Script.{Script}
use Rattle.script.specs.Scripts.{max_instructions, instrs, script_of}
use Rattle.script.specs.Legal.{legal, script_checks}
use Rattle.script.specs.Frames.{decode, body, read_refusal, read_script}
use Rattle.script.proofs.Lawful.{code_free}
use Rattle.script.proofs.Scripts.{script_len}
use Rattle.script.proofs.Reader.{read_ok}
use Rattle.script.proofs.Round.{script_read, instrs_read}

whole_script : (xs : List Instr) → length xs ≤ max_instructions → length (script_of xs).code ≡ max_instructions
unfolding script_of
whole_script xs h = simp (length-append, length-replicate) (omega arith)

pub read_lawful : (f : List ℕ) → read_refusal f ≡ 0
    → (length (read_script f).script.code ≡ max_instructions) × (refusal (script_checks (read_script f).script) ≡ 0)
    × (instrs (read_script f).script ≡ decode (body f))
read_lawful f e =
    let o = read_ok f e in
    let s : Script = (read_script f).script in
    let is : s ≡ script_of (decode (body f)) = script_read f e in
    let code : instrs s ≡ decode (body f) = instrs_read f e in
    let len : s.len ≡ length (decode (body f)) = ap (λ (x : Script). x.len) is ∙ script_len (decode (body f)) in (
      ap (λ (x : Script). length x.code) is ∙ whole_script (decode (body f)) o.1,
      code_free s.len (instrs s) (omega (arith, o.1)) (ap legal code ∙ o.2) [] ∙ none,
      code,
    )
