-- Scripts and their instructions. A script is an array of 64 with a length, and its instructions are the array's front, so the i-th
-- instruction is the array's i-th element; a script made of instructions has just those at its front.
use Rattle.std.proofs.Common.{◌≡◌, ℕ, ◌-◌, ◌<◌, ◌≤◌, List, length, get_or, replicate, refl, arith, length-take-le, get_or-take}
use lib.Seq.{take-append_seam}
use Rattle.script.specs.declared.code.Instr.{Instr}
use Rattle.script.specs.declared.code.Script.{Script}
use Rattle.script.specs.Scripts.{max_instructions, no_instr, instrs, script_of}

pub length_instrs : (s : Script) → length s.code ≡ max_instructions → s.len ≤ max_instructions → length (instrs s) ≡ s.len
unfolding instrs
length_instrs s whole h = length-take-le s.len s.code (omega arith)

pub instr_is : (s : Script) (i : ℕ) → i < s.len → get_or (instrs s) i no_instr ≡ get_or s.code i no_instr
unfolding instrs
instr_is s i h = get_or-take s.len s.code i no_instr h

pub instrs_script : (xs : List Instr) → instrs (script_of xs) ≡ xs
unfolding instrs script_of
instrs_script xs = take-append_seam xs (replicate (max_instructions - length xs) no_instr)

pub script_len : (xs : List Instr) → (script_of xs).len ≡ length xs
unfolding script_of
script_len xs = refl
