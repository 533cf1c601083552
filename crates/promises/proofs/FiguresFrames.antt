-- The frames of scripts that touch registers alone: k times the instruction that puts 0 into register 0. They are legal wherever they
-- stand, so each of these frames is read as its script. With k = 0 it is the empty frame.
use Prim.Native.Nat.{ℕ, zero, suc, ◌≤◌}
use mathlib.Core.Path.{◌≡◌, refl, ap}
use mathlib.Core.Bool.{true}
use mathlib.Core.List.{List}
use native.Mathlib.Omega.{arith}
use lib.ListN.{length, replicate, length-replicate}
use Rattle.script.specs.declared.code.Instr.{Instr}
use Rattle.script.specs.Scripts.{max_instructions, instr, script_of}
use Rattle.script.specs.Legal.{is_register, legal_at, legal_from, legal}
use Rattle.script.specs.Frames.{frame_of, read_as, read_refusal, read_script}
use Rattle.script.proofs.Round.{frame_read}

abbrev pub plain : ℕ → List Instr
plain k = replicate k (instr 1 0 0 0)

abbrev pub plain_frame : ℕ → List ℕ
plain_frame k = frame_of (plain k)

legal-from : (n i k : ℕ) → legal_from n i (plain k) ≡ true
unfolding legal_from legal_at is_register
legal-from n i zero = refl
legal-from n i (suc k) = legal-from n (suc i) k

legal-plain : (k : ℕ) → legal (plain k) ≡ true
unfolding legal
legal-plain k = legal-from (length (plain k)) 0 k

pub plain_read : (k : ℕ) → k ≤ max_instructions → read_script (plain_frame k) ≡ read_as 0 (script_of (plain k))
plain_read k l = frame_read (plain k) (omega (arith, length-replicate k (instr 1 0 0 0))) (legal-plain k)

pub plain-granted : (k : ℕ) → k ≤ max_instructions → read_refusal (plain_frame k) ≡ 0
unfolding read_script
plain-granted k l = ap (λ r. r.number) (plain_read k l)
