-- 'Scripts': frames, and what the script reader and the script writer answer.
use Rattle.std.specs.Prelude.{ℕ, ◌+◌, ◌-◌, ◌*◌, ◌/◌, ◌%◌, Bool, not, ◌&&◌, List, [], ◌∷◌, ◌++◌, length, drop, ◌==◌, nat_le, nat_lt, slice_index, Result}
use Rattle.slots.specs.Refusals.{Check, ◌when◌, refusal, granted, number_in, value_in}
use Rattle.script.specs.declared.code.Instr.{Instr}
use Rattle.script.specs.declared.code.Script.{Script}
use Rattle.slots.specs.declared.refusals.Refusal.{Refusal}
use Rattle.script.specs.Scripts.{instr_bytes, head_bytes, instr, word, instrs, script_of, blank_script}
use Rattle.script.specs.Legal.{code_checks, script_checks}

-- ---- the body: four bytes an instruction, op, a, b, c

abbrev pub bytes_of : Instr → List ℕ
bytes_of x = x.op ∷ x.a ∷ x.b ∷ x.c ∷ []

unfoldable pub encode : List Instr → List ℕ
encode [] = []
encode (x ∷ xs) = bytes_of x ++ encode xs

unfoldable pub decode : List ℕ → List Instr
decode [] = []
decode (op ∷ []) = []
decode (op ∷ a ∷ []) = []
decode (op ∷ a ∷ b ∷ []) = []
decode (op ∷ a ∷ b ∷ c ∷ rest) = instr op a b c ∷ decode rest

-- the instruction whose first byte is at `at`
unfoldable pub instr_at : List ℕ → ℕ → Instr
instr_at f at = instr (slice_index f at) (slice_index f (at + 1)) (slice_index f (at + 2)) (slice_index f (at + 3))

-- ---- the frame: one version byte, two bytes with the body length, the body

abbrev pub version : ℕ
version = 1

-- the bytes of a frame of k instructions
abbrev pub frame_bytes : ℕ → ℕ
frame_bytes k = head_bytes + instr_bytes * k

unfoldable pub frame_of : List Instr → List ℕ
frame_of xs = version ∷ (instr_bytes * length xs / 256) ∷ (instr_bytes * length xs % 256) ∷ encode xs

abbrev pub body : List ℕ → List ℕ
body f = drop head_bytes f

-- at least 3 bytes, version 1, the length is that of the rest and a multiple of 4
unfoldable pub is_frame : List ℕ → Bool
is_frame f =
    nat_le head_bytes (length f)
    && slice_index f 0 == version
    && word (slice_index f 1) (slice_index f 2) == length f - head_bytes
    && (length f - head_bytes) % instr_bytes == 0

-- ---- the script reader

-- 7, no frame; then 8 and 9
abbrev pub read_checks : List ℕ → List Check
read_checks f = (7 when not (is_frame f)) ∷ code_checks (length (decode (body f))) (decode (body f))

unfoldable pub read_refusal : List ℕ → ℕ
read_refusal f = refusal (read_checks f)

-- an answer in the description's numbers: the refusal, 0 for none, and the script
pub record ReadScript : Type 0 where
  pub number : ℕ
  pub script : Script

abbrev pub read_as : ℕ → Script → ReadScript
read_as n s = record { number = n; script = s }

-- what each answer says
abbrev pub said_read : Result Script Refusal → ReadScript
said_read a = read_as (number_in a) (value_in blank_script a)

-- the script of the frame f, or a refusal's number and the blank script
unfoldable pub read_script : List ℕ → ReadScript
read_script f = read_as (read_refusal f) (granted (read_refusal f) (script_of (decode (body f))) blank_script)

-- ---- the script writer, where the destination has room bytes

-- 8 and 9; then 14, destination shorter than the frame
abbrev pub write_checks : Script → ℕ → List Check
write_checks s room = script_checks s ++ ((14 when nat_lt room (frame_bytes s.len)) ∷ [])

unfoldable pub write_refusal : Script → ℕ → ℕ
write_refusal s room = refusal (write_checks s room)

-- an answer in the description's numbers: the refusal, 0 for none, and how many bytes
pub record Written : Type 0 where
  pub number : ℕ
  pub len : ℕ

-- what each answer says
abbrev pub said_written : Result ℕ Refusal → Written
said_written a = record { number = number_in a; len = value_in 0 a }

-- how many bytes are written, or a refusal's number and none
unfoldable pub written : Script → ℕ → Written
written s room = record { number = write_refusal s room; len = granted (write_refusal s room) (frame_bytes s.len) 0 }

-- what the destination d then holds: the frame at its front, with the bytes behind kept; or d as it was
unfoldable pub destination : Script → List ℕ → List ℕ
destination s d = granted (write_refusal s (length d)) (frame_of (instrs s) ++ drop (frame_bytes s.len) d) d
