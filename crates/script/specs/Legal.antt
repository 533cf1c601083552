-- 'Scripts': which instructions are legal, and refusals 8 and 9.
use Rattle.std.specs.Prelude.{ℕ, suc, ◌+◌, Bool, true, not, ◌&&◌, ◌||◌, ltb, List, [], ◌∷◌, length, ◌==◌, nat_le, nat_lt}
use Rattle.slots.specs.Sizes.{cells}
use Rattle.slots.specs.Refusals.{Check, ◌when◌}
use Rattle.script.specs.declared.code.Instr.{Instr}
use Rattle.script.specs.declared.code.Script.{Script}
use Rattle.script.specs.Scripts.{max_instructions, registers, k16, instrs}

-- register numbers are 0 to 7, cell numbers are at most 1,023
unfoldable pub is_register : ℕ → Bool
is_register n = nat_lt n registers

unfoldable pub is_cell : ℕ → Bool
is_cell n = nat_lt n cells

abbrev pub is_op : Instr → ℕ → Bool
is_op x n = x.op == n

-- of ops 4 to 7, which use a and b: c is unused, and so is zero
unfoldable pub two_registers : Instr → Bool
two_registers x = is_register x.b && x.c == 0

-- x at position i of k instructions, a line for each op
unfoldable pub legal_at : ℕ → ℕ → Instr → Bool
legal_at k i x =
    is_register x.a
    && (is_op x 1
    || (is_op x 2 && is_cell (k16 x))
    || (is_op x 3 && is_cell (k16 x))
    || (is_op x 4 && two_registers x)
    || (is_op x 5 && two_registers x)
    || (is_op x 6 && two_registers x)
    || (is_op x 7 && two_registers x)
    || (is_op x 8 && is_register x.b && nat_le (i + 1 + x.c) k))

-- those from position i on
unfoldable pub legal_from : ℕ → ℕ → List Instr → Bool
legal_from k i [] = true
legal_from k i (x ∷ xs) = legal_at k i x && legal_from k (suc i) xs

unfoldable pub legal : List Instr → Bool
legal xs = legal_from (length xs) 0 xs

-- 8, more than 64 instructions; 9, an instruction not legal: of k instructions xs
abbrev pub code_checks : ℕ → List Instr → List Check
code_checks k xs = (8 when ltb max_instructions k) ∷ (9 when not (legal xs)) ∷ []

abbrev pub script_checks : Script → List Check
script_checks s = code_checks s.len (instrs s)
