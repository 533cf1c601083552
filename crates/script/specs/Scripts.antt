-- 'Scripts': instructions and scripts, and their sizes.
use Rattle.std.specs.Prelude.{ℕ, ◌+◌, ◌-◌, ◌*◌, List, ◌++◌, length, take, replicate}
use Rattle.script.specs.declared.code.Instr.{Instr}
use Rattle.script.specs.declared.code.Script.{Script}

-- ---- sizes

-- the most instructions a script has
abbrev pub max_instructions : ℕ
max_instructions = 64

-- the registers of a seat
abbrev pub registers : ℕ
registers = 8

-- the bytes of an instruction, and of a frame in front of its body
abbrev pub instr_bytes : ℕ
instr_bytes = 4

abbrev pub head_bytes : ℕ
head_bytes = 3

-- ---- instructions

abbrev pub instr : ℕ → ℕ → ℕ → ℕ → Instr
instr op a b c = record { op = op; a = a; b = b; c = c }

abbrev pub no_instr : Instr
no_instr = instr 0 0 0 0

-- two bytes as one number, the high byte first
unfoldable pub word : ℕ → ℕ → ℕ
word high low = high * 256 + low

abbrev pub k16 : Instr → ℕ
k16 x = word x.b x.c

-- ---- scripts

-- the instructions of a script: what stands behind its length means nothing
unfoldable pub instrs : Script → List Instr
instrs s = take s.len s.code

-- a script of these instructions, with nothing behind them
unfoldable pub script_of : List Instr → Script
script_of xs = record { code = xs ++ replicate (max_instructions - length xs) no_instr; len = length xs }

unfoldable pub blank_script : Script
blank_script = record { code = replicate max_instructions no_instr; len = 0 }
