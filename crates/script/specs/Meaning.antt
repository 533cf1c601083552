-- 'Scripts', the table of ops: what an instruction does.
--
-- An instruction is an act of one of three kinds, and the rules of seats and slots know of it no more than that.
use Rattle.std.specs.Prelude.{ℕ, ◌+◌, ◌-◌, ◌%◌, ◌^◌, Bool, cond, List, ◌∷◌, replicate, nat_lt, slice_index, slice_set, Option, Some, None}
use Rattle.slots.specs.Owners.{cell}
use Rattle.script.specs.declared.code.Instr.{Instr}
use Rattle.script.specs.declared.act.Access.{Access}
use Rattle.script.specs.declared.act.Access.TheVariants.{Reads, Writes}
use Rattle.script.specs.Scripts.{k16}
use Rattle.script.specs.Legal.{is_op}

pub data Act : Type 0 where
  -- the registers become these, and so many of the next instructions are skipped
  local : List ℕ → ℕ → Act
  -- register a becomes cell c
  reads : ℕ → ℕ → Act
  -- cell c becomes the value v
  writes : ℕ → ℕ → Act

-- ---- registers and their numbers

abbrev pub register : List ℕ → ℕ → ℕ
register r a = slice_index r a

-- register 0 is the reading given, the others are zero
unfoldable pub opening_registers : ℕ → List ℕ
opening_registers reading = reading ∷ replicate 7 0

-- a + b and a − b modulo 2^32
unfoldable pub plus : ℕ → ℕ → ℕ
plus a b = (a + b) % 2 ^ 32

unfoldable pub minus : ℕ → ℕ → ℕ
minus a b = (a + (2 ^ 32 - b)) % 2 ^ 32

-- register a is less than register b, as unsigned numbers
unfoldable pub is_less : ℕ → ℕ → Bool
is_less a b = nat_lt a b

-- ---- the act of an instruction where the registers are r, a line for each op

unfoldable pub act_of : Instr → List ℕ → Act
act_of x r =
    cond (is_op x 1) (local (slice_set r x.a (k16 x)) 0)
    (cond (is_op x 2) (reads x.a (k16 x))
    (cond (is_op x 3) (writes (k16 x) (register r x.a))
    (cond (is_op x 4) (reads x.a (register r x.b))
    (cond (is_op x 5) (writes (register r x.b) (register r x.a))
    (cond (is_op x 6) (local (slice_set r x.a (plus (register r x.a) (register r x.b))) 0)
    (cond (is_op x 7) (local (slice_set r x.a (minus (register r x.a) (register r x.b))) 0)
    (cond (is_op x 8) (local r (cond (is_less (register r x.a) (register r x.b)) x.c 0))
    (local r 0))))))))

-- ---- the code's two answers about an act

-- the cell it accesses, if any
unfoldable pub access_of : Act → Option Access
access_of (local r n) = None
access_of (reads a c) = Some (Reads a (cell c))
access_of (writes c v) = Some (Writes (cell c) v)

-- the registers, and how many instructions are skipped
pub record Local : Type 0 where
  pub regs : List ℕ
  pub skip : ℕ

abbrev pub moved : List ℕ → ℕ → Local
moved r n = record { regs = r; skip = n }

-- the registers afterwards, where they were r, and what it skips: nothing changes here at an access
unfoldable pub local_of : List ℕ → Act → Local
local_of r (local r' n) = moved r' n
local_of r (reads a c) = moved r 0
local_of r (writes c v) = moved r 0
