-- 'A script run alone means: same rules for registers and cells, no slots. It commits or fails; a failed one changes no cell.'
--
-- Alone, nobody else sees the image, so writes go to it at once; a run that fails gives back the image it began with.
use Rattle.std.specs.Prelude.{ℕ, zero, suc, ◌+◌, Bool, true, cond, List, length, nat_lt, slice_index, slice_index_or, slice_set}
use Rattle.slots.specs.Sizes.{cells}
use Rattle.script.specs.declared.code.Instr.{Instr}
use Rattle.script.specs.Scripts.{no_instr}
use Rattle.script.specs.Meaning.{Act, local, reads, writes, opening_registers, act_of}

pub data Outcome : Type 0 where
  committed failed : Outcome

-- how it ended
pub record End : Type 0 where
  pub outcome : Outcome
  pub registers : List ℕ
  pub image : List ℕ

abbrev pub end : Outcome → List ℕ → List ℕ → End
end o r img = record { outcome = o; registers = r; image = img }

-- where it stands
pub record Place : Type 0 where
  pub position : ℕ
  pub registers : List ℕ
  pub image : List ℕ

abbrev pub place : ℕ → List ℕ → List ℕ → Place
place p r img = record { position = p; registers = r; image = img }

-- the cell that an act accesses, if any, is at most 1,023
unfoldable pub in_range : Act → Bool
in_range (local r n) = true
in_range (reads a c) = nat_lt c cells
in_range (writes c v) = nat_lt c cells

-- the place after an act
unfoldable pub next : Act → Place → Place
next (local r n) p = place (suc p.position + n) r p.image
next (reads a c) p = place (suc p.position) (slice_set p.registers a (slice_index p.image c)) p.image
next (writes c v) p = place (suc p.position) p.registers (slice_set p.image c v)

abbrev pub act_at : List Instr → Place → Act
act_at code p = act_of (slice_index_or code p.position no_instr) p.registers

-- to the end from a place, in n instructions at most; img is the image it began with
unfoldable pub finish : ℕ → List Instr → List ℕ → Place → End
finish zero code img p = end committed p.registers p.image
finish (suc n) code img p =
    cond (nat_lt p.position (length code))
    (cond (in_range (act_at code p)) (finish n code img (next (act_at code p) p)) (end failed p.registers img))
    (end committed p.registers p.image)

-- position 0, opening registers; a position only rises, so there is time for every instruction
unfoldable pub alone : List Instr → ℕ → List ℕ → End
alone code reading img = finish (length code) code img (place 0 (opening_registers reading) img)
