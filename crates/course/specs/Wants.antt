-- What a seat wants, which depends on the seat alone: 'One step of an open seat' and rule 4 of 'A sound table' ask the same.
use Rattle.std.specs.Prelude.{ℕ, cond, ltb, get_or, Option, Some, None}
use Rattle.slots.specs.Sizes.{cells, slots}
use Rattle.slots.specs.Sets.{slot, is_empty, smallest}
use Rattle.slots.specs.declared.Slot.{Slot}
use Rattle.script.specs.Scripts.{no_instr}
use Rattle.script.specs.Meaning.{Act, local, reads, writes, act_of}
use Rattle.seats.specs.declared.seat.Seat.{Seat}
use Rattle.course.specs.declared.wants.Want.{Want}
use Rattle.course.specs.declared.wants.Want.TheVariants.{Back, End, Nothing, Access, NoCell}

-- what the instruction at the seat's position does
unfoldable pub act_at : Seat → Act
act_at z = act_of (get_or z.script.code z.run.at no_instr) z.run.regs

module _ (own : ℕ → ℕ) where
  -- D: a cell number above 1,023 ends the transaction; otherwise the owner of the cell is wanted
  unfoldable pub want_cell : ℕ → Want
  want_cell c = cond (ltb c cells) (Access (slot (own c))) NoCell

  unfoldable pub want_act : Act → Want
  want_act (local r n) = Nothing
  want_act (reads a c) = want_cell c
  want_act (writes c v) = want_cell c

  -- A: the smallest pending slot back; B: the end; C: nothing; D: an access
  unfoldable pub want_of : Seat → Want
  want_of z =
      cond (is_empty z.pending)
      (cond (ltb z.run.at z.script.len) (want_act (act_at z)) End)
      (Back (slot (smallest z.pending)))

-- the slot that is wanted, and 64 where none is
unfoldable pub slot_of : Want → ℕ
slot_of (Back s) = s.0
slot_of End = slots
slot_of Nothing = slots
slot_of (Access s) = s.0
slot_of NoCell = slots

-- what each answer about it says
abbrev pub said_slot : Option Slot → ℕ
said_slot None = slots
said_slot (Some s) = s.0

-- the slot that is wanted, if any
unfoldable pub wanted : Want → Option Slot
wanted (Back s) = Some s
wanted End = None
wanted Nothing = None
wanted (Access s) = Some s
wanted NoCell = None
