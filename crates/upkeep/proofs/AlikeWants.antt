-- Seats that are alike want the same. The instruction at a position below the length is one of the script's instructions, so its act is the
-- same; at the length none is asked for. Which case a step is then depends on what is in the held and the owned sets, and on nothing else of
-- them.
use Prim.Native.Nat.{ℕ, ◌<◌}
use mathlib.Core.Path.{◌≡◌, refl, sym, ap, ap₂, ◌∙◌}
use mathlib.Core.Bool.{Bool, true, false, cond}
use mathlib.Core.List.{List}
use native.Mathlib.Omega.{arith}
use lib.Dec.{ltb}
use lib.ListN.{get_or}
use lib.Seq.{get_or-take}
use borrow.Author.Tests.{ltb-true}
use Rattle.slots.specs.declared.set.SlotSet.{SlotSet}
use Rattle.slots.specs.Sets.{slot, has, above, is_empty, smallest}
use Rattle.slots.proofs.Counting.{size_same}
use Rattle.script.specs.declared.code.Instr.{Instr}
use Rattle.script.specs.Scripts.{no_instr, instrs}
use Rattle.script.specs.Meaning.{Act, act_of}
use Rattle.seats.specs.declared.seat.Seat.{Seat}
use Rattle.course.specs.declared.wants.Want.{Want}
use Rattle.course.specs.declared.wants.Want.TheVariants.{Back, End, Nothing, Access, NoCell}
use Rattle.course.specs.Wants.{act_at, want_act, want_of}
use Rattle.course.specs.Cases.{case_for}
use Rattle.upkeep.proofs.AlikeTables.{AlikeSeat}
use Rattle.upkeep.proofs.AlikeSlots.{above_alike}

module _ (own : ℕ → ℕ) where
  -- with p pending, where b says that the seat is not at its end, and x is the act of its instruction
  abbrev wants : SlotSet → Bool → Act → Want
  wants p b x = cond (is_empty p) (cond b (want_act own x) End) (Back (slot (smallest p)))

  -- at the end no act is asked for
  wants_same : (p : SlotSet) (b : Bool) (x y : Act) → (b ≡ true → x ≡ y) → wants p b x ≡ wants p b y
  wants_same p true x y h = ap (wants p true) (h refl)
  wants_same p false x y h = refl

module _ (z y : Seat) (a : AlikeSeat z y) where
  pub act_alike : z.run.at < z.script.len → act_at z ≡ act_at y
  unfolding act_at instrs
  act_alike l =
      let m : y.run.at < y.script.len = omega (arith, a.position, a.len) in
      ap₂ act_of
      (sym (get_or-take z.script.len z.script.code z.run.at no_instr l)
      ∙ ap₂ (λ (xs : List Instr) (n : ℕ). get_or xs n no_instr) a.code a.position
      ∙ get_or-take y.script.len y.script.code y.run.at no_instr m)
      a.registers

  pub want_alike : (own : ℕ → ℕ) → want_of own z ≡ want_of own y
  unfolding want_of
  want_alike own =
      wants_same own z.pending (ltb z.run.at z.script.len) (act_at z) (act_at y)
      (λ e. act_alike (ltb-true z.run.at z.script.len e))
      ∙ ap₂ (λ (p : SlotSet) (b : Bool). wants own p b (act_at y)) a.pending (ap₂ ltb a.position a.len)

-- h and g have the same members, and so have o and n
pub case_alike : (w : Want) (h g o n : SlotSet) (b : Bool) → ((k : ℕ) → has h k ≡ has g k) → ((k : ℕ) → has o k ≡ has n k)
    → case_for w h o b ≡ case_for w g n b
unfolding case_for is_empty
case_alike (Back s) h g o n b e f = rw (e s.0, f s.0)
case_alike End h g o n b e f = refl
case_alike Nothing h g o n b e f = refl
case_alike (Access s) h g o n b e f =
    rw (e s.0, f s.0, size_same (above h s.0) (above g s.0) (above_alike h g e s.0))
case_alike NoCell h g o n b e f = refl
