-- A script run ahead. A seat's run and an image are a place of the script run alone: its position, its registers, and the image with its kept
-- writes applied, since alone the writes go to the image at once. An act of the seat is the next place of the run alone, because reading
-- through the kept writes is reading the image with them applied; so running on from the seat's place ends the same after each of its acts.
use Prim.Native.Nat.{ℕ, suc, ◌≤◌, ◌<◌}
use mathlib.Core.Path.{◌≡◌, refl, sym, ap, ◌∙◌}
use mathlib.Core.Bool.{true, false}
use mathlib.Core.List.{List, [], ◌∷◌}
use native.Mathlib.Omega.{arith}
use native.Mathlib.Nat.{le_refl}
use native.Mathlib.Numerals.{add-one}
use lib.ListN.{length, get_or, set}
use borrow.Author.Tests.{ltb-true}
use Rattle.slots.specs.Sizes.{cells}
use Rattle.slots.specs.Owners.{cell}
use Rattle.script.specs.declared.code.Instr.{Instr}
use Rattle.script.specs.Scripts.{no_instr}
use Rattle.script.specs.Legal.{legal}
use Rattle.script.specs.Meaning.{Act, local, reads, writes, act_of}
use Rattle.script.specs.Alone.{Place, place, End, end, committed, failed, in_range, next, finish, alone}
use Rattle.script.proofs.Forward.{finish-end, finish_out, finish-next}
use Rattle.seats.specs.declared.seat.Write.{Write}
use Rattle.seats.specs.declared.seat.Run.{Run}
use Rattle.seats.specs.Seats.{opened_run}
use Rattle.runs.specs.Runs.{kept_writes, written, seen, keeping, after_act}
use Rattle.runs.proofs.Kept.{written_at, written_append, kept_keeping}

-- where a run stands, as a place of the script run alone
unfoldable pub place_of : Run → List ℕ → Place
place_of ρ img = place ρ.at ρ.regs (written (kept_writes ρ) img)

-- how the script ends if nobody else changes the image any more
unfoldable pub ahead : List Instr → Run → List ℕ → End
ahead code ρ img = finish (length code) code img (place_of ρ img)

-- the act of the instruction at the run's position
unfoldable pub act_on : List Instr → Run → Act
act_on code ρ = act_of (get_or code ρ.at no_instr) ρ.regs

pub ahead-start : (code : List Instr) (reading : ℕ) (img : List ℕ) → alone code reading img ≡ ahead code (opened_run reading) img
unfolding alone ahead place_of opened_run kept_writes written
ahead-start code reading img = refl

write_more : (ρ : Run) (img : List ℕ) (c v : ℕ) → ρ.kept < length ρ.writes
    → written (kept_writes (keeping ρ c v)) img ≡ set (written (kept_writes ρ) img) c v
unfolding written
write_more ρ img c v room =
    ap (λ (ws : List Write). written ws img) (kept_keeping ρ c v room)
    ∙ written_append (kept_writes ρ) (record { cell = cell c; value = v } ∷ []) img

-- an act of the seat is the next place
next_place : (a : Act) (ρ : Run) (img : List ℕ) → length img ≡ cells → ρ.kept < length ρ.writes → in_range a ≡ true
    → next a (place_of ρ img) ≡ place_of (after_act a img ρ) img
unfolding next place_of after_act in_range kept_writes seen keeping
next_place (local r n) ρ img size room e = rw (add-one ρ.at) refl
next_place (reads r c) ρ img size room e =
    let W : List ℕ = written (kept_writes ρ) img in
    let h : c < length img = omega (arith, ltb-true c cells e) in
    rw (add-one ρ.at) (ap (λ (v : ℕ). place (suc ρ.at) (set ρ.regs r v) W) (written_at (kept_writes ρ) img c h))
next_place (writes c v) ρ img size room e =
    rw (add-one ρ.at) (ap (place (suc ρ.at) ρ.regs) (sym (write_more ρ img c v room)))

module _ (code : List Instr) (ρ : Run) (img : List ℕ) where
  pub ahead-end : length code ≤ ρ.at → ahead code ρ img ≡ end committed ρ.regs (written (kept_writes ρ) img)
  unfolding ahead place_of
  ahead-end h = finish-end code img (length code) (place_of ρ img) h

  module _ (h : ρ.at < length code) where
    pub ahead_out : in_range (act_on code ρ) ≡ false → ahead code ρ img ≡ end failed ρ.regs img
    unfolding ahead place_of act_on
    ahead_out e = finish_out code img (length code) (place_of ρ img) (le_refl _) h e

    pub ahead-act : legal code ≡ true → length img ≡ cells → ρ.kept < length ρ.writes → in_range (act_on code ρ) ≡ true
        → ahead code ρ img ≡ ahead code (after_act (act_on code ρ) img ρ) img
    unfolding ahead place_of act_on
    ahead-act lawful size room e =
        finish-next code img lawful (length code) (place_of ρ img) (le_refl _) h e
        ∙ ap (finish (length code) code img) (next_place (act_on code ρ) ρ img size room e)
