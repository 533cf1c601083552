-- What a seat wants depends on the owners of the 1,024 cells alone: two owner lists that agree on those are alike. A want names an owner
-- behind the test that the cell is there, so each definition takes the same branch and the same slot.
use Prim.Native.Nat.{ℕ, ◌<◌}
use mathlib.Core.Path.{◌≡◌, refl, ap}
use mathlib.Core.Bool.{cond}
use lib.Dec.{ltb}
use borrow.Author.Tests.{ltb-true}
use Rattle.slots.specs.Sizes.{cells}
use Rattle.slots.specs.Sets.{slot, is_empty, smallest}
use Rattle.slots.proofs.Truth.{split}
use Rattle.script.specs.Meaning.{Act, local, reads, writes}
use Rattle.seats.specs.declared.seat.Seat.{Seat}
use Rattle.course.specs.declared.wants.Want.{Want}
use Rattle.course.specs.declared.wants.Want.TheVariants.{Back, End, Access}
use Rattle.course.specs.Wants.{act_at, want_cell, want_act, want_of}

module _ (own own' : ℕ → ℕ) (h : (c : ℕ) → c < cells → own c ≡ own' c) where
  cell_alike : (c : ℕ) → want_cell own c ≡ want_cell own' c
  unfolding want_cell
  cell_alike c =
      split (ltb c cells) (λ e. rw e (ap (λ (s : ℕ). Access (slot s)) (h c (ltb-true c cells e)))) (λ e. rw e)

  act_alike : (a : Act) → want_act own a ≡ want_act own' a
  unfolding want_act
  act_alike (local r n) = refl
  act_alike (reads a c) = cell_alike c
  act_alike (writes c v) = cell_alike c

  pub want_alike : (z : Seat) → want_of own z ≡ want_of own' z
  unfolding want_of
  want_alike z =
      ap (λ (w : Want). cond (is_empty z.pending) (cond (ltb z.run.at z.script.len) w End) (Back (slot (smallest z.pending))))
      (act_alike (act_at z))
