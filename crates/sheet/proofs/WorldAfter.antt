-- What a line does to the world. How many transactions ended before it changes neither its reply nor the table and the image after it; and
-- it ends one at most.
use Prim.Native.Nat.{ℕ, ◌+◌, ◌≤◌}
use mathlib.Core.Path.{◌≡◌, refl, sym}
use mathlib.Core.List.{List}
use native.Mathlib.Nat.{add-zero, zero-add}
use native.Mathlib.Omega.{arith}
use Rattle.slots.specs.Owners.{owner_of}
use Rattle.seats.specs.declared.table.Table.{Table}
use Rattle.course.specs.Words.{Word}
use Rattle.course.specs.Words as word
use Rattle.table.specs.Calls.{step_call}
use Rattle.sheet.specs.Lines.{Item, opens, steps, bad}
use Rattle.sheet.specs.Listings.{World, endings, opened, stepped, world_after, reply_to}
use Rattle.sheet.specs.Turns.{world}

ends_one : (w : Word) → endings w ≤ 1
unfolding endings
ends_one word.None = omega arith
ends_one word.Got = omega arith
ends_one word.Blocked = omega arith
ends_one word.Queued = omega arith
ends_one word.Committed = omega arith
ends_one word.Ran = omega arith
ends_one word.Failed = omega arith
ends_one word.Restarted = omega arith

-- with e transactions ended
abbrev pub world_at : Table → List ℕ → ℕ → World
world_at t img e = record { table = t; image = img; ended = e }

module _ (t : Table) (img : List ℕ) where
  pub reply_any : (n e : ℕ) (l : Item) → reply_to n (world_at t img e) l ≡ reply_to n (world t img) l
  unfolding reply_to
  reply_any n e (opens i x f) = refl
  reply_any n e (steps i) = refl
  reply_any n e bad = refl

  pub after_any : (e : ℕ) (l : Item) → world_after (world_at t img e) l
      ≡ world_at (world_after (world t img) l).table (world_after (world t img) l).image (e + (world_after (world t img) l).ended)
  unfolding world_after opened stepped
  after_any e (opens i x f) = λ k. world_at (opened (world t img) i x f).table img (sym (add-zero e) k)
  after_any e (steps i) = λ k.
      world_at (stepped (world t img) i).table (stepped (world t img) i).image
      (e + sym (zero-add (endings (step_call owner_of t img i).word)) k)
  after_any e bad = λ k. world_at t img (sym (add-zero e) k)

  pub after_ended : (l : Item) → (world_after (world t img) l).ended ≤ 1
  unfolding world_after opened stepped
  after_ended (opens i x f) = omega arith
  after_ended (steps i) = omega (arith, ends_one (step_call owner_of t img i).word)
  after_ended bad = omega arith
