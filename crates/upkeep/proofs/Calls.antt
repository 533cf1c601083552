-- What a call leaves, refused or not: a table that stands where it was given one, and an image of the same length, since a commit only sets
-- cells. A refused call leaves the table as it was, and a granted one is a step or an opening, which keep that it stands.
use Prim.Native.Nat.{ℕ}
use mathlib.Core.Path.{◌≡◌, refl, sym, subst}
use mathlib.Core.Logic.{inl, inr}
use mathlib.Core.List.{List}
use lib.ListN.{length}
use Rattle.seats.specs.declared.seat.Run.{Run}
use Rattle.seats.specs.declared.table.Table.{Table}
use Rattle.seats.specs.Tables.{seat_at}
use Rattle.course.specs.declared.cases.Case.{Case}
use Rattle.course.specs.declared.cases.Case.TheVariants as case
use Rattle.runs.specs.Runs.{kept_writes}
use Rattle.course.specs.Steps.{image_after}
use Rattle.runs.proofs.Kept.{written_length}
use Rattle.table.specs.Calls.{open_call, case_of, image_by, step_call, step_image}
use Rattle.upkeep.specs.SoundTables.{Stands}
use Rattle.upkeep.proofs.Stands.{Upkeep}
use Rattle.upkeep.proofs.Replies.{step_any, open_any}

image_length : (c : Case) (ρ : Run) (img : List ℕ) → length (image_after c ρ img) ≡ length img
unfolding image_after
image_length (case.Got s) ρ img = refl
image_length case.Blocked ρ img = refl
image_length (case.Queued s) ρ img = refl
image_length case.Committed ρ img = written_length (kept_writes ρ) img
image_length case.Ran ρ img = refl
image_length (case.Took s) ρ img = refl
image_length case.Failed ρ img = refl
image_length (case.Restarted s) ρ img = refl

module _ (own : ℕ → ℕ) (t : Table) where
  pub step_length : (img : List ℕ) (i : ℕ) → length (step_image own t img i) ≡ length img
  unfolding image_by
  step_length img i = elim (step_any own t img i)
      [ inl r ↦ rw r.image | inr g ↦ rw g.image (image_length (case_of own t i) (seat_at t i).run img) ]

  module _ (up : Upkeep own) (st : Stands own t) where
    pub step_stands : (img : List ℕ) (i : ℕ) → Stands own (step_call own t img i).table
    step_stands img i = elim (step_any own t img i) [
      | inl r ↦ subst (Stands own) (sym r.table) st
      | inr g ↦ subst (Stands own) (sym g.table) (up.moves t img i st g.opens)
    ]

    pub open_stands : (i reading : ℕ) (f : List ℕ) → Stands own (open_call own t i reading f).table
    open_stands i reading f = elim (open_any own t i reading f) [
      | inl r ↦ subst (Stands own) (sym r.table) st
      | inr g ↦ subst (Stands own) (sym g.table) (up.opens t i reading f st g.seat g.shut g.read)
    ]
