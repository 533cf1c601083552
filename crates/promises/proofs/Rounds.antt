-- A round with an open seat in it adds to the total of the working counts. If it did not then no step in it changed the table, and so every
-- open seat was blocked in that one table; but some open seat is not.
use Prim.Native.Nat.{ℕ, ◌<◌}
use mathlib.Core.Path.{◌≡◌, refl, ◌∙◌, subst}
use mathlib.Core.Logic.{◌⊎◌, inl, inr}
use mathlib.Core.Bool.{true, false≢true}
use mathlib.Core.List.{List, [], ◌∷◌}
use native.Mathlib.Omega.{arith}
use lib.Dec.{eqb}
use lib.ListN.{length}
use lib.Seq.{set-get_or}
use borrow.Author.Tests.{eqb-true, eqb-false}
use Rattle.slots.specs.Sizes.{cells}
use Rattle.slots.proofs.Truth.{split, or_cases}
use Rattle.seats.specs.declared.table.Table.{Table}
use Rattle.seats.specs.Queues.{is_entry}
use Rattle.seats.specs.Tables.{no_seat}
use Rattle.course.specs.Cases.{word_of}
use Rattle.course.specs.Steps.{seat_after, slots_after}
use Rattle.rules.specs.Rules.{IsOpen}
use Rattle.table.specs.Calls.{case_of, moved_by}
use Rattle.upkeep.specs.SoundTables.{Stands}
use Rattle.upkeep.proofs.Stands.{Upkeep}
use Rattle.promises.specs.Histories.{step, World, saucebell, works, stepped, called, after}
use Rattle.promises.specs.Demand3.{Round, steps_of}
use Rattle.upkeep.proofs.Replies.{step_any, step_open}
use Rattle.promises.proofs.Reached.{called_length, called_stands}
use Rattle.promises.proofs.Moves.{blocked_case, unblocked}
use Rattle.promises.proofs.Totals.{total, total-moved}

module _ (own : ℕ → ℕ) where
  -- a blocked step changes nothing
  blocked_same : (t : Table) (img : List ℕ) (i : ℕ) → works (word_of (case_of own t i)) ≡ 0 → (moved_by own t img i).table ≡ t
  unfolding moved_by seat_after slots_after
  blocked_same t img i e = rw (blocked_case (case_of own t i) e, set-get_or t.seats i no_seat)

  -- seat i is not open, or its next step is blocked
  abbrev Stuck : Table → ℕ → Type 0
  Stuck t i = IsOpen t i → works (word_of (case_of own t i)) ≡ 0

  -- a step adds to the total, or it changes nothing
  one : (w : World) (i : ℕ) → Stands own w.table → length w.image ≡ cells
      → (((stepped (saucebell own) w i).table ≡ w.table) × Stuck w.table i)
      ⊎ (total w.table.seats < total (stepped (saucebell own) w i).table.seats)
  unfolding stepped
  one w i st n = elim (step_any own w.table w.image i) [
    | inl r ↦ inl (r.table, λ o. absurd (r.number (step_open own w.table w.image i st n o).number))
    | inr g ↦ split (eqb (works (word_of (case_of own w.table i))) 0)
        (λ e. let b = eqb-true _ _ e in inl (g.table ∙ blocked_same w.table w.image i b, λ o. b))
        (λ e. inr (rw g.table (let b : works (word_of (case_of own w.table i)) ≡ 0 → ⊥ = eqb-false _ _ e in
        omega (arith, total-moved own w.table st w.image i g.opens.seat))))
  ]

  module _ (up : Upkeep own) where
    -- the seats of a list, one after the other
    each : (is : List ℕ) (w : World) → Stands own w.table → length w.image ≡ cells
        → (((after (saucebell own) w (steps_of is)).table ≡ w.table) × ((i : ℕ) → is_entry i is ≡ true → Stuck w.table i))
        ⊎ (total w.table.seats < total (after (saucebell own) w (steps_of is)).table.seats)
    unfolding steps_of after called is_entry
    each [] w st n = inl (refl, λ i e. absurd (false≢true e))
    each (j ∷ is) w st n =
        let v = called (saucebell own) w (step j) in
        let rest = each is v (called_stands own up w (step j) st) (called_length own w (step j) ∙ n) in
        elim (one w j st n) [
          | inl k ↦ elim rest [
            | inl u ↦ inl (
              u.0 ∙ k.0,
              λ i e. elim (or_cases (eqb j i) (is_entry i is) e) [
                | inl q ↦ subst (Stuck w.table) (eqb-true j i q) k.1
                | inr q ↦ subst (λ (t : Table). Stuck t i) k.0 (u.1 i q)
              ],
            )
            | inr u ↦ inr (subst (λ (t : Table). total t.seats < total (after (saucebell own) v (steps_of is)).table.seats) k.0 u)
          ]
          | inr k ↦ elim rest [ inl u ↦ inr (rw u.0 k) | inr u ↦ inr (omega arith) ]
        ]

    pub round_adds : (r : List ℕ) → Round r → (w : World) → Stands own w.table → length w.image ≡ cells → (i : ℕ) → IsOpen w.table i
        → total w.table.seats < total (after (saucebell own) w (steps_of r)).table.seats
    round_adds r f w st n i o = elim (each r w st n) [
      | inl u ↦ (let m = unblocked own w.table st i o in absurd (m.2 (u.1 m.0 (f.each m.0 m.1.seat) m.1)))
      | inr u ↦ u
    ]
