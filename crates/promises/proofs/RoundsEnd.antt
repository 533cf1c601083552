-- All seats end within 195,600 rounds. Steps open no seat, so a seat that is open after the rounds was open before each of them, and each
-- added to the total of the working counts; one round more would take it past 195,600, which it never passes.
use Prim.Native.Nat.{ℕ, ◌+◌, ◌≤◌}
use mathlib.Core.Path.{◌≡◌, ap, ◌∙◌, subst}
use mathlib.Core.Logic.{inl, inr}
use mathlib.Core.List.{List, [], ◌∷◌, ◌++◌}
use native.Mathlib.Omega.{arith}
use lib.Dec.{eqb}
use lib.ListN.{length}
use lib.Seq.{get_or-set_other}
use borrow.Author.Tests.{eqb-true, eqb-false}
use Rattle.slots.specs.Sizes.{cells}
use Rattle.slots.proofs.Truth.{split, is_false}
use Rattle.seats.specs.declared.table.Table.{Table}
use Rattle.seats.specs.Tables.{no_seat}
use Rattle.rules.specs.Rules.{IsOpen}
use Rattle.table.specs.Calls.{moved_by}
use Rattle.upkeep.specs.SoundTables.{Stands}
use Rattle.upkeep.proofs.Stands.{Upkeep}
use Rattle.promises.specs.Histories.{World, saucebell, begin, stepped, called, after, history}
use Rattle.promises.specs.Demand3.{Rounds, steps_of, steps_in, most_rounds, AllEnd}
use Rattle.upkeep.proofs.Replies.{open_phase, step_any}
use Rattle.promises.proofs.Reached.{after_append, after_length, after_stands, history_stands}
use Rattle.promises.proofs.Totals.{total, total_most}
use Rattle.promises.proofs.Rounds.{round_adds}

module _ (own : ℕ → ℕ) where
  -- ---- what is open was open before

  same_open : {t u : Table} {j : ℕ} → t ≡ u → IsOpen t j → IsOpen u j
  same_open {j = j} e o = subst (λ (t : Table). IsOpen t j) e o

  step_was_open : (w : World) (i j : ℕ) → IsOpen (stepped (saucebell own) w i).table j → IsOpen w.table j
  unfolding stepped moved_by
  step_was_open w i j o = elim (step_any own w.table w.image i) [
    | inl r ↦ same_open r.table o
    | inr g ↦ split (eqb j i)
        (λ e. rw (eqb-true j i e) g.opens)
        (λ e. let k = same_open g.table o in
        record { seat = o.seat; phase = rw (get_or-set_other w.table.seats i j _ no_seat (eqb-false j i e)) at k.phase })
  ]

  round_was_open : (is : List ℕ) (w : World) (j : ℕ) → IsOpen (after (saucebell own) w (steps_of is)).table j → IsOpen w.table j
  unfolding steps_of after called
  round_was_open [] w j o = o
  round_was_open (i ∷ is) w j o = step_was_open w i j (round_was_open is (stepped (saucebell own) w i) j o)

  module _ (up : Upkeep own) where
    -- ---- each round adds to the total

    grows : (rs : List (List ℕ)) → Rounds rs → (w : World) → Stands own w.table → length w.image ≡ cells → (j : ℕ)
        → IsOpen (after (saucebell own) w (steps_in rs)).table j
        → IsOpen w.table j × (total w.table.seats + length rs ≤ total (after (saucebell own) w (steps_in rs)).table.seats)
    unfolding Rounds steps_in after
    grows [] f w st n j o = (o, omega arith)
    grows (r ∷ rs) f w st n j o =
        let v = after (saucebell own) w (steps_of r) in
        let e : after (saucebell own) w (steps_of r ++ steps_in rs) ≡ after (saucebell own) v (steps_in rs) =
        after_append own (steps_of r) (steps_in rs) w in
        let rest = grows rs f.1 v (after_stands own up (steps_of r) w st) (after_length own (steps_of r) w ∙ n) j (rw e at o) in
        let was : IsOpen w.table j = round_was_open r w j rest.0 in
        (was, rw e (omega (arith, rest.1, round_adds own up r f.0 w st n j was)))

    -- ---- after 195,600 rounds

    none_open : (rs : List (List ℕ)) → Rounds rs → length rs ≡ most_rounds → (w : World) → Stands own w.table → length w.image ≡ cells
        → (j : ℕ) → IsOpen (after (saucebell own) w (steps_in rs)).table j → ⊥
    unfolding Rounds
    none_open [] f m w st n j o = omega arith
    none_open (r ∷ rs) f m w st n j o =
        let v = after (saucebell own) w (steps_in (r ∷ rs)) in
        let sv = after_stands own up (steps_in (r ∷ rs)) w st in
        let more = round_adds own up r f.0 v sv (after_length own (steps_in (r ∷ rs)) w ∙ n) j o in
        let most = total_most own (after (saucebell own) v (steps_of r)).table (after_stands own up (steps_of r) v sv) in
        omega (arith, more, most, (grows (r ∷ rs) f w st n j o).1)

    pub all_end : AllEnd (saucebell own)
    unfolding AllEnd history begin
    all_end img cs rs n f m i l =
        is_false (λ e. none_open rs f m (history (saucebell own) img cs) (history_stands own up img cs) (after_length own cs (begin img) ∙ n) i
        (same_open (ap (λ (v : World). v.table) (after_append own cs (steps_in rs) (begin img))) (record { seat = l; phase = open_phase _ e })))
