-- A step keeps a sound table: the lengths of its arrays, rule 1, the rules of the seat that steps, and those of every other seat.
use Prim.Native.Nat.{ℕ, ◌<◌}
use mathlib.Core.Path.{sym, subst}
use mathlib.Core.List.{List}
use lib.Dec.{eqb}
use borrow.Author.Tests.{eqb-true, eqb-false}
use Rattle.slots.specs.Sizes.{slots}
use Rattle.slots.proofs.Truth.{split}
use Rattle.seats.specs.declared.table.Table.{Table}
use Rattle.seats.specs.Tables.{seat_at}
use Rattle.rules.specs.Rules.{IsOpen, PhaseRules}
use Rattle.table.specs.Calls.{moved_by}
use Rattle.upkeep.specs.SoundTables.{Stands}
use Rattle.upkeep.proofs.OwnKept.{own_kept}
use Rattle.upkeep.proofs.RuleOne.{rule1_kept}
use Rattle.upkeep.proofs.Others.{others_kept}
use Rattle.upkeep.proofs.Shapes.{shaped_kept}

module _ (own : ℕ → ℕ) (below : (c : ℕ) → own c < slots) (t : Table) (img : List ℕ) (i : ℕ) (st : Stands own t) (o : IsOpen t i) where
  pub move_stands : Stands own (moved_by own t img i).table
  move_stands =
      let u : Table = (moved_by own t img i).table in
      record {
        shaped = shaped_kept own below t img i st o;
        sound = record {
          table = rule1_kept own below t img i st o;
          seats = λ j l. split (eqb j i)
              (λ e. subst (λ (k : ℕ). PhaseRules own u k (seat_at u k).phase) (sym (eqb-true j i e)) (own_kept own below t img i st o))
              (λ e. others_kept own below t img i st o j l (eqb-false j i e));
        };
      }
