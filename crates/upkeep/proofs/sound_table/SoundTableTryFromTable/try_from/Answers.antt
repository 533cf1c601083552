-- A table of the code that passes the test stands: the test says that the rules hold, and its arrays have their lengths.
use mathlib.Core.Path.{sym}
use Rattle.slots.specs.Owners.{owner_of}
use Rattle.rules.proofs.Same.{test_rules}
use Rattle.rules.proofs.Shaped.{shaped}
use Rattle.upkeep.proofs.sound_table.SoundTableTryFromTable.try_from.Goals as goal

pub invariant_of-result : goal.invariant_of-result
invariant_of-result c =
    let shape = shaped c.args.table _ c.well_formed.0 in
    record { shaped = shape; sound = test_rules owner_of c.args.table shape (rw c.in_ok-check.was at (sym c.check.ensures.sound)) }
