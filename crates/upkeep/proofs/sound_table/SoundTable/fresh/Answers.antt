-- The fresh table stands.
use mathlib.Core.Path.{sym, subst}
use Rattle.slots.specs.Owners.{owner_of}
use Rattle.upkeep.specs.SoundTables.{Stands}
use Rattle.upkeep.proofs.Kept.{owners_kept}
use Rattle.upkeep.proofs.sound_table.SoundTable.fresh.Goals as goal

pub invariant_of-result : goal.invariant_of-result
invariant_of-result c = subst (Stands owner_of) (sym c.fresh.ensures) owners_kept.fresh
