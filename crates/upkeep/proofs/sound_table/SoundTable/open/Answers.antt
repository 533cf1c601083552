-- A table that stands passes the test, and an opening leaves one that stands.
use mathlib.Core.Path.{sym, ap, subst}
use Rattle.slots.specs.Owners.{owner_of}
use Rattle.table.specs.Answers.{Opened, said_opened}
use Rattle.upkeep.specs.SoundTables.{Stands}
use Rattle.upkeep.proofs.Calls.{open_stands}
use Rattle.upkeep.proofs.Kept.{owners_kept}
use Rattle.upkeep.proofs.Replies.{stands_test}
use Rattle.upkeep.proofs.sound_table.SoundTable.open.Goals as goal

pub sound_open-requires : goal.sound_open-requires
sound_open-requires c = stands_test owner_of _ c.self.invariant

pub invariant_of-self : goal.invariant_of-self
invariant_of-self c =
    let left = ap (λ (x : Opened). x.table) c.sound_open.ensures in
    subst (Stands owner_of) (sym left) (open_stands owner_of _ owners_kept c.self.invariant c.args.seat _ c.args.frame.now)
