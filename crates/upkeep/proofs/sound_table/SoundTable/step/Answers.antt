-- A table that stands passes the test, and a step leaves one that stands.
use mathlib.Core.Path.{sym, ap, subst}
use Rattle.slots.specs.Owners.{owner_of}
use Rattle.table.specs.Answers.{Stepped, said_stepped}
use Rattle.upkeep.specs.SoundTables.{Stands}
use Rattle.upkeep.proofs.Calls.{step_stands}
use Rattle.upkeep.proofs.Kept.{owners_kept}
use Rattle.upkeep.proofs.Replies.{stands_test}
use Rattle.upkeep.proofs.sound_table.SoundTable.step.Goals as goal

pub sound_step-requires : goal.sound_step-requires
sound_step-requires c = stands_test owner_of _ c.self.invariant

pub invariant_of-self : goal.invariant_of-self
invariant_of-self c =
    let left = ap (λ (x : Stepped). x.table) c.sound_step.ensures.answer in
    subst (Stands owner_of) (sym left) (step_stands owner_of _ owners_kept c.self.invariant c.args.image.now _)
