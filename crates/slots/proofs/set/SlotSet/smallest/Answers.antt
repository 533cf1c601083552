-- `SlotSet::smallest` gives the smallest member, or 64. The machine counts the zeros below the lowest 1, and all 64 where there is none.
use mathlib.Core.Path.{ap}
use Rattle.slots.specs.Sets.{slot}
use Rattle.slots.proofs.Machine.{zeros_smallest}
use Rattle.slots.proofs.set.SlotSet.smallest.Goals as goal

pub returns : goal.returns
returns c = ap slot (zeros_smallest _)
