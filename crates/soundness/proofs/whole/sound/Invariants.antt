-- `sound` asks the slot table, and then every seat. The loop's invariant: the seats before i pass.
use mathlib.Core.Path.{◌≡◌}
use mathlib.Core.Bool.{true}
use Rattle.slots.specs.Owners.{owner_of}
use Rattle.rule_one.specs.Tests.{all}
use Rattle.soundness.specs.Tests.{seat_test}
use Rattle.soundness.proofs.whole.sound.Given as goal

abbrev pub invariant-loop-i : goal.invariant-loop-i
invariant-loop-i l = all (seat_test owner_of l.t) l.i ≡ true
