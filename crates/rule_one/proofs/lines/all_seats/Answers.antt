-- `all_seats` is a number, and antt computes that its digits are the sixteen seats.
use mathlib.Core.Path.{refl}
use Rattle.slots.specs.Sets.{set_of, pack}
use Rattle.rule_one.specs.Tests.{all_seats}
use Rattle.rule_one.proofs.lines.all_seats.Goals as goal

pub returns : goal.returns
unfolding all_seats set_of pack
returns c = refl
