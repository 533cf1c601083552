-- Sound tables: what every table made by calls is, and a table from elsewhere once it is tested.
use Rattle.std.specs.Prelude.{◌≡◌, ℕ, true, false, Result, MatchResult}
use Rattle.slots.specs.declared.refusals.Refusal.{Refusal}
use Rattle.slots.specs.declared.refusals.Refusal.TheVariants.{TableNotSound}
use Rattle.slots.specs.Owners.{owner_of}
use Rattle.seats.specs.declared.table.Table.{Table}
use Rattle.soundness.specs.Tests.{sound_test}
use Rattle.rules.specs.Rules.{Sound}
use Rattle.rules.proofs.Shaped.{Shaped}

-- its arrays have their lengths, as those of every table of the code, and the six rules hold
pub record Stands (own : ℕ → ℕ) (t : Table) : Type 0 where
  pub shaped : Shaped t
  pub sound : Sound own t

-- it is taken as it is, or refused with 1
abbrev pub Tested : Table → Result Table Refusal → Type 0
Tested t r =
    MatchResult r (λ u. (sound_test owner_of t ≡ true) × (u ≡ t)) (λ e. (sound_test owner_of t ≡ false) × (e ≡ TableNotSound))
