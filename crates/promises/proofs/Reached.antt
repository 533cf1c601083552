-- Every table reached by calls from a fresh one stands, whatever the image, and so refusal 1 is never given: by induction over the calls,
-- since each leaves a table that stands. The image keeps its length.
use Prim.Native.Nat.{ℕ}
use mathlib.Core.Path.{◌≡◌, refl, ◌∙◌}
use mathlib.Core.List.{List, [], ◌∷◌, ◌++◌}
use lib.ListN.{length}
use Rattle.upkeep.specs.SoundTables.{Stands}
use Rattle.upkeep.proofs.Stands.{Upkeep}
use Rattle.promises.specs.Histories.{Call, opening, step, World, saucebell, begin, opened, stepped, called, after, history}
use Rattle.promises.specs.Demand2.{MadeSound}
use Rattle.upkeep.proofs.Calls.{step_length, step_stands, open_stands}
use Rattle.upkeep.proofs.Replies.{stands_test}

pub after_append : (own : ℕ → ℕ) (cs ds : List Call) (w : World)
    → after (saucebell own) w (cs ++ ds) ≡ after (saucebell own) (after (saucebell own) w cs) ds
unfolding after
after_append own [] ds w = refl
after_append own (c ∷ cs) ds w = after_append own cs ds (called (saucebell own) w c)

module _ (own : ℕ → ℕ) where
  pub called_length : (w : World) (c : Call) → length (called (saucebell own) w c).image ≡ length w.image
  unfolding called opened stepped
  called_length w (opening i reading f) = refl
  called_length w (step i) = step_length own w.table w.image i

  pub after_length : (cs : List Call) (w : World) → length (after (saucebell own) w cs).image ≡ length w.image
  unfolding after
  after_length [] w = refl
  after_length (c ∷ cs) w = after_length cs (called (saucebell own) w c) ∙ called_length w c

  module _ (up : Upkeep own) where
    pub called_stands : (w : World) (c : Call) → Stands own w.table → Stands own (called (saucebell own) w c).table
    unfolding called opened stepped
    called_stands w (opening i reading f) st = open_stands own w.table up st i reading f
    called_stands w (step i) st = step_stands own w.table up st w.image i

    pub after_stands : (cs : List Call) (w : World) → Stands own w.table → Stands own (after (saucebell own) w cs).table
    unfolding after
    after_stands [] w st = st
    after_stands (c ∷ cs) w st = after_stands cs (called (saucebell own) w c) (called_stands w c st)

    pub history_stands : (img : List ℕ) (cs : List Call) → Stands own (history (saucebell own) img cs).table
    unfolding history begin
    history_stands img cs = after_stands cs (begin img) up.fresh

    pub made_sound : MadeSound (saucebell own) own
    unfolding MadeSound
    made_sound img cs = stands_test own _ (history_stands img cs)
