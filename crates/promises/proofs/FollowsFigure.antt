-- The library follows Figure 1: its table and the machine, run over the same calls, stay in the same place. They begin in it, each call keeps
-- it, and what is seen of both is then the same. That the table stands throughout is what makes the tests of a step those of the listing.
use Prim.Native.Nat.{ℕ, ◌<◌}
use mathlib.Core.Path.{◌≡◌, ◌∙◌}
use mathlib.Core.List.{List, [], ◌∷◌}
use lib.ListN.{length}
use Rattle.slots.specs.Sizes.{cells, slots}
use Rattle.upkeep.specs.SoundTables.{Stands}
use Rattle.upkeep.proofs.Stands.{Upkeep}
use Rattle.promises.specs.Histories as histories
use Rattle.promises.specs.Histories.{Call, opening, step, World, saucebell, begin, opened, stepped, history}
use Rattle.promises.specs.Figure1.{Machine, called, after, idle, figure1, Same, FollowsFigure1}
use Rattle.promises.proofs.Reached.{called_length, called_stands}
use Rattle.promises.proofs.FigureAlike.{Alike}
use Rattle.promises.proofs.FollowsStep.{alike_stepped}
use Rattle.promises.proofs.FollowsOpening.{alike_opened, alike_fresh}
use Rattle.promises.proofs.FollowsSeen.{alike_same}

module _ (own : ℕ → ℕ) (below : (c : ℕ) → own c < slots) (up : Upkeep own) where
  alike_called : (w : World) (m : Machine) (c : Call) → Stands own w.table → length w.image ≡ cells → Alike own w.table w.image m
      → Alike own (histories.called (saucebell own) w c).table (histories.called (saucebell own) w c).image (called own m c)
  unfolding histories.called called opened stepped
  alike_called w m (opening i reading f) st n a = alike_opened w.table w.image m a st i reading f
  alike_called w m (step i) st n a = alike_stepped below w.table w.image m a st i n

  same_after : (cs : List Call) (w : World) (m : Machine) → Stands own w.table → length w.image ≡ cells → Alike own w.table w.image m
      → Same (saucebell own) own (histories.after (saucebell own) w cs) (after own m cs)
  unfolding histories.after after
  same_after [] w m st n a = alike_same below w m a st n
  same_after (c ∷ cs) w m st n a =
      same_after cs (histories.called (saucebell own) w c) (called own m c) (called_stands own up w c st) (called_length own w c ∙ n)
      (alike_called w m c st n a)

pub follows_figure1 : (own : ℕ → ℕ) → ((c : ℕ) → own c < slots) → Upkeep own → FollowsFigure1 (saucebell own) own
unfolding FollowsFigure1 history figure1 begin
follows_figure1 own below up = λ img cs n. same_after own below up cs (begin img) (idle img) up.fresh n (alike_fresh own img)
