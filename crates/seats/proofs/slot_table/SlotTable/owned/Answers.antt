-- `SlotTable::owned` folds from the last seat to the first, which is how the definition unites the held sets (`union_folded`).
use Rattle.std.proofs.Common.{rules, ◌≡◌, ◌∙◌, ap, Iter, map, reverse}
use Rattle.slots.specs.declared.set.SlotSet.{SlotSet}
use Rattle.slots.specs.Sets.{union}
use Rattle.seats.specs.SlotTables.{owned}
use Rattle.seats.proofs.Owned.{union_folded}
use Rattle.seats.proofs.slot_table.SlotTable.owned.Goals as goal

pub returns : goal.returns
unfolding owned
returns c =
    let run = c.rfold.ensures.runs in
    let back = c.iter.ensures.runs_back run.0 run.0.seen in
    let here : map (λ r. r.now) run.0.items ≡ reverse c.args.self.now.held =
    back.4 run.2 ∙ ap (λ (s : Iter SlotSet). reverse s.rest.now) run.1 ∙ ap reverse c.iter.ensures.rest in
    run.3 (λ a r. union r.now a) (λ a r b f p. search rules) ∙ union_folded c.args.self.now.held run.0.items here
