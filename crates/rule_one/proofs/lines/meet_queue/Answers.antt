-- `meet_queue` meets the entries in their order. One entry more is met after those before it (`met_append`).
use Rattle.std.proofs.Common.{rules, ◌≡◌, [], ◌∷◌, ◌∙◌, subst, refl}
use Rattle.std.proofs.lemmas.Fn.{fold_over, slice_gives, fronts}
use Rattle.rule_one.specs.Tests.{met_all, said_unmet}
use Rattle.rule_one.proofs.Meets.{met_append}
use Rattle.rule_one.proofs.lines.meet_queue.Goals as goal

pub returns : goal.returns
unfolding met_all
returns c =
    subst (λ xs. said_unmet c.fold.result ≡ met_all xs (said_unmet c.args.unmet)) (c.iter.ensures.rest ∙ c.entries.ensures)
    (fold_over fronts (λ y. y.now) _ (λ xs v. said_unmet v ≡ met_all xs (said_unmet c.args.unmet)) _
    (λ xs a x b f' j k. let more = met_append xs (x.now ∷ []) (said_unmet c.args.unmet) in search rules)
    _ _ _ _ (slice_gives c.iter.result) refl c.fold.ensures.ran)
