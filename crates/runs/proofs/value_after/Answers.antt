-- `value_after` goes through the kept writes in their order: the value so far is that after the writes seen. One write more is that value
-- and then the write (`value_append`).
use Rattle.std.proofs.Common.{rules, ◌≡◌, [], ◌∷◌, ◌∙◌, subst, refl}
use Rattle.std.proofs.lemmas.Fn.{fold_over, slice_gives, fronts}
use Rattle.runs.specs.Runs.{kept_writes, value_after}
use Rattle.runs.proofs.Kept.{value_append}
use Rattle.runs.proofs.value_after.Goals as goal

pub returns : goal.returns
unfolding kept_writes value_after
returns c =
    subst (λ ws. c.fold.result ≡ value_after ws c.args.c.0 c.args.v) (c.iter.ensures.rest ∙ c.kept_writes.ensures)
    (fold_over fronts (λ y. y.now) _ (λ ws v. v ≡ value_after ws c.args.c.0 c.args.v) _
    (λ ws a x b f' j k. let more = value_append ws (x.now ∷ []) c.args.c.0 c.args.v in search rules)
    _ _ _ _ (slice_gives c.iter.result) refl c.fold.ensures.ran)
