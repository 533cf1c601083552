-- The items of the chain are the numbers below 64, each with the queue of that slot; to test them all is to test at each number.
use Rattle.std.proofs.Common.{rules, tests, length, ◌≡◌, ◌∙◌, ◌||◌, ◌&&◌, ℕ, Bool}
use lib.Dec.{leb, eqb}
use Rattle.std.proofs.lemmas.Iterator.{YieldsList-from_slice, YieldsList-from_range, YieldsList-from_zip}
use Rattle.std.proofs.lemmas.Iterator.Search.{all_from_yields_List}
use Rattle.slots.specs.Sizes.{slots}
use Rattle.slots.specs.Sets.{has}
use Rattle.seats.specs.declared.queue.Queue.{Queue}
use Rattle.seats.specs.Queues.{seats}
use Rattle.seats.specs.SlotTables.{no_queue}
use Rattle.rule_one.specs.Tests.{lengths_test}
use Rattle.rule_one.proofs.Loops.{all_numbered}
use Rattle.rule_one.proofs.lines.lengths_sound.Goals as goal

pub returns : goal.returns
unfolding lengths_test
returns c =
    let t = c.args.t.now in
    let test : ℕ → Queue → Bool = λ s q. leb q.len seats && (eqb q.len 0 || has c.args.owned s) in
    let whole : length t.queues ≡ slots = search rules in
    all_from_yields_List (λ p. test p.0 p.1) c.all.new.self _ _ c.all.ensures.ran
    (YieldsList-from_zip (YieldsList-from_range 0 slots slots (cc) (cc)) (YieldsList-from_slice {s = c.zip.result.b} t.queues (search rules)))
    (λ x b q k. search (rules, tests))
    ∙ all_numbered test no_queue t.queues slots whole
