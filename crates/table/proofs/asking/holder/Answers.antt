-- The seat that `find` stops at holds the slot and none before it does; where it finds none, none of the sixteen does (`first_is`).
use Rattle.std.proofs.Common.{rules, ◌≡◌, ℕ, ◌≤◌, ◌<◌, Bool, true, false, Option, Some, None, arith}
use borrow.Author.Tests.{ltb-true, ltb-false}
use lib.Dec.{ltb}
use Rattle.std.specs.Option.{MatchOption, IfSome}
use Rattle.std.proofs.lemmas.Iterator.{first_from_Range}
use Rattle.slots.specs.Sets.{has, first}
use Rattle.slots.proofs.Truth.{not_both, split}
use Rattle.slots.proofs.Tally.{first_le, first-before, first_passes}
use Rattle.seats.specs.Queues.{seats}
use Rattle.seats.specs.SlotTables.{held_by}
use Rattle.table.specs.Answers.{said_holder}
use Rattle.table.specs.Calls.{holder_of}
use Rattle.table.proofs.asking.holder.Goals as goal

-- where no number before i passes, and i does if it is below k, i is the first
first_is : (k : ℕ) (p : ℕ → Bool) (i : ℕ) → i ≤ k → ((j : ℕ) → 0 ≤ j → j < i → p j ≡ false) → (i < k → p i ≡ true) → i ≡ first p k
first_is k p i h none here =
    split (ltb (first p k) i)
    (λ e. let l : first p k < i = ltb-true (first p k) i e in
    absurd (not_both (first_passes k p (omega arith)) (none (first p k) (omega arith) l)))
    (λ e.
    let l : i ≤ first p k = ltb-false (first p k) i e in
    split (ltb i k)
    (λ d. let b : i < k = ltb-true i k d in omega (arith, first-before k p i b (here b)))
    (λ d. let b : k ≤ i = ltb-false i k d in omega (arith, first_le k p)))

-- what `find` over the sixteen seats says of its result
abbrev Found : (ℕ → Bool) → Option ℕ → Type 0
Found p r =
    MatchOption r ((k : ℕ) → 0 ≤ k → k < seats → p k ≡ false)
    (λ i. (0 ≤ i) × (i < seats) × (p i ≡ true) × ((k : ℕ) → 0 ≤ k → k < i → p k ≡ false))

found_first : (p : ℕ → Bool) (r : Option ℕ) → Found p r → said_holder r ≡ first p seats
found_first p None h = first_is seats p seats (omega arith) h (λ l. absurd (omega arith))
found_first p (Some i) h = first_is seats p i (omega arith) h.3 (λ l. h.2)

found_seat : (p : ℕ → Bool) (r : Option ℕ) → Found p r → IfSome r (λ i. i < seats)
found_seat p None h = tt
found_seat p (Some i) h = h.1

pub returns : goal.returns
unfolding holder_of
returns c =
    let t = c.args.t.now in
    let p : ℕ → Bool = λ i. has (held_by t i) c.args.s.0 in
    let f : Found p c.find.result =
    first_from_Range _ _ _ c.find.result (λ i. p i ≡ true) (λ i. p i ≡ false) c.find.ensures.ran (λ x q k. search rules) (λ x q k. search rules) in
    record { first = found_first p c.find.result f; seat = found_seat p c.find.result f }
