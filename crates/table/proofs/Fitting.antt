-- An open seat of a sound table fits. Its script is legal, so it has at most 64 instructions, and position and kept writes are at most that;
-- it is concerned with at most 64 slots, so it has at most 63 restarts; and both products in the bound of its working count are then at most
-- 4,032.
use Rattle.std.proofs.Common.{◌≡◌, ℕ, ◌+◌, ◌*◌, ◌≤◌, ◌<◌, Bool, true, false, arith}
use mathlib.Core.Bool.{cond, ◌&&◌, false≢true}
use native.Mathlib.Nat.{mul-le-mul}
use lib.Dec.{leb, eqb}
use borrow.Author.Tests.{eqb-true, ltb-true, leb-true}
use Rattle.slots.specs.Sizes.{slots}
use Rattle.slots.specs.declared.set.SlotSet.{SlotSet}
use Rattle.slots.specs.Refusals.{refusal}
use Rattle.slots.specs.Sets.{has, union, size, smallest}
use Rattle.slots.proofs.Counting.{size_le}
use Rattle.slots.proofs.Truth.{and_l, and_r, split}
use Rattle.script.specs.Scripts.{max_instructions}
use Rattle.script.specs.Legal.{script_checks}
use Rattle.seats.specs.declared.seat.Phase.{Phase}
use Rattle.seats.specs.declared.seat.Phase.TheVariants.{Blank, Open, Committed, Failed}
use Rattle.seats.specs.declared.seat.Seat.{Seat}
use Rattle.seats.specs.declared.table.Table.{Table}
use Rattle.seats.specs.Queues.{seats, waits_in}
use Rattle.seats.specs.SlotTables.{held_by, queue_of}
use Rattle.seats.specs.Seats.{is_open, most_restarts, most_working}
use Rattle.seats.specs.Tables.{seat_at}
use Rattle.course.specs.Steps.{Fits}
use Rattle.course.specs.Wants.{want_of, slot_of}
use Rattle.rule_one.specs.Tests.{all, apart, queues_test, is_queued}
use Rattle.soundness.specs.Tests.{kept_test, place_test, pending_test, wait_test, queued_set, restarts_test, working_test, count_test, open_test, phase_test, seat_test, sound_test}
use Rattle.soundness.proofs.Bounds.{placed}
use Rattle.rule_one.proofs.Loops.{three, four, all_at}
use Rattle.rules.proofs.Shaped.{Shaped}

-- ---- rule 5: r restarts, w working, k instructions, at a, p pending, l concerned with

few : (r l : ℕ) → l ≤ slots → restarts_test r l ≡ true → r ≤ most_restarts
unfolding restarts_test
few r l h e = split (eqb r 0) (λ q. omega (arith, eqb-true r 0 q)) (λ q. omega (arith, ltb-true r l (rw q at e)))

one_more : (b : Bool) → cond b 1 0 ≤ 1
one_more true = omega arith
one_more false = omega arith

bounded : (r w k a p l : ℕ) (b : Bool) → r ≤ most_restarts → k ≤ max_instructions → a ≤ max_instructions → l ≤ slots
    → working_test r w k a p l (cond b 1 0) ≡ true → w ≤ most_working
unfolding working_test
bounded r w k a p l b hr hk ha hl e =
    let rk : r * k ≤ 4032 = mul-le-mul hr hk in
    let rl : r * l ≤ 4032 = mul-le-mul hr hl in
    omega (arith, leb-true (w + 2 * p) (r * k + a + l + 2 * (r * l) + cond b 1 0) e, one_more b)

-- ---- rule 2

kept_few : (own : ℕ → ℕ) (z : Seat) (h : SlotSet) → place_test own z h ≡ true → z.run.kept ≤ z.run.at
unfolding place_test
kept_few own z h e =
    let before = eqb (refusal (script_checks z.script)) 0 && leb z.run.at z.script.len in
    let few_kept = leb z.run.kept z.run.at in
    leb-true z.run.kept z.run.at (and_r before few_kept (and_l (before && few_kept) (kept_test own z.run h) e))

-- ---- an open seat that passes its test

counted : (own : ℕ → ℕ) (z : Seat) (h u : SlotSet) → place_test own z h ≡ true
    → count_test z.tally z.script.len z.run.at h z.pending u ≡ true → Fits z
unfolding count_test
counted own z h u e c =
    let concerned = union (union h z.pending) u in
    let l = size concerned in
    let b = has (union h u) (smallest z.pending) in
    let restarts = restarts_test z.tally.restarts l in
    let working = working_test z.tally.restarts z.tally.working z.script.len z.run.at (size z.pending) l (cond b 1 0) in
    let short = placed own z h e in
    let r = few z.tally.restarts l (size_le concerned) (and_l restarts working c) in
    let w = bounded z.tally.restarts z.tally.working z.script.len z.run.at (size z.pending) l b r short.0 short.1 (size_le concerned)
    (and_r restarts working c) in
    record { position = short.1; kept = omega (arith, kept_few own z h e); restarts = r; working = w }

tested : (own : ℕ → ℕ) (p : Phase) (z : Seat) (h : SlotSet) (queued here : Bool) → is_open p ≡ true
    → phase_test own p z h queued here ≡ true → Fits z
unfolding is_open phase_test open_test
tested own Blank z h queued here o e = absurd (false≢true o)
tested own Open z h queued here o e =
    let w = slot_of (want_of own z) in
    let u = queued_set queued w in
    let f = four (place_test own z h) (pending_test z.run h z.pending) (wait_test queued here h w)
    (count_test z.tally z.script.len z.run.at h z.pending u) e in
    counted own z h u f.0 f.1.1.1
tested own Committed z h queued here o e = absurd (false≢true o)
tested own Failed z h queued here o e = absurd (false≢true o)

module _ (own : ℕ → ℕ) (t : Table) (i : ℕ) where
  pub open_fits : sound_test own t ≡ true → i < seats → is_open (seat_at t i).phase ≡ true → Fits (seat_at t i)
  unfolding sound_test seat_test
  open_fits e l o =
      let f = three (apart t.slots.held) (queues_test t.slots) (all (seat_test own t) seats) e in
      let z = seat_at t i in
      tested own z.phase z (held_by t.slots i) (is_queued t.slots i) (waits_in (queue_of t.slots (slot_of (want_of own z))) i) o
      (all_at (seat_test own t) seats f.1.1 i l)

  -- the same, as the crates above cite it
  pub fits : Shaped t → sound_test own t ≡ true → i < seats → is_open (seat_at t i).phase ≡ true → Fits (seat_at t i)
  fits w = open_fits
