-- Rule 4, of a seat that is queued: the test looks only at the queue of the slot that the seat wants, and says the same as the rule where
-- no seat is in two queues. A seat that is queued then waits for that slot and for no other, so that the set of the slots it is queued for
-- is the set that the test makes of it.
use Prim.Native.Nat.{ℕ, ◌<◌}
use mathlib.Core.Path.{◌≡◌, refl, sym, ap, ◌∙◌, subst}
use mathlib.Core.Bool.{Bool, true, false, not, ◌&&◌, false≢true}
use mathlib.Core.Logic.{⊎_elim}
use native.Mathlib.Omega.{arith}
use lib.Dec.{ltb}
use borrow.Author.Tests.{not-true, ltb-true, ltb-false, lt-ltb}
use Rattle.slots.specs.declared.set.SlotSet.{SlotSet}
use Rattle.slots.specs.Sizes.{slots}
use Rattle.slots.specs.Sets.{has, none, above, is_empty}
use Rattle.slots.proofs.Truth.{and_r, and_i, is_false, not_both, alike, split}
use Rattle.slots.proofs.Members.{In, Proper, in_not_out, same, has_set, set_proper, none_proper, has-none, in_adding, adding_here, adding_proper}
use Rattle.slots.proofs.Least.{above-none, none_above}
use Rattle.seats.specs.declared.slot_table.SlotTable.{SlotTable}
use Rattle.seats.specs.declared.table.Table.{Table}
use Rattle.seats.specs.Queues.{entries, is_entry, waits_in}
use Rattle.seats.specs.SlotTables.{held_by, queue_of}
use Rattle.seats.specs.Tables.{seat_at}
use Rattle.seats.proofs.Shape.{Whole, no_queue_lem}
use Rattle.course.specs.Wants.{want_of, slot_of}
use Rattle.rules.specs.Rules.{Owns, Waits, queued_for, Rule4}
use Rattle.rule_one.specs.Tests.{is_queued}
use Rattle.soundness.specs.Tests.{wait_test, queued_set}
use Rattle.rule_one.proofs.Loops.{three}
use Rattle.rules.proofs.Queued.{waits_queued, queued_waits}

-- a slot that someone waits for is one
pub waits_lt : (t : SlotTable) → Whole t → (i s : ℕ) → waits_in (queue_of t s) i ≡ true → s < slots
unfolding waits_in entries is_entry
waits_lt t w i s e =
    split (ltb s slots) (ltb-true s slots)
    (λ q. absurd (false≢true (rw (no_queue_lem t w s (ltb-false s slots q)) at e)))

-- seat i is in one queue at most
abbrev pub Single : Table → ℕ → Type 0
Single t i = (s u : ℕ) → s < slots → u < slots → Waits t i s → Waits t i u → s ≡ u

module _ (own : ℕ → ℕ) (t : Table) (i : ℕ) where
  abbrev queued : Bool
  queued = is_queued t.slots i

  -- the slot that the seat wants, and whether it waits for it
  abbrev w : ℕ
  w = slot_of (want_of own (seat_at t i))

  abbrev here : Bool
  here = waits_in (queue_of t.slots w) i

  abbrev h : SlotSet
  h = held_by t.slots i

  pub wait_rule : Whole t.slots → Single t i → wait_test queued here h w ≡ true → (s : ℕ) → s < slots → Waits t i s → Rule4 own t i s
  unfolding wait_test
  wait_rule whole single e s l m =
      let f = three here (not (has h w)) (is_empty (above h w)) (rw (waits_queued t.slots i s l m) at e) in
      let q : s ≡ w = single s w l (waits_lt t.slots whole i w f.0) m f.0 in
      let lacks : Owns t i w → ⊥ = λ k. not_both k (not-true (has h w) f.1.0) in
      record {
        wanted = q;
        lacks = λ k. lacks (subst (In h) q k);
        above = λ u k. let n : u ≡ w → ⊥ = λ r. lacks (subst (In h) r k) in omega (arith, none_above h w u f.1.1 k);
      }

  pub rule_wait : ((s : ℕ) → s < slots → Waits t i s → Rule4 own t i s) → wait_test queued here h w ≡ true
  unfolding wait_test
  rule_wait r = split queued (λ e. rw e (rest (queued_waits t.slots i e))) (λ e. rw e)
    where
      rest : (s : ℕ) × ((s < slots) × Waits t i s) → (here && not (has h w) && is_empty (above h w)) ≡ true
      rest m =
          let four = r m.0 m.1.0 m.1.1 in
          let q : m.0 ≡ w = four.wanted in
          and_i (and_i (subst (Waits t i) q m.1.1) (ap not (is_false (λ k. four.lacks (subst (In h) (sym q) k)))))
          (above-none h w (λ u k. omega (arith, four.above u k, q)))

  -- ---- the slots it is queued for

  module _ (wanted : (s : ℕ) → s < slots → Waits t i s → s ≡ w) where
    set_proper_of : (b : Bool) → Proper (queued_set b w)
    unfolding queued_set
    set_proper_of true = adding_proper none w
    set_proper_of false = none_proper

    for_proper : Proper (queued_for t i)
    unfolding queued_for
    for_proper = set_proper (λ s. waits_in (queue_of t.slots s) i)

    in_for : (s : ℕ) → s < slots → Waits t i s → In (queued_for t i) s
    unfolding queued_for
    in_for s l m = has_set (λ s. waits_in (queue_of t.slots s) i) s ∙ and_i (lt-ltb s slots l) m

    for_in : (s : ℕ) → In (queued_for t i) s → Waits t i s
    unfolding queued_for
    for_in s e =
        and_r (ltb s slots) (waits_in (queue_of t.slots s) i) (sym (has_set (λ s. waits_in (queue_of t.slots s) i) s) ∙ e)

    -- the test's set holds the slot wanted if the seat is queued
    in_set : (b : Bool) (s : ℕ) → In (queued_set b w) s → (b ≡ true) × (s ≡ w)
    unfolding queued_set
    in_set true s e = (refl, ⊎_elim (λ k. absurd (in_not_out none s k (has-none s))) (λ q. q) (in_adding none w s e))
    in_set false s e = absurd (in_not_out none s e (has-none s))

    set_in : (b : Bool) → b ≡ true → w < slots → In (queued_set b w) w
    unfolding queued_set
    set_in true e l = adding_here none w l
    set_in false e l = absurd (false≢true e)

    pub queued_same : queued_set queued w ≡ queued_for t i
    queued_same =
        same (queued_set queued w) (queued_for t i) (set_proper_of queued) for_proper
        (λ s l. alike
        (λ e. let k = in_set queued s e in
        let m = queued_waits t.slots i k.0 in
        in_for s l (subst (Waits t i) (wanted m.0 m.1.0 m.1.1 ∙ sym k.1) m.1.1))
        (λ e. let m = for_in s e in
        let q : s ≡ w = wanted s l m in
        subst (In (queued_set queued w)) (sym q) (set_in queued (waits_queued t.slots i s l m) (omega arith))))
