-- Rule 1 as the code goes about it. The held sets are taken from the last seat to the first, each against the union of those behind it.
-- The queues are met one after the other, and meeting a list is meeting its entries one by one; a seat is left over after that exactly if
-- it was there and is no entry, whether or not all went well.
use Prim.Native.Nat.{ℕ, ◌+◌, ◌<◌}
use mathlib.Core.Path.{◌≡◌, refl, sym, ap, ◌∙◌}
use mathlib.Core.Bool.{Bool, true, false, not, cond, ◌&&◌, ◌||◌, and-true, and-false, false≢true}
use mathlib.Core.List.{List, [], ◌∷◌, ◌++◌}
use native.Mathlib.Omega.{arith}
use native.Mathlib.Numerals.{add-one}
use lib.Dec.{ltb, eqb}
use Rattle.std.specs.List.{push}
use Rattle.std.proofs.Common.{append_assoc}
use Rattle.std.proofs.lemmas.List.{append-nil}
use borrow.Author.Tests.{lt-ltb, eqb-true, eq-eqb}
use Rattle.slots.specs.Sizes.{slots}
use Rattle.slots.specs.declared.set.SlotSet.{SlotSet}
use Rattle.slots.specs.Sets.{has, none, union, set_of, is_empty}
use Rattle.slots.proofs.Truth.{split, alike, and_i}
use Rattle.slots.proofs.Members.{has_set, has-removing}
use Rattle.seats.specs.declared.slot_table.SlotTable.{SlotTable}
use Rattle.seats.specs.Queues.{seats, entries, is_entry}
use Rattle.seats.specs.SlotTables.{queue_of, union_of, owned}
use Rattle.rule_one.specs.Tests.{Unmet, common, apart, waiters, all_seats, unmet, met, met_all, lengths_test, queues_test, left_over, is_queued}

-- ---- the held sets, from the last one on

-- of the held sets, `rest` are not compared yet: `all` is the union of those behind them, and no two of those have a slot in common
pub record Behind (hs rest : List SlotSet) (all : SlotSet) : Type 0 where
  pub behind : List SlotSet
  pub whole : rest ++ behind ≡ hs
  pub union : all ≡ union_of behind
  pub apart : apart behind ≡ true

pub behind_none : (hs rest : List SlotSet) → rest ≡ hs → Behind hs rest none
unfolding apart union_of
behind_none hs rest e = record { behind = []; whole = append-nil rest ∙ e; union = refl; apart = refl }

fails_in : (front hs : List SlotSet) → apart hs ≡ false → apart (front ++ hs) ≡ false
unfolding apart
fails_in [] hs e = e
fails_in (h ∷ front) hs e = rw (fails_in front hs e) (and-false (is_empty (common h (union_of (front ++ hs)))))

-- a turn takes the last of the rest
module _ (hs rest : List SlotSet) (all : SlotSet) (b : Behind hs rest all) where
  whole_next : (front : List SlotSet) (h : SlotSet) → rest ≡ push front h → front ++ (h ∷ b.behind) ≡ hs
  whole_next front h e = sym (append_assoc front (h ∷ []) b.behind) ∙ ap (λ (xs : List SlotSet). xs ++ b.behind) (sym e) ∙ b.whole

  apart_more : (h : SlotSet) → apart (h ∷ b.behind) ≡ is_empty (common h all)
  unfolding apart
  apart_more h = rw (b.apart, sym b.union) (and-true (is_empty (common h all)))

  pub behind_next : (front : List SlotSet) (h : SlotSet) → rest ≡ push front h → is_empty (common h all) ≡ true → Behind hs front (union h all)
  unfolding union_of
  behind_next front h e k =
      record { behind = h ∷ b.behind; whole = whole_next front h e; union = ap (union h) b.union; apart = apart_more h ∙ k }

  pub behind_fails : (front : List SlotSet) (h : SlotSet) → rest ≡ push front h → is_empty (common h all) ≡ false → apart hs ≡ false
  behind_fails front h e k = ap apart (sym (whole_next front h e)) ∙ fails_in front (h ∷ b.behind) (apart_more h ∙ k)

-- ---- meeting

pub met_append : (xs ys : List ℕ) (u : Unmet) → met_all (xs ++ ys) u ≡ met_all ys (met_all xs u)
unfolding met_all
met_append [] ys u = refl
met_append (x ∷ xs) ys u = met_append xs ys (met x u)

-- ---- the queues of the first k slots, and one more

module _ (t : SlotTable) (u : Unmet) where
  pub waiters_none : met_all (waiters t 0) u ≡ u
  unfolding waiters met_all
  waiters_none = refl

  pub waiters_next : (k : ℕ) → met_all (waiters t (k + 1)) u ≡ met_all (entries (queue_of t k)) (met_all (waiters t k) u)
  unfolding waiters
  waiters_next k = rw add-one (met_append (waiters t k) (entries (queue_of t k)) u)

-- ---- who is left over

left_one : (x i : ℕ) (u : Unmet) → has (met x u).seats i ≡ (has u.seats i && not (eqb x i))
unfolding met
left_one x i u =
    split (has u.seats x)
    (λ e. rw e (has-removing u.seats x i ∙ ap (λ (b : Bool). has u.seats i && not b) turned))
    (λ e. rw e (split (eqb x i)
    (λ q. rw q (sym (ap (has u.seats) (eqb-true x i q)) ∙ e ∙ sym (and-false (has u.seats i))))
    (λ q. rw q (sym (and-true (has u.seats i))))))
  where
    turned : eqb i x ≡ eqb x i
    turned = alike (λ e. eq-eqb x i (sym (eqb-true i x e))) (λ e. eq-eqb i x (sym (eqb-true x i e)))

left : (xs : List ℕ) (i : ℕ) (u : Unmet) → has (met_all xs u).seats i ≡ (has u.seats i && not (is_entry i xs))
unfolding met_all is_entry
left [] i u = sym (and-true (has u.seats i))
left (x ∷ xs) i u =
    left xs i (met x u) ∙ ap (λ (b : Bool). b && not (is_entry i xs)) (left_one x i u) ∙ both (has u.seats i) (eqb x i) (is_entry i xs)
  where
    both : (a b c : Bool) → ((a && not b) && not c) ≡ (a && not (b || c))
    both true true c = refl
    both true false c = refl
    both false b c = refl

-- of the sixteen seats those that wait are gone
queued_is : (t : SlotTable) (i : ℕ) → i < seats → not (has (met_all (waiters t slots) (unmet true all_seats)).seats i) ≡ is_queued t i
unfolding is_queued all_seats
queued_is t i h =
    ap not (left (waiters t slots) i (unmet true all_seats) ∙ ap (λ (b : Bool). b && not (is_entry i (waiters t slots))) there)
    ∙ twice (is_entry i (waiters t slots))
  where
    there : has (set_of (λ i. ltb i seats)) i ≡ true
    there = has_set (λ i. ltb i seats) i ∙ and_i (lt-ltb i slots (omega arith)) (lt-ltb i seats h)

    twice : (b : Bool) → not (not b) ≡ b
    twice true = refl
    twice false = refl

-- ---- what the code has of rule 1 in the end

rest_fine : (a l : Bool) (u : Unmet) → (cond (a && l) u (unmet false none)).fine ≡ (a && (l && u.fine))
rest_fine true true u = refl
rest_fine true false u = refl
rest_fine false l u = refl

rest-seats : (b : Bool) (u : Unmet) → (cond b u (unmet false none)).fine ≡ true → (cond b u (unmet false none)).seats ≡ u.seats
rest-seats true u e = refl
rest-seats false u e = absurd (false≢true e)

pub left_fine : (t : SlotTable) → (left_over t).fine ≡ (apart t.held && queues_test t)
unfolding left_over queues_test
left_fine t = rest_fine (apart t.held) (lengths_test t (owned t)) (met_all (waiters t slots) (unmet true all_seats))

-- a seat that is not left over is queued
pub left_queued : (t : SlotTable) (i : ℕ) → i < seats → (left_over t).fine ≡ true → not (has (left_over t).seats i) ≡ is_queued t i
unfolding left_over
left_queued t i h e =
    ap (λ (S : SlotSet). not (has S i))
    (rest-seats (apart t.held && lengths_test t (owned t)) (met_all (waiters t slots) (unmet true all_seats)) e)
    ∙ queued_is t i h
