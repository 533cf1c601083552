-- The slots that some seat holds: a slot is owned if and only if it is in one of the held sets. Both ways go down the list of held sets, of
-- which `owned` is the union; past its end a seat holds nothing, so that what a seat holds is owned whatever the seat's number. What is
-- owned after a change follows from what each seat holds then.
use Prim.Native.Nat.{ℕ, zero, suc, ◌≤◌, ◌<◌}
use mathlib.Core.Path.{◌≡◌, refl, sym, ap, ◌∙◌}
use mathlib.Core.Logic.{⊎_elim}
use mathlib.Core.Bool.{◌||◌, or-false, and-true, and-false}
use mathlib.Core.List.{List, [], ◌∷◌, map}
use native.Mathlib.Omega.{arith}
use lib.Dec.{eqb}
use lib.ListN.{length, get_or, drop, drop_of_length-le}
use lib.Seq.{drop-cons}
use borrow.Author.Tests.{eq-eqb}
use denote.Ref.{Bor}
use Rattle.std.specs.Prelude.{reverse}
use Rattle.std.specs.List.{fold}
use Rattle.std.proofs.lemmas.List.{reverse-append}
use Rattle.std.proofs.lemmas.List.Folds.{fold-map}
use Rattle.std.proofs.lemmas.List.Sums.{fold-append}
use Rattle.slots.specs.Sizes.{slots}
use Rattle.slots.specs.declared.set.SlotSet.{SlotSet}
use Rattle.slots.specs.Sets.{has, none, union}
use Rattle.slots.proofs.Truth.{and_l, and_i, or_l, or_r, or_cases, alike}
use Rattle.slots.proofs.Members.{In, Out, in_not_out, out, has-none, in_union, union_left, union_right}
use Rattle.seats.specs.declared.slot_table.SlotTable.{SlotTable}
use Rattle.seats.specs.Queues.{seats}
use Rattle.seats.specs.SlotTables.{held_by, union_of, owned, taken, joined_by, released}
use Rattle.seats.proofs.Shape.{Whole}
use Rattle.seats.proofs.Hands.{whole_taken, held-taken, whole_released, held-released}

-- ---- the union from seat i on

module _ (t : SlotTable) (i : ℕ) where
  pub union_more : i < length t.held → union_of (drop i t.held) ≡ union (held_by t i) (union_of (drop (suc i) t.held))
  unfolding union_of
  union_more h = ap union_of (drop-cons t.held i none h)

  pub union-end : length t.held ≤ i → union_of (drop i t.held) ≡ none
  unfolding union_of
  union-end h = ap union_of (drop_of_length-le t.held {i = i} h)

-- what folding from the back gives, over the sets and over references to them
union_back : (hs : List SlotSet) → fold (λ (a h : SlotSet). union h a) none (reverse hs) ≡ union_of hs
unfolding union_of
union_back [] = refl
union_back (h ∷ hs) =
    ap (fold (λ (a x : SlotSet). union x a) none) (reverse-append (h ∷ []) hs) ∙ fold-append (λ (a x : SlotSet). union x a) none (reverse hs) (h ∷ [])
    ∙ ap (union h) (union_back hs)

pub union_folded : (hs : List SlotSet) (rs : List (Bor SlotSet)) → map (λ r. r.now) rs ≡ reverse hs
    → fold (λ (a : SlotSet) (r : Bor SlotSet). union r.now a) none rs ≡ union_of hs
union_folded hs rs e =
    sym (fold-map (λ (a h : SlotSet). union h a) (λ (r : Bor SlotSet). r.now) none rs)
    ∙ ap (fold (λ (a h : SlotSet). union h a) none) e ∙ union_back hs

-- ---- in the union, and in one of the sets

in_one : (hs : List SlotSet) (i s : ℕ) → In (get_or hs i none) s → In (union_of hs) s
unfolding union_of
in_one [] i s e = absurd (in_not_out none s e (has-none s))
in_one (h ∷ hs) zero s e = union_left h (union_of hs) s e
in_one (h ∷ hs) (suc i) s e = union_right h (union_of hs) s (in_one hs i s e)

one_in : (hs : List SlotSet) (s : ℕ) → In (union_of hs) s → (i : ℕ) × ((i < length hs) × In (get_or hs i none) s)
unfolding union_of
one_in [] s e = absurd (in_not_out none s e (has-none s))
one_in (h ∷ hs) s e =
    ⊎_elim (λ p. (zero, (omega arith, p))) (λ p. let r = one_in hs s p in (suc r.0, (omega (arith, r.1.0), r.1.1)))
    (in_union h (union_of hs) s e)

module _ (t : SlotTable) (s : ℕ) where
  -- what a seat holds is owned
  pub held-owned : (i : ℕ) → In (held_by t i) s → In (owned t) s
  unfolding owned
  held-owned i e = in_one t.held i s e

  -- of what is owned, a seat that holds it
  pub owner : In (owned t) s → (i : ℕ) × ((i < length t.held) × In (held_by t i) s)
  unfolding owned
  owner e = one_in t.held s e

  -- what is not owned no seat holds, and what no seat holds is not owned
  pub free_out : Out (owned t) s → (i : ℕ) → Out (held_by t i) s
  free_out o i = out (held_by t i) s (λ e. in_not_out (owned t) s (held-owned i e) o)

  pub out_free : ((i : ℕ) → i < length t.held → Out (held_by t i) s) → Out (owned t) s
  out_free h = out (owned t) s (λ e. let r = owner e in in_not_out (held_by t r.0) s r.1.1 (h r.0 r.1.0))

-- ---- after a change

-- a slot that no seat takes or loses
pub owned_same : (t u : SlotTable) (k : ℕ) → Whole t → Whole u → ((j : ℕ) → j < seats → has (held_by u j) k ≡ has (held_by t j) k)
    → has (owned u) k ≡ has (owned t) k
owned_same t u k w v h =
    alike
    (λ e. let r = owner u k e in held-owned t k r.0 (sym (h r.0 (omega (arith, r.1.0, v.held16))) ∙ r.1.1))
    (λ e. let r = owner t k e in held-owned u k r.0 (h r.0 (omega (arith, r.1.0, w.held16)) ∙ r.1.1))

pub owned-taken : (t : SlotTable) (i s : ℕ) → Whole t → i < seats → s < slots → (k : ℕ) → has (owned (taken t i s)) k ≡ (has (owned t) k || eqb k s)
owned-taken t i s w b h k =
    alike
    (λ e. let r = owner (taken t i s) k e in
    ⊎_elim (λ p. or_l (eqb k s) (held-owned t k r.0 p)) (λ p. or_r (has (owned t) k) (and_l (eqb k s) (eqb i r.0) p))
    (or_cases _ _ (sym (held-taken t i s w h r.0 k (omega (arith, r.1.0, (whole_taken t i s w).held16))) ∙ r.1.1)))
    (λ e. ⊎_elim
    (λ p. let r = owner t k p in
    held-owned (taken t i s) k r.0 (held-taken t i s w h r.0 k (omega (arith, r.1.0, w.held16)) ∙ or_l _ r.1.1))
    (λ p. held-owned (taken t i s) k i (held-taken t i s w h i k b ∙ or_r (has (held_by t i) k) (and_i p (eq-eqb i i refl))))
    (or_cases (has (owned t) k) (eqb k s) e))

pub owned-joined : (t : SlotTable) (i s : ℕ) → owned (joined_by t i s) ≡ owned t
unfolding owned joined_by
owned-joined t i s = refl

-- what is not released is owned as before
pub owned-released : (t : SlotTable) (i : ℕ) (R : SlotSet) → Whole t → (k : ℕ) → Out R k → has (owned (released t i R)) k ≡ has (owned t) k
owned-released t i R w k o =
    owned_same t (released t i R) k w (whole_released t i R w)
    (λ j l. held-released t i R w j k l ∙ rw (o, and-false (eqb i j), and-true (has (held_by t j) k)) (or-false (has (held_by t j) k)))
