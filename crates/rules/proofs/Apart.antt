-- No slot is owned twice: the test compares each held set with the union of those behind it, and passes if and only if no two of the sets
-- have a member in common. Both ways go down the list; what is in the union is in one of the sets, and the other way round.
use Prim.Native.Nat.{ℕ, zero, suc, ◌<◌}
use mathlib.Core.Path.{◌≡◌, refl}
use mathlib.Core.Bool.{true}
use mathlib.Core.List.{List, [], ◌∷◌}
use native.Mathlib.Omega.{arith}
use lib.ListN.{length, get_or}
use Rattle.slots.specs.declared.set.SlotSet.{SlotSet}
use Rattle.slots.specs.Sets.{none, is_empty}
use Rattle.slots.proofs.Truth.{and_l, and_r, and_i}
use Rattle.slots.proofs.Members.{In, in_not_out, out, has-none}
use Rattle.slots.proofs.Counting.{empty_out, none_empty}
use Rattle.seats.specs.declared.slot_table.SlotTable.{SlotTable}
use Rattle.seats.specs.SlotTables.{union_of, owned}
use Rattle.seats.proofs.Owned.{held-owned, owner}
use Rattle.rule_one.specs.Tests.{common, apart}
use Rattle.rules.proofs.Both.{in_common, common_in}

-- ---- held sets, as those of a slot table without queues

abbrev holding : List SlotSet → SlotTable
holding hs = record { held = hs; queues = [] }

one_in : (hs : List SlotSet) (i s : ℕ) → In (get_or hs i none) s → In (union_of hs) s
unfolding owned
one_in hs i s e = held-owned (holding hs) s i e

in_one : (hs : List SlotSet) (s : ℕ) → In (union_of hs) s → (i : ℕ) × ((i < length hs) × In (get_or hs i none) s)
unfolding owned
in_one hs s e = owner (holding hs) s e

pub apart_sets : (hs : List SlotSet) → apart hs ≡ true → (i j s : ℕ) → i < j → In (get_or hs i none) s → In (get_or hs j none) s → ⊥
unfolding apart
apart_sets [] e i j s l a b = in_not_out none s a (has-none s)
apart_sets (h ∷ hs) e i zero s l a b = omega arith
apart_sets (h ∷ hs) e zero (suc j) s l a b =
    in_not_out (common h (union_of hs)) s (common_in h (union_of hs) s a (one_in hs j s b))
    (empty_out (common h (union_of hs)) s (and_l (is_empty (common h (union_of hs))) (apart hs) e))
apart_sets (h ∷ hs) e (suc i) (suc j) s l a b =
    apart_sets hs (and_r (is_empty (common h (union_of hs))) (apart hs) e) i j s (omega arith) a b

pub sets_apart : (hs : List SlotSet)
    → ((i j s : ℕ) → i < j → j < length hs → In (get_or hs i none) s → In (get_or hs j none) s → ⊥) → apart hs ≡ true
unfolding apart
sets_apart [] d = refl
sets_apart (h ∷ hs) d =
    and_i
    (none_empty (common h (union_of hs)) (λ s. out (common h (union_of hs)) s (λ e.
    let c = in_common h (union_of hs) s e in
    let r = in_one hs s c.1 in
    d 0 (suc r.0) s (omega arith) (omega (arith, r.1.0)) c.0 r.1.1)))
    (sets_apart hs (λ i j s l k a b. d (suc i) (suc j) s (omega arith) (omega arith) a b))
