-- Seats met one after the other: all is fine if and only if nobody is met twice and all are among the seats not met yet. Both ways go down
-- the list, a seat that is met being taken out of the set; what was not fine stays so.
use Prim.Native.Nat.{ℕ}
use mathlib.Core.Path.{◌≡◌, refl, sym, ap, ◌∙◌, subst}
use mathlib.Core.Bool.{Bool, true, false}
use mathlib.Core.List.{List, [], ◌∷◌}
use Rattle.slots.specs.declared.set.SlotSet.{SlotSet}
use Rattle.slots.specs.Sets.{has, removing}
use Rattle.slots.proofs.Truth.{is_false, not_both, split}
use Rattle.slots.proofs.Members.{In, Out, in_not_out, in_removing, removing_here, removing_other}
use Rattle.seats.specs.Queues.{is_entry}
use Rattle.rules.specs.Rules.{Distinct}
use Rattle.rule_one.specs.Tests.{Unmet, unmet, met, met_all}
use Rattle.rules.proofs.Entries.{entry_cases, entry_first, entry_later, no_entry}

-- ---- one seat more

fine_after : List ℕ → Unmet → Bool
fine_after xs u = (met_all xs u).fine

module _ (x : ℕ) (O : SlotSet) (fine : Bool) where
  met_hit : In O x → met x (unmet fine O) ≡ unmet fine (removing O x)
  unfolding met
  met_hit i = rw i

  met_miss : Out O x → met x (unmet fine O) ≡ unmet false O
  unfolding met
  met_miss o = rw o

not_fine : (xs : List ℕ) (O : SlotSet) → (met_all xs (unmet false O)).fine ≡ false
unfolding met_all fine_after
not_fine [] O = refl
not_fine (x ∷ xs) O =
    split (has O x) (λ i. ap (fine_after xs) (met_hit x O false i) ∙ not_fine xs (removing O x))
    (λ o. ap (fine_after xs) (met_miss x O false o) ∙ not_fine xs O)

module _ (x : ℕ) (xs : List ℕ) (O : SlotSet) where
  met-first : (met_all (x ∷ xs) (unmet true O)).fine ≡ true → In O x × ((met_all xs (unmet true (removing O x))).fine ≡ true)
  unfolding met_all fine_after
  met-first e =
      split (has O x) (λ i. (i, sym (ap (fine_after xs) (met_hit x O true i)) ∙ e))
      (λ o. absurd (not_both (sym (ap (fine_after xs) (met_miss x O true o)) ∙ e) (not_fine xs O)))

  first-met : In O x → (met_all xs (unmet true (removing O x))).fine ≡ true → (met_all (x ∷ xs) (unmet true O)).fine ≡ true
  unfolding met_all fine_after
  first-met i f = ap (fine_after xs) (met_hit x O true i) ∙ f

-- ---- all seats

pub met_in : (xs : List ℕ) (O : SlotSet) → (met_all xs (unmet true O)).fine ≡ true → (i : ℕ) → is_entry i xs ≡ true → In O i
met_in [] O e i m = no_entry i m
met_in (x ∷ xs) O e i m =
    let f = met-first x xs O e in
    entry_cases i x xs m (λ q. subst (In O) q f.0) (λ k. (in_removing O x i (met_in xs (removing O x) f.1 i k)).0)

pub met_once : (xs : List ℕ) (O : SlotSet) → (met_all xs (unmet true O)).fine ≡ true → Distinct xs
unfolding Distinct
met_once [] O e = tt
met_once (x ∷ xs) O e =
    let f = (met-first x xs O e).1 in
    (is_false (λ m. in_not_out (removing O x) x (met_in xs (removing O x) f x m) (removing_here O x)), met_once xs (removing O x) f)

pub once_met : (xs : List ℕ) (O : SlotSet) → Distinct xs → ((i : ℕ) → is_entry i xs ≡ true → In O i) → (met_all xs (unmet true O)).fine ≡ true
unfolding Distinct met_all
once_met [] O d h = refl
once_met (x ∷ xs) O d h =
    first-met x xs O (h x (entry_first x xs))
    (once_met xs (removing O x) d.1
    (λ i m. removing_other O x i (λ q. not_both (subst (λ (k : ℕ). is_entry k xs ≡ true) q m) d.0) ∙ h i (entry_later i x xs m)))
