-- The answers of four public calls are told by what their contracts say of them: `find`, `Script::check`, `soundness::check` and
-- `SoundTable::try_from`. Each contract gives the answer's number, outright or by the only refusal that there can be, and the value where
-- there is one; no two answers have the same number and the same value (Answers of slots), so any two that the contract allows are equal.
-- It is so whatever the contract equates them with; of `try_from` the contract is taken as it stands. The unit type has one value, of which
-- nothing need be said. The frame that `find` hands out is a part of a lent slice, and stands here for its bytes: where it lies isn't told.
use Rattle.std.specs.Prelude.{◌≡◌, ℕ, Bool, cond, List, Result, Ok, Err, is_ok, IfOk, IfErr}
use mathlib.Core.Path.{refl, sym, ap, ◌∙◌}
use Rattle.slots.specs.declared.refusals.Refusal.{Refusal}
use Rattle.slots.specs.declared.refusals.Refusal.TheVariants.{TableNotSound}
use Rattle.slots.specs.Refusals.{number_of, number_in, value_in}
use Rattle.slots.specs.Owners.{owner_of}
use Rattle.slots.specs.Settling.{Settles}
use Rattle.slots.proofs.Answers.{one_answer}
use Rattle.slots.proofs.Settled.{told}
use Rattle.seats.specs.declared.table.Table.{Table}
use Rattle.soundness.specs.Tests.{sound_test}
use Rattle.upkeep.specs.SoundTables.{Tested}

-- ---- find: the value, where there is one, is the frame, so with the frame in the place of zeros the value is always the frame

framed : {A : Type 0} (g : A) (r : Result A Refusal) → IfOk r (λ f. f ≡ g) → value_in g r ≡ g
framed g (Ok f) h = h
framed g (Err e) h = refl

pub find_settled : (n : ℕ) (g : List ℕ) → Settles (λ (r : Result (List ℕ) Refusal). (number_in r ≡ n) × IfOk r (λ f. f ≡ g))
unfolding Settles
find_settled n g x y p q = one_answer g x y (p.0 ∙ sym q.0) (framed g x p.1 ∙ sym (framed g y q.1))

-- ---- Script::check: there is only the number to tell

pub check_settled : (n : ℕ) → Settles (λ (r : Result (Unit {0}) Refusal). number_in r ≡ n)
check_settled = told number_in (λ x y e. one_answer tt x y e refl)

-- ---- soundness::check: the number is 0 or 1, as the test has it

passed_or_1 : Bool → ℕ
passed_or_1 b = cond b 0 1

tested_number : {A : Type 0} (b : Bool) (r : Result A Refusal) → is_ok r ≡ b → IfErr r (λ e. e ≡ TableNotSound) → number_in r ≡ passed_or_1 b
unfolding passed_or_1
tested_number b (Ok u) s h = ap passed_or_1 s
tested_number b (Err e) s h = ap number_of h ∙ ap passed_or_1 s

pub tested_settled : (b : Bool) → Settles (λ (r : Result (Unit {0}) Refusal). (is_ok r ≡ b) × IfErr r (λ e. e ≡ TableNotSound))
unfolding Settles
tested_settled b x y p q = one_answer tt x y (tested_number b x p.0 p.1 ∙ sym (tested_number b y q.0 q.1)) refl

-- ---- SoundTable::try_from: the same number, and the table that it was handed

taken_number : (t : Table) (r : Result Table Refusal) → Tested t r → number_in r ≡ passed_or_1 (sound_test owner_of t)
unfolding passed_or_1
taken_number t (Ok u) h = sym (ap passed_or_1 h.0)
taken_number t (Err e) h = ap number_of h.1 ∙ sym (ap passed_or_1 h.0)

taken : (t : Table) (r : Result Table Refusal) → Tested t r → value_in t r ≡ t
taken t (Ok u) h = h.1
taken t (Err e) h = refl

pub try_from_settled : (t : Table) → Settles (Tested t)
unfolding Settles
try_from_settled t x y p q = one_answer t x y (taken_number t x p ∙ sym (taken_number t y q)) (taken t x p ∙ sym (taken t y q))
