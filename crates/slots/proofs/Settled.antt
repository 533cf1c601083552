-- A contract that is an equation allows one result: two results that equal the same value are equal. It is so of a result by itself, of a
-- result together with what was lent, and of an answer that is told by what it says, if no two answers say the same.
use mathlib.Core.Path.{◌≡◌, sym, ap₂, ◌∙◌}
use Rattle.slots.specs.Settling.{Settles}

pub equation : {A : Type 0} (value : A) → Settles (λ (x : A). x ≡ value)
unfolding Settles
equation value x y p q = p ∙ sym q

pub equations : {A B : Type 0} (value : A) (left : B) → Settles (λ (r : A × B). (r.0 ≡ value) × (r.1 ≡ left))
unfolding Settles
equations {A} {B} value left x y p q = ap₂ (λ (a : A) (b : B). (a, b)) (p.0 ∙ sym q.0) (p.1 ∙ sym q.1)

pub told : {A B : Type 0} (says : A → B) → ((x y : A) → says x ≡ says y → x ≡ y) → (value : B) → Settles (λ (x : A). says x ≡ value)
unfolding Settles
told says one value x y p q = one x y (p ∙ sym q)
