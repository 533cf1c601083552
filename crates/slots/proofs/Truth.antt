-- Laws of Booleans. A test is always stated as `b ≡ true` or `b ≡ false`, so each law takes a test that is made of two tests apart, or
-- puts one together, or goes from one of the two statements to the other. All are by the Booleans' cases.
use mathlib.Core.Path.{◌≡◌, refl, sym, ap, ap₂, ◌∙◌}
use mathlib.Core.Logic.{◌⊎◌, inl, inr}
use mathlib.Core.Bool.{Bool, true, false, true≢false, false≢true, ◌&&◌, ◌||◌}

-- ---- both tests, and either

pub and_l : (a b : Bool) → (a && b) ≡ true → a ≡ true
and_l true b e = refl
and_l false b e = e

pub and_r : (a b : Bool) → (a && b) ≡ true → b ≡ true
and_r true b e = e
and_r false b e = absurd (false≢true e)

pub and_i : {a b : Bool} → a ≡ true → b ≡ true → (a && b) ≡ true
and_i p q = ap₂ (λ (x y : Bool). x && y) p q

pub or_l : {a : Bool} (b : Bool) → a ≡ true → (a || b) ≡ true
or_l b p = ap (λ (x : Bool). x || b) p

pub or_r : (a : Bool) {b : Bool} → b ≡ true → (a || b) ≡ true
or_r true q = refl
or_r false q = q

pub or_cases : (a b : Bool) → (a || b) ≡ true → (a ≡ true) ⊎ (b ≡ true)
or_cases true b e = inl refl
or_cases false b e = inr e

-- ---- true or false, and never both

pub is_true : {a : Bool} → (a ≡ false → ⊥) → a ≡ true
is_true {a = true} h = refl
is_true {a = false} h = absurd (h refl)

pub is_false : {a : Bool} → (a ≡ true → ⊥) → a ≡ false
is_false {a = true} h = absurd (h refl)
is_false {a = false} h = refl

pub not_both : {a : Bool} → a ≡ true → a ≡ false → ⊥
not_both p q = true≢false (sym p ∙ q)

-- two tests that pass together are one
pub alike : {a b : Bool} → (a ≡ true → b ≡ true) → (b ≡ true → a ≡ true) → a ≡ b
alike {a = true} f g = sym (f refl)
alike {a = false} f g = sym (is_false (λ q. false≢true (g q)))

-- branch on a test, and keep what it says
pub split {ℓ} : {A : Type ℓ} (b : Bool) → (b ≡ true → A) → (b ≡ false → A) → A
split true f g = f refl
split false f g = g refl
