-- 'How far the contracts go': 'that any two results it allows are equal'.
use Rattle.std.specs.Prelude.{◌≡◌}

-- what is allowed is settled: of a call, its result, or its result with what it was lent
unfoldable pub Settles : {A : Type 0} → (A → Type 0) → Type 0
Settles {A} Allowed = (x y : A) → Allowed x → Allowed y → x ≡ y
