-- Rule 5 as arithmetic, one law for each case of a step, over plain numbers: w steps worked, p slots pending, r restarts, k instructions,
-- position a, l slots concerned, and q. More slots only allow more (`more`), so each law asks only how l can have grown. After a restart
-- 2 × l more is allowed, which pays for all that is pending again; k pays for the position lost, and the slot that is new for the step.
use Prim.Native.Nat.{ℕ, ◌+◌, ◌*◌, ◌≤◌, ◌<◌}
use mathlib.Core.Path.{◌≡◌}
use mathlib.Core.Logic.{◌⊎◌, inl, inr}
use native.Mathlib.Omega.{arith}
use native.Mathlib.Nat.{mul-le-mul, le_refl}
use Rattle.slots.specs.Sizes.{slots}
use Rattle.script.specs.Scripts.{max_instructions}
use Rattle.seats.specs.Seats.{most_restarts, most_working}

abbrev pub Few : ℕ → ℕ → Type 0
Few r l = (r ≡ 0) ⊎ (r < l)

abbrev pub Bound : ℕ → ℕ → ℕ → ℕ → ℕ → ℕ → ℕ → Type 0
Bound w p r k a l q = w + 2 * p ≤ r * k + a + l + 2 * (r * l) + q

pub few_more : {r l m : ℕ} → Few r l → l ≤ m → Few r m
few_more (inl e) h = inl e
few_more (inr e) h = inr (omega arith)

-- a restart more, where there was a slot and there is one more
pub few_restart : (r : ℕ) {l m : ℕ} → Few r l → 0 < l → l < m → Few (r + 1) m
few_restart r (inl e) s h = inr (omega arith)
few_restart r (inr e) s h = inr (omega arith)

more : (r : ℕ) {l m : ℕ} → l ≤ m → r * l ≤ r * m
more r h = mul-le-mul (le_refl r) h

module _ (w p r k a l : ℕ) where
  pub bound_ran : (b m q : ℕ) → Bound w p r k a l 0 → a < b → l ≤ m → Bound (w + 1) p r k b m q
  bound_ran b m q h e g = omega (arith, more r g)

  -- one slot more, or the pending one waited for
  pub bound_queued : (m q : ℕ) → Bound w p r k a l 0 → l ≤ m → l < m + q → Bound (w + 1) p r k a m q
  bound_queued m q h g e = omega (arith, more r g)

  pub bound_got : (o m q n : ℕ) → o + 1 ≡ p → Bound w p r k a l q → q ≤ 1 → l ≤ m → Bound (w + 1) o r k a m n
  bound_got o m q n s h e g = omega (arith, more r g)

  pub bound_restart : (o m q : ℕ) → Bound w p r k a l 0 → a ≤ k → l < m → o ≤ m → Bound (w + 1) o (r + 1) k 0 m q
  bound_restart o m q h e g n =
      let f : l ≤ m = omega arith in
      omega (arith, more r f)

  -- at most 64 instructions and 64 slots
  pub bound_end : Bound w p r k a l 0 → r ≤ most_restarts → a ≤ k → k ≤ max_instructions → l ≤ slots → w + 1 ≤ most_working
  bound_end h f e g n = omega (arith, mul-le-mul f g, mul-le-mul f n)

pub few_end : {r l : ℕ} → Few r l → l ≤ slots → r ≤ most_restarts
few_end (inl e) h = omega arith
few_end (inr e) h = omega arith
