-- What a restart does to the sets, from the laws of members, sizes and smallest alone. Of the held slots H those above s go and are pending
-- again, with s: what is kept is at most s, s is the smallest pending, and the two sets together hold one slot more.
use Prim.Native.Nat.{ℕ, ◌+◌, ◌≤◌, ◌<◌}
use mathlib.Core.Path.{◌≡◌}
use mathlib.Core.Logic.{⊎_elim}
use native.Mathlib.Omega.{arith}
use Rattle.slots.specs.Sizes.{slots}
use Rattle.slots.specs.Sets.{adding, removing, above, difference, size, smallest}
use Rattle.slots.specs.declared.set.SlotSet.{SlotSet}
use Rattle.slots.proofs.Members.{In, Out, out, in_adding, adding_here, in_removing, in_above, out_above, in_difference}
use Rattle.slots.proofs.Counting.{size-adding, size-difference}
use Rattle.slots.proofs.Least.{smallest_le, smallest_is}

pub restart_smallest : (H : SlotSet) (s : ℕ) → s < slots → smallest (adding (above H s) s) ≡ s
restart_smallest H s h =
    smallest_is (adding (above H s) s) s (adding_here (above H s) s h)
    (λ t e. ⊎_elim (λ a. omega (arith, (in_above H s t a).1)) (λ q. omega arith) (in_adding (above H s) s t e))

pub restart_kept : (H : SlotSet) (s t : ℕ) → In (difference H (above H s)) t → t ≤ s
restart_kept H s t e = let k = in_difference H (above H s) t e in out_above H s t k.0 k.1

pub restart_count : (H : SlotSet) (s : ℕ) → s < slots → size (difference H (above H s)) + size (adding (above H s) s) ≡ size H + 1
restart_count H s h =
    let not-above : Out (above H s) s = out (above H s) s (λ e. omega (arith, (in_above H s s e).1)) in
    omega (arith, size-difference H (above H s) (λ t e. (in_above H s t e).0), size-adding (above H s) s h not-above)

-- pending slots come back smallest first: what is left is above the one that came
pub next_pending : (P : SlotSet) (t : ℕ) → In (removing P (smallest P)) t → smallest P < t
next_pending P t e = let k = in_removing P (smallest P) t e in omega (arith, smallest_le P t k.0, k.1)
