-- The slots that a seat is concerned with, by their members, and q: it is 0 where nothing is pending, since 64 is in no set, and 1 where the
-- smallest pending slot is waited for. Rule 2 of a seat that keeps its run and holds more is the one it had before.
use Prim.Native.Nat.{ℕ, ◌≤◌}
use mathlib.Core.Path.{◌≡◌, ap, subst}
use mathlib.Core.Logic.{◌⊎◌, inl, inr, ⊎_elim}
use mathlib.Core.Bool.{Bool, true, false, cond}
use native.Mathlib.Omega.{arith}
use Rattle.slots.specs.declared.set.SlotSet.{SlotSet}
use Rattle.slots.specs.Sizes.{slots}
use Rattle.slots.specs.Sets.{has, union, is_empty, size, smallest}
use Rattle.slots.proofs.Members.{In, Out, in_not_out, out, has_high, in_union, union_left, union_right}
use Rattle.slots.proofs.Least.{smallest-none}
use Rattle.script.specs.declared.code.Script.{Script}
use Rattle.seats.specs.declared.seat.Run.{Run}
use Rattle.seats.specs.declared.seat.Tally.{Tally}
use Rattle.upkeep.proofs.OwnNumbers.{Bound}
use Rattle.upkeep.proofs.OwnParts.{Two, Five, concern, awaited}

module _ (P H U : SlotSet) where
  module _ (k : ℕ) where
    pub in_concern : In (concern P H U) k → (In H k ⊎ In P k) ⊎ In U k
    in_concern e = ⊎_elim (λ a. inl (in_union H P k a)) (λ a. inr a) (in_union (union H P) U k e)

    pub concern-held : In H k → In (concern P H U) k
    concern-held e = union_left (union H P) U k (union_left H P k e)

    pub concern_pending : In P k → In (concern P H U) k
    concern_pending e = union_left (union H P) U k (union_right H P k e)

    pub concern_queued : In U k → In (concern P H U) k
    concern_queued e = union_right (union H P) U k e

    pub concern_out : Out H k → Out P k → Out U k → Out (concern P H U) k
    concern_out h p u =
        out (concern P H U) k
        (λ e. ⊎_elim (λ a. ⊎_elim (λ b. in_not_out H k b h) (λ b. in_not_out P k b p) a) (λ a. in_not_out U k a u) (in_concern e))

  -- ---- q

  pub awaited_le : awaited P H U ≤ 1
  awaited_le = go (has (union H U) (smallest P))
    where
      go : (b : Bool) → cond b 1 0 ≤ 1
      go true = omega arith
      go false = omega arith

  pub awaited-none : Out H (smallest P) → Out U (smallest P) → awaited P H U ≡ 0
  awaited-none h u =
      ap (λ (b : Bool). cond b 1 0)
      (out (union H U) (smallest P)
      (λ e. ⊎_elim (λ a. in_not_out H (smallest P) a h) (λ a. in_not_out U (smallest P) a u) (in_union H U (smallest P) e)))

  pub awaited_queued : In U (smallest P) → awaited P H U ≡ 1
  awaited_queued u = ap (λ (b : Bool). cond b 1 0) (union_right H U (smallest P) u)

  pub awaited_calm : is_empty P ≡ true → awaited P H U ≡ 0
  awaited_calm e =
      let m : smallest P ≡ slots = smallest-none P e in
      awaited-none (has_high H (smallest P) (omega arith)) (has_high U (smallest P) (omega arith))

-- ---- rule 5 where q is 0

module _ {k a : ℕ} {y : Tally} {P H U : SlotSet} (r : Five k a y P H U) where
  pub unawaited : awaited P H U ≡ 0 → Bound y.working (size P) y.restarts k a (size (concern P H U)) 0
  unawaited e = subst (Bound y.working (size P) y.restarts k a (size (concern P H U))) e r.working

  pub idle_bound : is_empty P ≡ true → Bound y.working (size P) y.restarts k a (size (concern P H U)) 0
  idle_bound e = unawaited (awaited_calm P H U e)

-- ---- more slots

pub two_more : {own : ℕ → ℕ} {s : Script} {ρ : Run} {H J : SlotSet} → Two own s ρ H → ((k : ℕ) → In H k → In J k) → Two own s ρ J
two_more r h =
    record { position = r.position; legal = r.legal; few = r.few; cell = r.cell; held = λ k l. h _ (r.held k l) }
