-- A shelf by the entry at its front, with no count of entries. `entries` gives the same at every count from the number of bytes on, since
-- an entry has bytes: so a shelf is empty, or damaged, or an entry with the shelf of the bytes behind it.
use Prim.Native.Nat.{ℕ, zero, suc, ◌+◌, ◌≤◌, ◌<◌}
use native.Mathlib.Omega.{arith}
use mathlib.Core.Path.{◌≡◌, refl, ap}
use mathlib.Core.Bool.{true, false, cond, ◌&&◌}
use mathlib.Core.List.{List, [], ◌∷◌}
use lib.ListN.{length, get_or, drop, length-drop, length-take}
use lib.Dec.{leb, eqb}
use borrow.Author.Tests.{leb-true, eqb-true, eqb-false, eq-eqb, ne_eqb}
use Rattle.slots.proofs.Truth.{and_l, and_r, is_false, split}
use Rattle.script.specs.Scripts.{head_bytes}
use Rattle.script.specs.Frames.{version}
use Rattle.shelf.specs.Shelves.{Shelf, nothing, damage, entry, number_bytes, entry_number, span, is_whole, frame_in, entries, shelf, is_sound, find}

-- ---- the entry at the front

-- what `is_whole` tests
pub record Whole (s : List ℕ) : Type 0 where
  pub head : number_bytes + head_bytes ≤ length s
  pub known : get_or s 2 0 ≡ version
  pub body : span s ≤ length s

whole : (s : List ℕ) → is_whole s ≡ true → Whole s
unfolding is_whole
whole s w =
    let h = leb (number_bytes + head_bytes) (length s) in
    let k = eqb (get_or s 2 0) version in
    let hk = and_l (h && k) _ w in
    record {
      head = leb-true _ _ (and_l h k hk);
      known = eqb-true _ _ (and_r h k hk);
      body = leb-true _ _ (and_r (h && k) _ w);
    }

span_least : (s : List ℕ) → number_bytes + head_bytes ≤ span s
unfolding span
span_least s = omega arith

-- ---- the shelf, by that entry

enough : (k m : ℕ) (s : List ℕ) → length s ≤ k → length s ≤ m → entries k s ≡ entries m s
unfolding entries
enough zero zero s p q = refl
enough zero (suc m) s p q = rw (eq-eqb (length s) 0 (omega arith))
enough (suc k) zero s p q = rw (eq-eqb (length s) 0 (omega arith))
enough (suc k) (suc m) s p q =
    let t = drop (span s) s in
    ap (λ (r : Shelf). cond (eqb (length s) 0) nothing (cond (is_whole s) (entry (entry_number s) (frame_in s) r) damage))
    (enough k m t (simp length-drop (omega (arith, span_least s))) (simp length-drop (omega (arith, span_least s))))

shelf-end : (s : List ℕ) → length s ≤ 0 → shelf s ≡ nothing
unfolding shelf entries
shelf-end [] h = refl
shelf-end (x ∷ s) h = absurd (omega arith)

shelf_damage : (s : List ℕ) → 0 < length s → is_whole s ≡ false → shelf s ≡ damage
unfolding shelf entries
shelf_damage [] h w = absurd (omega arith)
shelf_damage (x ∷ s) h w = rw (ne_eqb (length (x ∷ s)) 0 (λ q. omega arith), w)

shelf_entry : (s : List ℕ) → is_whole s ≡ true → shelf s ≡ entry (entry_number s) (frame_in s) (shelf (drop (span s) s))
unfolding shelf entries
shelf_entry [] w = absurd (omega (arith, (whole [] w).body, span_least []))
shelf_entry (x ∷ s) w =
    let t = drop (span (x ∷ s)) (x ∷ s) in
    let short : length t ≤ length s = simp length-drop (omega (arith, span_least (x ∷ s))) in
    rw (ne_eqb (length (x ∷ s)) 0 (λ q. omega arith), w)
    (ap (entry (entry_number (x ∷ s)) (frame_in (x ∷ s))) (enough (length s) (length t) t short (omega arith)))

-- ---- a turn of the loops over the bytes s that are left

module _ (s : List ℕ) where
  pub sound_end : length s ≤ 0 → is_sound (shelf s) ≡ true
  unfolding is_sound
  sound_end h = rw (shelf-end s h)

  module _ (n : ℕ) where
    find_end : length s ≤ 0 → find n (shelf s) ≡ []
    unfolding find
    find_end h = rw (shelf-end s h)

  -- no entry at the front
  module _ (none : is_whole s ≡ true → ⊥) where
    pub sound_damage : 0 < length s → is_sound (shelf s) ≡ false
    unfolding is_sound
    sound_damage h = rw (shelf_damage s h (is_false none))

    pub none_found : (n : ℕ) → find n (shelf s) ≡ []
    unfolding find
    none_found n =
        split (eqb (length s) 0) (λ e. find_end n (omega (arith, eqb-true (length s) 0 e)))
        (λ e. rw (shelf_damage s (omega (arith, eqb-false (length s) 0 e)) (is_false none)))

  -- an entry at the front
  module _ (first : is_whole s ≡ true) where
    pub sound_behind : is_sound (shelf s) ≡ is_sound (shelf (drop (span s) s))
    unfolding is_sound
    sound_behind = rw (shelf_entry s first)

    pub found : (n : ℕ) → entry_number s ≡ n → find n (shelf s) ≡ frame_in s
    unfolding find
    found n e = rw (shelf_entry s first, eq-eqb (entry_number s) n e)

    pub found_behind : (n : ℕ) → (entry_number s ≡ n → ⊥) → find n (shelf s) ≡ find n (shelf (drop (span s) s))
    unfolding find
    found_behind n h = rw (shelf_entry s first, ne_eqb (entry_number s) n h)

    pub frame_there : 0 < length (frame_in s)
    frame_there = simp (length-take, length-drop) (omega (arith, span_least s, (whole s first).body))

    pub shorter : length (drop (span s) s) < length s
    shorter = simp length-drop (omega (arith, span_least s, (whole s first).body))

pub ruleset turns = (sound_end, sound_damage, sound_behind, none_found, found, found_behind, frame_there, shorter)
