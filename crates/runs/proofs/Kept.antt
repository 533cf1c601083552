-- The kept writes. Each fold over them is by recursion on the list, one write at a time: a write changes its own cell and no other
-- (`cell_set`), so the cell after all of them is the latest write to it, in the image as in what the seat sees. What is kept grows at its
-- end, so a fold over one write more is that fold and then the write.
use Prim.Native.Nat.{ℕ, ◌+◌, ◌<◌}
use mathlib.Core.Path.{◌≡◌, refl, sym, ap, ◌∙◌}
use mathlib.Core.Bool.{Bool, false, cond, ◌||◌}
use mathlib.Core.List.{List, [], ◌∷◌, ◌++◌}
use native.Mathlib.Numerals.{add-one}
use lib.Dec.{eqb}
use lib.ListN.{length, take, get_or, set, length-set}
use lib.Seq.{take-suc, take-suc-set, get_or-set_same, get_or-set_other}
use borrow.Author.Tests.{eqb-true, eqb-false}
use Rattle.slots.specs.Owners.{cell}
use Rattle.slots.proofs.Truth.{split, is_false, or_l, or_r, not_both}
use Rattle.script.specs.Meaning.{Act, local, reads, writes}
use Rattle.seats.specs.declared.seat.Write.{Write}
use Rattle.seats.specs.declared.seat.Run.{Run}
use Rattle.seats.specs.Seats.{no_write}
use Rattle.runs.specs.Runs.{kept_writes, value_after, written, seen, keeping, after_act}

-- ---- one cell of an image

cell_set : (img : List ℕ) (i v c : ℕ) → c < length img → get_or (set img i v) c 0 ≡ cond (eqb i c) v (get_or img c 0)
cell_set img i v c h =
    split (eqb i c)
    (λ q. rw (q, eqb-true i c q) (get_or-set_same img c v 0 h))
    (λ q. rw q (get_or-set_other img i c v 0 (λ e. eqb-false i c q (sym e))))

-- ---- the image with the writes applied

pub written_length : (ws : List Write) (img : List ℕ) → length (written ws img) ≡ length img
unfolding written
written_length [] img = refl
written_length (w ∷ ws) img = written_length ws (set img w.cell.0 w.value) ∙ length-set img w.cell.0 w.value

-- reading through the writes is reading the image with them applied
pub written_at : (ws : List Write) (img : List ℕ) (c : ℕ) → c < length img → get_or (written ws img) c 0 ≡ value_after ws c (get_or img c 0)
unfolding written value_after
written_at [] img c h = refl
written_at (w ∷ ws) img c h =
    written_at ws (set img w.cell.0 w.value) c (rw length-set h)
    ∙ ap (value_after ws c) (cell_set img w.cell.0 w.value c h)

-- ---- a cell that no write names

unfoldable pub writes_to : List Write → ℕ → Bool
writes_to [] c = false
writes_to (w ∷ ws) c = eqb w.cell.0 c || writes_to ws c

-- neither the first write nor a later one names it
not_first : (w : Write) (ws : List Write) (c : ℕ) → writes_to (w ∷ ws) c ≡ false → eqb w.cell.0 c ≡ false
unfolding writes_to
not_first w ws c e = is_false (λ t. not_both (or_l (writes_to ws c) t) e)

not_later : (w : Write) (ws : List Write) (c : ℕ) → writes_to (w ∷ ws) c ≡ false → writes_to ws c ≡ false
unfolding writes_to
not_later w ws c e = is_false (λ t. not_both (or_r (eqb w.cell.0 c) t) e)

pub unwritten_value : (ws : List Write) (c v : ℕ) → writes_to ws c ≡ false → value_after ws c v ≡ v
unfolding value_after
unwritten_value [] c v e = refl
unwritten_value (w ∷ ws) c v e = rw (not_first w ws c e) (unwritten_value ws c v (not_later w ws c e))

pub unwritten : (ws : List Write) (img : List ℕ) (c : ℕ) → writes_to ws c ≡ false → get_or (written ws img) c 0 ≡ get_or img c 0
unfolding written
unwritten [] img c e = refl
unwritten (w ∷ ws) img c e =
    unwritten ws (set img w.cell.0 w.value) c (not_later w ws c e)
    ∙ get_or-set_other img w.cell.0 c w.value 0 (λ q. eqb-false w.cell.0 c (not_first w ws c e) (sym q))

-- ---- one write more

pub value_append : (ws us : List Write) (c v : ℕ) → value_after (ws ++ us) c v ≡ value_after us c (value_after ws c v)
unfolding value_after
value_append [] us c v = refl
value_append (w ∷ ws) us c v = value_append ws us c (cond (eqb w.cell.0 c) w.value v)

pub written_append : (ws us : List Write) (img : List ℕ) → written (ws ++ us) img ≡ written us (written ws img)
unfolding written
written_append [] us img = refl
written_append (w ∷ ws) us img = written_append ws us (set img w.cell.0 w.value)

module _ (ws : List Write) (k : ℕ) (h : k < length ws) where
  take_more : take (k + 1) ws ≡ take k ws ++ (get_or ws k no_write ∷ [])
  take_more = rw add-one (take-suc ws k no_write h)

  pub written_more : (img : List ℕ)
      → written (take (k + 1) ws) img ≡ set (written (take k ws) img) (get_or ws k no_write).cell.0 (get_or ws k no_write).value
  unfolding written
  written_more img = ap (λ (us : List Write). written us img) take_more ∙ written_append (take k ws) (get_or ws k no_write ∷ []) img

pub kept_keeping : (ρ : Run) (c v : ℕ) → ρ.kept < length ρ.writes
    → kept_writes (keeping ρ c v) ≡ kept_writes ρ ++ (record { cell = cell c; value = v } ∷ [])
unfolding kept_writes keeping
kept_keeping ρ c v h = rw add-one (take-suc-set ρ.writes ρ.kept (record { cell = cell c; value = v }) h)

-- ---- what depends on the image, and where

pub seen_same : (ρ : Run) (img img' : List ℕ) (c : ℕ) → get_or img c 0 ≡ get_or img' c 0 → seen ρ img c ≡ seen ρ img' c
unfolding seen
seen_same ρ img img' c e = ap (value_after (kept_writes ρ) c) e

-- an act depends on the image only at the cell that it reads
pub after_same : (a : Act) (img img' : List ℕ) (ρ : Run) → ((r c : ℕ) → a ≡ reads r c → get_or img c 0 ≡ get_or img' c 0)
    → after_act a img ρ ≡ after_act a img' ρ
unfolding after_act
after_same (local r n) img img' ρ h = refl
after_same (reads r c) img img' ρ h = rw (seen_same ρ img img' c (h r c refl))
after_same (writes c v) img img' ρ h = refl
