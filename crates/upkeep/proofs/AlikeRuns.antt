-- Runs that are alike stay alike after the same act. What a seat sees of a cell depends on its kept writes and on the image, and a write
-- more goes behind those kept, where there is room for it.
use Prim.Native.Nat.{ℕ, ◌+◌, ◌<◌}
use mathlib.Core.Path.{◌≡◌, refl, sym, ap, ap₂, ◌∙◌}
use mathlib.Core.List.{List, [], ◌∷◌, ◌++◌}
use lib.ListN.{length, get_or, set}
use Rattle.slots.specs.Owners.{cell}
use Rattle.script.specs.Meaning.{Act, local, reads, writes}
use Rattle.seats.specs.declared.seat.Run.{Run}
use Rattle.seats.specs.declared.seat.Write.{Write}
use Rattle.runs.specs.Runs.{kept_writes, value_after, seen, keeping, after_act}
use Rattle.runs.proofs.Kept.{kept_keeping}

pub record AlikeRun (ρ σ : Run) : Type 0 where
  pub reading : ρ.reading ≡ σ.reading
  pub position : ρ.at ≡ σ.at
  pub registers : ρ.regs ≡ σ.regs
  pub kept : ρ.kept ≡ σ.kept
  pub writes : kept_writes ρ ≡ kept_writes σ

pub same_run : {ρ σ : Run} → ρ ≡ σ → AlikeRun ρ σ
same_run e =
    record {
      reading = ap (λ (r : Run). r.reading) e;
      position = ap (λ (r : Run). r.at) e;
      registers = ap (λ (r : Run). r.regs) e;
      kept = ap (λ (r : Run). r.kept) e;
      writes = ap kept_writes e;
    }

module _ (ρ σ : Run) (a : AlikeRun ρ σ) where
  seen_alike : (img : List ℕ) (c : ℕ) → seen ρ img c ≡ seen σ img c
  unfolding seen
  seen_alike img c = ap (λ (ws : List Write). value_after ws c (get_or img c 0)) a.writes

  module _ (h : ρ.kept < length ρ.writes) (k : σ.kept < length σ.writes) where
    keeping_alike : (c v : ℕ) → AlikeRun (keeping ρ c v) (keeping σ c v)
    unfolding keeping
    keeping_alike c v =
        record {
          reading = a.reading;
          position = ap (λ (p : ℕ). p + 1) a.position;
          registers = a.registers;
          kept = ap (λ (n : ℕ). n + 1) a.kept;
          writes = kept_keeping ρ c v h
              ∙ ap (λ (ws : List Write). ws ++ (record { cell = cell c; value = v } ∷ [])) a.writes
              ∙ sym (kept_keeping σ c v k);
        }

    pub after_alike : (x : Act) (img : List ℕ) → AlikeRun (after_act x img ρ) (after_act x img σ)
    unfolding after_act kept_writes
    after_alike (local r n) img =
        record {
          reading = a.reading;
          position = ap (λ (p : ℕ). p + 1 + n) a.position;
          registers = refl;
          kept = a.kept;
          writes = a.writes;
        }
    after_alike (reads r c) img =
        record {
          reading = a.reading;
          position = ap (λ (p : ℕ). p + 1) a.position;
          registers = ap₂ (λ (rs : List ℕ) (v : ℕ). set rs r v) a.registers (seen_alike img c);
          kept = a.kept;
          writes = a.writes;
        }
    after_alike (writes c v) img = keeping_alike c v
