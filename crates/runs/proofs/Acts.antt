-- What the code learns of an act. An access to a cell says all of the act (`spoken` gives it back), and of a local act it says only that it
-- is one; a kind of access is never none nor another kind, so an act of another kind falls away. How many instructions a local act skips is
-- a byte of the instruction, or nothing, so the position can be added to.
use Prim.Native.Nat.{ℕ, ◌<◌}
use mathlib.Core.Path.{◌≡◌, refl, ap, sym, subst}
use mathlib.Core.List.{List, []}
use native.Mathlib.Omega.{arith}
use Rattle.std.specs.Prelude.{Option, Some, None}
use Rattle.slots.specs.declared.Cell.{Cell}
use Rattle.script.specs.declared.act.Access.{Access}
use Rattle.script.specs.declared.act.Access.TheVariants.{Reads, Writes}
use Rattle.script.specs.declared.code.Instr.{Instr}
use Rattle.script.specs.Meaning.{Act, local, reads, writes, register, is_less, act_of, access_of, Local, moved, local_of}
use Rattle.script.proofs.Acts.{by_op}
use Rattle.slots.proofs.Truth.{split}

abbrev spoken : Option Access → Act
spoken None = local [] 0
spoken (Some (Reads r c)) = reads r c.0
spoken (Some (Writes c v)) = writes c.0 v

pub told_local : (a : Act) → access_of a ≡ None → (r : List ℕ) × (n : ℕ) × (a ≡ local r n)
unfolding access_of
told_local (local r n) e = (r, n, refl)
told_local (reads r c) e = let z : ◌≡◌ {A = ℕ} 0 1 = cc in absurd (omega arith)
told_local (writes c v) e = let z : ◌≡◌ {A = ℕ} 0 1 = cc in absurd (omega arith)

pub told_reads : (a : Act) (r : ℕ) (c : Cell) → access_of a ≡ Some (Reads r c) → a ≡ reads r c.0
unfolding access_of
told_reads (local r' n) r c e = let z : ◌≡◌ {A = ℕ} 0 1 = cc in absurd (omega arith)
told_reads (reads r' c') r c e = ap spoken e
told_reads (writes c' v) r c e = let z : ◌≡◌ {A = ℕ} 0 1 = cc in absurd (omega arith)

pub told_writes : (a : Act) (c : Cell) (v : ℕ) → access_of a ≡ Some (Writes c v) → a ≡ writes c.0 v
unfolding access_of
told_writes (local r n) c v e = let z : ◌≡◌ {A = ℕ} 0 1 = cc in absurd (omega arith)
told_writes (reads r c') c v e = let z : ◌≡◌ {A = ℕ} 0 1 = cc in absurd (omega arith)
told_writes (writes c' v') c v e = ap spoken e

pub skips_few : (x : Instr) (r : List ℕ) → x.c < 256 → (local_of r (act_of x r)).skip < 256
unfolding local_of
skips_few x r h =
    by_op x r (λ a. (local_of r a).skip < 256) (λ e. omega arith) (λ e. omega arith) (λ e. omega arith) (λ e. omega arith) (λ e. omega arith)
    (λ e. omega arith) (λ e. omega arith)
    (λ e. split (is_less (register r x.a) (register r x.b)) (λ l. rw l h) (λ l. rw l (omega arith)))
    (omega arith)

-- the same of the code's answer
pub few_skipped : (x : Instr) (r r' : List ℕ) (n : ℕ) → x.c < 256 → moved r' n ≡ local_of r (act_of x r) → n < 256
few_skipped x r r' n h e = subst (λ (l : Local). l.skip < 256) (sym e) (skips_few x r h)
