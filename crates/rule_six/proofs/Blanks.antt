-- An instruction, a write and a tally are compared with the blank one by `==`, field by field in the order of the declaration; the definition
-- asks the same in an order of its own. The elements of an array are asked as a list, from the first on, and the definition asks each below n:
-- where the list has n elements, one passes if and only if the other does (`each`). So too for a whole script and a whole run by `==`,
-- which no code asks today (`script_is`, `run_is`): an array of n elements is that of n equal ones if and only if each element below n is that one.
use Prim.Native.Nat.{ℕ, zero, suc}
use mathlib.Core.Path.{◌≡◌, refl, sym, ap, ap₂, ◌∙◌}
use mathlib.Core.Bool.{Bool, true, false, ◌&&◌, and-true, and-false}
use mathlib.Core.List.{List, [], ◌∷◌}
use native.Mathlib.Omega.{arith}
use lib.Dec.{eqb}
use lib.ListN.{length, get_or, replicate}
use lib.Pointwise.{pointwise}
use Rattle.std.specs.List.{list_all}
use Rattle.script.specs.declared.code.Instr.{Instr}
use Rattle.script.specs.declared.code.Script.{Script}
use Rattle.script.specs.Scripts.{max_instructions, registers, no_instr}
use Rattle.seats.specs.declared.seat.Write.{Write}
use Rattle.seats.specs.declared.seat.Run.{Run}
use Rattle.seats.specs.declared.seat.Tally.{Tally}
use Rattle.seats.specs.Seats.{no_write}
use Rattle.rule_one.specs.Tests.{all}
use Rattle.rule_one.proofs.Loops.{and_assoc, all_front}
use Rattle.rule_six.specs.Tests.{is_no_instr, is_no_write, is_blank_script, no_registers, no_writes, is_blank_run, is_no_tally}

-- ---- tests in a row, in another order

and_comm : (a b : Bool) → (a && b) ≡ (b && a)
and_comm true b = sym (and-true b)
and_comm false b = sym (and-false b)

same_four : (a b c d : Bool) → (a && (b && (c && d))) ≡ (a && b && c && d)
same_four true b c d = and_assoc b c d
same_four false b c d = refl

last_third : (a b r w c : Bool) → (a && (b && (r && (w && c)))) ≡ (a && b && c && r && w)
last_third true true r w c = and_assoc r w c ∙ and_comm (r && w) c ∙ and_assoc c r w
last_third true false r w c = refl
last_third false b r w c = refl

-- ---- arrays

array_all : {A : Type 0} (E : A → A → Bool) (d : A) (test : A → Bool) → ((x : A) → E x d ≡ test x)
    → (xs : List A) (n : ℕ) → length xs ≡ n → pointwise E xs (replicate n d) ≡ all (λ k. test (get_or xs k d)) n
unfolding all
array_all E d test h [] zero e = refl
array_all E d test h [] (suc n) e = absurd (omega arith)
array_all E d test h (x ∷ xs) zero e = absurd (omega arith)
array_all E d test h (x ∷ xs) (suc n) e =
    rw (h x, array_all E d test h xs n (omega arith)) (sym (all_front (λ k. test (get_or (x ∷ xs) k d)) n))

pub each : {A : Type 0} (test : A → Bool) (d : A) (xs : List A) (n : ℕ) → length xs ≡ n → list_all test xs ≡ all (λ k. test (get_or xs k d)) n
unfolding all
each test d [] zero e = refl
each test d [] (suc n) e = absurd (omega arith)
each test d (x ∷ xs) zero e = absurd (omega arith)
each test d (x ∷ xs) (suc n) e =
    ap (λ (b : Bool). test x && b) (each test d xs n (omega arith)) ∙ sym (all_front (λ k. test (get_or (x ∷ xs) k d)) n)

-- ---- a script, a run, a tally

abbrev same_instr : Instr → Instr → Bool
same_instr x y = eqb x.op y.op && (eqb x.a y.a && (eqb x.b y.b && eqb x.c y.c))

abbrev same_write : Write → Write → Bool
same_write w v = eqb w.cell.0 v.cell.0 && eqb w.value v.value

pub instr_is : (x : Instr) → same_instr x no_instr ≡ is_no_instr x
unfolding is_no_instr
instr_is x = same_four (eqb x.op 0) (eqb x.a 0) (eqb x.b 0) (eqb x.c 0)

pub script_is : (s : Script) → length s.code ≡ max_instructions
    → (pointwise same_instr s.code (replicate max_instructions no_instr) && eqb s.len 0) ≡ is_blank_script s
unfolding is_blank_script
script_is s e =
    and_comm _ (eqb s.len 0) ∙ ap (λ (b : Bool). eqb s.len 0 && b) (array_all same_instr no_instr is_no_instr instr_is s.code max_instructions e)

abbrev same_regs : Run → Bool
same_regs ρ = pointwise eqb ρ.regs (replicate registers 0)

abbrev same_writes : Run → Bool
same_writes ρ = pointwise same_write ρ.writes (replicate max_instructions no_write)

pub run_is : (ρ : Run) → length ρ.regs ≡ registers → length ρ.writes ≡ max_instructions
    → (eqb ρ.reading 0 && (eqb ρ.at 0 && (same_regs ρ && (same_writes ρ && eqb ρ.kept 0)))) ≡ is_blank_run ρ
unfolding is_blank_run no_registers no_writes is_no_write
run_is ρ e f =
    last_third (eqb ρ.reading 0) (eqb ρ.at 0) (same_regs ρ) (same_writes ρ) (eqb ρ.kept 0)
    ∙ ap₂ (λ (r w : Bool). eqb ρ.reading 0 && eqb ρ.at 0 && eqb ρ.kept 0 && r && w)
    (array_all eqb 0 (λ n. eqb n 0) (λ n. refl) ρ.regs registers e)
    (array_all same_write no_write is_no_write (λ w. refl) ρ.writes max_instructions f)

pub tally_is : (y : Tally) → (eqb y.restarts 0 && (eqb y.working 0 && eqb y.slots 0)) ≡ is_no_tally y
unfolding is_no_tally
tally_is y = and_assoc (eqb y.restarts 0) (eqb y.working 0) (eqb y.slots 0)
