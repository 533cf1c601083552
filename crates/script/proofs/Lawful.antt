-- Legal instructions and scripts. `legal_at` has a line for each op, and where the op is known all the other lines compute to false, so
-- what is left is what that line asks. A script is asked from its first instruction on: those from position i on are the one at i and those
-- from i + 1 on, as in the code's chain. Refusals 8 and 9 are not given just where there are few enough and all are legal.
use Rattle.std.proofs.Common.{◌≡◌, ℕ, zero, suc, ◌+◌, ◌<◌, ◌≤◌, Bool, true, not, ◌&&◌, ltb, leb, List, [], ◌∷◌, ◌++◌, length, get_or, drop, sym, refl, ap, ◌∙◌, add-one, arith, drop-cons, ltb-false, le-ltb, eqb-true, leb-true}
use borrow.Author.Tests.{not-false}
use Rattle.std.specs.List.{list_all, enumerate_from}
use Rattle.slots.specs.Refusals.{Check, ◌when◌, refusal}
use Rattle.slots.proofs.Truth.{and_l, and_r}
use Rattle.script.specs.declared.code.Instr.{Instr}
use Rattle.script.specs.Scripts.{max_instructions, instr, no_instr}
use Rattle.script.specs.Legal.{is_register, is_op, legal_at, legal_from, legal, code_checks}
use Rattle.slots.proofs.Checks.{passed, none_given}

-- ---- one instruction

module _ (k i : ℕ) (x : Instr) where
  -- where the op is n, what is asked with n put for it
  of_op : {n : ℕ} → x.op ≡ n → {r : Bool} → legal_at k i (instr n x.a x.b x.c) ≡ r → r ≡ legal_at k i x
  of_op e q = sym (ap (λ (n : ℕ). legal_at k i (instr n x.a x.b x.c)) e ∙ q)

  pub skip_fits : legal_at k i x ≡ true → is_op x 8 ≡ true → i + 1 + x.c ≤ k
  unfolding legal_at
  skip_fits e o =
      let q : (is_register x.a && (is_register x.b && leb (i + 1 + x.c) k)) ≡ legal_at k i x = of_op (eqb-true x.op 8 o) refl in
      leb-true (i + 1 + x.c) k (and_r (is_register x.b) _ (and_r (is_register x.a) _ (q ∙ e)))

-- ---- a script

legal_step : (k i : ℕ) (xs : List Instr) → i < length xs
    → legal_from k i (drop i xs) ≡ (legal_at k i (get_or xs i no_instr) && legal_from k (i + 1) (drop (i + 1) xs))
unfolding legal_from
legal_step k i xs h = ap (legal_from k i) (drop-cons xs i no_instr h) ∙ rw (add-one i)

legal-rest : (xs : List Instr) → legal xs ≡ true → (i : ℕ) → i ≤ length xs → legal_from (length xs) i (drop i xs) ≡ true
unfolding legal
legal-rest xs e zero h = e
legal-rest xs e (suc i) h =
    let r = sym (legal_step (length xs) i xs (omega arith)) ∙ legal-rest xs e i (omega arith) in
    rw add-one at (and_r (legal_at (length xs) i (get_or xs i no_instr)) _ r)

pub legal_at_lem : (xs : List Instr) → legal xs ≡ true → (i : ℕ) → i < length xs → legal_at (length xs) i (get_or xs i no_instr) ≡ true
legal_at_lem xs e i h =
    and_l _ (legal_from (length xs) (i + 1) (drop (i + 1) xs)) (sym (legal_step (length xs) i xs h) ∙ legal-rest xs e i (omega arith))

-- the code's chain over a script: each instruction with its position
pub legal_listed : (k i : ℕ) (xs : List Instr) → list_all (λ (p : ℕ × Instr). legal_at k p.0 p.1) (enumerate_from i xs) ≡ legal_from k i xs
unfolding legal_from
legal_listed k i [] = refl
legal_listed k i (x ∷ xs) = ap (λ (b : Bool). legal_at k i x && b) (rw (add-one i) (legal_listed k (suc i) xs))

-- ---- refusals 8 and 9

module _ (k : ℕ) (xs : List Instr) where
  pub code_free : k ≤ max_instructions → legal xs ≡ true → (ks : List Check) → refusal (code_checks k xs ++ ks) ≡ refusal ks
  code_free h e ks = passed 8 ((9 when not (legal xs)) ∷ ks) (le-ltb max_instructions k h) ∙ passed 9 ks (ap not e)

  pub code_ok : refusal (code_checks k xs) ≡ 0 → (k ≤ max_instructions) × (legal xs ≡ true)
  code_ok e =
      let p = none_given 8 (ltb max_instructions k) _ (λ q. omega arith) e in
      let q = none_given 9 (not (legal xs)) _ (λ q. omega arith) p.1 in
      (ltb-false max_instructions k p.0, not-false (legal xs) q.0)
