-- A legal script goes forward: the position rises with every instruction and never passes the end, since op 8 is the only one that goes
-- further than the next, and its legality says how far. So a run alone of k instructions has time for all of them, and it ends as it
-- would if it were begun one instruction later.
use Rattle.std.proofs.Common.{◌≡◌, ℕ, zero, suc, ◌+◌, ◌<◌, ◌≤◌, Bool, true, false, cond, ltb, List, length, get_or, sym, refl, ◌∙◌, arith, ltb-false, ltb-true, le-ltb, lt-ltb, eq-eqb}
use Rattle.slots.proofs.Truth.{split}
use Rattle.script.specs.declared.code.Instr.{Instr}
use Rattle.script.specs.Scripts.{no_instr}
use Rattle.script.specs.Legal.{legal}
use Rattle.script.specs.Meaning.{Act, is_less, register, act_of}
use Rattle.script.specs.Alone.{Place, committed, failed, end, in_range, next, act_at, finish}
use Rattle.script.proofs.Lawful.{legal_at_lem, skip_fits}
use Rattle.script.proofs.Acts.{by_op}

-- ---- one instruction

module _ (k : ℕ) (x : Instr) (p : Place) (h : p.position < k) (fits : x.op ≡ 8 → p.position + 1 + x.c ≤ k) where
  Rises : Act → Type 0
  Rises a = (p.position < (next a p).position) × ((next a p).position ≤ k)

  skips : (b : Bool) → p.position + 1 + x.c ≤ k → (p.position < suc p.position + cond b x.c 0) × (suc p.position + cond b x.c 0 ≤ k)
  skips true l = (omega arith, omega arith)
  skips false l = (omega arith, omega arith)

  rises : Rises (act_of x p.registers)
  unfolding Rises next
  rises =
      let here : (p.position < suc p.position + 0) × (suc p.position + 0 ≤ k) = (omega arith, omega arith) in
      let one : (p.position < suc p.position) × (suc p.position ≤ k) = (omega arith, omega arith) in
      by_op x p.registers Rises (λ e. here) (λ e. one) (λ e. one) (λ e. one) (λ e. one) (λ e. here) (λ e. here)
      (λ e. skips (is_less (register p.registers x.a) (register p.registers x.b)) (fits e)) here

-- ---- to the end

module _ (code : List Instr) (img : List ℕ) where
  pub finish-end : (n : ℕ) (p : Place) → length code ≤ p.position → finish n code img p ≡ end committed p.registers p.image
  unfolding finish
  finish-end zero p h = refl
  finish-end (suc n) p h = rw (le-ltb p.position (length code) h)

  module _ (n : ℕ) (p : Place) (h : p.position < length code) where
    pub finish_failed : in_range (act_at code p) ≡ false → finish (suc n) code img p ≡ end failed p.registers img
    unfolding finish
    finish_failed e = rw (lt-ltb p.position (length code) h, e)

    pub finish_step : in_range (act_at code p) ≡ true → finish (suc n) code img p ≡ finish n code img (next (act_at code p) p)
    unfolding finish
    finish_step e = rw (lt-ltb p.position (length code) h, e)

  pub finish_out : (n : ℕ) (p : Place) → length code ≤ n → p.position < length code → in_range (act_at code p) ≡ false
      → finish n code img p ≡ end failed p.registers img
  finish_out zero p k h e = absurd (omega arith)
  finish_out (suc n) p k h e = finish_failed n p h e

  module _ (lawful : legal code ≡ true) where
    pub forward : (p : Place) → p.position < length code
        → (p.position < (next (act_at code p) p).position) × ((next (act_at code p) p).position ≤ length code)
    unfolding Rises
    forward p h =
        let x = get_or code p.position no_instr in
        rises (length code) x p h (λ e. skip_fits (length code) p.position x (legal_at_lem code lawful p.position h) (eq-eqb x.op 8 e))

    -- time that is enough is as good as more
    more : (n : ℕ) (p : Place) → length code ≤ p.position + n → finish (suc n) code img p ≡ finish n code img p
    more zero p h = finish-end 1 p (omega arith) ∙ sym (finish-end 0 p (omega arith))
    more (suc n) p h =
        split (ltb p.position (length code))
        (λ b. let l : p.position < length code = ltb-true _ _ b in
        split (in_range (act_at code p))
        (λ e. finish_step (suc n) p l e ∙ more n (next (act_at code p) p) (omega (arith, (forward p l).0)) ∙ sym (finish_step n p l e))
        (λ e. finish_failed (suc n) p l e ∙ sym (finish_failed n p l e)))
        (λ b. finish-end (suc (suc n)) p (ltb-false _ _ b) ∙ sym (finish-end (suc n) p (ltb-false _ _ b)))

    -- with time for all instructions, it ends as it does from the next place
    pub finish-next : (n : ℕ) (p : Place) → length code ≤ n → p.position < length code → in_range (act_at code p) ≡ true
        → finish n code img p ≡ finish n code img (next (act_at code p) p)
    finish-next zero p k h e = absurd (omega arith)
    finish-next (suc n) p k h e = finish_step n p h e ∙ sym (more n (next (act_at code p) p) (omega (arith, (forward p h).0)))
