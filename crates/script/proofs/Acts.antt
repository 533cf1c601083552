-- What an instruction's act is, op by op. The act goes down the table of ops to the op's own line, so with the op known it computes, and
-- what holds on each line holds of the act (`by_op`).
use Rattle.std.proofs.Common.{◌≡◌, ℕ, cond, List, set, eqb-true}
use Rattle.slots.proofs.Truth.{split}
use Rattle.script.specs.Legal.{is_op}
use Rattle.script.specs.declared.code.Instr.{Instr}
use Rattle.script.specs.Scripts.{k16}
use Rattle.script.specs.Meaning.{Act, local, reads, writes, register, plus, minus, is_less, act_of}

module _ (x : Instr) (r : List ℕ) where
  -- with the op known the act computes
  pub op_1 : x.op ≡ 1 → act_of x r ≡ local (set r x.a (k16 x)) 0
  unfolding act_of
  op_1 e = rw e

  pub op_2 : x.op ≡ 2 → act_of x r ≡ reads x.a (k16 x)
  unfolding act_of
  op_2 e = rw e

  pub op_3 : x.op ≡ 3 → act_of x r ≡ writes (k16 x) (register r x.a)
  unfolding act_of
  op_3 e = rw e

  pub op_4 : x.op ≡ 4 → act_of x r ≡ reads x.a (register r x.b)
  unfolding act_of
  op_4 e = rw e

  pub op_5 : x.op ≡ 5 → act_of x r ≡ writes (register r x.b) (register r x.a)
  unfolding act_of
  op_5 e = rw e

  pub op_6 : x.op ≡ 6 → act_of x r ≡ local (set r x.a (plus (register r x.a) (register r x.b))) 0
  unfolding act_of
  op_6 e = rw e

  pub op_7 : x.op ≡ 7 → act_of x r ≡ local (set r x.a (minus (register r x.a) (register r x.b))) 0
  unfolding act_of
  op_7 e = rw e

  pub op_8 : x.op ≡ 8 → act_of x r ≡ local r (cond (is_less (register r x.a) (register r x.b)) x.c 0)
  unfolding act_of
  op_8 e = rw e

  -- what holds on each line of the table holds of the act
  pub by_op : (P : Act → Type 0)
      → (x.op ≡ 1 → P (local (set r x.a (k16 x)) 0))
      → (x.op ≡ 2 → P (reads x.a (k16 x)))
      → (x.op ≡ 3 → P (writes (k16 x) (register r x.a)))
      → (x.op ≡ 4 → P (reads x.a (register r x.b)))
      → (x.op ≡ 5 → P (writes (register r x.b) (register r x.a)))
      → (x.op ≡ 6 → P (local (set r x.a (plus (register r x.a) (register r x.b))) 0))
      → (x.op ≡ 7 → P (local (set r x.a (minus (register r x.a) (register r x.b))) 0))
      → (x.op ≡ 8 → P (local r (cond (is_less (register r x.a) (register r x.b)) x.c 0)))
      → P (local r 0)
      → P (act_of x r)
  unfolding act_of
  by_op P h1 h2 h3 h4 h5 h6 h7 h8 h0 =
      split (is_op x 1) (λ e. rw e (h1 (eqb-true x.op 1 e))) (λ e. rw e
      (split (is_op x 2) (λ e. rw e (h2 (eqb-true x.op 2 e))) (λ e. rw e
      (split (is_op x 3) (λ e. rw e (h3 (eqb-true x.op 3 e))) (λ e. rw e
      (split (is_op x 4) (λ e. rw e (h4 (eqb-true x.op 4 e))) (λ e. rw e
      (split (is_op x 5) (λ e. rw e (h5 (eqb-true x.op 5 e))) (λ e. rw e
      (split (is_op x 6) (λ e. rw e (h6 (eqb-true x.op 6 e))) (λ e. rw e
      (split (is_op x 7) (λ e. rw e (h7 (eqb-true x.op 7 e))) (λ e. rw e
      (split (is_op x 8) (λ e. rw e (h8 (eqb-true x.op 8 e))) (λ e. rw e
      h0)))))))))))))))
