-- The script reader, by the ways through its code. A frame is one by four tests in a row, so what the first tests say leaves the last. Past
-- refusals 7 and 8, the reader's number is the number of the script that it has made, and where that is 0 the reader hands the script out.
use Rattle.std.proofs.Common.{◌≡◌, ℕ, ◌-◌, ◌*◌, ◌/◌, ◌%◌, ◌<◌, ◌≤◌, Bool, true, false, not, ◌&&◌, eqb, leb, List, length, get_or, take, drop, sym, ap, ◌∙◌, ap₂, arith, length-drop, lt-ltb, ne_eqb, eqb-true, leb-true}
use Rattle.std.proofs.lemmas.Slice.{between_to_end}
use borrow.Author.Tests.{not-false}
use Rattle.std.specs.Prelude.{Result, Ok, Err}
use Rattle.slots.specs.declared.refusals.Refusal.{Refusal}
use Rattle.slots.specs.declared.refusals.Refusal.TheVariants.{NoFrame, TooManyInstrs}
use Rattle.slots.specs.Refusals.{refusal, number_of, number_in, value_in}
use Rattle.slots.proofs.Answers.{no_number, one_answer}
use Rattle.slots.proofs.Truth.{and_l, and_r}
use Rattle.script.specs.declared.code.Script.{Script}
use Rattle.script.specs.Scripts.{max_instructions, head_bytes, instr_bytes, word, script_of, blank_script}
use Rattle.script.specs.Legal.{legal, code_checks, script_checks}
use Rattle.script.specs.Frames.{ReadScript, version, is_frame, decode, body, read_refusal, read_as, said_read, read_script}
use Rattle.slots.proofs.Checks.{applies, passed, none_given}
use Rattle.script.proofs.Scripts.{instrs_script, script_len}
use Rattle.script.proofs.Lawful.{code_ok}
use Rattle.script.proofs.Frames.{body_length}

-- ---- is it a frame

-- the last test, where the first three say a, b and c
pub last_test : (f : List ℕ) {a b c : Bool}
    → leb head_bytes (length f) ≡ a → eqb (get_or f 0 0) version ≡ b → eqb (word (get_or f 1 0) (get_or f 2 0)) (length f - head_bytes) ≡ c
    → (a && b && c && eqb ((length f - head_bytes) % instr_bytes) 0) ≡ is_frame f
unfolding is_frame
last_test f p q r = rw (p, q, r)

-- what all four say
pub record Framed (f : List ℕ) : Type 0 where
  pub long : head_bytes ≤ length f
  pub versioned : get_or f 0 0 ≡ version
  pub says : word (get_or f 1 0) (get_or f 2 0) ≡ length f - head_bytes
  pub fours : (length f - head_bytes) % instr_bytes ≡ 0

four : (a b c d : Bool) → (a && b && c && d) ≡ true → (a ≡ true) × (b ≡ true) × (c ≡ true) × (d ≡ true)
four a b c d e =
    let three = and_l (a && b && c) d e in
    let two = and_l (a && b) c three in
    (and_l a b two, and_r a b two, and_r (a && b) c three, and_r (a && b && c) d e)

pub framed : (f : List ℕ) → is_frame f ≡ true → Framed f
unfolding is_frame
framed f e =
    let t = four (leb head_bytes (length f)) (eqb (get_or f 0 0) version) (eqb (word (get_or f 1 0) (get_or f 2 0)) (length f - head_bytes)) _ e in
    record { long = leb-true _ _ t.0; versioned = eqb-true _ _ t.1; says = eqb-true _ _ t.2; fours = eqb-true _ _ t.3 }

-- ---- the number

-- the slice that the code takes behind the head is the body
abbrev pub rest : List ℕ → List ℕ
rest f = take (length f - head_bytes) (drop head_bytes f)

rest_is_body : (f : List ℕ) → rest f ≡ body f
rest_is_body f = between_to_end f head_bytes (length f) (omega arith)

rest_length : (f : List ℕ) → length (rest f) ≡ length f - head_bytes
rest_length f = ap length (rest_is_body f) ∙ length-drop head_bytes f

module _ (f : List ℕ) where
  read_7 : is_frame f ≡ false → read_refusal f ≡ 7
  unfolding read_refusal
  read_7 e = applies 7 _ (ap not e)

  module _ (e : is_frame f ≡ true) where
    pub past_7 : read_refusal f ≡ refusal (code_checks (length (decode (body f))) (decode (body f)))
    unfolding read_refusal
    past_7 = passed 7 _ (ap not e)

    read_8 : max_instructions < length (rest f) / instr_bytes → read_refusal f ≡ 8
    read_8 h = past_7 ∙ applies 8 _ (lt-ltb max_instructions (length (decode (body f))) (omega (arith, body_length f, rest_length f)))

    pub whole : length (rest f) ≡ instr_bytes * (length (rest f) / instr_bytes)
    whole = omega (arith, rest_length f, (framed f e).fours)

    -- of the script that was made
    pub read_rest : {s : Script} → s ≡ script_of (decode (rest f)) → read_refusal f ≡ refusal (script_checks s)
    read_rest made =
        past_7 ∙ sym (ap₂ (λ k xs. refusal (code_checks k xs)) (script_len (decode (body f))) (instrs_script (decode (body f))))
        ∙ ap (λ (b : List ℕ). refusal (script_checks (script_of (decode b)))) (sym (rest_is_body f))
        ∙ ap (λ (t : Script). refusal (script_checks t)) (sym made)

  pub read_ok : read_refusal f ≡ 0 → Framed f × (length (decode (body f)) ≤ max_instructions) × (legal (decode (body f)) ≡ true)
  unfolding read_refusal
  read_ok e =
      let p = none_given 7 (not (is_frame f)) _ (λ q. omega arith) e in
      let q = code_ok _ _ p.1 in
      (framed f (not-false (is_frame f) p.0), q.0, q.1)

  -- ---- the answer

  pub read_no : (r : Refusal) → read_refusal f ≡ number_of r → said_read (Err r) ≡ read_script f
  unfolding read_script
  read_no r e = rw (e, ne_eqb (number_of r) 0 (no_number r))

  pub read_none : is_frame f ≡ false → said_read (Err NoFrame) ≡ read_script f
  read_none e = read_no NoFrame (read_7 e)

  pub read_long : is_frame f ≡ true → max_instructions < length (rest f) / instr_bytes → said_read (Err TooManyInstrs) ≡ read_script f
  read_long e h = read_no TooManyInstrs (read_8 e h)

  pub read_script_lem : read_refusal f ≡ 0 → read_as 0 (script_of (decode (body f))) ≡ read_script f
  unfolding read_script
  read_script_lem e = rw e

  pub read_yes : {s : Script} → s ≡ script_of (decode (rest f)) → read_refusal f ≡ 0 → said_read (Ok s) ≡ read_script f
  read_yes made e =
      ap (read_as 0) (made ∙ ap (λ (b : List ℕ). script_of (decode b)) (rest_is_body f)) ∙ read_script_lem e

-- what is said tells the answer
pub read_one : (a b : Result Script Refusal) → said_read a ≡ said_read b → a ≡ b
read_one a b e = one_answer blank_script a b (ap (λ (r : ReadScript). r.number) e) (ap (λ (r : ReadScript). r.script) e)
