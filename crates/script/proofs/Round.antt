-- Reading and writing undo each other. The frame of a body's instructions has the body's own bytes, since four bytes are one instruction; and
-- the length that the head has to say fixes the head, since its low byte is below 256. So a frame that is read is the frame of what it is
-- read as, which gives both that it is written back and that it is the only one.
use Rattle.std.proofs.Common.{◌≡◌, ℕ, ◌+◌, ◌-◌, ◌*◌, ◌/◌, ◌%◌, ◌<◌, ◌≤◌, true, List, [], ◌∷◌, ◌++◌, length, take, drop, sym, refl, ap, ◌∙◌, ap₂, arith, take_at, eq-eqb, le-leb}
use Rattle.slots.specs.Refusals.{refusal}
use Rattle.script.specs.declared.code.Instr.{Instr}
use Rattle.script.specs.declared.code.Script.{Script}
use Rattle.script.specs.Scripts.{max_instructions, head_bytes, instr_bytes, word, instrs, script_of}
use Rattle.script.specs.Legal.{legal, script_checks}
use Rattle.script.specs.Frames.{ReadScript, frame_bytes, frame_of, is_frame, decode, body, read_refusal, read_as, read_script, destination}
use Rattle.script.specs.RoundTrips.{Bytes, Whole, ReadThenWritten, WrittenThenRead, OneFrame}
use Rattle.slots.proofs.Checks.{none}
use Rattle.script.proofs.Lawful.{code_free}
use Rattle.script.proofs.Scripts.{length_instrs, instrs_script, script_len}
use Rattle.script.proofs.Frames.{length_decode, encode-decode, length_frame, body_frame, body_length}
use Rattle.script.proofs.Reader.{last_test, Framed, read_ok, past_7, read_script_lem}
use Rattle.script.proofs.Writer.{write_ok, write_0, write_script}

-- ---- a frame is the frame of what is in it

frame_back : (f : List ℕ) → Bytes f → Framed f → frame_of (decode (body f)) ≡ f
unfolding frame_of word Bytes
frame_back [] B F = absurd (omega (arith, F.long))
frame_back (a ∷ []) B F = absurd (omega (arith, F.long))
frame_back (a ∷ b ∷ []) B F = absurd (omega (arith, F.long))
frame_back (a ∷ b ∷ c ∷ rest) B F =
    let low : c < 256 = B 2 in
    let says : b * 256 + c ≡ length rest = omega (arith, F.says) in
    let n : instr_bytes * length (decode rest) ≡ length rest = omega (arith, length_decode rest, F.fours) in
    let high_is : instr_bytes * length (decode rest) / 256 ≡ b = omega arith in
    let low-is : instr_bytes * length (decode rest) % 256 ≡ c = omega arith in
    rw (high_is, low-is, encode-decode rest (omega (arith, F.fours)), F.versioned)

-- what is read of a frame
pub script_read : (f : List ℕ) → read_refusal f ≡ 0 → (read_script f).script ≡ script_of (decode (body f))
script_read f e = ap (λ (r : ReadScript). r.script) (sym (read_script_lem f e))

pub instrs_read : (f : List ℕ) → read_refusal f ≡ 0 → instrs (read_script f).script ≡ decode (body f)
instrs_read f e = ap instrs (script_read f e) ∙ instrs_script (decode (body f))

frame_instrs : (f : List ℕ) → Bytes f → read_refusal f ≡ 0 → frame_of (instrs (read_script f).script) ≡ f
frame_instrs f B e = ap frame_of (instrs_read f e) ∙ frame_back f B (read_ok f e).0

pub read_then_written : ReadThenWritten
unfolding ReadThenWritten
read_then_written f d B e h =
    let o = read_ok f e in
    let F = o.0 in
    let s : Script = (read_script f).script in
    let n : s.len ≡ length (decode (body f)) = ap (λ (t : Script). t.len) (script_read f e) ∙ script_len (decode (body f)) in
    let m : frame_bytes s.len ≡ length f = omega (arith, body_length f, F.long, F.fours) in
    let free : refusal (script_checks s) ≡ 0 = code_free s.len (instrs s) (omega arith) (ap legal (instrs_read f e) ∙ o.2) [] ∙ none in
    let w = write_0 s (length d) free (omega arith) in
    (w, sym (write_script s d w).1 ∙ ap₂ (λ (p : List ℕ) (k : ℕ). p ++ drop k d) (frame_instrs f B e) m)

pub one_frame : OneFrame
unfolding OneFrame
one_frame f g Bf Bg ef eg e = sym (frame_instrs f Bf ef) ∙ ap frame_of e ∙ frame_instrs g Bg eg

-- ---- a script is read back

frame_is : (xs : List Instr) → is_frame (frame_of xs) ≡ true
unfolding frame_of word
frame_is xs =
    let f : List ℕ = frame_of xs in
    let l = length_frame xs in
    let says : word (instr_bytes * length xs / 256) (instr_bytes * length xs % 256) ≡ length f - head_bytes = omega arith in
    sym (last_test f (le-leb head_bytes (length f) (omega arith)) refl (eq-eqb _ _ says)) ∙ eq-eqb ((length f - head_bytes) % instr_bytes) 0 (omega arith)

-- the frame of at most 64 legal instructions is read as those instructions
pub frame_read : (xs : List Instr) → length xs ≤ max_instructions → legal xs ≡ true → read_script (frame_of xs) ≡ read_as 0 (script_of xs)
frame_read xs h e =
    let back : decode (body (frame_of xs)) ≡ xs = body_frame xs in
    let free : read_refusal (frame_of xs) ≡ 0 = past_7 (frame_of xs) (frame_is xs) ∙ rw back (code_free (length xs) xs h e [] ∙ none) in
    sym (read_script_lem (frame_of xs) free) ∙ ap (λ (ys : List Instr). read_as 0 (script_of ys)) back

pub written_then_read : WrittenThenRead
unfolding WrittenThenRead Whole
written_then_read s d whole e =
    let o = write_ok s (length d) e in
    let n = length_instrs s whole o.0 in
    let m : length (frame_of (instrs s)) ≡ frame_bytes s.len = omega (arith, length_frame (instrs s)) in
    let front : take (frame_bytes s.len) (destination s d) ≡ frame_of (instrs s) = rw (sym (write_script s d e).1) (take_at _ _ _ m) in
    ap read_script front ∙ frame_read (instrs s) (omega arith) o.1
