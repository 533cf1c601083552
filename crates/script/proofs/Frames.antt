-- The layout of frames. An instruction is four bytes, so the i-th of a body stands 4 * i bytes on: each law on bodies goes by the body, four
-- bytes at a time. What a loop has made after i turns is what it is to make up to there, and
-- behind that what was there before; one turn moves the seam by one instruction.
use Rattle.std.proofs.Common.{◌≡◌, ℕ, zero, suc, ◌+◌, ◌-◌, ◌*◌, ◌/◌, ◌%◌, ◌<◌, ◌≤◌, List, [], ◌∷◌, ◌++◌, length, get_or, take, drop, set, replicate, sym, refl, ap, ◌∙◌, append_assoc, le_of_suc-le-suc, not-suc-le-zero, add-one, arith, length-append, length-drop, length-take-le, get_or-drop, take-suc, drop-drop, take_at, drop_at, ap₂}
use borrow.Rule.Slice.PartMut.{put_mid}
use native.Mathlib.Nat.{sub-zero, zero-sub, suc-sub-suc}
use lib.Seq.{take-length}
use Rattle.script.specs.declared.code.Instr.{Instr}
use Rattle.script.specs.declared.code.Script.{Script}
use Rattle.script.specs.Scripts.{max_instructions, instr_bytes, head_bytes, no_instr, script_of}
use Rattle.script.specs.Frames.{bytes_of, encode, decode, instr_at, version, frame_bytes, frame_of, body}

-- ---- the body

pub length_encode : (xs : List Instr) → length (encode xs) ≡ instr_bytes * length xs
unfolding encode
length_encode [] = refl
length_encode (x ∷ xs) = omega (arith, length_encode xs)

pub length_decode : (b : List ℕ) → length (decode b) ≡ length b / instr_bytes
unfolding decode
length_decode [] = refl
length_decode (op ∷ []) = refl
length_decode (op ∷ a ∷ []) = refl
length_decode (op ∷ a ∷ b ∷ []) = refl
length_decode (op ∷ a ∷ b ∷ c ∷ rest) = omega (arith, length_decode rest)

pub decode-encode : (xs : List Instr) → decode (encode xs) ≡ xs
unfolding decode encode
decode-encode [] = refl
decode-encode (x ∷ xs) = ap (λ (r : List Instr). x ∷ r) (decode-encode xs)

pub encode-decode : (b : List ℕ) → length b % instr_bytes ≡ 0 → encode (decode b) ≡ b
unfolding decode encode
encode-decode [] h = refl
encode-decode (op ∷ []) h = absurd (omega arith)
encode-decode (op ∷ a ∷ []) h = absurd (omega arith)
encode-decode (op ∷ a ∷ b ∷ []) h = absurd (omega arith)
encode-decode (op ∷ a ∷ b ∷ c ∷ rest) h = ap (λ (r : List ℕ). op ∷ a ∷ b ∷ c ∷ r) (encode-decode rest (omega arith))

encode_append : (xs ys : List Instr) → encode (xs ++ ys) ≡ encode xs ++ encode ys
unfolding encode
encode_append [] ys = refl
encode_append (x ∷ xs) ys = ap (λ (r : List ℕ). bytes_of x ++ r) (encode_append xs ys)

-- an instruction n bytes further on
instr_further : (n : ℕ) (b : List ℕ) (at : ℕ) → instr_at (drop n b) at ≡ instr_at b (n + at)
unfolding instr_at
instr_further n b at =
    let further : (j : ℕ) → get_or (drop n b) (at + j) 0 ≡ get_or b (n + at + j) 0 =
    λ j. get_or-drop n b (at + j) 0 ∙ ap (λ (m : ℕ). get_or b m 0) (omega arith) in
    rw (get_or-drop n b at 0, further 1, further 2, further 3)

decode_at : (b : List ℕ) (i : ℕ) → instr_bytes * i + instr_bytes ≤ length b → get_or (decode b) i no_instr ≡ instr_at b (instr_bytes * i)
unfolding decode instr_at
decode_at [] i h = absurd (omega arith)
decode_at (op ∷ []) i h = absurd (omega arith)
decode_at (op ∷ a ∷ []) i h = absurd (omega arith)
decode_at (op ∷ a ∷ b ∷ []) i h = absurd (omega arith)
decode_at (op ∷ a ∷ b ∷ c ∷ rest) zero h = refl
decode_at (op ∷ a ∷ b ∷ c ∷ rest) (suc i) h =
    let e : instr_bytes + instr_bytes * i ≡ instr_bytes * suc i = omega arith in
    decode_at rest i (omega arith) ∙ instr_further instr_bytes (op ∷ a ∷ b ∷ c ∷ rest) (instr_bytes * i) ∙ ap (instr_at (op ∷ a ∷ b ∷ c ∷ rest)) e

-- ---- the frame

pub length_frame : (xs : List Instr) → length (frame_of xs) ≡ frame_bytes (length xs)
unfolding frame_of
length_frame xs = omega (arith, length_encode xs)

pub body_frame : (xs : List Instr) → decode (body (frame_of xs)) ≡ xs
unfolding frame_of
body_frame xs = decode-encode xs

-- how many instructions a frame has
pub body_length : (f : List ℕ) → length (decode (body f)) ≡ (length f - head_bytes) / instr_bytes
body_length f = length_decode (body f) ∙ ap (λ (n : ℕ). n / instr_bytes) (length-drop head_bytes f)

-- ---- the reader's loop: the first i instructions of the body b, and behind them none

abbrev pub held : List ℕ → ℕ → List Instr
held b i = take i (decode b) ++ drop i (replicate max_instructions no_instr)

store_next : (xs ys : List Instr) (i : ℕ) → i < length xs → i < length ys
    → set (take i xs ++ drop i ys) i (get_or xs i no_instr) ≡ take (suc i) xs ++ drop (suc i) ys
store_next [] ys i h k = absurd (not-suc-le-zero h)
store_next (x ∷ xs) [] i h k = absurd (not-suc-le-zero k)
store_next (x ∷ xs) (y ∷ ys) zero h k = refl
store_next (x ∷ xs) (y ∷ ys) (suc i) h k = ap (λ (l : List Instr). x ∷ l) (store_next xs ys i (le_of_suc-le-suc h) (le_of_suc-le-suc k))

drop_replicate : (n m : ℕ) (x : Instr) → drop n (replicate m x) ≡ replicate (m - n) x
drop_replicate zero m x = rw (sub-zero m)
drop_replicate (suc n) zero x = rw (zero-sub (suc n))
drop_replicate (suc n) (suc m) x = rw (suc-sub-suc m n) (drop_replicate n m x)

-- the four bytes of an instruction alone are as good as those bytes with others behind
four_alone : (w r : List ℕ) → length w ≡ instr_bytes → instr_at w 0 ≡ instr_at (w ++ r) 0
unfolding instr_at
four_alone [] r n = absurd (omega arith)
four_alone (op ∷ []) r n = absurd (omega arith)
four_alone (op ∷ a ∷ []) r n = absurd (omega arith)
four_alone (op ∷ a ∷ b ∷ []) r n = absurd (omega arith)
four_alone (op ∷ a ∷ b ∷ c ∷ rest) r n = refl

module _ (b : List ℕ) where
  -- a turn: i instructions have come, four bytes w come, and r is left
  module _ (i : ℕ) (w r : List ℕ) (e : drop (instr_bytes * i) b ≡ w ++ r) (n : length w ≡ instr_bytes) where
    pub four_fit : instr_bytes * i + instr_bytes ≤ length b
    four_fit = omega (arith, sym (length-drop (instr_bytes * i) b) ∙ ap length e ∙ length-append w r)

    pub left_next : r ≡ drop (instr_bytes * (i + 1)) b
    left_next =
        let m : instr_bytes * i + instr_bytes ≡ instr_bytes * (i + 1) = omega arith in
        sym (drop_at w r instr_bytes n) ∙ ap (drop instr_bytes) (sym e) ∙ drop-drop instr_bytes (instr_bytes * i) b ∙ ap (λ (j : ℕ). drop j b) m

    come : instr_at w 0 ≡ get_or (decode b) i no_instr
    come =
        let m : instr_bytes * i + 0 ≡ instr_bytes * i = omega arith in
        four_alone w r n ∙ ap (λ (l : List ℕ). instr_at l 0) (sym e) ∙ instr_further (instr_bytes * i) b 0 ∙ ap (instr_at b) m ∙ sym (decode_at b i four_fit)

    pub held_more : {code : List Instr} {x : Instr} → code ≡ held b i → x ≡ instr_at w 0 → i < max_instructions → set code i x ≡ held b (i + 1)
    held_more q p h =
        rw (q, p ∙ come, add-one i)
        (store_next (decode b) (replicate max_instructions no_instr) i (omega (arith, length_decode b, four_fit)) h)

  pub held_all : (s : Script) (k : ℕ) → s.code ≡ held b k → s.len ≡ k → length b ≡ instr_bytes * k → s ≡ script_of (decode b)
  unfolding script_of
  held_all s k e m l =
      let n : k ≡ length (decode b) = omega (arith, length_decode b) in
      let made : List Instr → ℕ → Script = λ c j. record { code = c; len = j } in
      ap₂ made e m ∙ rw (n, take-length (decode b), drop_replicate)

-- ---- the writer's loop: the first i instructions, and behind them what is left of the destination d

abbrev pub filled : List ℕ → List Instr → ℕ → List ℕ
filled d xs i = encode (take i xs) ++ drop (instr_bytes * i) d

pub filled_none : (d : List ℕ) (xs : List Instr) → d ≡ filled d xs 0
unfolding encode
filled_none d xs = refl

-- w is put in behind p, over what stands there of d
put_behind : (p w d : List ℕ) (n k : ℕ) → length p ≡ n → put_mid n k (p ++ drop n d) w ≡ (p ++ w) ++ drop (n + k) d
put_behind p w d n k e =
    rw (take_at p (drop n d) n e, drop_at p (drop n d) n e, drop-drop k n d) (sym (append_assoc p w (drop (n + k) d)))

module _ (d : List ℕ) (xs : List Instr) where
  -- an instruction more
  pub filled_more : (i : ℕ) {k : ℕ} {old w : List ℕ} {x : Instr} → i < length xs → get_or xs i no_instr ≡ x → old ≡ filled d xs i
      → k ≡ instr_bytes → w ≡ bytes_of x → put_mid (instr_bytes * i) k old w ≡ filled d xs (i + 1)
  unfolding encode
  filled_more i {x = x} h is e four q =
      let many : length (encode (take i xs)) ≡ instr_bytes * i =
      length_encode (take i xs) ∙ ap (λ (n : ℕ). instr_bytes * n) (length-take-le i xs (omega arith)) in
      let longer : encode (take i xs) ++ bytes_of x ≡ encode (take (i + 1) xs) = rw (add-one i, take-suc xs i no_instr h, is, encode_append) in
      let m : instr_bytes * i + instr_bytes ≡ instr_bytes * (i + 1) = omega arith in
      rw (e, four, q) (put_behind (encode (take i xs)) (bytes_of x) d (instr_bytes * i) instr_bytes many ∙ rw (longer, m))

  -- the head and the body, at the front of d
  pub framed_front : {k n : ℕ} {head w : List ℕ} → length xs ≡ k → k ≤ max_instructions → n ≡ instr_bytes * length xs
      → head ≡ version ∷ (instr_bytes * length xs / 256 % 256) ∷ (instr_bytes * length xs % 256) ∷ [] → w ≡ encode xs
      → put_mid head_bytes n (head ++ drop head_bytes d) w ≡ frame_of xs ++ drop (frame_bytes k) d
  unfolding frame_of
  framed_front e l m h q =
      let high : instr_bytes * length xs / 256 % 256 ≡ instr_bytes * length xs / 256 = omega arith in
      rw (sym e, h, q, m, high, drop-drop (instr_bytes * length xs) head_bytes d)
