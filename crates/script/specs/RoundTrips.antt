-- 'Scripts survive reading and writing, both ways', and 'Every legal script has one frame only'.
use Rattle.std.specs.Prelude.{◌≡◌, ℕ, ◌<◌, ◌≤◌, List, ◌++◌, length, take, drop, slice_index}
use Rattle.script.specs.declared.code.Script.{Script}
use Rattle.script.specs.Scripts.{max_instructions, instrs, script_of}
use Rattle.script.specs.Frames.{frame_bytes, read_refusal, read_as, read_script, write_refusal, destination}

-- what every slice of bytes and every script of the code is
unfoldable pub Bytes : List ℕ → Type 0
Bytes f = (i : ℕ) → slice_index f i < 256

unfoldable pub Whole : Script → Type 0
Whole s = length s.code ≡ max_instructions

-- a frame that is read and then written gives the same bytes, wherever it fits
unfoldable pub ReadThenWritten : Type 0
ReadThenWritten =
    (f d : List ℕ) → Bytes f → read_refusal f ≡ 0 → length f ≤ length d
    → (write_refusal (read_script f).script (length d) ≡ 0) × (destination (read_script f).script d ≡ f ++ drop (length f) d)

-- a script that is written and then read gives the same instructions
unfoldable pub WrittenThenRead : Type 0
WrittenThenRead =
    (s : Script) (d : List ℕ) → Whole s → write_refusal s (length d) ≡ 0
    → read_script (take (frame_bytes s.len) (destination s d)) ≡ read_as 0 (script_of (instrs s))

-- two frames that read as the same instructions are the same bytes
unfoldable pub OneFrame : Type 0
OneFrame =
    (f g : List ℕ) → Bytes f → Bytes g → read_refusal f ≡ 0 → read_refusal g ≡ 0
    → instrs (read_script f).script ≡ instrs (read_script g).script → f ≡ g
