-- 'Figures at the edges', those with a star, in one list.
use Rattle.std.specs.Prelude.{ℕ, ◌≡◌, List, [], ◌∷◌, length, get_or, replicate}
use Rattle.slots.specs.Sizes.{cells}
use Rattle.slots.specs.Owners.{owner_of, owner_says}
use Rattle.script.specs.declared.code.Instr.{Instr}
use Rattle.script.specs.Scripts.{instr}
use Rattle.script.specs.Frames.{read_script}
use Rattle.script.specs.Alone.{alone}
use Rattle.course.specs.Words.{Word}
use Rattle.course.specs.Words as word
use Rattle.promises.specs.Histories.{Call, opening, step, World, saucebell, step_reply, history}

-- a figure as found, and as the description has it
pub data Figure : Type 0 where
  number : ℕ → ℕ → Figure
  reply : Word → Word → Figure

unfoldable pub Holds : List Figure → Type 0
Holds [] = Unit {0}
Holds (number found given ∷ fs) = (found ≡ given) × Holds fs
Holds (reply found given ∷ fs) = (found ≡ given) × Holds fs

-- ---- what is looked at

-- register 0, which is x at opening, after the instruction `op` with register 1, which is 1
unfoldable pub with_one : ℕ → ℕ → ℕ
with_one op x = get_or (alone (instr 1 1 0 1 ∷ instr op 0 1 0 ∷ []) x []).registers 0 0

abbrev pub empty_frame : List ℕ
empty_frame = 1 ∷ 0 ∷ 0 ∷ []

-- seat 0 opened with the empty frame on a fresh table and a zero image, and after the steps given
unfoldable pub empty_run : List Call → World
empty_run cs = history (saucebell owner_of) (replicate cells 0) (opening 0 0 empty_frame ∷ cs)

unfoldable pub starred : List Figure
starred =
    -- owners
    number (owner_says 0).value 0
    ∷ number (owner_says 7).value 0
    ∷ number (owner_says 8).value 1
    ∷ number (owner_says 511).value 63
    ∷ number (owner_says 512).value 5
    ∷ number (owner_says 983).value 63
    ∷ number (owner_says 984).value 0
    ∷ number (owner_says 1023).value 4
    -- op 6: 4294967295 + 1; op 7: 0 − 1
    ∷ number (with_one 6 4294967295) 0
    ∷ number (with_one 7 0) 4294967295
    -- frame 010000: no instructions, one step commits, no slots
    ∷ number (read_script empty_frame).number 0
    ∷ number (read_script empty_frame).script.len 0
    ∷ reply (step_reply (saucebell owner_of) (empty_run []) 0).word word.Committed
    ∷ number ((saucebell owner_of).result (empty_run (step 0 ∷ [])).table 0).number 0
    ∷ number ((saucebell owner_of).result (empty_run (step 0 ∷ [])).table 0).tally.slots 0
    ∷ []
