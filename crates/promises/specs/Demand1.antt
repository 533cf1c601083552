-- Demand 1: 'Every entry point checks what it is given; a refusal gives its listed number, zeros elsewhere, and leaves table, image and
-- destination exactly as they came.' That no input does anything undefined and each call ends is the check itself, since no entry point
-- has a `requires`.
use Rattle.std.specs.Prelude.{ℕ, ◌≤◌, ◌<◌, ◌≡◌, ◌⊎◌, true, List, [], ◌∷◌, length}
use Rattle.slots.specs.Refusals.{Check}
use Rattle.slots.specs.Owners.{says, owner_checks, owner_says}
use Rattle.script.specs.declared.code.Script.{Script}
use Rattle.script.specs.Frames.{Written}
use Rattle.script.specs.Scripts.{blank_script}
use Rattle.script.specs.Frames as frames
use Rattle.script.specs.Frames.{read_as, read_checks, read_script, write_checks, destination}
use Rattle.shelf.specs.Shelves.{lookup_checks, lookup_refusal, frame_found}
use Rattle.seats.specs.declared.table.Table.{Table}
use Rattle.course.specs.Words as word
use Rattle.table.specs.Answers.{Stepped, no_report, no_view}
use Rattle.table.specs.Calls.{open_checks, open_call, step_checks, step_call, step_image, result_checks, result_call, view_checks, slot_view_call, cell_checks, cell_read_call}

-- a check with the number n is in the list, and applies
unfoldable pub Applies : List Check → ℕ → Type 0
Applies [] n = ⊥
Applies (k ∷ ks) n = ((k.number ≡ n) × (k.applies ≡ true)) ⊎ Applies ks n

-- n is the lowest number that applies, and 0 where none does
pub record Lowest (ks : List Check) (n : ℕ) : Type 0 where
  pub applies : 0 < n → Applies ks n
  pub lowest : (m : ℕ) → Applies ks m → (0 < n) × (n ≤ m)

-- a call whose answer has the number n and is otherwise a; with a refusal it is `zeros`
pub record Refuses {A : Type 0} (ks : List Check) (n : ℕ) (answer zeros : A) : Type 0 where
  pub number : Lowest ks n
  pub refused : 0 < n → answer ≡ zeros

module _ (own : ℕ → ℕ) where
  pub record Demand1 : Type 0 where
    pub opening : (t : Table) (i reading : ℕ) (f : List ℕ)
        → Refuses (open_checks own t i f) (open_call own t i reading f).number
        (open_call own t i reading f) (record { number = (open_call own t i reading f).number; table = t })
    pub step : (t : Table) (img : List ℕ) (i : ℕ)
        → Refuses {A = Stepped × List ℕ} (step_checks own t (length img) i) (step_call own t img i).number
        (step_call own t img i, step_image own t img i)
        (record { number = (step_call own t img i).number; word = word.None; table = t }, img)
    pub result : (t : Table) (i : ℕ)
        → Refuses (result_checks own t i) (result_call own t i).number (result_call own t i) (no_report (result_call own t i).number)
    pub view : (t : Table) (s : ℕ)
        → Refuses (view_checks own t s) (slot_view_call own t s).number (slot_view_call own t s) (no_view (slot_view_call own t s).number)
    pub cell : (img : List ℕ) (c : ℕ)
        → Refuses (cell_checks img c) (cell_read_call img c).number
        (cell_read_call img c) (record { number = (cell_read_call img c).number; value = 0 })
    pub owner : (c : ℕ) → Refuses (owner_checks c) (owner_says c).number (owner_says c) (says (owner_says c).number 0)
    pub reader : (f : List ℕ) → Refuses (read_checks f) (read_script f).number (read_script f) (read_as (read_script f).number blank_script)
    pub writer : (s : Script) (d : List ℕ)
        → Refuses {A = Written × List ℕ} (write_checks s (length d)) (frames.written s (length d)).number
        (frames.written s (length d), destination s d)
        (record { number = (frames.written s (length d)).number; len = 0 }, d)
    pub lookup : (site works : List ℕ) (n : ℕ)
        → Refuses (lookup_checks site works n) (lookup_refusal site works n) (frame_found site works n) []
