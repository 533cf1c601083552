-- What an open seat has done so far is what its script would have done alone, on any image that has the cells of its slots as they are now:
-- such a seat is good. A seat at its start is good on every image, more slots and changes of other cells leave a good seat good, and so does
-- an act of its own, since the cell that it reads is of a slot it holds and so is the same in all those images.
use Prim.Native.Nat.{ℕ, ◌≤◌, ◌<◌}
use mathlib.Core.Path.{◌≡◌, refl, sym, ap, ◌∙◌, subst}
use mathlib.Core.Bool.{true, false}
use mathlib.Core.List.{List}
use lib.ListN.{length, get_or}
use borrow.Author.Tests.{lt-ltb}
use Rattle.slots.specs.Sizes.{cells}
use Rattle.slots.specs.declared.set.SlotSet.{SlotSet}
use Rattle.slots.proofs.Members.{In}
use Rattle.script.specs.declared.code.Instr.{Instr}
use Rattle.script.specs.declared.code.Script.{Script}
use Rattle.script.specs.Scripts.{instrs}
use Rattle.script.specs.Legal.{legal}
use Rattle.script.specs.Meaning.{Act, local, reads, writes}
use Rattle.script.specs.Alone.{end, committed, failed, in_range, alone}
use Rattle.seats.specs.declared.seat.Run.{Run}
use Rattle.seats.specs.Seats.{opened_run}
use Rattle.runs.specs.Runs.{kept_writes, written, keeping, after_act}
use Rattle.runs.proofs.Kept.{after_same}
use Rattle.promises.proofs.Ahead.{ahead, act_on, ahead-start, ahead-end, ahead_out, ahead-act}

after_reading : (a : Act) (img : List ℕ) (ρ : Run) → (after_act a img ρ).reading ≡ ρ.reading
unfolding after_act keeping
after_reading (local r n) img ρ = refl
after_reading (reads r c) img ρ = refl
after_reading (writes c v) img ρ = refl

module _ (own : ℕ → ℕ) where
  -- the images have the same in the cells of the slots h
  abbrev pub SameOn : SlotSet → List ℕ → List ℕ → Type 0
  SameOn h img img' = (c : ℕ) → c < cells → In h (own c) → get_or img c 0 ≡ get_or img' c 0

  -- the cell that the act accesses, if any, is one of the slots h
  unfoldable pub Covered : SlotSet → Act → Type 0
  Covered h (local r n) = Unit {0}
  Covered h (reads r c) = (c < cells) × In h (own c)
  Covered h (writes c v) = (c < cells) × In h (own c)

  covered_range : (h : SlotSet) (a : Act) → Covered h a → in_range a ≡ true
  unfolding Covered in_range
  covered_range h (local r n) k = refl
  covered_range h (reads r c) k = lt-ltb c cells k.0
  covered_range h (writes c v) k = lt-ltb c cells k.0

  covered_cell : (h : SlotSet) (a : Act) → Covered h a → (r c : ℕ) → a ≡ reads r c → (c < cells) × In h (own c)
  unfolding Covered
  covered_cell h a k r c e = subst (Covered h) e k

  -- the seat with the script s and the run ρ holds h; it was opened with the instructions code and the reading
  pub record Good (code : List Instr) (reading : ℕ) (s : Script) (ρ : Run) (h : SlotSet) (img : List ℕ) : Type 0 where
    pub script : instrs s ≡ code
    pub given : ρ.reading ≡ reading
    pub alike : (img' : List ℕ) → length img' ≡ cells → SameOn h img' img → alone code reading img' ≡ ahead code ρ img'

  module _ (code : List Instr) (reading : ℕ) (s : Script) where
    pub good_start : (x : ℕ) (h : SlotSet) (img : List ℕ) → instrs s ≡ code → x ≡ reading → Good code reading s (opened_run x) h img
    unfolding opened_run
    good_start x h img e q =
        record {
          script = e;
          given = q;
          alike = λ img' n k. ahead-start code reading img' ∙ ap (λ (y : ℕ). ahead code (opened_run y) img') (sym q);
        }

    module _ (ρ : Run) where
      -- more slots, and another image
      pub good_still : (h h' : SlotSet) (img img' : List ℕ) → ((u : ℕ) → In h u → In h' u) → SameOn h img' img
          → Good code reading s ρ h img → Good code reading s ρ h' img'
      good_still h h' img img' more same g =
          record {
            script = g.script;
            given = g.given;
            alike = λ img'' n k. g.alike img'' n (λ c l o. k c l (more (own c) o) ∙ same c l o);
          }

      module _ (h : SlotSet) (img : List ℕ) (g : Good code reading s ρ h img) where
        pub good_act : legal code ≡ true → ρ.at < length code → ρ.kept < length ρ.writes → Covered h (act_on code ρ)
            → Good code reading s (after_act (act_on code ρ) img ρ) h img
        good_act lawful inside room k =
            record {
              script = g.script;
              given = after_reading (act_on code ρ) img ρ ∙ g.given;
              alike = λ img' n same.
                  g.alike img' n same
                  ∙ ahead-act code ρ img' inside lawful n room (covered_range h (act_on code ρ) k)
                  ∙ ap (λ (σ : Run). ahead code σ img')
                  (after_same (act_on code ρ) img' img ρ (λ r c e. let q = covered_cell h (act_on code ρ) k r c e in same c q.0 q.1));
            }

        -- at the end the present image is one of those images
        pub alone-end : length img ≡ cells → length code ≤ ρ.at → alone code reading img ≡ end committed ρ.regs (written (kept_writes ρ) img)
        alone-end n l = g.alike img n (λ c l o. refl) ∙ ahead-end code ρ img l

        pub alone_out : length img ≡ cells → ρ.at < length code → in_range (act_on code ρ) ≡ false
            → alone code reading img ≡ end failed ρ.regs img
        alone_out n l e = g.alike img n (λ c l o. refl) ∙ ahead_out code ρ img l e
