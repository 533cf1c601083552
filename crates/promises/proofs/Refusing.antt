-- Demand 1. Every call's number is that of its list of checks, whose numbers rise, so it is the lowest that applies; and the answer stands
-- under `granted`, which puts the zeros in its place where the number is not 0. A report and a view have the number inside `granted`: the
-- answer then has 0 and the zeros have the number, so that it is the number either way.
use Prim.Native.Nat.{ℕ}
use mathlib.Core.Path.{◌≡◌, refl, sym, ◌∙◌, subst}
use mathlib.Core.Bool.{true, false}
use mathlib.Core.List.{List}
use native.Mathlib.Omega.{arith}
use lib.Dec.{eqb}
use lib.ListN.{length}
use borrow.Author.Tests.{eqb-true, ne_eqb}
use Rattle.slots.specs.Refusals.{Check, refusal, granted}
use Rattle.slots.specs.Owners.{owner_checks, owner_refusal, owner_says}
use Rattle.slots.proofs.Truth.{split}
use Rattle.script.specs.Frames as frames
use Rattle.script.specs.Frames.{read_checks, read_refusal, read_script, write_checks, write_refusal, destination}
use Rattle.shelf.specs.Shelves.{lookup_checks, lookup_refusal, frame_found}
use Rattle.seats.specs.Tables.{seat_at}
use Rattle.table.specs.Calls.{open_checks, open_refusal, open_call, step_checks, step_refusal, step_call, step_image}
use Rattle.table.specs.Answers.{no_report, no_view}
use Rattle.table.specs.Calls.{report_of, result_checks, result_refusal, result_call, view_of, view_checks, view_refusal, slot_view_call}
use Rattle.table.specs.Calls.{cell_checks, cell_refusal, cell_read_call}
use Rattle.promises.specs.Demand1.{Refuses, Demand1}
use Rattle.promises.proofs.Lowest.{rising, lowest_rising}

refuses : {A : Type 0} (ks : List Check) {answer zeros : A} → rising 0 ks ≡ true → (eqb (refusal ks) 0 ≡ false → answer ≡ zeros)
    → Refuses ks (refusal ks) answer zeros
refuses ks e h = record { number = lowest_rising 0 ks e; refused = λ l. h (ne_eqb (refusal ks) 0 (λ z. omega arith)) }

-- with the number inside
module _ {A : Type 0} (number : A → ℕ) (value : A) (zeros : ℕ → A) (v : number value ≡ 0) (z : (n : ℕ) → number (zeros n) ≡ n) where
  number_granted : (n : ℕ) → number (granted n value (zeros n)) ≡ n
  number_granted n = split (eqb n 0) (λ e. rw e (v ∙ sym (eqb-true n 0 e))) (λ e. rw e (z n))

  refuses_inside : (ks : List Check) → rising 0 ks ≡ true
      → Refuses ks (number (granted (refusal ks) value (zeros (refusal ks)))) (granted (refusal ks) value (zeros (refusal ks)))
      (zeros (number (granted (refusal ks) value (zeros (refusal ks)))))
  refuses_inside ks e =
      subst (λ (n : ℕ). Refuses ks n (granted (refusal ks) value (zeros (refusal ks))) (zeros n)) (sym (number_granted (refusal ks)))
      (refuses ks e (λ f. rw f))

pub demand1 : (own : ℕ → ℕ) → Demand1 own
unfolding open_refusal open_call step_refusal step_call step_image result_refusal result_call view_refusal slot_view_call cell_refusal cell_read_call
    owner_refusal owner_says read_refusal read_script write_refusal frames.written destination lookup_refusal frame_found
demand1 own =
    record {
      opening = λ t i reading f. refuses (open_checks own t i f) refl (λ e. rw e);
      step = λ t img i. refuses (step_checks own t (length img) i) refl (λ e. rw e);
      result = λ t i. refuses_inside (λ r. r.number) (report_of (seat_at t i)) no_report refl (λ n. refl) (result_checks own t i) refl;
      view = λ t s. refuses_inside (λ v. v.number) (view_of t.slots s) no_view refl (λ n. refl) (view_checks own t s) refl;
      cell = λ img c. refuses (cell_checks img c) refl (λ e. rw e);
      owner = λ c. refuses (owner_checks c) refl (λ e. rw e);
      reader = λ f. refuses (read_checks f) refl (λ e. rw e);
      writer = λ s d. refuses (write_checks s (length d)) refl (λ e. rw e);
      lookup = λ site works n. refuses (lookup_checks site works n) refl (λ e. rw e);
    }
