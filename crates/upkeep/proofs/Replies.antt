-- A call is refused, and then leaves everything as it was, or it is granted, and then its checks are passed and it does what its definition
-- says. Which of the two is read off its refusal number: 0 says that every check of its list was passed. On a table that stands, an opening
-- and a step are refused for no other reason than the seat, the frame and the image.
use Prim.Native.Nat.{ℕ, ◌<◌}
use mathlib.Core.Path.{◌≡◌, refl, ◌∙◌}
use mathlib.Core.Logic.{◌⊎◌, inl, inr}
use mathlib.Core.Bool.{true, false, not, false≢true}
use mathlib.Core.List.{List, []}
use native.Mathlib.Omega.{arith}
use lib.Dec.{leb, eqb}
use lib.ListN.{length}
use borrow.Author.Tests.{not-false, leb-false, lt-leb, eqb-true, eqb-false, eq-eqb}
use Rattle.slots.specs.Sizes.{cells}
use Rattle.slots.proofs.Truth.{split}
use Rattle.slots.proofs.Checks.{none, passed, none_given}
use Rattle.script.specs.Frames.{read_refusal, read_script}
use Rattle.seats.specs.declared.seat.Phase.{Phase}
use Rattle.seats.specs.declared.seat.Phase.TheVariants.{Blank, Open, Committed, Failed}
use Rattle.seats.specs.declared.table.Table.{Table}
use Rattle.seats.specs.Queues.{seats}
use Rattle.seats.specs.Seats.{is_open}
use Rattle.seats.specs.Tables.{seat_at}
use Rattle.course.specs.Words as word
use Rattle.course.specs.Cases.{word_of}
use Rattle.soundness.specs.Tests.{sound_test}
use Rattle.rules.specs.Rules.{IsOpen}
use Rattle.rules.proofs.Same.{rules_test}
use Rattle.table.specs.Calls.{with_seat, opened_seat, open_refusal, open_call, case_of, moved_by, image_by, step_refusal, step_call, step_image}
use Rattle.upkeep.specs.SoundTables.{Stands}

pub open_phase : (p : Phase) → is_open p ≡ true → p ≡ Open
unfolding is_open
open_phase Blank e = absurd (false≢true e)
open_phase Open e = refl
open_phase Committed e = absurd (false≢true e)
open_phase Failed e = absurd (false≢true e)

pub phase_open : {p : Phase} → p ≡ Open → is_open p ≡ true
unfolding is_open
phase_open e = rw e

module _ (own : ℕ → ℕ) (t : Table) where
  pub stands_test : Stands own t → sound_test own t ≡ true
  stands_test st = rules_test own t st.shaped st.sound

  -- ---- a step

  module _ (img : List ℕ) (i : ℕ) where
    pub record StepRefused : Type 0 where
      pub number : (step_call own t img i).number ≡ 0 → ⊥
      pub reply : (step_call own t img i).word ≡ word.None
      pub table : (step_call own t img i).table ≡ t
      pub image : step_image own t img i ≡ img

    pub record StepGranted : Type 0 where
      pub opens : IsOpen t i
      pub size : length img ≡ cells
      pub number : (step_call own t img i).number ≡ 0
      pub reply : (step_call own t img i).word ≡ word_of (case_of own t i)
      pub table : (step_call own t img i).table ≡ (moved_by own t img i).table
      pub image : step_image own t img i ≡ image_by own t img i

    refused_step : eqb (step_refusal own t (length img) i) 0 ≡ false → StepRefused
    unfolding step_call step_image
    refused_step e = record { number = eqb-false _ _ e; reply = rw e; table = rw e; image = rw e }

    granted_step : eqb (step_refusal own t (length img) i) 0 ≡ true → StepGranted
    unfolding step_refusal step_call step_image moved_by
    granted_step e =
        let z : step_refusal own t (length img) i ≡ 0 = eqb-true _ _ e in
        let a = none_given 1 (not (sound_test own t)) _ (λ z. omega arith) z in
        let b = none_given 2 (not (eqb (length img) cells)) _ (λ z. omega arith) a.1 in
        let d = none_given 3 (leb seats i) _ (λ z. omega arith) b.1 in
        let o = none_given 5 (not (is_open (seat_at t i).phase)) [] (λ z. omega arith) d.1 in
        record {
          opens = record { seat = leb-false seats i d.0; phase = open_phase (seat_at t i).phase (not-false _ o.0) };
          size = eqb-true _ _ (not-false _ b.0);
          number = z;
          reply = rw e;
          table = rw e;
          image = rw e;
        }

    pub step_any : StepRefused ⊎ StepGranted
    step_any = split (eqb (step_refusal own t (length img) i) 0) (λ e. inr (granted_step e)) (λ e. inl (refused_step e))

    -- an open seat is not refused
    pub step_open : Stands own t → length img ≡ cells → IsOpen t i → StepGranted
    unfolding step_refusal
    step_open st n o =
        let a : not (sound_test own t) ≡ false = rw (stands_test st) in
        let b : not (eqb (length img) cells) ≡ false = rw n in
        let d : leb seats i ≡ false = lt-leb seats i o.seat in
        let f : not (is_open (seat_at t i).phase) ≡ false = rw (phase_open o.phase) in
        let z : step_refusal own t (length img) i ≡ 0 = passed 1 _ a ∙ passed 2 _ b ∙ passed 3 _ d ∙ passed 5 _ f ∙ none in
        granted_step (eq-eqb _ _ z)

  -- ---- an opening

  module _ (i reading : ℕ) (f : List ℕ) where
    pub record OpenRefused : Type 0 where
      pub number : (open_call own t i reading f).number ≡ 0 → ⊥
      pub table : (open_call own t i reading f).table ≡ t

    pub record OpenGranted : Type 0 where
      pub seat : i < seats
      pub shut : is_open (seat_at t i).phase ≡ false
      pub read : read_refusal f ≡ 0
      pub number : (open_call own t i reading f).number ≡ 0
      pub table : (open_call own t i reading f).table ≡ with_seat t i (opened_seat (read_script f).script reading)

    refused_open : eqb (open_refusal own t i f) 0 ≡ false → OpenRefused
    unfolding open_call
    refused_open e = record { number = eqb-false _ _ e; table = rw e }

    granted_open : eqb (open_refusal own t i f) 0 ≡ true → OpenGranted
    unfolding open_refusal open_call read_refusal
    granted_open e =
        let z : open_refusal own t i f ≡ 0 = eqb-true _ _ e in
        let a = none_given 1 (not (sound_test own t)) _ (λ z. omega arith) z in
        let d = none_given 3 (leb seats i) _ (λ z. omega arith) a.1 in
        let o = none_given 4 (is_open (seat_at t i).phase) _ (λ z. omega arith) d.1 in
        record { seat = leb-false seats i d.0; shut = o.0; read = o.1; number = z; table = rw e }

    pub open_any : OpenRefused ⊎ OpenGranted
    open_any = split (eqb (open_refusal own t i f) 0) (λ e. inr (granted_open e)) (λ e. inl (refused_open e))

    -- a seat that is not open is opened by a frame that can be read
    pub open_shut : Stands own t → i < seats → is_open (seat_at t i).phase ≡ false → read_refusal f ≡ 0 → OpenGranted
    unfolding open_refusal read_refusal
    open_shut st l s r =
        let a : not (sound_test own t) ≡ false = rw (stands_test st) in
        let z : open_refusal own t i f ≡ 0 = passed 1 _ a ∙ passed 3 _ (lt-leb seats i l) ∙ passed 4 _ s ∙ r in
        granted_open (eq-eqb _ _ z)
