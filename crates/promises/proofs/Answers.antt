-- What is asked of a table that stands, and so is sound: `result` answers for an ended seat with what the seat keeps, and for no other; a
-- slot view gives the slot to the seat that holds it, since there is only one. So the slots that the views give to a seat are those it holds.
use Prim.Native.Nat.{ℕ, ◌<◌}
use mathlib.Core.Path.{◌≡◌, ◌∙◌, subst}
use mathlib.Core.Bool.{Bool, true, false, not, cond, ◌&&◌}
use mathlib.Core.List.{[]}
use native.Mathlib.Omega.{arith}
use lib.Dec.{ltb, leb, eqb}
use borrow.Author.Tests.{not-false, leb-false, lt-leb, ltb-true, lt-ltb, eqb-true, eq-eqb}
use Rattle.slots.specs.Sizes.{slots}
use Rattle.slots.specs.Sets.{has, size}
use Rattle.slots.proofs.Truth.{split, and_l, and_r, alike}
use Rattle.slots.proofs.Checks.{none, passed, none_given}
use Rattle.slots.proofs.Tally.{tally_same, first-before, first_passes}
use Rattle.seats.specs.declared.table.Table.{Table}
use Rattle.seats.specs.Queues.{seats}
use Rattle.seats.specs.SlotTables.{held_by}
use Rattle.seats.specs.Tables.{seat_at}
use Rattle.soundness.specs.Tests.{sound_test}
use Rattle.table.specs.Calls.{is_ended, report_of, result_refusal, result_call, holder_of, view_of, view_refusal, slot_view_call}
use Rattle.upkeep.specs.SoundTables.{Stands}
use Rattle.promises.specs.Histories.{saucebell, viewed}
use Rattle.upkeep.proofs.Replies.{stands_test}

module _ (own : ℕ → ℕ) (t : Table) (i : ℕ) where
  -- `result` says what the seat keeps
  pub record Reports : Type 0 where
    pub seat : i < seats
    pub ended : is_ended (seat_at t i).phase ≡ true
    pub answer : result_call own t i ≡ report_of (seat_at t i)

  reports : result_refusal own t i ≡ 0 → Reports
  unfolding result_refusal result_call
  reports z =
      let a = none_given 1 (not (sound_test own t)) _ (λ z. omega arith) z in
      let b = none_given 3 (leb seats i) _ (λ z. omega arith) a.1 in
      let d = none_given 6 (not (is_ended (seat_at t i).phase)) [] (λ z. omega arith) b.1 in
      record { seat = leb-false seats i b.0; ended = not-false _ d.0; answer = rw (eq-eqb _ _ z) }

  -- the number of an answer is the refusal's
  numbered : (result_call own t i).number ≡ 0 → result_refusal own t i ≡ 0
  unfolding result_call
  numbered e = split (eqb (result_refusal own t i) 0) (eqb-true _ _) (λ q. rw q at e)

  pub reported : (result_call own t i).number ≡ 0 → Reports
  reported e = reports (numbered e)

  pub reports_ended : Stands own t → i < seats → is_ended (seat_at t i).phase ≡ true → Reports
  unfolding result_refusal
  reports_ended st l e =
      let a : not (sound_test own t) ≡ false = rw (stands_test own t st) in
      let b : not (is_ended (seat_at t i).phase) ≡ false = rw e in
      reports (passed 1 _ a ∙ passed 3 _ (lt-leb seats i l) ∙ passed 6 _ b ∙ none)

module _ (own : ℕ → ℕ) (t : Table) (st : Stands own t) where
  viewing : (s : ℕ) → s < slots → slot_view_call own t s ≡ view_of t.slots s
  unfolding view_refusal slot_view_call
  viewing s l =
      let a : not (sound_test own t) ≡ false = rw (stands_test own t st) in
      let z : view_refusal own t s ≡ 0 = passed 1 _ a ∙ passed 11 _ (lt-leb slots s l) ∙ none in
      rw (eq-eqb _ _ z)

  -- the view gives slot s to seat i
  gives : (i s : ℕ) → i < seats → s < slots
      → ((slot_view_call own t s).owned && eqb (slot_view_call own t s).owner i) ≡ has (held_by t.slots i) s
  unfolding holder_of
  gives i s b l =
      let n = holder_of t.slots s in
      let p : ℕ → Bool = λ j. has (held_by t.slots j) s in
      rw (viewing s l) (alike
      (λ e. let m : ltb n seats ≡ true = and_l (ltb n seats) (eqb (cond (ltb n seats) n 0) i) e in
      let here : n ≡ i = eqb-true n i (rw m at (and_r (ltb n seats) (eqb (cond (ltb n seats) n 0) i) e)) in
      subst (λ (j : ℕ). p j ≡ true) here (first_passes seats p (ltb-true n seats m)))
      (λ e. let m : n < seats = omega (arith, first-before seats p i b e) in
      let here : n ≡ i = st.sound.table.one n i s m b (first_passes seats p m) e in
      rw (lt-ltb n seats m) (eq-eqb n i here)))

  pub viewed_size : (i : ℕ) → i < seats → viewed (saucebell own) t i ≡ size (held_by t.slots i)
  unfolding viewed size
  viewed_size i b = tally_same slots _ _ (λ s l. gives i s b l)
