-- A call leaves every open seat good, for what its notes say that it was opened with. A call changes one seat: that seat is at its start after
-- an opening and has made one step otherwise, and the others keep their slots and, in the cells of those slots, the image.
use Prim.Native.Nat.{ℕ, ◌<◌}
use mathlib.Core.Path.{◌≡◌, refl, sym, ap, ◌∙◌, subst}
use mathlib.Core.Bool.{true}
use mathlib.Core.List.{List}
use lib.Dec.{eqb}
use lib.ListN.{length, set}
use lib.Seq.{get_or-set_same, get_or-set_other}
use borrow.Author.Tests.{eqb-true, eqb-false, eq-eqb, ne_eqb}
use Rattle.slots.specs.Sizes.{slots}
use Rattle.slots.specs.declared.set.SlotSet.{SlotSet}
use Rattle.slots.proofs.Truth.{split}
use Rattle.slots.proofs.Members.{In}
use Rattle.script.specs.Frames.{decode, body, read_refusal, read_script}
use Rattle.script.proofs.Round.{instrs_read}
use Rattle.seats.specs.declared.seat.Seat.{Seat}
use Rattle.seats.specs.declared.slot_table.SlotTable.{SlotTable}
use Rattle.seats.specs.declared.table.Table.{Table}
use Rattle.seats.specs.SlotTables.{held_by}
use Rattle.seats.specs.Seats.{is_open}
use Rattle.seats.specs.Tables.{no_seat, seat_at}
use Rattle.course.specs.Words.{Word}
use Rattle.course.specs.Steps.{seat_after, slots_after, image_after}
use Rattle.rules.specs.Rules.{IsOpen}
use Rattle.table.specs.Answers.{Report}
use Rattle.table.specs.Calls.{with_seat, opened_seat, case_of, moved_by, image_by}
use Rattle.upkeep.specs.SoundTables.{Stands}
use Rattle.promises.specs.Histories.{Notes, notes_of, noting, saucebell, noted}
use Rattle.upkeep.proofs.Replies.{phase_open}
use Rattle.promises.proofs.Good.{SameOn, Good, good_start, good_still}
use Rattle.promises.proofs.GoodSteps.{case_known, steps_good}
use Rattle.promises.proofs.GoodOthers.{others_keep, others_same}

abbrev pub GoodSeat : (ℕ → ℕ) → Notes → Seat → SlotSet → List ℕ → Type 0
GoodSeat own n z h img = Good own n.code n.reading z.script z.run h img

unfoldable pub AllGood : (ℕ → ℕ) → (ℕ → Notes) → Table → List ℕ → Type 0
AllGood own notes t img = (j : ℕ) → IsOpen t j → GoodSeat own (notes j) (seat_at t j) (held_by t.slots j) img

good_by : (own : ℕ → ℕ) {n n' : Notes} {z z' : Seat} (h : SlotSet) (img : List ℕ) → n' ≡ n → z' ≡ z
    → GoodSeat own n z h img → GoodSeat own n' z' h img
good_by own {n} {n'} {z} {z'} h img p q g =
    subst (λ (m : Notes). GoodSeat own m z' h img) (sym p) (subst (λ (y : Seat). GoodSeat own n y h img) (sym q) g)

-- ---- notes

module _ (f : ℕ → Notes) (i : ℕ) (n : Notes) where
  noting_here : noting f i n i ≡ n
  unfolding noting
  noting_here = rw (eq-eqb i i refl)

  noting_other : (j : ℕ) → (j ≡ i → ⊥) → noting f i n j ≡ f j
  unfolding noting
  noting_other j h = rw (ne_eqb j i h)

-- what the replies count for is not what the seat was opened with
pub counted_good : (own : ℕ → ℕ) (f : ℕ → Notes) (t : Table) (img : List ℕ) (i : ℕ) (w : Word) (k : ℕ) (r : Report)
    → AllGood own f t img → AllGood own (noting f i (noted (saucebell own) (f i) w k r)) t img
unfolding AllGood noted
counted_good own f t img i w k r all j o =
    split (eqb j i)
    (λ e. subst (λ (x : ℕ). IsOpen t x → GoodSeat own (noting f i (noted (saucebell own) (f i) w k r) x) (seat_at t x) (held_by t.slots x) img)
    (sym (eqb-true j i e)) (λ p. good_by own {z = seat_at t i} _ img (noting_here f i _) refl (all i p)) o)
    (λ e. good_by own {z = seat_at t j} _ img (noting_other f i _ j (eqb-false j i e)) refl (all j o))

-- ---- one seat is changed, and what is noted of it

module _ (own : ℕ → ℕ) (f : ℕ → Notes) (t : Table) (img : List ℕ) (all : AllGood own f t img) (i : ℕ) (l : i < length t.seats) where
  one_changed : (n : Notes) (z : Seat) (u : SlotTable) (img' : List ℕ)
      → ((j s : ℕ) → IsOpen t j → (j ≡ i → ⊥) → In (held_by t.slots j) s → In (held_by u j) s)
      → ((j : ℕ) → IsOpen t j → (j ≡ i → ⊥) → SameOn own (held_by t.slots j) img' img)
      → (is_open z.phase ≡ true → GoodSeat own n z (held_by u i) img')
      → AllGood own (noting f i n) (record { seats = set t.seats i z; slots = u }) img'
  unfolding AllGood
  one_changed n z u img' more same own-good j o = split (eqb j i) (λ e. mine (eqb-true j i e)) (λ e. other (eqb-false j i e))
    where
      t' : Table
      t' = record { seats = set t.seats i z; slots = u }

      mine : j ≡ i → GoodSeat own (noting f i n j) (seat_at t' j) (held_by u j) img'
      mine q =
          let here : seat_at t' i ≡ z = get_or-set_same t.seats i z no_seat l in
          let p : is_open z.phase ≡ true = ap (λ (y : Seat). is_open y.phase) (sym here) ∙ phase_open (subst (IsOpen t') q o).phase in
          subst (λ (k : ℕ). GoodSeat own (noting f i n k) (seat_at t' k) (held_by u k) img') (sym q)
          (good_by own (held_by u i) img' (noting_here f i n) here (own-good p))

      other : (j ≡ i → ⊥) → GoodSeat own (noting f i n j) (seat_at t' j) (held_by u j) img'
      other q =
          let there : seat_at t' j ≡ seat_at t j = get_or-set_other t.seats i j z no_seat q in
          let o' : IsOpen t j = record { seat = o.seat; phase = ap (λ (y : Seat). y.phase) (sym there) ∙ o.phase } in
          good_by own (held_by u j) img' (noting_other f i n j q) there
          (good_still own _ _ _ _ (held_by t.slots j) (held_by u j) img img' (λ s. more j s o' q) (same j o' q) (all j o'))

  -- ---- the calls

  pub opened_good : (reading : ℕ) (b : List ℕ) → read_refusal b ≡ 0
      → AllGood own (noting f i (notes_of (decode (body b)) reading)) (with_seat t i (opened_seat (read_script b).script reading)) img
  unfolding opened_seat
  opened_good reading b e =
      one_changed (notes_of (decode (body b)) reading) (opened_seat (read_script b).script reading) t.slots img
      (λ j s o q h. h) (λ j o q c l h. refl) (λ p. good_start own _ _ _ reading _ img (instrs_read b e) refl)

  pub moved_good : ((c : ℕ) → own c < slots) → Stands own t → IsOpen t i → (w : Word) (k : ℕ) (r : Report)
      → AllGood own (noting f i (noted (saucebell own) (f i) w k r)) (moved_by own t img i).table (image_by own t img i)
  unfolding AllGood moved_by image_by noted
  moved_good below st o w k r =
      one_changed (noted (saucebell own) (f i) w k r) (seat_after (case_of own t i) (seat_at t i) (held_by t.slots i) img)
      (slots_after (case_of own t i) t.slots i) (image_after (case_of own t i) (seat_at t i).run img)
      (λ j s p q h. others_keep t.slots st.shaped.arrays i j p.seat q (case_of own t i) s h)
      (λ j p q. others_same own t i st o img j p.seat q (case_of own t i))
      (λ p. steps_good own t i st o (f i).code (f i).reading img (all i o) below (case_of own t i) _ _ (case_known own t i) p)
