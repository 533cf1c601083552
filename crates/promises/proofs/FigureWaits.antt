-- A step of a seat whose transaction acquires a lock and waits for it, and the machine's move from there: at line 7, for an access, and at
-- lines 14 and 16, where the smallest pending slot is the next to acquire. The lock is the seat's by now or free, and is got; or it is
-- another's, and the wait begins or goes on. A seat that waits is blocked, so one that got its lock is in no queue.
use Prim.Native.Nat.{ℕ, ◌<◌}
use mathlib.Core.Path.{◌≡◌, refl, sym, ap, ◌∙◌, subst}
use mathlib.Core.Logic.{⊎_elim}
use mathlib.Core.Bool.{Bool, true, false, not, ◌&&◌, ◌||◌}
use mathlib.Core.List.{List, [], ◌∷◌, ◌++◌}
use mathlib.Core.Option.{some}
use native.Mathlib.Omega.{arith}
use lib.Dec.{eqb}
use borrow.Author.Tests.{eqb-true}
use Rattle.slots.specs.Sizes.{slots}
use Rattle.slots.specs.declared.set.SlotSet.{SlotSet}
use Rattle.slots.specs.Sets as sets
use Rattle.slots.specs.Sets.{slot, has, removing, is_empty, smallest}
use Rattle.slots.proofs.Truth.{or_r, or_cases, is_false, not_both, split}
use Rattle.slots.proofs.Members.{In, Out, has_lt, has-removing}
use Rattle.slots.proofs.Least.{smallest_some}
use Rattle.seats.specs.declared.seat.Seat.{Seat}
use Rattle.seats.specs.declared.slot_table.SlotTable.{SlotTable}
use Rattle.seats.specs.SlotTables.{held_by, owned, taken, joined_by}
use Rattle.seats.proofs.Hands.{held-joined}
use Rattle.course.specs.declared.wants.Want.{Want}
use Rattle.course.specs.declared.wants.Want.TheVariants.{Back}
use Rattle.course.specs.declared.cases.Case.{Case}
use Rattle.course.specs.declared.cases.Case.TheVariants as case
use Rattle.course.specs.Wants.{act_at, want_of, slot_of}
use Rattle.course.specs.Cases.{waiting, case_for, word_of}
use Rattle.course.specs.Steps.{goes_on, seat_after, slots_after, image_after}
use Rattle.promises.specs.Figure1.{Locks, lock, setting, has_it, acquire, Line, code, line7, Transaction, transaction, pending_at}
use Rattle.promises.specs.Figure1.{accessing, from7, at_line7, from16, reacquire, at_line}
use Rattle.promises.proofs.FigureLocks.{LocksLike, acquire_mine, acquire_free, acquire_waits, acquire_joins}
use Rattle.promises.proofs.LocksAfter.{locks_taken, locks_mine, locks_joined}
use Rattle.promises.proofs.FigureAlike.{holds, waits, Place, Like}
use Rattle.promises.proofs.FigureOthers.{own_taken, waits_taken, own_joined, kept_same, kept_taken, kept_joined}
use Rattle.promises.proofs.FigureTable.{Ground, case_by}
use Rattle.promises.proofs.FigureMoves.{Follows, follows_as, goes_on_lem}

-- what is held, pending or waited for, where a pending slot is held now, and where it is waited for
one_got : (a p w e : Bool) → (e ≡ true → p ≡ true) → ((a || p) || w) ≡ (((a || e) || (p && not e)) || w)
one_got true p w e h = refl
one_got false true w true h = refl
one_got false true w false h = refl
one_got false false w true h = absurd (not_both (h refl) refl)
one_got false false w false h = refl

one_waits : (b w e : Bool) → (e ≡ true → b ≡ true) → (b || w) ≡ (b || (w || e))
one_waits true w e h = refl
one_waits false true e h = refl
one_waits false false true h = h refl
one_waits false false false h = refl

module _ {own : ℕ → ℕ} (z : Seat) (T : SlotTable) (i : ℕ) (g : Ground own z T i) (img : List ℕ) (k : Locks) (like : LocksLike T k) where
  abbrev H : SlotSet
  H = held_by T i

  -- ---- line 7

  module _ (h : ℕ) (L M : SlotSet) (y : Like own z T i (line7 h) L M) where
    abbrev x7 : Transaction
    x7 = transaction z.script z.run (line7 h) L M

    held7 : In H h → Follows own z T i img (case_by (want_of own z) T i) (at_line own i x7 k img (line7 h))
    unfolding word_of image_after slots_after seat_after at_line at_line7 from7 accessing act_at pending_at case_for slot_of
    held7 m =
        let l : h < slots = y.place.small in
        let e : case_by (want_of own z) T i ≡ case.Ran = ap (λ (w : Want). case_by w T i) y.place.wanted ∙ rw m in
        let k' : Locks = setting h (lock (some i) (k h).queue) k in
        follows_as own z T i img e
        (ap (from7 own i x7 k img h L) (acquire_mine T k like i h l m (λ j b n. g.sole h j b m n)))
        (goes_on_lem own z T i img case.Ran k' code L sets.none refl g.opens (locks_mine T k like g.whole i h g.seat l m)
        (record {
          pending = y.pending;
          lockset = y.lockset;
          place = λ s b. is_false (λ w. let q = g.blocked s b w in let r : ◌≡◌ {A = ℕ} 0 1 = cc in omega arith);
        })
        (kept_same T g.whole i))

    waits7 : Out H h → waits T i h ≡ true → Follows own z T i img (case_by (want_of own z) T i) (at_line own i x7 k img (line7 h))
    unfolding word_of image_after slots_after seat_after at_line at_line7 from7
    waits7 n w =
        let l : h < slots = y.place.small in
        follows_as own z T i img (g.blocked h l w)
        (ap (from7 own i x7 k img h L) (acquire_waits T k like i h l n (g.taken h l w) w))
        (goes_on_lem own z T i img case.Blocked k (line7 h) L M refl g.opens like y (kept_same T g.whole i))

    pub line7_follows : Follows own z T i img (case_by (want_of own z) T i) (at_line own i x7 k img (line7 h))
    line7_follows =
        split (holds T i h) held7
        (λ n. ⊎_elim (λ m. absurd (not_both m n)) (waits7 n) (or_cases (holds T i h) (waits T i h) y.place.near))

  -- ---- lines 14 and 16: the smallest pending slot is h, and with it the transaction is at line l' with M'

  module _ (h : ℕ) (l l' : Line) (L M M' : SlotSet) (y : Like own z T i l L M) (some-pending : is_empty z.pending ≡ false)
      (least : smallest z.pending ≡ h) (left : removing z.pending h ≡ pending_at l' M')
      (stays : Place own (goes_on z z.run z.pending) (joined_by T i h) i l M)
      (goes : ((s : ℕ) → s < slots → waits (taken T i h) i s ≡ false)
      → Place own (goes_on z z.run (removing z.pending h)) (taken T i h) i l' M') where
    abbrev x : Transaction
    x = transaction z.script z.run l L M

    abbrev x' : Transaction
    x' = transaction z.script z.run l' L M'

    wants_back : want_of own z ≡ Back (slot h)
    unfolding want_of
    wants_back = rw (some-pending, least)

    is_pending : In z.pending h
    is_pending = subst (In z.pending) least (smallest_some z.pending some-pending)

    low : h < slots
    low = has_lt z.pending h is_pending

    pending_at_lem : (s : ℕ) → eqb s h ≡ true → In z.pending s
    pending_at_lem s e = subst (In z.pending) (sym (eqb-true s h e)) is_pending

    case_back : {c : Case} → case_by (Back (slot h)) T i ≡ c → case_by (want_of own z) T i ≡ c
    case_back e = ap (λ (w : Want). case_by w T i) wants_back ∙ e

    got : case_by (Back (slot h)) T i ≡ case.Got (slot h) → acquire i (k h) ≡ has_it (lock (some i) (k h).queue)
        → Follows own z T i img (case_by (want_of own z) T i) (reacquire own i x k img h x')
    unfolding word_of image_after slots_after seat_after reacquire from16
    got e f =
        follows_as own z T i img (case_back e) (ap (from16 own i x k img h x') f)
        (goes_on_lem own z T i img (case.Got (slot h)) (setting h (lock (some i) (k h).queue) k) l' L M' refl g.opens
        (locks_taken T k like g.whole i h g.seat low)
        (record {
          pending = left;
          lockset = λ s m. y.lockset s m ∙ one_got (holds T i s) (has z.pending s) (waits T i s) (eqb s h) (pending_at_lem s)
              ∙ sym (rw (own_taken T g.whole i g.seat h low s, waits_taken T g.whole i h i s, has-removing z.pending h s));
          place = goes (λ s m. waits_taken T g.whole i h i s ∙ is_false (λ w.
              let q = g.blocked s m w in let p = case_back e in let r : ◌≡◌ {A = ℕ} 0 1 = cc in omega arith));
        })
        (λ j b n. kept_taken T g.whole i j b n h low))

    blocked : Out H h → In (owned T) h → waits T i h ≡ true → Follows own z T i img (case_by (want_of own z) T i) (reacquire own i x k img h x')
    unfolding word_of image_after slots_after seat_after reacquire from16
    blocked n m w =
        follows_as own z T i img (g.blocked h low w) (ap (from16 own i x k img h x') (acquire_waits T k like i h low n m w))
        (goes_on_lem own z T i img case.Blocked k l L M refl g.opens like y (kept_same T g.whole i))

    queued : Out H h → In (owned T) h → waits T i h ≡ false → Follows own z T i img (case_by (want_of own z) T i) (reacquire own i x k img h x')
    unfolding word_of image_after slots_after seat_after reacquire from16 case_for waiting slot_of
    queued n m w =
        let line = g.lines h low in
        let room = g.room h low w in
        follows_as own z T i img (case_back (rw (n, m, w))) (ap (from16 own i x k img h x') (acquire_joins T k like i h low n m w))
        (goes_on_lem own z T i img (case.Queued (slot h)) (setting h (lock (k h).owner ((k h).queue ++ (i ∷ []))) k) l L M refl g.opens
        (locks_joined T k like g.whole i h g.seat low line room)
        (record {
          pending = y.pending;
          lockset = λ s b. y.lockset s b
              ∙ one_waits (holds T i s || has z.pending s) (waits T i s) (eqb s h) (λ e. or_r (holds T i s) (pending_at_lem s e))
              ∙ sym (rw (own_joined T g.whole i g.seat h low line room s, held-joined T i h i));
          place = stays;
        })
        (λ j b q. kept_joined T g.whole i j b q h low line room))

    pub back_follows : Follows own z T i img (case_by (want_of own z) T i) (reacquire own i x k img h x')
    unfolding case_for slot_of
    back_follows =
        split (has H h)
        (λ m. got (rw m) (acquire_mine T k like i h low m (λ j b n. g.sole h j b m n)))
        (λ n. split (has (owned T) h) (λ m. split (waits T i h) (blocked n m) (queued n m)) (λ f. got (rw (n, f)) (acquire_free T k like i h low f)))
