-- A step keeps the table and the machine in the same place. Of an open seat, the move of its transaction follows the step, whatever its line;
-- the seat is where the move leaves the transaction, and the others are as they were but for slots handed to them. Of any other seat the
-- step is refused, and the machine has no transaction to move.
use Prim.Native.Nat.{ℕ, ◌<◌}
use mathlib.Core.Path.{◌≡◌, refl, sym, ap, ◌∙◌, subst}
use mathlib.Core.Logic.{inl, inr}
use mathlib.Core.Bool.{true, false, cond}
use mathlib.Core.List.{List}
use mathlib.Core.Option.{Option, some, none}
use native.Mathlib.Omega.{arith}
use lib.Dec.{ltb, eqb}
use lib.ListN.{length}
use borrow.Author.Tests.{ltb-true, lt-ltb, eqb-true}
use Rattle.slots.specs.Sizes.{cells, slots}
use Rattle.slots.specs.declared.set.SlotSet.{SlotSet}
use Rattle.slots.proofs.Truth.{not_both, split}
use Rattle.seats.specs.declared.seat.Seat.{Seat}
use Rattle.seats.specs.declared.slot_table.SlotTable.{SlotTable}
use Rattle.seats.specs.declared.table.Table.{Table}
use Rattle.seats.specs.Queues.{seats}
use Rattle.seats.specs.SlotTables.{held_by}
use Rattle.seats.specs.Seats.{is_open}
use Rattle.seats.specs.Tables.{seat_at}
use Rattle.course.specs.Words as word
use Rattle.course.specs.Wants.{want_of}
use Rattle.course.specs.Steps.{seat_after}
use Rattle.rules.specs.Rules.{IsOpen}
use Rattle.table.specs.Calls.{case_of, moved_by, image_by, step_call, step_image}
use Rattle.upkeep.specs.SoundTables.{Stands}
use Rattle.promises.specs.Figure1.{Locks, Line, code, line7, line14, line16, Transaction, transaction, Machine, move, at_line}
use Rattle.promises.specs.Figure1.{becoming, move_from, move_of, moved}
use Rattle.upkeep.proofs.Replies.{open_phase, phase_open, StepRefused, step_any, step_open}
use Rattle.promises.proofs.FigureLocks.{LocksLike}
use Rattle.promises.proofs.FigureAlike.{Like, SeatLike, Becomes, Alike, becomes_kept, changed}
use Rattle.promises.proofs.FigureTable.{Ground, case_by, ground}
use Rattle.promises.proofs.FigureMoves.{Follows, follows_as}
use Rattle.promises.proofs.FigureAccess.{code_follows}
use Rattle.promises.proofs.FigureWaits.{line7_follows}
use Rattle.promises.proofs.FigureBack.{line14_follows, line16_follows}

-- ---- the move

module _ {own : ℕ → ℕ} (below : (c : ℕ) → own c < slots) (z : Seat) (T : SlotTable) (i : ℕ) (g : Ground own z T i) (img : List ℕ) (k : Locks)
    (like : LocksLike T k) where
  line_follows : (l : Line) (L M : SlotSet) → Like own z T i l L M
      → Follows own z T i img (case_by (want_of own z) T i) (at_line own i (transaction z.script z.run l L M) k img l)
  line_follows code L M y = code_follows z T i g img k like L M y below
  line_follows (line7 h) L M y = line7_follows z T i g img k like h L M y
  line_follows (line14 h) L M y = line14_follows z T i g img k like h L M y
  line_follows line16 L M y = line16_follows z T i g img k like L M y

  as_seat : (x : Transaction) → SeatLike own z T i x → x ≡ transaction z.script z.run x.line x.L x.M
  as_seat x y = λ j. record { script = sym y.script j; run = sym y.run j; line = x.line; L = x.L; M = x.M }

  pub move_follows : (x : Transaction) → SeatLike own z T i x
      → Follows own z T i img (case_by (want_of own z) T i) (at_line own i x k img x.line)
  move_follows x y =
      follows_as own z T i img refl (ap (λ (u : Transaction). at_line own i u k img x.line) (as_seat x y))
      (line_follows x.line x.L x.M y.like)

-- ---- the machine's move of a seat number

module _ (own : ℕ → ℕ) (m : Machine) (i : ℕ) where
  move_some : (x : Transaction) → i < seats → m.transactions i ≡ some x → move_of own m i ≡ at_line own i x m.locks m.memory x.line
  unfolding move_of move_from
  move_some x l e = rw (lt-ltb i seats l, e)

  move-none : cond (ltb i seats) (m.transactions i) none ≡ none → move_of own m i ≡ move word.None none m.locks m.memory
  unfolding move_of move_from
  move-none e = rw e

-- no transaction where the seat is not open, and one where it is
shut_none : (own : ℕ → ℕ) (z : Seat) (T : SlotTable) (i : ℕ) (o : Option Transaction) → Becomes own z T i o → is_open z.phase ≡ false → o ≡ none
shut_none own z T i none b e = refl
shut_none own z T i (some x) b e = absurd (not_both b.0 e)

open_some : (own : ℕ → ℕ) (z : Seat) (T : SlotTable) (i : ℕ) (o : Option Transaction) → Becomes own z T i o → is_open z.phase ≡ true
    → (x : Transaction) × (o ≡ some x) × SeatLike own z T i x
open_some own z T i none b e = absurd (not_both e b)
open_some own z T i (some x) b e = (x, refl, b.1)

-- ---- the step

module _ {own : ℕ → ℕ} (below : (c : ℕ) → own c < slots) (t : Table) (img : List ℕ) (m : Machine) (a : Alike own t img m) (st : Stands own t)
    (i : ℕ) where
  module _ (o : IsOpen t i) where
    pub step_follows : Follows own (seat_at t i) t.slots i img (case_of own t i) (move_of own m i)
    unfolding case_of
    step_follows =
        let p = open_some own (seat_at t i) t.slots i (m.transactions i) (a.seat i o.seat) (phase_open o.phase) in
        follows_as own (seat_at t i) t.slots i img refl
        (move_some own m i p.0 o.seat p.1 ∙ ap (λ (mem : List ℕ). at_line own i p.0 m.locks mem p.0.line) (sym a.memory))
        (move_follows below (seat_at t i) t.slots i (ground t i st o) img m.locks a.locks p.0 p.2)

    pub alike_moved : Alike own (moved_by own t img i).table (image_by own t img i) (moved own m i)
    unfolding moved_by image_by moved
    alike_moved =
        let f = step_follows in
        let U : SlotTable = (moved_by own t img i).table.slots in
        record {
          memory = f.memory;
          locks = f.locks;
          seat = changed (λ j z x. j < seats → Becomes own z U j x) t.seats m.transactions i
              (seat_after (case_of own t i) (seat_at t i) (held_by t.slots i) img) (move_of own m i).becomes
              (omega (arith, st.shaped.seats16, o.seat)) (λ b. f.seat)
              (λ j n b. becomes_kept own (seat_at t j) t.slots U j (f.others j b n) (m.transactions j) (a.seat j b));
        }

  -- the seat is not open, or there is no such seat
  module _ (n : i < seats → is_open (seat_at t i).phase ≡ false) where
    pub no_move : move_of own m i ≡ move word.None none m.locks m.memory
    no_move =
        move-none own m i
        (split (ltb i seats)
        (λ e. let l : i < seats = ltb-true i seats e in
        rw e (shut_none own (seat_at t i) t.slots i (m.transactions i) (a.seat i l) (n l)))
        (λ e. rw e))

    pub step_refused : StepRefused own t img i
    step_refused = elim (step_any own t img i) [
      | inl r ↦ r
      | inr g ↦ absurd (not_both (phase_open g.opens.phase) (n g.opens.seat))
    ]

    alike_still : Alike own t img (moved own m i)
    unfolding moved becoming
    alike_still =
        record {
          memory = rw no_move a.memory;
          locks = rw no_move a.locks;
          seat = λ j b. split (eqb j i)
              (λ e. let q : i ≡ j = sym (eqb-true j i e) in
              rw (e, no_move) (subst (λ (u : ℕ). is_open (seat_at t u).phase ≡ false) q (n (omega arith))))
              (λ e. rw e (a.seat j b));
        }

  pub open_or : {A : Type 0} → (IsOpen t i → A) → ((i < seats → is_open (seat_at t i).phase ≡ false) → A) → A
  open_or f h =
      split (ltb i seats)
      (λ e. split (is_open (seat_at t i).phase)
      (λ o. f (record { seat = ltb-true i seats e; phase = open_phase (seat_at t i).phase o })) (λ o. h (λ l. o)))
      (λ e. h (λ l. absurd (not_both (lt-ltb i seats l) e)))

  pub alike_stepped : length img ≡ cells → Alike own (step_call own t img i).table (step_image own t img i) (moved own m i)
  alike_stepped len =
      open_or
      (λ o. let g = step_open own t img i st len o in rw (g.table, g.image) (alike_moved o))
      (λ n. let r = step_refused n in rw (r.table, r.image) (alike_still n))
