-- A move of the machine that follows a step: it has the step's reply, leaves its memory and its locks, and leaves its transaction where the
-- step leaves the seat, and the step leaves the other seats alone. A move whose transaction goes on with the script and the run that the
-- step leaves needs only be compared in its locks and its line, and one that ends it in its locks.
use Prim.Native.Nat.{ℕ, ◌<◌}
use mathlib.Core.Path.{◌≡◌, refl, sym, subst}
use mathlib.Core.Bool.{true, false}
use mathlib.Core.List.{List}
use mathlib.Core.Option.{some, none}
use Rattle.slots.specs.declared.set.SlotSet.{SlotSet}
use Rattle.seats.specs.declared.seat.Seat.{Seat}
use Rattle.seats.specs.declared.slot_table.SlotTable.{SlotTable}
use Rattle.seats.specs.Queues.{seats}
use Rattle.seats.specs.SlotTables.{held_by}
use Rattle.seats.specs.Seats.{is_open}
use Rattle.course.specs.declared.cases.Case.{Case}
use Rattle.course.specs.Cases.{word_of}
use Rattle.course.specs.Steps.{seat_after, slots_after, image_after}
use Rattle.promises.specs.Figure1.{Locks, Line, transaction, Move, move}
use Rattle.promises.proofs.FigureLocks.{LocksLike}
use Rattle.promises.proofs.FigureAlike.{Like, Becomes, Kept}

module _ (own : ℕ → ℕ) (z : Seat) (T : SlotTable) (i : ℕ) (img : List ℕ) where
  abbrev pub left : Case → Seat
  left c = seat_after c z (held_by T i) img

  abbrev pub Others : Case → Type 0
  Others c = (j : ℕ) → j < seats → (j ≡ i → ⊥) → Kept T (slots_after c T i) j

  pub record Follows (c : Case) (v : Move) : Type 0 where
    pub reply : word_of c ≡ v.reply
    pub memory : image_after c z.run img ≡ v.memory
    pub locks : LocksLike (slots_after c T i) v.locks
    pub seat : Becomes own (left c) (slots_after c T i) i v.becomes
    pub others : Others c

  -- the case and the move by other names
  pub follows_as : {c d : Case} {u v : Move} → c ≡ d → u ≡ v → Follows d v → Follows c u
  follows_as {c} {d} {u} {v} e f r = subst (λ (a : Case). Follows a u) (sym e) (subst (λ (w : Move). Follows d w) (sym f) r)

  module _ (c : Case) (k : Locks) where
    pub goes_on_lem : (l : Line) (L M : SlotSet) → image_after c z.run img ≡ img → is_open (left c).phase ≡ true
        → LocksLike (slots_after c T i) k → Like own (left c) (slots_after c T i) i l L M → Others c
        → Follows c (move (word_of c) (some (transaction (left c).script (left c).run l L M)) k img)
    goes_on_lem l L M e o f y q =
        record { reply = refl; memory = e; locks = f; seat = (o, record { script = refl; run = refl; like = y }); others = q }

    pub ends : is_open (left c).phase ≡ false → LocksLike (slots_after c T i) k → Others c
        → Follows c (move (word_of c) none k (image_after c z.run img))
    ends o f q = record { reply = refl; memory = refl; locks = f; seat = o; others = q }
