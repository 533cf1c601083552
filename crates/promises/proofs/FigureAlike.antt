-- When a table and the machine of Figure 1 are in the same place. The memory is the image and the locks are the slot table's; where a seat
-- is open there is a transaction with its script and run, whose L is what the seat holds, has pending or is queued for. Its line says more:
-- in its own code the seat is in no queue; at 7 it wants that slot for an access, and waits for it or has it by now; at 14 the slot is
-- pending, with the higher ones of M, and at 16 those of M are.
use Prim.Native.Nat.{ℕ, ◌<◌}
use mathlib.Core.Path.{◌≡◌, refl, sym, ap, ◌∙◌}
use mathlib.Core.Bool.{Bool, true, false, ◌||◌}
use mathlib.Core.List.{List}
use mathlib.Core.Option.{Option, some, none}
use lib.Dec.{eqb}
use lib.ListN.{length, get_or, set}
use lib.Seq.{get_or-set_same, get_or-set_other}
use borrow.Author.Tests.{eqb-true, eqb-false}
use Rattle.slots.specs.Sizes.{slots}
use Rattle.slots.specs.declared.set.SlotSet.{SlotSet}
use Rattle.slots.specs.Sets.{slot, has, is_empty}
use Rattle.slots.proofs.Truth.{split}
use Rattle.slots.proofs.Members.{In, Proper}
use Rattle.seats.specs.declared.seat.Seat.{Seat}
use Rattle.seats.specs.declared.slot_table.SlotTable.{SlotTable}
use Rattle.seats.specs.declared.table.Table.{Table}
use Rattle.seats.specs.Queues.{seats, waits_in}
use Rattle.seats.specs.SlotTables.{held_by, queue_of}
use Rattle.seats.specs.Seats.{is_open}
use Rattle.seats.specs.Tables.{no_seat, seat_at}
use Rattle.course.specs.declared.wants.Want.TheVariants.{Access}
use Rattle.course.specs.Wants.{want_of}
use Rattle.promises.specs.Figure1.{Line, code, line7, line14, line16, Transaction, Machine, becoming, pending_at}
use Rattle.promises.proofs.FigureLocks.{LocksLike}

module _ (T : SlotTable) (i s : ℕ) where
  abbrev pub holds : Bool
  holds = has (held_by T i) s

  abbrev pub waits : Bool
  waits = waits_in (queue_of T s) i

-- at 14: the slot is below those of M, which has some
pub record Lowest (h : ℕ) (M : SlotSet) : Type 0 where
  pub small : h < slots
  pub proper : Proper M
  pub some : is_empty M ≡ false
  pub below : (s : ℕ) → In M s → h < s

pub record Seven (own : ℕ → ℕ) (z : Seat) (T : SlotTable) (i h : ℕ) : Type 0 where
  pub small : h < slots
  pub wanted : want_of own z ≡ Access (slot h)
  pub near : (holds T i h || waits T i h) ≡ true

module _ (own : ℕ → ℕ) where
  abbrev pub Place : Seat → SlotTable → ℕ → Line → SlotSet → Type 0
  Place z T i code M = (s : ℕ) → s < slots → waits T i s ≡ false
  Place z T i (line7 h) M = Seven own z T i h
  Place z T i (line14 h) M = Lowest h M
  Place z T i line16 M = is_empty M ≡ false

  -- seat i = z, and a transaction at line l with its sets
  pub record Like (z : Seat) (T : SlotTable) (i : ℕ) (l : Line) (L M : SlotSet) : Type 0 where
    pub pending : z.pending ≡ pending_at l M
    pub lockset : (s : ℕ) → s < slots → has L s ≡ ((holds T i s || has z.pending s) || waits T i s)
    pub place : Place z T i l M

  pub record SeatLike (z : Seat) (T : SlotTable) (i : ℕ) (x : Transaction) : Type 0 where
    pub script : z.script ≡ x.script
    pub run : z.run ≡ x.run
    pub like : Like z T i x.line x.L x.M

  abbrev pub Becomes : Seat → SlotTable → ℕ → Option Transaction → Type 0
  Becomes z T i none = is_open z.phase ≡ false
  Becomes z T i (some x) = (is_open z.phase ≡ true) × SeatLike z T i x

  pub record Alike (t : Table) (img : List ℕ) (m : Machine) : Type 0 where
    pub memory : img ≡ m.memory
    pub locks : LocksLike t.slots m.locks
    pub seat : (i : ℕ) → i < seats → Becomes (seat_at t i) t.slots i (m.transactions i)

-- ---- a seat that another's step leaves alone: a slot may come to it, from the queue that it leads

pub record Kept (T U : SlotTable) (j : ℕ) : Type 0 where
  pub near : (s : ℕ) → s < slots → (holds U j s || waits U j s) ≡ (holds T j s || waits T j s)
  pub calm : (s : ℕ) → s < slots → waits T j s ≡ false → waits U j s ≡ false

turned : (a p w : Bool) → ((a || p) || w) ≡ ((a || w) || p)
turned true p w = refl
turned false true true = refl
turned false true false = refl
turned false false true = refl
turned false false false = refl

module _ (own : ℕ → ℕ) (z : Seat) (T U : SlotTable) (j : ℕ) (k : Kept T U j) where
  place_kept : (l : Line) (M : SlotSet) → Place own z T j l M → Place own z U j l M
  place_kept code M p = λ s l. k.calm s l (p s l)
  place_kept (line7 h) M p = record { small = p.small; wanted = p.wanted; near = k.near h p.small ∙ p.near }
  place_kept (line14 h) M p = p
  place_kept line16 M p = p

  like_kept : (l : Line) (L M : SlotSet) → Like own z T j l L M → Like own z U j l L M
  like_kept l L M y =
      record {
        pending = y.pending;
        lockset = λ s b. y.lockset s b ∙ turned (holds T j s) (has z.pending s) (waits T j s)
            ∙ ap (λ (c : Bool). c || has z.pending s) (sym (k.near s b))
            ∙ sym (turned (holds U j s) (has z.pending s) (waits U j s));
        place = place_kept l M y.place;
      }

  pub becomes_kept : (o : Option Transaction) → Becomes own z T j o → Becomes own z U j o
  becomes_kept none b = b
  becomes_kept (some x) b =
      (b.0, record { script = b.1.script; run = b.1.run; like = like_kept x.line x.L x.M b.1.like })

-- ---- one seat and its transaction changed

-- what is so of the two, and of each other seat and transaction as they were
pub changed : (P : ℕ → Seat → Option Transaction → Type 0) (zs : List Seat) (f : ℕ → Option Transaction) (i : ℕ) (z : Seat) (x : Option Transaction)
    → i < length zs → P i z x → ((j : ℕ) → (j ≡ i → ⊥) → P j (get_or zs j no_seat) (f j))
    → (j : ℕ) → P j (get_or (set zs i z) j no_seat) (becoming f i x j)
unfolding becoming
changed P zs f i z x l here there j =
    split (eqb j i)
    (λ e. let q : j ≡ i = eqb-true j i e in rw (e, q, get_or-set_same zs i z no_seat l) here)
    (λ e. let n : j ≡ i → ⊥ = eqb-false j i e in rw (e, get_or-set_other zs i j z no_seat n) (there j n))
