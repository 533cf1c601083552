-- What is known of every queue and slot table of the code: how long the arrays in it are. A value of a declared type comes with the row of
-- its fields, and an array's row says its length and that each element is a value of the element's type (`element`, said once for all types).
-- A table whose arrays are that long stays so after a store, and past the end of an array nothing is stored or found.
use Prim.Native.Nat.{ℕ, zero, suc, ◌≤◌, ◌<◌}
use mathlib.Core.Path.{◌≡◌}
use mathlib.Core.List.{List, [], ◌∷◌}
use native.Mathlib.Omega.{arith}
use lib.ListN.{length, get_or, length-set, get_or-eq_default}
use lib.Seq.{set_out}
use mir.Val.{Val}
use denote.Shadow.{shadow}
use denote.Array.{each}
use denote.Laws.{Is}
use denote.Struct.Declared.{Declared, row}
use Rattle.slots.specs.Sizes.{slots}
use Rattle.slots.specs.declared.set.SlotSet.{SlotSet}
use Rattle.seats.specs.declared.queue.Queue.{Queue}
use Rattle.seats.specs.declared.slot_table.SlotTable.{SlotTable}
use Rattle.seats.specs.Queues.{seats}
use Rattle.seats.specs.SlotTables.{no_queue, queue_of, with_held, with_queue}
use Rattle.seats.specs.contracts.queue.Queue as queue
use Rattle.seats.specs.contracts.slot_table.SlotTable as table
use Rattle.seats.proofs.Lines.{Line}

-- a slot table with its arrays whole
pub record Whole (t : SlotTable) : Type 0 where
  pub held16 : length t.held ≡ seats
  pub queues64 : length t.queues ≡ slots

-- the queue of every slot is a line
abbrev pub Lined : SlotTable → Type 0
Lined t = (k : ℕ) → k < slots → Line (queue_of t k)

-- ---- values of the code

-- an element of an array is a value of its type
module _ (T : Declared) (z : T.D) where
  pub element : (xs : List T.D) (us : List Val) → shadow (each (row T).Denot (row T).own_val xs us)
      → (i : ℕ) → i < length xs → (u : Val) × Is (row T) (get_or xs i z) (u ∷ [])
  element [] us s i h = absurd (omega arith)
  element (x ∷ xs) [] s i h = absurd s
  element (x ∷ xs) (u ∷ us) s zero h = (u, s.0)
  element (x ∷ xs) (u ∷ us) s (suc i) h = element xs us s.1 i (omega arith)

pub queue_16 : (q : Queue) (vs : List Val) → Is (row queue.the_type) q vs → length q.seats ≡ seats
queue_16 q vs h = h.1.1.0.1.0.1

module _ (t : SlotTable) (vs : List Val) (h : Is (row table.the_type) t vs) where
  pub whole : Whole t
  whole =
      record {
        held16 = h.1.1.0.1.0.1;
        queues64 = h.1.1.1.0.1.0.1;
      }

  -- of a queue the code's types do not say that its length is at most 16
  pub lined : ((k : ℕ) → k < slots → (queue_of t k).len ≤ seats) → Lined t
  lined short k l =
      let q = element queue.the_type no_queue t.queues h.1.1.1.0.0 h.1.1.1.0.1.1 k (omega (arith, whole.queues64)) in
      record { array = queue_16 (queue_of t k) _ q.1; short = short k l }

-- ---- stores

module _ (t : SlotTable) (w : Whole t) where
  pub whole_held : (i : ℕ) (h : SlotSet) → Whole (with_held t i h)
  whole_held i h = record { held16 = simp length-set w.held16; queues64 = w.queues64 }

  pub whole_queue : (k : ℕ) (q : Queue) → Whole (with_queue t k q)
  whole_queue k q = record { held16 = w.held16; queues64 = simp length-set w.queues64 }

  -- there is no such seat, and no such slot
  pub held_past : (i : ℕ) (h : SlotSet) → seats ≤ i → with_held t i h ≡ t
  held_past i h l = rw (set_out t.held i h (omega (arith, w.held16)))

  pub no_queue_lem : (k : ℕ) → slots ≤ k → queue_of t k ≡ no_queue
  no_queue_lem k l = get_or-eq_default t.queues no_queue (omega (arith, w.queues64))
