-- Rule 1 of 'A sound table' as a test. `Rules` has it in words of membership.
use Rattle.std.specs.Prelude.{Bool, true, false, cond, ◌&&◌, ◌||◌, List, [], ◌∷◌, ◌++◌, ℕ, zero, suc, ltb, leb, eqb, Result, Ok, Err}
use Rattle.slots.specs.declared.set.SlotSet.{SlotSet}
use Rattle.slots.specs.Sizes.{slots}
use Rattle.slots.specs.Sets.{has, set_of, none, removing, difference, is_empty}
use Rattle.seats.specs.declared.slot_table.SlotTable.{SlotTable}
use Rattle.seats.specs.Queues.{seats, entries, is_entry}
use Rattle.seats.specs.SlotTables.{queue_of, union_of, owned}

-- the test f passes at each number below n
unfoldable pub all : (ℕ → Bool) → ℕ → Bool
all f zero = true
all f (suc n) = all f n && f n

-- what is in both
unfoldable pub common : SlotSet → SlotSet → SlotSet
common S R = difference S (difference S R)

-- no slot is owned twice
unfoldable pub apart : List SlotSet → Bool
apart [] = true
apart (h ∷ hs) = is_empty (common h (union_of hs)) && apart hs

-- those who wait in the queues of the first n slots, queue after queue
unfoldable pub waiters : SlotTable → ℕ → List ℕ
waiters t zero = []
waiters t (suc n) = waiters t n ++ entries (queue_of t n)

unfoldable pub all_seats : SlotSet
all_seats = set_of (λ i. ltb i seats)

-- the seats that have not been met in a queue yet, and whether all went well so far: each seat met was among them
pub record Unmet : Type 0 where
  pub fine : Bool
  pub seats : SlotSet

-- of the seats not met yet, one is met: all is fine if it is among them
abbrev pub unmet : Bool → SlotSet → Unmet
unmet fine O = record { fine = fine; seats = O }

unfoldable pub met : ℕ → Unmet → Unmet
met x u = cond (has u.seats x) (unmet u.fine (removing u.seats x)) (unmet false u.seats)

unfoldable pub met_all : List ℕ → Unmet → Unmet
met_all [] u = u
met_all (x ∷ xs) u = met_all xs (met x u)

-- a queue has at most 16 seats; a slot with a queue is among the slots O
unfoldable pub lengths_test : SlotTable → SlotSet → Bool
lengths_test t O = all (λ s. leb (queue_of t s).len seats && (eqb (queue_of t s).len 0 || has O s)) slots

-- and nobody is met twice
unfoldable pub queues_test : SlotTable → Bool
queues_test t = lengths_test t (owned t) && (met_all (waiters t slots) (unmet true all_seats)).fine

-- the seats that nobody met in a queue, where all is fine so far; none are left over otherwise
unfoldable pub left_over : SlotTable → Unmet
left_over t = cond (apart t.held && lengths_test t (owned t)) (met_all (waiters t slots) (unmet true all_seats)) (unmet false none)

-- what a Result says of them: Ok if all is fine, Err if not, each with the seats
abbrev pub said_unmet : Result SlotSet SlotSet → Unmet
said_unmet (Ok O) = unmet true O
said_unmet (Err O) = unmet false O

unfoldable pub is_queued : SlotTable → ℕ → Bool
is_queued t i = is_entry i (waiters t slots)
