-- The slot table: '"Held" are the slots the seat owns', and how a released slot changes hands.
use Rattle.std.specs.Prelude.{ℕ, zero, suc, cond, List, [], ◌∷◌, eqb, get_or, set, replicate}
use Rattle.slots.specs.declared.set.SlotSet.{SlotSet}
use Rattle.slots.specs.Sizes as sizes
use Rattle.slots.specs.Sets.{none, adding, removing, union, difference, size, smallest}
use Rattle.seats.specs.declared.queue.Queue.{Queue}
use Rattle.seats.specs.declared.slot_table.SlotTable.{SlotTable}
use Rattle.seats.specs.Queues.{seats, no_one, joined, served, head_of}

-- nobody holds anything, nobody waits
unfoldable pub all_free : SlotTable
all_free = record { held = replicate seats none; queues = replicate sizes.slots no_one }

-- what stands past the end of the queues: no slot comes to it
abbrev pub no_queue : Queue
no_queue = record { seats = []; len = 0 }

-- the slots that seat i owns, and the queue of slot s
abbrev pub held_by : SlotTable → ℕ → SlotSet
held_by t i = get_or t.held i none

abbrev pub queue_of : SlotTable → ℕ → Queue
queue_of t s = get_or t.queues s no_queue

-- the slots that some seat owns
unfoldable pub union_of : List SlotSet → SlotSet
union_of [] = none
union_of (h ∷ hs) = union h (union_of hs)

unfoldable pub owned : SlotTable → SlotSet
owned t = union_of t.held

-- ---- changes

abbrev pub with_held : SlotTable → ℕ → SlotSet → SlotTable
with_held t i h = record { held = set t.held i h; queues = t.queues }

abbrev pub with_queue : SlotTable → ℕ → Queue → SlotTable
with_queue t s q = record { held = t.held; queues = set t.queues s q }

-- seat i owns slot s now
unfoldable pub taken : SlotTable → ℕ → ℕ → SlotTable
taken t i s = with_held t i (adding (held_by t i) s)

-- seat i joins the tail of the queue of slot s
unfoldable pub joined_by : SlotTable → ℕ → ℕ → SlotTable
joined_by t i s = with_queue t s (joined (queue_of t s) i)

-- a released slot goes at once to the head of its queue, which leaves the queue; with no queue it is free
unfoldable pub handed : SlotTable → ℕ → SlotTable
handed t s = cond (eqb (queue_of t s).len 0) t (taken (with_queue t s (served (queue_of t s))) (head_of (queue_of t s)) s)

-- the n smallest slots of R, one after the other
unfoldable pub handed_first : ℕ → SlotTable → SlotSet → SlotTable
handed_first zero t R = t
handed_first (suc n) t R = handed_first n (handed t (smallest R)) (removing R (smallest R))

-- each slot of R
unfoldable pub handed_on : SlotTable → SlotSet → SlotTable
handed_on t R = handed_first (size R) t R

-- seat i releases the slots of R
unfoldable pub released : SlotTable → ℕ → SlotSet → SlotTable
released t i R = handed_on (with_held t i (difference (held_by t i) R)) R
