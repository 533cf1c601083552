-- The queue of a slot: 'join the tail', 'the head of its queue, which leaves the queue', 'in the queue'.
use Rattle.std.specs.Prelude.{ℕ, ◌+◌, ◌-◌, Bool, false, not, cond, ◌&&◌, ◌||◌, List, [], ◌∷◌, ◌++◌, leb, eqb, take, drop, get_or, set, replicate}
use Rattle.seats.specs.declared.queue.Queue.{Queue}

-- 16 seats, 0 to 15
abbrev pub seats : ℕ
seats = 16

unfoldable pub no_one : Queue
no_one = record { seats = replicate seats 0; len = 0 }

-- the seats that wait, the head first: what stands behind the length means nothing
unfoldable pub entries : Queue → List ℕ
entries q = take q.len q.seats

unfoldable pub is_entry : ℕ → List ℕ → Bool
is_entry i [] = false
is_entry i (x ∷ xs) = eqb x i || is_entry i xs

-- seat i is in the queue
unfoldable pub waits_in : Queue → ℕ → Bool
waits_in q i = is_entry i (entries q)

-- with seat i at its tail; a full queue stays as it is
unfoldable pub joined : Queue → ℕ → Queue
joined q i = cond (leb seats q.len) q (record { seats = set q.seats q.len i; len = q.len + 1 })

-- without its head; an empty queue stays as it is
unfoldable pub served : Queue → Queue
served q = cond (eqb q.len 0) q (record { seats = drop 1 q.seats ++ (0 ∷ []); len = q.len - 1 })

unfoldable pub head_of : Queue → ℕ
head_of q = get_or q.seats 0 0

-- seat i is the head of a queue that is not empty
unfoldable pub is_head : Queue → ℕ → Bool
is_head q i = not (eqb q.len 0) && eqb (head_of q) i
