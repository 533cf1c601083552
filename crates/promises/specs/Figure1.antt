-- Figure 1 of the paper as a machine of its own: the locks of the ownership array with their queues, and for each transaction its place in
-- the listing, its lock-index set L and its set M. `own` is the paper's h. What a transaction does between its accesses, and what an access
-- does, is the script's; the paper calls it the transaction state.
--
-- One move of a transaction is one step of its seat. Which lines a reply stands for:
--   ran         own code; or 1, 2, 18; or 1, 3 to 7, 18; or 1, 3 to 6, 8, 9, 18; or, after a wait, 7, 18
--   queued      1, 3 to 7, or 14, or 16: the lock is taken, and the wait for it begins
--   blocked     7, or 14, or 16: the wait goes on
--   restarted   1, 3 to 6, 8, 10 to 13
--   got         14; or 16, and with the last of M also 17
--   committed, failed   the transaction completes: all locks with indexes in L are released
use Rattle.std.specs.Prelude.{ℕ, ◌<◌, ◌≡◌, Bool, true, false, not, cond, ◌&&◌, List, [], ◌∷◌, ◌++◌, ltb, eqb, length, get_or, take}
use Rattle.std.proofs.Math.Option.{Option, some, none}
use Rattle.slots.specs.Sizes.{cells, slots}
use Rattle.slots.specs.declared.set.SlotSet.{SlotSet}
use Rattle.slots.specs.Sets as sets
use Rattle.slots.specs.Sets.{has, adding, removing, above, is_empty, smallest}
use Rattle.script.specs.declared.code.Script.{Script}
use Rattle.script.specs.Scripts.{no_instr}
use Rattle.script.specs.Meaning.{Act, local, reads, writes, act_of}
use Rattle.script.specs.Frames.{read_refusal, read_script}
use Rattle.seats.specs.declared.seat.Run.{Run}
use Rattle.seats.specs.declared.seat.Seat.{Seat}
use Rattle.seats.specs.Queues.{seats, is_entry}
use Rattle.seats.specs.Seats.{is_open, opened_run}
use Rattle.seats.specs.Tables.{seat_at}
use Rattle.course.specs.Words.{Word}
use Rattle.course.specs.Words as word
use Rattle.runs.specs.Runs.{kept_writes, written, after_act}
use Rattle.rules.specs.Rules.{concerned}
use Rattle.table.specs.Answers.{SlotView}
use Rattle.promises.specs.Histories.{Library, Call, opening, step, World, step_reply, history}

abbrev pub is_some : {A : Type 0} → Option A → Bool
is_some none = false
is_some (some x) = true

-- ---- locks

-- who has it, and who waits for it, the head first
pub record Lock : Type 0 where
  pub owner : Option ℕ
  pub queue : List ℕ

abbrev pub lock : Option ℕ → List ℕ → Lock
lock o q = record { owner = o; queue = q }

-- blocking: transaction i has the lock now; or it is taken, and i waits at the tail of its queue now; or i waits there already
pub data Acquired : Type 0 where
  has_it : Lock → Acquired
  joins : Lock → Acquired
  waits : Acquired

unfoldable pub acquire_from : Option ℕ → ℕ → List ℕ → Acquired
acquire_from none i q = has_it (lock (some i) q)
acquire_from (some j) i q = cond (eqb j i) (has_it (lock (some j) q)) (cond (is_entry i q) waits (joins (lock (some j) (q ++ (i ∷ [])))))

unfoldable pub acquire : ℕ → Lock → Acquired
acquire i k = acquire_from k.owner i k.queue

-- nonblocking: a lock that is taken stays as it is
unfoldable pub try_acquire : ℕ → Lock → Option Lock
try_acquire i k = cond (is_some k.owner) none (some (lock (some i) k.queue))

-- the lock goes to the head of its queue, and is free where nobody waits
unfoldable pub handed_to : List ℕ → Lock
handed_to [] = lock none []
handed_to (x ∷ xs) = lock (some x) xs

unfoldable pub release : Lock → Lock
release k = handed_to k.queue

abbrev pub Locks : Type 0
Locks = ℕ → Lock

unfoldable pub releasing : SlotSet → Locks → Locks
releasing R k s = cond (has R s) (release (k s)) (k s)

unfoldable pub setting : ℕ → Lock → Locks → Locks
setting h x k s = cond (eqb s h) x (k s)

-- ---- transactions

-- where a transaction is in the listing between two of its moves
pub data Line : Type 0 where
  -- in its own code: not inside SAFE-ACCESS
  code : Line
  -- in ACQUIRE(lock[h(x)]), with h(x) given
  line7 : ℕ → Line
  line14 : ℕ → Line
  -- in the loop over M
  line16 : Line

pub record Transaction : Type 0 where
  pub script : Script
  -- the transaction state
  pub run : Run
  pub line : Line
  pub L : SlotSet
  pub M : SlotSet

abbrev pub transaction : Script → Run → Line → SlotSet → SlotSet → Transaction
transaction σ ρ l L M = record { script = σ; run = ρ; line = l; L = L; M = M }

-- at transaction start, L = ∅
unfoldable pub start : Script → ℕ → Transaction
start σ reading = transaction σ (opened_run reading) code sets.none sets.none

pub record Machine : Type 0 where
  pub transactions : ℕ → Option Transaction
  pub locks : Locks
  pub memory : List ℕ

-- a move: the reply, the transaction afterwards (none: it has ended), the locks and the memory
pub record Move : Type 0 where
  pub reply : Word
  pub becomes : Option Transaction
  pub locks : Locks
  pub memory : List ℕ

abbrev pub move : Word → Option Transaction → Locks → List ℕ → Move
move w x k m = record { reply = w; becomes = x; locks = k; memory = m }

-- ---- the listing, of transaction i = x, with locks k and memory m

abbrev pub act : Transaction → Act
act x = act_of (get_or x.script.code x.run.at no_instr) x.run.regs

module _ (own : ℕ → ℕ) (i : ℕ) (x : Transaction) (k : Locks) (m : List ℕ) where
  -- 18: access location x, with the lock-index set L; an instruction that accesses nothing is done in the same way
  unfoldable pub accessing : SlotSet → Locks → Move
  accessing L k' = move word.Ran (some (transaction x.script (after_act (act x) m x.run) code L sets.none)) k' m

  -- 7: ACQUIRE(lock[h]), then 18
  unfoldable pub from7 : ℕ → SlotSet → Acquired → Move
  from7 h L (has_it l) = accessing L (setting h l k)
  from7 h L (joins l) = move word.Queued (some (transaction x.script x.run (line7 h) L sets.none)) (setting h l k) m
  from7 h L waits = move word.Blocked (some x) k m

  unfoldable pub at_line7 : ℕ → SlotSet → Move
  at_line7 h L = from7 h L (acquire i (k h))

  -- 8: TRY-ACQUIRE(lock[h]), then 9 and 18; or 11, the transaction state is rolled back, and 12 and 13, the locks in M are released
  unfoldable pub from8 : ℕ → SlotSet → SlotSet → Option Lock → Move
  from8 h L M (some l) = accessing L (setting h l k)
  from8 h L M none = move word.Restarted (some (transaction x.script (opened_run x.run.reading) (line14 h) L M)) (releasing M k) m

  unfoldable pub at_line8 : ℕ → SlotSet → SlotSet → Move
  at_line8 h L M = from8 h L M (try_acquire i (k h))

  -- 1 to 6
  unfoldable pub safe_access : ℕ → Move
  safe_access h =
      cond (has x.L h) (accessing x.L k)
      (cond (is_empty (above x.L h)) (at_line7 h (adding x.L h)) (at_line8 h (adding x.L h) (above x.L h)))

  -- ACQUIRE(lock[h]) at 14 or 16, and the transaction once it has the lock
  unfoldable pub from16 : ℕ → Transaction → Acquired → Move
  from16 h y (has_it l) = move word.Got (some y) (setting h l k) m
  from16 h y (joins l) = move word.Queued (some x) (setting h l k) m
  from16 h y waits = move word.Blocked (some x) k m

  unfoldable pub reacquire : ℕ → Transaction → Move
  reacquire h y = from16 h y (acquire i (k h))

  -- 16, the next of M in increasing order; 17 after the last, from where the transaction is in its own code again
  abbrev pub rest : SlotSet
  rest = removing x.M (smallest x.M)

  unfoldable pub at_line16 : Move
  at_line16 = reacquire (smallest x.M) (transaction x.script x.run (cond (is_empty rest) code line16) x.L rest)

  -- the transaction completes: kept writes go to the memory or not, and all locks with indexes in L are released
  unfoldable pub completing : Word → List ℕ → Move
  completing w m' = move w none (releasing x.L k) m'

  unfoldable pub to_cell : ℕ → Move
  to_cell c = cond (ltb c cells) (safe_access (own c)) (completing word.Failed m)

  unfoldable pub by_act : Act → Move
  by_act (local r n) = accessing x.L k
  by_act (reads a c) = to_cell c
  by_act (writes c v) = to_cell c

  unfoldable pub at_line : Line → Move
  at_line code =
      cond (ltb x.run.at x.script.len) (by_act (act x)) (completing word.Committed (written (kept_writes x.run) m))
  at_line (line7 h) = at_line7 h x.L
  at_line (line14 h) = reacquire h (transaction x.script x.run line16 x.L x.M)
  at_line line16 = at_line16

-- ---- the machine, call by call

-- no transaction yet, and every lock is free
unfoldable pub idle : List ℕ → Machine
idle m = record { transactions = λ i. none; locks = λ s. lock none []; memory = m }

unfoldable pub becoming : (ℕ → Option Transaction) → ℕ → Option Transaction → ℕ → Option Transaction
becoming f i x j = cond (eqb j i) x (f j)

module _ (own : ℕ → ℕ) where
  -- the move of transaction i; there is none where no transaction is
  unfoldable pub move_from : Option Transaction → Machine → ℕ → Move
  move_from none m i = move word.None none m.locks m.memory
  move_from (some x) m i = at_line own i x m.locks m.memory x.line

  unfoldable pub move_of : Machine → ℕ → Move
  move_of m i = move_from (cond (ltb i seats) (m.transactions i) none) m i

  unfoldable pub moved : Machine → ℕ → Machine
  moved m i =
      record {
        transactions = becoming m.transactions i (move_of m i).becomes;
        locks = (move_of m i).locks;
        memory = (move_of m i).memory;
      }

  -- a transaction starts where there is none, if its frame can be read
  unfoldable pub starting : Machine → ℕ → ℕ → List ℕ → Machine
  starting m i reading f =
      cond (ltb i seats && (not (is_some (m.transactions i)) && eqb (read_refusal f) 0))
      (record {
        transactions = becoming m.transactions i (some (start (read_script f).script reading));
        locks = m.locks;
        memory = m.memory;
      })
      m

  unfoldable pub called : Machine → Call → Machine
  called m (opening i reading f) = starting m i reading f
  called m (step i) = moved m i

  unfoldable pub after : Machine → List Call → Machine
  after m [] = m
  after m (c ∷ cs) = after (called m c) cs

  unfoldable pub figure1 : List ℕ → List Call → Machine
  figure1 img cs = after (idle img) cs

-- ---- what is seen of both

-- the slots still to be taken again
unfoldable pub pending_at : Line → SlotSet → SlotSet
pending_at code M = sets.none
pending_at (line7 h) M = sets.none
pending_at (line14 h) M = adding M h
pending_at line16 M = M

-- the owner that a slot view shows
unfoldable pub owner_shown : SlotView → Option ℕ
owner_shown v = cond v.owned (some v.owner) none

module _ (lib : Library) (own : ℕ → ℕ) (w : World) (m : Machine) where
  -- seat i, and transaction x
  pub record SameSeat (i : ℕ) (x : Transaction) : Type 0 where
    pub script : (seat_at w.table i).script ≡ x.script
    pub run : (seat_at w.table i).run ≡ x.run
    pub pending : (seat_at w.table i).pending ≡ pending_at x.line x.M
    -- L is what is held, pending or queued for
    pub lockset : (s : ℕ) → has x.L s ≡ has (concerned w.table i) s

  pub record Same : Type 0 where
    pub memory : w.image ≡ m.memory
    pub opens : (i : ℕ) → i < seats → is_open (seat_at w.table i).phase ≡ is_some (m.transactions i)
    pub seat : (i : ℕ) (x : Transaction) → i < seats → m.transactions i ≡ some x → SameSeat i x
    pub owner : (s : ℕ) → s < slots → owner_shown (lib.view w.table s) ≡ (m.locks s).owner
    pub queue : (s : ℕ) → s < slots → take (lib.view w.table s).len (lib.view w.table s).queue ≡ (m.locks s).queue
    -- a step of seat i is refused exactly where there is no transaction, and otherwise has the reply of its move
    pub granted : (i : ℕ) → i < seats → eqb (step_reply lib w i).number 0 ≡ is_some (m.transactions i)
    pub reply : (i : ℕ) → (step_reply lib w i).word ≡ (move_of own m i).reply

-- every step that is not refused is one move of the machine, and every move of the machine is the step's: after the same calls both are
-- in the same place
unfoldable pub FollowsFigure1 : Library → (ℕ → ℕ) → Type 0
FollowsFigure1 lib own =
    (img : List ℕ) (cs : List Call) → length img ≡ cells → Same lib own (history lib img cs) (figure1 own img cs)
