-- A step of a seat whose transaction is in its own code, and the machine's move from there. Nothing is pending and the seat is in no queue,
-- so that L is what it holds, and the tests of the listing are those of the step: whether it is in L, whether anything in L is above it,
-- and whether the lock is free.
use Prim.Native.Nat.{ℕ, ◌≤◌, ◌<◌}
use mathlib.Core.Path.{◌≡◌, refl, sym, ap, ◌∙◌}
use mathlib.Core.Bool.{Bool, true, false, not, ◌&&◌, ◌||◌, or-false, or_assoc}
use mathlib.Core.List.{List, [], ◌∷◌, ◌++◌}
use mathlib.Core.Option.{some}
use lib.Dec.{ltb, eqb}
use borrow.Author.Tests.{ltb-true, ltb-false, eq-eqb}
use Rattle.slots.specs.Sizes.{slots}
use Rattle.slots.specs.declared.set.SlotSet.{SlotSet}
use Rattle.slots.specs.Sets as sets
use Rattle.slots.specs.Sets.{slot, has, adding, above, is_empty}
use Rattle.slots.proofs.Truth.{or_r, is_false, not_both, split}
use Rattle.slots.proofs.Members.{has_high, same, has-none, has-adding, above_proper, has_above, in_above}
use Rattle.seats.specs.declared.seat.Seat.{Seat}
use Rattle.seats.specs.declared.slot_table.SlotTable.{SlotTable}
use Rattle.seats.specs.Queues.{is_head}
use Rattle.seats.specs.SlotTables.{held_by, queue_of, joined_by, released}
use Rattle.seats.specs.Seats.{is_open, opened_run}
use Rattle.seats.proofs.Lines.{head_waits}
use Rattle.seats.proofs.Hands.{held-released, held-joined}
use Rattle.course.specs.declared.wants.Want.TheVariants.{Access}
use Rattle.course.specs.declared.cases.Case.TheVariants as case
use Rattle.course.specs.Words as word
use Rattle.runs.specs.Runs.{kept_writes, written}
use Rattle.course.specs.Wants.{act_at, want_of}
use Rattle.course.specs.Cases.{word_of}
use Rattle.course.specs.Steps.{restarted, ended, seat_after, slots_after, image_after}
use Rattle.promises.specs.Figure1.{Locks, lock, setting, releasing, code, line7, line14, Transaction, transaction, move, pending_at}
use Rattle.promises.specs.Figure1.{accessing, completing}
use Rattle.promises.proofs.FigureLocks.{LocksLike}
use Rattle.promises.proofs.LocksAfter.{locks_taken, locks_joined, locks_released}
use Rattle.promises.proofs.FigureAlike.{holds, waits, Like}
use Rattle.promises.proofs.FigureOthers.{own_taken, waits_taken, own_joined, calm_released, kept_same, kept_taken, kept_joined, kept_released}
use Rattle.promises.proofs.FigureTable.{Ground}
use Rattle.promises.proofs.FigureMoves.{Follows, goes_on_lem, ends}

-- what is held, pending or waited for, with one slot more held
one_held : (a p w e : Bool) → (((a || p) || w) || e) ≡ (((a || e) || p) || w)
one_held true p w e = refl
one_held false p w true = or_r (p || w) refl
one_held false p w false = or-false (p || w)

-- what is held, with the slot e: the part above it is pending now, and so is the slot
one_back : (a b e : Bool) → (a || e) ≡ ((((a && not (true && (a && b))) || ((a && b) && false)) || ((a && b) || e)) || false)
one_back true true e = refl
one_back true false true = refl
one_back true false false = refl
one_back false b true = refl
one_back false b false = refl

module _ {own : ℕ → ℕ} (z : Seat) (T : SlotTable) (i : ℕ) (g : Ground own z T i) (L M : SlotSet) (y : Like own z T i code L M) where
  abbrev H : SlotSet
  H = held_by T i

  pub nothing_pending : z.pending ≡ sets.none
  unfolding pending_at
  nothing_pending = y.pending

  pub in_no_queue : (s : ℕ) → s < slots → waits T i s ≡ false
  in_no_queue = y.place

  no_head : (s : ℕ) → s < slots → is_head (queue_of T s) i ≡ false
  no_head s l = is_false (λ m. not_both (head_waits (queue_of T s) (g.lines s l) i m) (in_no_queue s l))

  pub lock_set : (s : ℕ) → has L s ≡ has H s
  lock_set s =
      split (ltb s slots)
      (λ e. let l : s < slots = ltb-true s slots e in
      y.lockset s l ∙ rw (nothing_pending, has-none s, in_no_queue s l, or-false (has H s)) (or-false (has H s)))
      (λ e. let l : slots ≤ s = ltb-false s slots e in has_high L s l ∙ sym (has_high H s l))

  pub above_same : (h : ℕ) → above L h ≡ above H h
  above_same h =
      same (above L h) (above H h) (above_proper L h) (above_proper H h) (λ s l. rw (has_above L h s, has_above H h s, lock_set s))

  -- ---- the moves, with memory img and locks k

  module _ (img : List ℕ) (k : Locks) (like : LocksLike T k) where
    abbrev x : Transaction
    x = transaction z.script z.run code L M

    pub code_ran : Follows own z T i img case.Ran (accessing own i x k img L k)
    unfolding word_of image_after slots_after seat_after accessing act_at pending_at
    code_ran =
        goes_on_lem own z T i img case.Ran k code L sets.none refl g.opens like
        (record { pending = nothing_pending; lockset = y.lockset; place = in_no_queue }) (kept_same T g.whole i)

    -- an access to a slot that the seat does not hold
    module _ (h : ℕ) (l : h < slots) where
      abbrev fuller : Locks
      fuller = setting h (lock (some i) (k h).queue) k

      pub code_took : Follows own z T i img (case.Took (slot h)) (accessing own i x k img (adding L h) fuller)
      unfolding word_of image_after slots_after seat_after accessing act_at pending_at
      code_took =
          goes_on_lem own z T i img (case.Took (slot h)) fuller code (adding L h) sets.none refl g.opens
          (locks_taken T k like g.whole i h g.seat l)
          (record {
            pending = nothing_pending;
            lockset = λ s m. has-adding L h s l ∙ ap (λ (b : Bool). b || eqb s h) (y.lockset s m)
                ∙ one_held (holds T i s) (has z.pending s) (waits T i s) (eqb s h)
                ∙ sym (rw (own_taken T g.whole i g.seat h l s, waits_taken T g.whole i h i s));
            place = λ s m. waits_taken T g.whole i h i s ∙ in_no_queue s m;
          })
          (λ j b n. kept_taken T g.whole i j b n h l)

      abbrev longer : Locks
      longer = setting h (lock (k h).owner ((k h).queue ++ (i ∷ []))) k

      pub code_queued : want_of own z ≡ Access (slot h)
          → Follows own z T i img (case.Queued (slot h))
          (move word.Queued (some (transaction z.script z.run (line7 h) (adding L h) sets.none)) longer img)
      unfolding word_of image_after slots_after seat_after want_of act_at pending_at
      code_queued e =
          let line = g.lines h l in
          let room = g.room h l (in_no_queue h l) in
          let waits_there : (s : ℕ) → waits (joined_by T i h) i s ≡ (waits T i s || eqb s h) = own_joined T g.whole i g.seat h l line room in
          goes_on_lem own z T i img (case.Queued (slot h)) longer (line7 h) (adding L h) sets.none refl g.opens
          (locks_joined T k like g.whole i h g.seat l line room)
          (record {
            pending = nothing_pending;
            lockset = λ s m. has-adding L h s l ∙ ap (λ (b : Bool). b || eqb s h) (y.lockset s m)
                ∙ or_assoc (holds T i s || has z.pending s) (waits T i s) (eqb s h) ∙ sym (rw (waits_there s, held-joined T i h i));
            place = record {
              small = l;
              wanted = e;
              near = or_r (holds (joined_by T i h) i h) (waits_there h ∙ or_r (waits T i h) (eq-eqb h h refl));
            };
          })
          (λ j b n. kept_joined T g.whole i j b n h l line room)

      abbrev freed : Locks
      freed = releasing (above L h) k

      pub code_restarted : is_empty (above H h) ≡ false
          → Follows own z T i img (case.Restarted (slot h))
          (move word.Restarted (some (transaction z.script (opened_run z.run.reading) (line14 h) (adding L h) (above L h))) freed img)
      unfolding word_of image_after slots_after seat_after pending_at restarted
      code_restarted e =
          goes_on_lem own z T i img (case.Restarted (slot h)) freed (line14 h) (adding L h) (above L h) refl g.opens
          (locks_released T k like g.whole g.lines i g.sole g.waiter (above L h) (above H h)
          (λ s. ap (λ (S : SlotSet). has S s) (above_same h)) (λ s m. (in_above H h s m).0))
          (record {
            pending = ap (λ (S : SlotSet). adding S h) (sym (above_same h));
            lockset = λ s m. has-adding L h s l ∙ ap (λ (b : Bool). b || eqb s h) (lock_set s)
                ∙ rw (
                  held-released T i (above H h) g.whole i s g.seat,
                  has-adding (above H h) h s l,
                  has_above H h s,
                  eq-eqb i i refl,
                  no_head s m,
                  calm_released T g.whole i g.lines (above H h) i s m (in_no_queue s m),
                )
                (one_back (has H s) (ltb h s) (eqb s h));
            place = record {
              small = l;
              proper = above_proper L h;
              some = ap is_empty (above_same h) ∙ e;
              below = λ s m. (in_above L h s m).1;
            };
          })
          (λ j b n. kept_released T g.whole i j b n g.lines (above H h))

    -- ---- the end

    over : LocksLike (released T i H) (releasing L k)
    over = locks_released T k like g.whole g.lines i g.sole g.waiter L H lock_set (λ s m. m)

    pub code_committed : Follows own z T i img case.Committed (completing own i x k img word.Committed (written (kept_writes z.run) img))
    unfolding word_of image_after slots_after seat_after ended is_open completing
    code_committed = ends own z T i img case.Committed (releasing L k) refl over (λ j b n. kept_released T g.whole i j b n g.lines H)

    pub code_failed : Follows own z T i img case.Failed (completing own i x k img word.Failed img)
    unfolding word_of image_after slots_after seat_after ended is_open completing
    code_failed = ends own z T i img case.Failed (releasing L k) refl over (λ j b n. kept_released T g.whole i j b n g.lines H)
