-- What is seen of a table and of a machine in the same place is the same. The slot view shows the first seat that holds the slot, which is its
-- one owner, and the entries of its queue; a step is granted where there is a transaction, and replies as its move does.
use Prim.Native.Nat.{ℕ, ◌≤◌, ◌<◌}
use mathlib.Core.Path.{◌≡◌, sym, ap, ◌∙◌}
use mathlib.Core.Bool.{false, not, ◌||◌}
use mathlib.Core.Option.{Option, some, none}
use native.Mathlib.Omega.{arith}
use lib.Dec.{ltb}
use lib.ListN.{length, take}
use lib.Seq.{take_at}
use borrow.Author.Tests.{ltb-true, ltb-false, lt-ltb, lt-leb, eq-eqb, ne_eqb}
use Rattle.slots.specs.Sizes.{cells, slots}
use Rattle.slots.specs.Sets.{has, union}
use Rattle.slots.proofs.Truth.{is_false, not_both, split}
use Rattle.slots.proofs.Checks as checks
use Rattle.slots.proofs.Members.{In, Out, has_high, has_set, has-union}
use Rattle.slots.proofs.Tally.{first-before, first_passes}
use Rattle.seats.specs.declared.slot_table.SlotTable.{SlotTable}
use Rattle.seats.specs.declared.table.Table.{Table}
use Rattle.seats.specs.Queues.{seats, entries, waits_in}
use Rattle.seats.specs.SlotTables.{held_by, queue_of, owned}
use Rattle.seats.specs.Seats.{is_open}
use Rattle.seats.specs.Tables.{seat_at}
use Rattle.seats.proofs.Lines.{entries_length}
use Rattle.seats.proofs.Owned.{held-owned}
use Rattle.soundness.specs.Tests.{sound_test}
use Rattle.rules.specs.Rules.{queued_for, concerned}
use Rattle.table.specs.Calls.{holder_of, line_up, view_of, view_refusal, slot_view_call}
use Rattle.upkeep.specs.SoundTables.{Stands}
use Rattle.promises.specs.Histories.{saucebell, World}
use Rattle.promises.specs.Figure1.{is_some, Transaction, Machine, owner_shown, SameSeat, Same}
use Rattle.upkeep.proofs.Replies.{phase_open, stands_test, step_open}
use Rattle.promises.proofs.FigureLocks.{Owner}
use Rattle.promises.proofs.FigureAlike.{holds, waits, SeatLike, Becomes, Alike}
use Rattle.promises.proofs.FollowsStep.{open_or, step_follows, no_move, step_refused}
use Rattle.promises.proofs.FollowsOpening.{some_open}

-- ---- the slot view

module _ (own : ℕ → ℕ) (t : Table) (st : Stands own t) (s : ℕ) (l : s < slots) where
  viewed : slot_view_call own t s ≡ view_of t.slots s
  unfolding slot_view_call view_refusal
  viewed =
      let a : not (sound_test own t) ≡ false = rw (stands_test own t st) in
      let z : view_refusal own t s ≡ 0 = checks.passed 1 _ a ∙ checks.passed 11 _ (lt-leb slots s l) ∙ checks.none in
      rw z

  abbrev T : SlotTable
  T = t.slots

  -- the first seat that holds the slot, if there is one
  holder : holder_of T s < seats → In (held_by T (holder_of T s)) s
  unfolding holder_of
  holder b = first_passes seats (λ i. has (held_by T i) s) b

  holder_none : Out (owned T) s → ltb (holder_of T s) seats ≡ false
  holder_none n = is_false (λ e. not_both (held-owned T s (holder_of T s) (holder (ltb-true (holder_of T s) seats e))) n)

  holder_one : (j : ℕ) → j < seats → In (held_by T j) s → holder_of T s ≡ j
  unfolding holder_of
  holder_one j b m =
      let c : holder_of T s < seats = omega (arith, first-before seats (λ i. has (held_by T i) s) j b m) in
      st.sound.table.one (holder_of T s) j s c b (holder c) m

  shown : (o : Option ℕ) → Owner T s o → owner_shown (view_of T s) ≡ o
  unfolding owner_shown
  shown none n = rw (holder_none n)
  shown (some j) m = rw (holder_one j m.0 m.1, lt-ltb j seats m.0)

  lined : take (view_of T s).len (view_of T s).queue ≡ entries (queue_of T s)
  unfolding line_up
  lined =
      take_at (entries (queue_of T s)) _ (queue_of T s).len
      (entries_length (queue_of T s) (record { array = st.shaped.queues16 s l; short = st.sound.table.room s l }))

-- ---- the seats

-- the set of what is held, pending or queued for
concerns : (t : Table) (i s : ℕ) → s < slots
    → has (concerned t i) s ≡ ((holds t.slots i s || has (seat_at t i).pending s) || waits t.slots i s)
unfolding concerned queued_for
concerns t i s l =
    has-union (union (held_by t.slots i) (seat_at t i).pending) (queued_for t i) s
    ∙ rw (has-union (held_by t.slots i) (seat_at t i).pending s, has_set (λ u. waits_in (queue_of t.slots u) i) s, lt-ltb s slots l)

module _ {own : ℕ → ℕ} (below : (c : ℕ) → own c < slots) (w : World) (m : Machine) (a : Alike own w.table w.image m)
    (st : Stands own w.table) (len : length w.image ≡ cells) where
  abbrev t : Table
  t = w.table

  opens : (i : ℕ) → i < seats → is_open (seat_at t i).phase ≡ is_some (m.transactions i)
  opens i l = some_open own (seat_at t i) t.slots i (m.transactions i) (a.seat i l)

  same_seat : (i : ℕ) (x : Transaction) → Becomes own (seat_at t i) t.slots i (some x) → SameSeat (saucebell own) own w m i x
  same_seat i x b =
      let y : SeatLike own (seat_at t i) t.slots i x = b.1 in
      record {
        script = y.script;
        run = y.run;
        pending = y.like.pending;
        lockset = λ s. split (ltb s slots)
            (λ e. let l : s < slots = ltb-true s slots e in y.like.lockset s l ∙ sym (concerns t i s l))
            (λ e. let l : slots ≤ s = ltb-false s slots e in has_high x.L s l ∙ sym (has_high (concerned t i) s l));
      }

  pub alike_same : Same (saucebell own) own w m
  alike_same =
      record {
        memory = a.memory;
        opens = opens;
        seat = λ i x l e. same_seat i x (rw e at (a.seat i l));
        owner = λ s l. ap owner_shown (viewed own t st s l) ∙ shown own t st s l (m.locks s).owner (a.locks.owner s l);
        queue = λ s l. rw (viewed own t st s l) (lined own t st s l ∙ sym (a.locks.queue s l));
        granted = λ i l. open_or below t w.image m a st i
            (λ o. eq-eqb _ 0 (step_open own t w.image i st len o).number ∙ sym (phase_open o.phase) ∙ opens i l)
            (λ n. ne_eqb _ 0 (step_refused below t w.image m a st i n).number ∙ sym (n l) ∙ opens i l);
        reply = λ i. open_or below t w.image m a st i
            (λ o. (step_open own t w.image i st len o).reply ∙ (step_follows below t w.image m a st i o).reply)
            (λ n. (step_refused below t w.image m a st i n).reply ∙ rw (no_move below t w.image m a st i n));
      }
