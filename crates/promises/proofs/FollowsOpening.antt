-- An opening keeps the table and the machine in the same place, and so they are at the start. On a table that stands a call opens a seat
-- exactly where the machine starts a transaction: the seat is one, it is not open, and the frame can be read. A seat that is not open holds
-- nothing and is in no queue, so the new transaction's L is empty as it should be.
use Prim.Native.Nat.{ℕ, ◌<◌}
use mathlib.Core.Path.{◌≡◌, refl, sym, ap, ◌∙◌}
use mathlib.Core.Logic.{inl, inr}
use mathlib.Core.Bool.{Bool, true, false, not, ◌&&◌}
use mathlib.Core.List.{List}
use mathlib.Core.Option.{Option, some, none}
use native.Mathlib.Omega.{arith}
use lib.Dec.{ltb, eqb}
use lib.ListN.{get_or-replicate}
use borrow.Author.Tests.{not-true, ltb-true, lt-ltb, eqb-true, eq-eqb}
use Rattle.slots.proofs.Truth.{and_l, and_r, and_i, is_false, not_both, split}
use Rattle.slots.proofs.Members.{has-none}
use Rattle.script.specs.declared.code.Script.{Script}
use Rattle.script.specs.Frames.{read_refusal, read_script}
use Rattle.seats.specs.declared.seat.Phase.{Phase}
use Rattle.seats.specs.declared.seat.Phase.TheVariants as phase
use Rattle.seats.specs.declared.seat.Seat.{Seat}
use Rattle.seats.specs.declared.slot_table.SlotTable.{SlotTable}
use Rattle.seats.specs.declared.table.Table.{Table}
use Rattle.seats.specs.Queues.{seats}
use Rattle.seats.specs.Seats.{is_open, blank_seat}
use Rattle.seats.specs.Tables.{fresh, no_seat, seat_at}
use Rattle.seats.specs.SlotTables.{all_free}
use Rattle.seats.proofs.Lines.{entries_none}
use Rattle.seats.proofs.Hands.{queue_free, held_free}
use Rattle.seats.proofs.Owned.{out_free}
use Rattle.rules.specs.Rules.{Closed, PhaseRules}
use Rattle.table.specs.Calls.{opened_seat, open_call}
use Rattle.upkeep.specs.SoundTables.{Stands}
use Rattle.promises.specs.Figure1.{is_some, Transaction, start, Machine, idle, starting, pending_at}
use Rattle.upkeep.proofs.Replies.{open_any, open_shut}
use Rattle.promises.proofs.FigureAlike.{Becomes, Alike, changed}

-- ---- a seat that is not open

shut_closed : (own : ℕ → ℕ) (t : Table) (i : ℕ) (p : Phase) → is_open p ≡ false → PhaseRules own t i p → Closed own t i
unfolding is_open PhaseRules
shut_closed own t i phase.Blank e r = r.0
shut_closed own t i phase.Open e r = absurd (not_both refl e)
shut_closed own t i phase.Committed e r = r.0
shut_closed own t i phase.Failed e r = r.0

pub some_open : (own : ℕ → ℕ) (z : Seat) (T : SlotTable) (i : ℕ) (o : Option Transaction) → Becomes own z T i o → is_open z.phase ≡ is_some o
some_open own z T i none b = b
some_open own z T i (some x) b = b.0

-- ---- an opening

module _ {own : ℕ → ℕ} (t : Table) (img : List ℕ) (m : Machine) (a : Alike own t img m) (st : Stands own t) (i reading : ℕ) (f : List ℕ) where
  abbrev allowed : Bool
  allowed = ltb i seats && (not (is_some (m.transactions i)) && eqb (read_refusal f) 0)

  module _ (l : i < seats) (shut : is_open (seat_at t i).phase ≡ false) where
    closed : Closed own t i
    closed = shut_closed own t i (seat_at t i).phase shut (st.sound.seats i l)

    begun : (σ : Script) → Becomes own (opened_seat σ reading) t.slots i (some (start σ reading))
    unfolding opened_seat start is_open pending_at
    begun σ = (
      refl,
      record {
        script = refl;
        run = refl;
        like = record {
          pending = refl;
          lockset = λ s b. sym (rw (is_false (closed.holds s), is_false (closed.waits s b), has-none s));
          place = λ s b. is_false (closed.waits s b);
        };
      },
    )

  alike_begun : allowed ≡ true → Alike own (open_call own t i reading f).table img (starting own m i reading f)
  unfolding starting
  alike_begun e =
      let l : i < seats = ltb-true i seats (and_l (ltb i seats) _ e) in
      let r : (not (is_some (m.transactions i)) && eqb (read_refusal f) 0) ≡ true = and_r (ltb i seats) _ e in
      let shut : is_open (seat_at t i).phase ≡ false =
      some_open own (seat_at t i) t.slots i (m.transactions i) (a.seat i l) ∙ not-true _ (and_l (not (is_some (m.transactions i))) _ r) in
      let g = open_shut own t i reading f st l shut (eqb-true _ _ (and_r (not (is_some (m.transactions i))) _ r)) in
      rw (g.table, e)
      (record {
        memory = a.memory;
        locks = a.locks;
        seat = changed (λ j z x. j < seats → Becomes own z t.slots j x) t.seats m.transactions i
            (opened_seat (read_script f).script reading) (some (start (read_script f).script reading))
            (omega (arith, st.shaped.seats16)) (λ b. begun l shut (read_script f).script) (λ j n b. a.seat j b);
      })

  alike_refused : allowed ≡ false → Alike own (open_call own t i reading f).table img (starting own m i reading f)
  unfolding starting
  alike_refused e = elim (open_any own t i reading f) [
    | inl r ↦ rw (r.table, e) a
    | inr g ↦
        let s : is_some (m.transactions i) ≡ false =
        sym (some_open own (seat_at t i) t.slots i (m.transactions i) (a.seat i g.seat)) ∙ g.shut in
        absurd (not_both (and_i (lt-ltb i seats g.seat) (and_i (ap not s) (eq-eqb (read_refusal f) 0 g.read))) e)
  ]

  pub alike_opened : Alike own (open_call own t i reading f).table img (starting own m i reading f)
  alike_opened = split allowed alike_begun alike_refused

-- ---- the start

blank_shut : {z : Seat} → z ≡ blank_seat → is_open z.phase ≡ false
unfolding blank_seat is_open
blank_shut e = rw e

pub alike_fresh : (own : ℕ → ℕ) (img : List ℕ) → Alike own fresh img (idle img)
unfolding fresh idle
alike_fresh own img =
    record {
      memory = refl;
      locks = record {
        owner = λ s l. out_free all_free s (λ i b. rw (held_free i) (has-none s));
        queue = λ s l. sym (rw (queue_free s l) entries_none);
      };
      seat = λ i l. blank_shut (get_or-replicate seats i blank_seat no_seat l);
    }
