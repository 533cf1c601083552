-- What a change of the slot table may be to a seat that does not step: it keeps what it holds, and gains only slots that it waited for; and
-- a seat that waits still got nothing. Then the slots held or queued for are the same together, and the rules of the seat hold as before.
-- In rule 3, a slot gained was waited for, so that it is the smallest pending one; a closed seat held and awaited nothing.
use Prim.Native.Nat.{ℕ, ◌<◌}
use mathlib.Core.Path.{◌≡◌, refl, sym, ap, ◌∙◌}
use mathlib.Core.Logic.{◌⊎◌, ⊎_elim}
use mathlib.Core.Bool.{Bool, true, false, ◌||◌, or-true, or-false}
use lib.Dec.{ltb}
use borrow.Author.Tests.{lt-ltb}
use Rattle.slots.specs.Sizes.{slots}
use Rattle.slots.specs.declared.set.SlotSet.{SlotSet}
use Rattle.slots.specs.Sets.{has, union, is_empty, size, smallest}
use Rattle.slots.proofs.Truth.{and_r, and_i, or_l, or_cases, alike}
use Rattle.slots.proofs.Members.{In, has_set, has-union}
use Rattle.slots.proofs.Counting.{size_same}
use Rattle.seats.specs.declared.seat.Phase.{Phase}
use Rattle.seats.specs.declared.seat.Phase.TheVariants.{Blank, Open, Committed, Failed}
use Rattle.seats.specs.declared.slot_table.SlotTable.{SlotTable}
use Rattle.seats.specs.declared.table.Table.{Table}
use Rattle.seats.specs.Queues.{waits_in}
use Rattle.seats.specs.SlotTables.{held_by, queue_of}
use Rattle.seats.specs.Tables.{seat_at}
use Rattle.seats.proofs.Shape.{Whole}
use Rattle.course.specs.Wants.{want_of, slot_of}
use Rattle.rules.specs.Rules.{Owns, Waits, queued_for, concerned, Rule2, Rule3, Rule4, Rule5, OpenRules, Closed, Ended, PhaseRules}
use Rattle.rules.proofs.Waitings.{waits_lt}

-- of seat j, where the slot table t became u
pub record Handed (t u : SlotTable) (j : ℕ) : Type 0 where
  pub keeps : (s : ℕ) → In (held_by t j) s → In (held_by u j) s
  pub still : (s : ℕ) → waits_in (queue_of u s) j ≡ true → waits_in (queue_of t s) j ≡ true
  -- who waits still got nothing
  pub only : (s x : ℕ) → waits_in (queue_of u s) j ≡ true → In (held_by u j) x → In (held_by t j) x
  pub touch : (s : ℕ) → (has (held_by u j) s || waits_in (queue_of u s) j) ≡ (has (held_by t j) s || waits_in (queue_of t s) j)

-- nothing changed
pub handed_same : (t u : SlotTable) (j : ℕ) → ((s : ℕ) → has (held_by u j) s ≡ has (held_by t j) s)
    → ((s : ℕ) → waits_in (queue_of u s) j ≡ waits_in (queue_of t s) j) → Handed t u j
handed_same t u j a b =
    record {
      keeps = λ s e. a s ∙ e;
      still = λ s e. sym (b s) ∙ e;
      only = λ s x e k. sym (a x) ∙ k;
      touch = λ s. rw (a s, b s);
    }

-- ---- the sets that rule 5 counts

has_queued : (t : Table) (j s : ℕ) → Whole t.slots → has (queued_for t j) s ≡ waits_in (queue_of t.slots s) j
unfolding queued_for
has_queued t j s w =
    has_set (λ k. waits_in (queue_of t.slots k) j) s
    ∙ alike (and_r (ltb s slots) (waits_in (queue_of t.slots s) j)) (λ e. and_i (lt-ltb s slots (waits_lt t.slots w j s e)) e)

has_near : (t : Table) (j s : ℕ) → Whole t.slots
    → has (union (held_by t.slots j) (queued_for t j)) s ≡ (has (held_by t.slots j) s || waits_in (queue_of t.slots s) j)
has_near t j s w =
    has-union (held_by t.slots j) (queued_for t j) s ∙ ap (λ (b : Bool). has (held_by t.slots j) s || b) (has_queued t j s w)

swap : (a p b : Bool) → (a || p || b) ≡ (a || b || p)
swap true p b = refl
swap false true b = sym (or-true b)
swap false false b = sym (or-false b)

has-concerned : (t : Table) (j s : ℕ) → Whole t.slots
    → has (concerned t j) s ≡ (has (held_by t.slots j) s || waits_in (queue_of t.slots s) j || has (seat_at t j).pending s)
unfolding concerned
has-concerned t j s w =
    let h : SlotSet = held_by t.slots j in
    let p : SlotSet = (seat_at t j).pending in
    has-union (union h p) (queued_for t j) s ∙ rw (has-union h p s, has_queued t j s w) (swap (has h s) (has p s) (waits_in (queue_of t.slots s) j))

-- ---- the rules

module _ (own : ℕ → ℕ) (t u : Table) (j : ℕ) (w : Whole t.slots) (v : Whole u.slots) (same : seat_at u j ≡ seat_at t j)
    (hd : Handed t.slots u.slots j) where
  gained : (s : ℕ) → Owns u j s → Owns t j s ⊎ Waits t j s
  gained s e =
      or_cases (has (held_by t.slots j) s) (waits_in (queue_of t.slots s) j)
      (sym (hd.touch s) ∙ or_l (waits_in (queue_of u.slots s) j) e)

  concerned_same : size (concerned u j) ≡ size (concerned t j)
  concerned_same =
      size_same (concerned u j) (concerned t j) (λ s. has-concerned u j s v ∙ rw (hd.touch s, same) (sym (has-concerned t j s w)))

  near_same : (m : ℕ) → has (union (held_by u.slots j) (queued_for u j)) m ≡ has (union (held_by t.slots j) (queued_for t j)) m
  near_same m = has_near u j m v ∙ hd.touch m ∙ sym (has_near t j m w)

  two_kept : Rule2 own t j → Rule2 own u j
  two_kept r =
      record {
        position = rw same r.position;
        legal = rw same r.legal;
        few = rw same r.few;
        cell = rw same r.cell;
        held = rw same (λ k l. hd.keeps _ (r.held k l));
      }

  -- a slot that the seat waited for is the smallest pending one
  module _ (some : is_empty (seat_at t j).pending ≡ false) (four : (s : ℕ) → s < slots → Waits t j s → Rule4 own t j s) where
    first : (s : ℕ) → Waits t j s → s ≡ smallest (seat_at t j).pending
    unfolding want_of slot_of
    first s m = (four s (waits_lt t.slots w j s m) m).wanted ∙ rw some

    three_kept : Rule3 own t j → Rule3 own u j
    three_kept r =
        record {
          position = rw same r.position;
          nothing = rw same r.nothing;
          opening = rw same r.opening;
          below = rw same (λ s e n. ⊎_elim (λ k. r.below s k n) (λ m. absurd (n (first s m))) (gained s e));
          lacks = rw same (λ s p n e. ⊎_elim (λ k. r.lacks s p n k) (λ m. n (first s m)) (gained s e));
        }

  four_kept : (s : ℕ) → Waits u j s → Rule4 own t j s → Rule4 own u j s
  four_kept s m r =
      record { wanted = rw same r.wanted; lacks = λ e. r.lacks (hd.only s s m e); above = λ x e. r.above x (hd.only s x m e) }

  five_kept : Rule5 own t j → Rule5 own u j
  five_kept r =
      record {
        restarts = rw (same, concerned_same) r.restarts;
        working = rw (same, concerned_same, near_same (smallest (seat_at t j).pending)) r.working;
      }

  open_kept : OpenRules own t j → OpenRules own u j
  open_kept r =
      record {
        two = two_kept r.two;
        three = λ n. let k : is_empty (seat_at t j).pending ≡ false = rw same at n in three_kept k r.four (r.three k);
        four = λ s l m. four_kept s m (r.four s l (hd.still s m));
        five = five_kept r.five;
      }

  closed_kept : Closed own t j → Closed own u j
  closed_kept r =
      record {
        holds = λ s e. ⊎_elim (r.holds s) (λ m. r.waits s (waits_lt t.slots w j s m) m) (gained s e);
        waits = λ s l m. r.waits s l (hd.still s m);
        wants = rw same r.wants;
        keeps = rw same r.keeps;
      }

  ended_kept : Ended own t j → Ended own u j
  ended_kept r = record { restarts = rw same r.restarts; reported = rw same r.reported; working = rw same r.working }

  pub phase_kept : (p : Phase) → PhaseRules own t j p → PhaseRules own u j p
  unfolding PhaseRules
  phase_kept Blank r = (closed_kept r.0, same ∙ r.1)
  phase_kept Open r = open_kept r
  phase_kept Committed r = (closed_kept r.0, ended_kept r.1)
  phase_kept Failed r = (closed_kept r.0, ended_kept r.1)
