-- No step reads what stands behind a length. In two sound tables that are alike a seat wants the same, and what is held, owned and waited
-- for is the same, so that its step is of the same case; what that case leaves is alike, and a commit writes the same to the image. Where an
-- instruction is done, the kept writes are at most the position, which is below the length: so one more has room.
use Prim.Native.Nat.{ℕ, ◌<◌}
use mathlib.Core.Path.{◌≡◌, refl, sym, ap, ap₂, ◌∙◌, subst}
use mathlib.Core.Logic.{inl, inr}
use mathlib.Core.Bool.{Bool}
use mathlib.Core.List.{List}
use native.Mathlib.Omega.{arith}
use lib.Dec.{eqb}
use lib.Seq.{get_or-set_same}
use borrow.Author.Tests.{eqb-true, eqb-false}
use Rattle.slots.specs.Sizes.{slots}
use Rattle.slots.specs.declared.Slot.{Slot}
use Rattle.slots.specs.declared.set.SlotSet.{SlotSet}
use Rattle.slots.specs.Sets.{has, removing}
use Rattle.slots.proofs.Truth.{split}
use Rattle.seats.specs.declared.seat.Phase.TheVariants as phase
use Rattle.seats.specs.declared.seat.Seat.{Seat}
use Rattle.seats.specs.declared.seat.Write.{Write}
use Rattle.seats.specs.declared.table.Table.{Table}
use Rattle.seats.specs.Queues.{seats, waits_in}
use Rattle.seats.specs.SlotTables.{held_by, queue_of, owned}
use Rattle.seats.specs.Tables.{no_seat, seat_at}
use Rattle.course.specs.declared.wants.Want.{Want}
use Rattle.course.specs.declared.cases.Case.{Case}
use Rattle.course.specs.declared.cases.Case.TheVariants as case
use Rattle.runs.specs.Runs.{written}
use Rattle.course.specs.Wants.{want_of, slot_of}
use Rattle.course.specs.Cases.{case_for}
use Rattle.course.specs.Steps.{seat_after, image_after}
use Rattle.course.proofs.Known as known
use Rattle.soundness.proofs.Bounds.{script_short}
use Rattle.rules.specs.Rules.{IsOpen}
use Rattle.table.specs.Calls.{case_of, moved_by, image_by}
use Rattle.upkeep.specs.SoundTables.{Stands}
use Rattle.upkeep.proofs.Unqueued.{open_rules, wanted_slot}
use Rattle.upkeep.proofs.Moves.{here, after, seat_other, lined}
use Rattle.upkeep.proofs.AlikeTables.{AlikeSeat, Alike}
use Rattle.upkeep.proofs.AlikeSlots.{AlikeSlots, owned_alike, waits_alike, slots_alike}
use Rattle.upkeep.proofs.AlikeWants.{want_alike, case_alike}
use Rattle.upkeep.proofs.AlikeSeats.{Ready, stays_alike, runs_alike, ended_alike, restarted_alike}

-- ---- a seat that does an instruction

module _ {own : ℕ → ℕ} (t : Table) (i : ℕ) (st : Stands own t) (o : IsOpen t i) where
  ready : known.Runs (seat_at t i) → Ready (seat_at t i)
  ready r =
      let two = (open_rules t i st o).two in
      record {
        inside = r.inside;
        room = omega (arith, two.few, r.inside, script_short (seat_at t i).script two.legal, (st.shaped.each i o.seat).writes64);
      }

  ran_ready : case_of own t i ≡ case.Ran → Ready (seat_at t i)
  unfolding case_of
  ran_ready e =
      elim (known.known_case _ _ _ _ e)
      [ inl k ↦ ready (known.known_want own (seat_at t i) k).0 | inr k ↦ ready (known.known_want own (seat_at t i) k.1).0 ]

  took_ready : (s : Slot) → case_of own t i ≡ case.Took s → Ready (seat_at t i)
  unfolding case_of
  took_ready s e = ready (known.known_want own (seat_at t i) (known.known_case _ _ _ _ e).wanted).0

module _ (own : ℕ → ℕ) (below : (c : ℕ) → own c < slots) (t u : Table) (img : List ℕ) (i : ℕ) (st : Stands own t) (su : Stands own u)
    (a : Alike t u) (o : IsOpen t i) where
  -- the stepping seat in both tables, and what it holds
  abbrev z : Seat
  z = seat_at t i

  abbrev y : Seat
  y = seat_at u i

  abbrev h : SlotSet
  h = held_by t.slots i

  abbrev g : SlotSet
  g = held_by u.slots i

  seat : AlikeSeat z y
  seat = a.seats i o.seat

  held : (k : ℕ) → has h k ≡ has g k
  held k = a.holds i k o.seat

  tables : AlikeSlots t.slots u.slots
  tables = record { holds = a.holds; queues = a.queues }

  open_too : IsOpen u i
  open_too = record { seat = o.seat; phase = sym seat.phase ∙ o.phase }

  -- ---- the case, and the image

  wanted : want_of own z ≡ want_of own y
  wanted = want_alike z y seat own

  pub same_case : case_of own t i ≡ case_of own u i
  unfolding case_of
  same_case =
      let s : ℕ = slot_of (want_of own z) in
      case_alike (want_of own z) h g (owned t.slots) (owned u.slots) (waits_in (queue_of t.slots s) i) held
      (owned_alike t.slots u.slots st.shaped.arrays su.shaped.arrays tables)
      ∙ ap₂ (λ (w : Want) (b : Bool). case_for w g (owned u.slots) b) wanted
      (waits_alike t.slots u.slots st.shaped.arrays su.shaped.arrays tables s i
      ∙ ap (λ (w : Want). waits_in (queue_of u.slots (slot_of w)) i) wanted)

  image_alike : (c : Case) → image_after c z.run img ≡ image_after c y.run img
  unfolding image_after
  image_alike (case.Got s) = refl
  image_alike case.Blocked = refl
  image_alike (case.Queued s) = refl
  image_alike case.Committed = ap (λ (ws : List Write). written ws img) seat.writes
  image_alike case.Ran = refl
  image_alike (case.Took s) = refl
  image_alike case.Failed = refl
  image_alike (case.Restarted s) = refl

  pub same_image : image_by own t img i ≡ image_by own u img i
  unfolding image_by
  same_image = image_alike (case_of own t i) ∙ ap (λ (c : Case). image_after c y.run img) same_case

  -- ---- the tables after the step

  here_alike : (c : Case) → case_of own t i ≡ c → case_of own u i ≡ c → AlikeSeat (here t img i c) (here u img i c)
  unfolding seat_after
  here_alike (case.Got s) e f = stays_alike z y seat (ap (λ (p : SlotSet). removing p s.0) seat.pending)
  here_alike case.Blocked e f = seat
  here_alike (case.Queued s) e f = stays_alike z y seat seat.pending
  here_alike case.Committed e f = ended_alike z y seat h g held phase.Committed
  here_alike case.Ran e f = runs_alike z y seat (ran_ready t i st o e) (ran_ready u i su open_too f) img
  here_alike (case.Took s) e f = runs_alike z y seat (took_ready t i st o s e) (took_ready u i su open_too s f) img
  here_alike case.Failed e f = ended_alike z y seat h g held phase.Failed
  here_alike (case.Restarted s) e f = restarted_alike z y seat h g held s.0 (wanted_slot own below t i e)

  seats_alike : (c : Case) → AlikeSeat (here t img i c) (here u img i c) → (j : ℕ) → j < seats
      → AlikeSeat (seat_at (after t img i c) j) (seat_at (after u img i c) j)
  seats_alike c k j b =
      split (eqb j i)
      (λ e. rw (
        eqb-true j i e,
        get_or-set_same t.seats i (here t img i c) no_seat (omega (arith, st.shaped.seats16, o.seat)),
        get_or-set_same u.seats i (here u img i c) no_seat (omega (arith, su.shaped.seats16, o.seat)),
      ) k)
      (λ e. rw (seat_other t img i c j (eqb-false j i e), seat_other u img i c j (eqb-false j i e)) (a.seats j b))

  after_alike : (c : Case) → case_of own t i ≡ c → Alike (after t img i c) (after u img i c)
  after_alike c e =
      let s = slots_alike t.slots u.slots st.shaped.arrays su.shaped.arrays tables (lined t i st o) (lined u i su open_too)
      i o.seat c (wanted_slot own below t i e) in
      record { holds = s.holds; queues = s.queues; seats = seats_alike c (here_alike c e (sym same_case ∙ e)) }

  pub alike_after : Alike (moved_by own t img i).table (moved_by own u img i).table
  unfolding moved_by
  alike_after = subst (λ (c : Case). Alike (after t img i (case_of own t i)) (after u img i c)) same_case (after_alike (case_of own t i) refl)
