-- A step leaves the seat that makes it good. An act is of a cell of a slot that the seat holds, or has just taken; the slots and the image
-- are otherwise what they were, or more slots; and a restart puts the seat at its start again. A good seat that ends has done just what its
-- script does alone on the image as it is.
use Prim.Native.Nat.{ℕ, ◌≤◌, ◌<◌}
use mathlib.Core.Path.{◌≡◌, refl, sym, ap, ◌∙◌, subst}
use mathlib.Core.Logic.{◌⊎◌, inl, inr}
use mathlib.Core.Bool.{Bool, true, false, false≢true}
use mathlib.Core.List.{List}
use native.Mathlib.Omega.{arith}
use lib.ListN.{length, get_or}
use lib.Seq.{get_or-set_same}
use borrow.Author.Tests.{le-ltb}
use Rattle.slots.specs.Sizes.{cells, slots}
use Rattle.slots.specs.declared.Slot.{Slot}
use Rattle.slots.specs.declared.set.SlotSet.{SlotSet}
use Rattle.slots.specs.Sets.{none, adding}
use Rattle.slots.proofs.Members.{In, adding_here, adding_keeps}
use Rattle.script.specs.declared.code.Instr.{Instr}
use Rattle.script.specs.Scripts.{max_instructions, no_instr, instrs}
use Rattle.script.specs.Legal.{legal}
use Rattle.script.specs.Meaning.{Act, local, writes, act_of}
use Rattle.script.specs.Alone.{end, committed, failed, in_range, alone}
use Rattle.script.proofs.Scripts.{length_instrs, instr_is}
use Rattle.script.proofs.Lawful.{code_ok}
use Rattle.seats.specs.declared.seat.Seat.{Seat}
use Rattle.seats.specs.declared.slot_table.SlotTable.{SlotTable}
use Rattle.seats.specs.declared.table.Table.{Table}
use Rattle.seats.specs.Queues.{seats, waits_in}
use Rattle.seats.specs.SlotTables.{held_by, queue_of, owned, taken}
use Rattle.seats.specs.Seats.{is_open}
use Rattle.seats.specs.Tables.{seat_at}
use Rattle.seats.proofs.Shape.{Whole}
use Rattle.seats.proofs.Hands.{held-joined}
use Rattle.course.specs.declared.wants.Want.TheVariants as want
use Rattle.course.specs.declared.cases.Case.{Case}
use Rattle.course.specs.declared.cases.Case.TheVariants as case
use Rattle.runs.specs.Runs.{kept_writes, written, after_act}
use Rattle.course.specs.Wants.{act_at, want_of, slot_of}
use Rattle.course.specs.Steps.{restarted, ended, seat_after, slots_after, image_after}
use Rattle.course.proofs.Known.{Known, known, Runs, Accesses, known_want}
use Rattle.rules.specs.Rules.{IsOpen, Rule2}
use Rattle.table.specs.Calls.{case_of}
use Rattle.upkeep.proofs.Unqueued.{open_rules}
use Rattle.upkeep.specs.SoundTables.{Stands}
use Rattle.promises.proofs.Ahead.{act_on}
use Rattle.promises.proofs.Good.{Covered, Good, good_start, good_still, good_act, alone-end, alone_out}

-- ---- what a seat has after taking a slot

module _ (t : SlotTable) (w : Whole t) (i s : ℕ) (l : i < seats) where
  held_own : held_by (taken t i s) i ≡ adding (held_by t i) s
  unfolding taken
  held_own = get_or-set_same t.held i _ none (omega (arith, w.held16))

  taken_keeps : (u : ℕ) → In (held_by t i) u → In (held_by (taken t i s) i) u
  taken_keeps u h = subst (λ (S : SlotSet). In S u) (sym held_own) (adding_keeps (held_by t i) s u h)

  taken_here : s < slots → In (held_by (taken t i s) i) s
  taken_here h = subst (λ (S : SlotSet). In S s) (sym held_own) (adding_here (held_by t i) s h)

-- ---- an act, by what is wanted

out_range : (a : Act) (c : ℕ) → Accesses a c → cells ≤ c → in_range a ≡ false
unfolding in_range
out_range a c (inl k) l = rw k.1 (le-ltb c cells l)
out_range a c (inr k) l = rw k.1 (le-ltb c cells l)

module _ (own : ℕ → ℕ) where
  covered_local : (h : SlotSet) (a : Act) (r : List ℕ) (n : ℕ) → a ≡ local r n → Covered own h a
  unfolding Covered
  covered_local h a r n e = subst (Covered own h) (sym e) tt

  covered_access : (h : SlotSet) (a : Act) (c : ℕ) → Accesses a c → c < cells → In h (own c) → Covered own h a
  unfolding Covered
  covered_access h a c (inl k) l o = subst (Covered own h) (sym k.1) (l, o)
  covered_access h a c (inr k) l o = subst (Covered own h) (sym k.1) (l, o)

-- ---- which case a step is

pub case_known : (own : ℕ → ℕ) (t : Table) (i : ℕ)
    → Known (case_of own t i) (want_of own (seat_at t i)) (held_by t.slots i) (owned t.slots)
    (waits_in (queue_of t.slots (slot_of (want_of own (seat_at t i)))) i)
unfolding case_of
case_known own t i = known (want_of own (seat_at t i)) (held_by t.slots i) (owned t.slots) _

-- ---- the seat

module _ (own : ℕ → ℕ) (t : Table) (i : ℕ) (st : Stands own t) (o : IsOpen t i) where
  abbrev z : Seat
  z = seat_at t i

  abbrev h : SlotSet
  h = held_by t.slots i

  two : Rule2 own t i
  two = (open_rules t i st o).two

  lawful : (z.script.len ≤ max_instructions) × (legal (instrs z.script) ≡ true)
  lawful = code_ok z.script.len (instrs z.script) two.legal

  -- the seat was opened with these instructions
  module _ (code : List Instr) (e : instrs z.script ≡ code) where
    code_legal : legal code ≡ true
    code_legal = ap legal (sym e) ∙ lawful.1

    code_length : length code ≡ z.script.len
    code_length = ap (λ (xs : List Instr). length xs) (sym e) ∙ length_instrs z.script (st.shaped.each i o.seat).code64 lawful.0

    act_is : z.run.at < z.script.len → act_on code z.run ≡ act_at z
    unfolding act_on act_at
    act_is l =
        ap (λ (x : Instr). act_of x z.run.regs)
        (ap (λ (xs : List Instr). get_or xs z.run.at no_instr) (sym e) ∙ instr_is z.script z.run.at l)

    kept_room : z.run.at < z.script.len → z.run.kept < length z.run.writes
    kept_room l = omega (arith, two.few, lawful.0, (st.shaped.each i o.seat).writes64)

  module _ (code : List Instr) (reading : ℕ) (img : List ℕ) (g : Good own code reading z.script z.run h img) where
    -- with the slots h', which are those held or more
    act_good : (h' : SlotSet) → ((u : ℕ) → In h u → In h' u) → Runs z → Covered own h' (act_at z)
        → Good own code reading z.script (after_act (act_at z) img z.run) h' img
    act_good h' more r k =
        let e = g.script in
        let a = act_is code e r.inside in
        let g' = good_still own code reading z.script z.run h h' img img more (λ c l o. refl) g in
        subst (λ (x : Act). Good own code reading z.script (after_act x img z.run) h' img) a
        (good_act own code reading z.script z.run h' img g' (code_legal code e) (omega (arith, code_length code e, r.inside))
        (kept_room code e r.inside) (subst (Covered own h') (sym a) k))

    access_good : (s : Slot) → want_of own z ≡ want.Access s → (h' : SlotSet) → ((u : ℕ) → In h u → In h' u) → In h' s.0
        → Good own code reading z.script (after_act (act_at z) img z.run) h' img
    access_good s e h' more k =
        let w = known_want own z e in
        act_good h' more w.0 (covered_access own h' (act_at z) w.1.0 w.1.1 w.1.2 (subst (In h') w.1.3 k))

    ran_good : (want_of own z ≡ want.Nothing) ⊎ ((s : Slot) × (want_of own z ≡ want.Access s) × In h s.0)
        → Good own code reading z.script (after_act (act_at z) img z.run) h img
    ran_good (inl e) =
        let w = known_want own z e in
        act_good h (λ u k. k) w.0 (covered_local own h (act_at z) w.1.0 w.1.1 w.1.2)
    ran_good (inr k) = access_good k.0 k.1 h (λ u k. k) k.2

    -- the seat goes on, if the step has not ended it
    pub steps_good : ((c : ℕ) → own c < slots) → (c : Case) (w : SlotSet) (b : Bool) → Known c (want_of own z) h w b
        → is_open (seat_after c z h img).phase ≡ true
        → Good own code reading (seat_after c z h img).script (seat_after c z h img).run (held_by (slots_after c t.slots i) i)
        (image_after c z.run img)
    unfolding seat_after slots_after image_after is_open ended restarted
    steps_good below (case.Got s) w b k p =
        let more = taken_keeps t.slots st.shaped.arrays i s.0 o.seat in
        good_still own code reading z.script z.run h _ img img more (λ c l o. refl) g
    steps_good below case.Blocked w b k p = g
    steps_good below (case.Queued s) w b k p = rw (held-joined t.slots i s.0 i) g
    steps_good below case.Committed w b k p = absurd (false≢true p)
    steps_good below case.Ran w b k p = ran_good k
    steps_good below (case.Took s) w b k p =
        let a = known_want own z k.wanted in
        let l : s.0 < slots = omega (arith, a.1.3, below a.1.0) in
        let whole = st.shaped.arrays in
        access_good s k.wanted _ (taken_keeps t.slots whole i s.0 o.seat) (taken_here t.slots whole i s.0 o.seat l)
    steps_good below case.Failed w b k p = absurd (false≢true p)
    steps_good below (case.Restarted s) w b k p = good_start own code reading z.script z.run.reading _ img g.script g.given

    -- a step that ends the seat
    pub alone_commits : length img ≡ cells → want_of own z ≡ want.End
        → alone code reading img ≡ end committed z.run.regs (written (kept_writes z.run) img)
    alone_commits n e =
        let w = known_want own z e in
        alone-end own code reading z.script z.run h img g n (omega (arith, code_length code g.script, w.1))

    pub alone_fails : length img ≡ cells → want_of own z ≡ want.NoCell → alone code reading img ≡ end failed z.run.regs img
    alone_fails n e =
        let w = known_want own z e in
        let a = act_is code g.script w.0.inside in
        alone_out own code reading z.script z.run h img g n (omega (arith, code_length code g.script, w.0.inside))
        (ap in_range a ∙ out_range (act_at z) w.1.0 w.1.1 w.1.2)
