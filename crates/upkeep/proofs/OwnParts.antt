-- The rules of an open seat, each over the parts that it speaks of: script, run, pending, and what the seat holds and is queued for, as sets.
-- So said, a rule can be carried from one table to another whose parts are the same or have grown. A table's rules are these, at the parts
-- of its seat, and back.
use Prim.Native.Nat.{ℕ, ◌≤◌, ◌<◌}
use mathlib.Core.Path.{◌≡◌, sym, ◌∙◌, subst}
use mathlib.Core.Logic.{◌≢◌}
use mathlib.Core.Bool.{Bool, true, false, cond}
use lib.Dec.{ltb}
use lib.ListN.{get_or}
use borrow.Author.Tests.{ltb-true, lt-ltb}
use Rattle.slots.specs.declared.set.SlotSet.{SlotSet}
use Rattle.slots.specs.Sizes.{cells, slots}
use Rattle.slots.specs.Refusals.{refusal}
use Rattle.slots.specs.Sets.{has, set_of, union, is_empty, size, smallest}
use Rattle.slots.proofs.Truth.{and_l, and_r, and_i}
use Rattle.slots.proofs.Members.{In, has_set}
use Rattle.script.specs.declared.code.Script.{Script}
use Rattle.script.specs.Scripts.{registers}
use Rattle.script.specs.Legal.{script_checks}
use Rattle.script.specs.Meaning.{opening_registers}
use Rattle.seats.specs.declared.seat.Run.{Run}
use Rattle.seats.specs.declared.seat.Seat.{Seat}
use Rattle.seats.specs.declared.seat.Tally.{Tally}
use Rattle.seats.specs.declared.slot_table.SlotTable.{SlotTable}
use Rattle.seats.specs.declared.table.Table.{Table}
use Rattle.seats.specs.Queues.{waits_in}
use Rattle.seats.specs.SlotTables.{held_by, queue_of}
use Rattle.seats.specs.Tables.{seat_at}
use Rattle.course.specs.Wants.{want_of, slot_of}
use Rattle.rules.specs.Rules.{cell_of, queued_for, concerned, OpenRules}
use Rattle.upkeep.proofs.OwnNumbers.{Few, Bound}

pub record Two (own : ℕ → ℕ) (s : Script) (ρ : Run) (H : SlotSet) : Type 0 where
  pub position : ρ.at ≤ s.len
  pub legal : refusal (script_checks s) ≡ 0
  pub few : ρ.kept ≤ ρ.at
  pub cell : (k : ℕ) → k < ρ.kept → cell_of ρ k < cells
  pub held : (k : ℕ) → k < ρ.kept → In H (own (cell_of ρ k))

pub record Three (ρ : Run) (P H : SlotSet) : Type 0 where
  pub position : ρ.at ≡ 0
  pub nothing : ρ.kept ≡ 0
  pub opening : (k : ℕ) → k < registers → get_or ρ.regs k 0 ≡ get_or (opening_registers ρ.reading) k 0
  pub below : (s : ℕ) → In H s → s ≢ smallest P → s < smallest P
  pub lacks : (s : ℕ) → In P s → s ≢ smallest P → In H s → ⊥

pub record Four (wanted : ℕ) (H : SlotSet) (s : ℕ) : Type 0 where
  pub is : s ≡ wanted
  pub lacks : In H s → ⊥
  pub above : (u : ℕ) → In H u → u < s

-- the slots concerned, and q
abbrev pub concern : SlotSet → SlotSet → SlotSet → SlotSet
concern P H U = union (union H P) U

abbrev pub awaited : SlotSet → SlotSet → SlotSet → ℕ
awaited P H U = cond (has (union H U) (smallest P)) 1 0

pub record Five (k a : ℕ) (y : Tally) (P H U : SlotSet) : Type 0 where
  pub restarts : Few y.restarts (size (concern P H U))
  pub working : Bound y.working (size P) y.restarts k a (size (concern P H U)) (awaited P H U)

-- all of them, of a seat that holds H and is queued for U
pub record Parts (own : ℕ → ℕ) (z : Seat) (H U : SlotSet) : Type 0 where
  pub two : Two own z.script z.run H
  pub three : is_empty z.pending ≡ false → Three z.run z.pending H
  pub four : (s : ℕ) → In U s → Four (slot_of (want_of own z)) H s
  pub five : Five z.script.len z.run.at z.tally z.pending H U

-- ---- the slots that seat i is queued for

unfoldable pub queued_in : SlotTable → ℕ → SlotSet
queued_in t i = set_of (λ s. waits_in (queue_of t s) i)

module _ (t : SlotTable) (i s : ℕ) where
  pub queued_waits : In (queued_in t i) s → (s < slots) × (waits_in (queue_of t s) i ≡ true)
  unfolding queued_in
  queued_waits e =
      let f : ◌≡◌ {A = Bool} _ true = sym (has_set (λ s. waits_in (queue_of t s) i) s) ∙ e in
      (ltb-true s slots (and_l (ltb s slots) _ f), and_r (ltb s slots) _ f)

  pub waits_queued : s < slots → waits_in (queue_of t s) i ≡ true → In (queued_in t i) s
  unfolding queued_in
  waits_queued l e = has_set (λ s. waits_in (queue_of t s) i) s ∙ and_i (lt-ltb s slots l) e

-- ---- a table's rules

module _ (own : ℕ → ℕ) (t : Table) (i : ℕ) where
  pub parts : OpenRules own t i → Parts own (seat_at t i) (held_by t.slots i) (queued_in t.slots i)
  unfolding queued_for concerned queued_in
  parts r =
      record {
        two = record {
          position = r.two.position;
          legal = r.two.legal;
          few = r.two.few;
          cell = r.two.cell;
          held = r.two.held;
        };
        three = λ e. let x = r.three e in
            record { position = x.position; nothing = x.nothing; opening = x.opening; below = x.below; lacks = x.lacks };
        four = λ s e. let w = queued_waits t.slots i s e in
            let x = r.four s w.0 w.1 in
            record { is = x.wanted; lacks = x.lacks; above = x.above };
        five = record { restarts = r.five.restarts; working = r.five.working };
      }

  rules_of : Parts own (seat_at t i) (held_by t.slots i) (queued_in t.slots i) → OpenRules own t i
  unfolding queued_for concerned queued_in
  rules_of r =
      record {
        two = record {
          position = r.two.position;
          legal = r.two.legal;
          few = r.two.few;
          cell = r.two.cell;
          held = r.two.held;
        };
        three = λ e. let x = r.three e in
            record { position = x.position; nothing = x.nothing; opening = x.opening; below = x.below; lacks = x.lacks };
        four = λ s l e. let x = r.four s (waits_queued t.slots i s l e) in
            record { wanted = x.is; lacks = x.lacks; above = x.above };
        five = record { restarts = r.five.restarts; working = r.five.working };
      }

  pub rules : {z : Seat} → seat_at t i ≡ z → Parts own z (held_by t.slots i) (queued_in t.slots i) → OpenRules own t i
  rules e r = rules_of (subst (λ (y : Seat). Parts own y (held_by t.slots i) (queued_in t.slots i)) (sym e) r)
