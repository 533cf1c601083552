-- The arrays of a seat keep their lengths through a step: a store keeps an array's length, and so do all acts, whose registers are those
-- before with at most one of them stored. What is pending is made by set operations, and they make proper sets.
use Prim.Native.Nat.{ℕ}
use mathlib.Core.Path.{◌≡◌, refl, ◌∙◌}
use mathlib.Core.List.{List}
use lib.ListN.{length, length-set, length-replicate}
use Rattle.slots.specs.declared.set.SlotSet.{SlotSet}
use Rattle.slots.specs.Sets.{above}
use Rattle.slots.proofs.Members.{Proper, none_proper, adding_proper, removing_proper}
use Rattle.script.specs.declared.code.Instr.{Instr}
use Rattle.script.specs.declared.code.Script.{Script}
use Rattle.script.specs.Scripts.{max_instructions, registers, no_instr, blank_script}
use Rattle.script.specs.Meaning.{Act, local, reads, writes, opening_registers, act_of}
use Rattle.script.proofs.Acts.{by_op}
use Rattle.seats.specs.declared.seat.Phase.{Phase}
use Rattle.seats.specs.declared.seat.Run.{Run}
use Rattle.seats.specs.declared.seat.Seat.{Seat}
use Rattle.seats.specs.Seats.{no_write, blank_run, opened_run, blank_seat}
use Rattle.course.specs.declared.cases.Case.{Case}
use Rattle.course.specs.declared.cases.Case.TheVariants as case
use Rattle.runs.specs.Runs.{keeping, after_act}
use Rattle.course.specs.Wants.{act_at}
use Rattle.course.specs.Steps.{goes_on, restarted, ended, seat_after}
use Rattle.rules.proofs.Shaped.{ShapedSeat}
use Rattle.table.specs.Calls.{opened_seat}

-- ---- the runs at the beginning

pub opened_regs : (reading : ℕ) → length (opened_run reading).regs ≡ registers
unfolding opened_run opening_registers
opened_regs reading = refl

pub opened_writes : (reading : ℕ) → length (opened_run reading).writes ≡ max_instructions
unfolding opened_run
opened_writes reading = length-replicate max_instructions no_write

pub shaped_blank : ShapedSeat blank_seat
unfolding blank_seat blank_script blank_run
shaped_blank =
    record {
      code64 = length-replicate max_instructions no_instr;
      regs8 = length-replicate {A = ℕ} registers 0;
      writes64 = length-replicate max_instructions no_write;
      pending = none_proper;
    }

pub shaped_opened : (s : Script) (reading : ℕ) → length s.code ≡ max_instructions → ShapedSeat (opened_seat s reading)
unfolding opened_seat
shaped_opened s reading h =
    record { code64 = h; regs8 = opened_regs reading; writes64 = opened_writes reading; pending = none_proper }

-- ---- an act

-- the registers of a local act are as many as before
abbrev Registers : List ℕ → Act → Type 0
Registers r (local x n) = length x ≡ length r
Registers r (reads a c) = Unit {0}
Registers r (writes c v) = Unit {0}

act-registers : (x : Instr) (r : List ℕ) → Registers r (act_of x r)
act-registers x r =
    by_op x r (Registers r) (λ e. length-set r _ _) (λ e. tt) (λ e. tt) (λ e. tt) (λ e. tt) (λ e. length-set r _ _) (λ e. length-set r _ _)
    (λ e. refl) refl

after_regs : (a : Act) (img : List ℕ) (ρ : Run) → Registers ρ.regs a → length (after_act a img ρ).regs ≡ length ρ.regs
unfolding after_act keeping
after_regs (local x n) img ρ h = h
after_regs (reads a c) img ρ h = length-set ρ.regs _ _
after_regs (writes c v) img ρ h = refl

after_writes : (a : Act) (img : List ℕ) (ρ : Run) → length (after_act a img ρ).writes ≡ length ρ.writes
unfolding after_act keeping
after_writes (local x n) img ρ = refl
after_writes (reads a c) img ρ = refl
after_writes (writes c v) img ρ = length-set ρ.writes _ _

-- ---- a step

module _ (z : Seat) (h : SlotSet) (img : List ℕ) (s : ShapedSeat z) where
  shaped_ran : ShapedSeat (goes_on z (after_act (act_at z) img z.run) z.pending)
  unfolding act_at
  shaped_ran =
      record {
        code64 = s.code64;
        regs8 = after_regs (act_at z) img z.run (act-registers _ z.run.regs) ∙ s.regs8;
        writes64 = after_writes (act_at z) img z.run ∙ s.writes64;
        pending = s.pending;
      }

  shaped_ended : (p : Phase) → ShapedSeat (ended z h p)
  unfolding ended blank_run
  shaped_ended p =
      record { code64 = s.code64; regs8 = s.regs8; writes64 = length-replicate max_instructions no_write; pending = none_proper }

  -- another set is pending
  shaped_pending : (P : SlotSet) → Proper P → ShapedSeat (goes_on z z.run P)
  shaped_pending P p = record { code64 = s.code64; regs8 = s.regs8; writes64 = s.writes64; pending = p }

  pub shaped_after : (c : Case) → ShapedSeat (seat_after c z h img)
  unfolding seat_after restarted
  shaped_after (case.Got k) = shaped_pending _ (removing_proper z.pending k.0)
  shaped_after case.Blocked = s
  shaped_after (case.Queued k) = shaped_pending _ s.pending
  shaped_after case.Committed = shaped_ended _
  shaped_after case.Ran = shaped_ran
  shaped_after (case.Took k) = shaped_ran
  shaped_after case.Failed = shaped_ended _
  shaped_after (case.Restarted k) =
      record {
        code64 = s.code64;
        regs8 = opened_regs z.run.reading;
        writes64 = opened_writes z.run.reading;
        pending = adding_proper (above h k.0) k.0;
      }
