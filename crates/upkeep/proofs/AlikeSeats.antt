-- Seats that are alike stay alike, whatever the case of the step. Each case keeps the script and makes the other parts of a seat from parts
-- that are the same in both: from the run, the pending set, the counts, and the members of the held set.
use Prim.Native.Nat.{ℕ, ◌+◌, ◌<◌}
use mathlib.Core.Path.{◌≡◌, refl, sym, ap, ap₂, ◌∙◌, subst}
use mathlib.Core.Bool.{Bool, ◌||◌}
use mathlib.Core.List.{List}
use lib.Dec.{eqb}
use lib.ListN.{length}
use Rattle.slots.specs.Sizes.{slots}
use Rattle.slots.specs.declared.set.SlotSet.{SlotSet}
use Rattle.slots.specs.Sets.{has, adding, above}
use Rattle.slots.proofs.Members.{same, adding_proper, has-adding}
use Rattle.slots.proofs.Counting.{size_same}
use Rattle.script.specs.Meaning.{Act}
use Rattle.seats.specs.declared.seat.Phase.{Phase}
use Rattle.seats.specs.declared.seat.Run.{Run}
use Rattle.seats.specs.declared.seat.Seat.{Seat}
use Rattle.seats.specs.declared.seat.Tally.{Tally}
use Rattle.seats.specs.Seats.{blank_run, opened_run}
use Rattle.runs.specs.Runs.{after_act}
use Rattle.course.specs.Wants.{act_at}
use Rattle.course.specs.Steps.{worked, goes_on, restarted, ended}
use Rattle.upkeep.proofs.AlikeTables.{AlikeSeat}
use Rattle.upkeep.proofs.AlikeSlots.{above_alike}
use Rattle.upkeep.proofs.AlikeWants.{act_alike}
use Rattle.upkeep.proofs.AlikeRuns.{AlikeRun, same_run, after_alike}

-- the seat is not at its end, and there is room for a write
pub record Ready (z : Seat) : Type 0 where
  pub inside : z.run.at < z.script.len
  pub room : z.run.kept < length z.run.writes

-- with its script, and all else new
abbrev renewed : Seat → Phase → Run → SlotSet → Tally → Seat
renewed z f ρ p n = record { phase = f; script = z.script; run = ρ; pending = p; tally = n }

module _ (z y : Seat) (a : AlikeSeat z y) where
  renewed_alike : {f g : Phase} {ρ σ : Run} {p q : SlotSet} {n m : Tally} → f ≡ g → AlikeRun ρ σ → p ≡ q → n ≡ m
      → AlikeSeat (renewed z f ρ p n) (renewed y g σ q m)
  renewed_alike e r d k =
      record {
        phase = e;
        len = a.len;
        code = a.code;
        reading = r.reading;
        position = r.position;
        registers = r.registers;
        kept = r.kept;
        writes = r.writes;
        pending = d;
        tally = k;
      }

  run_alike : AlikeRun z.run y.run
  run_alike = record { reading = a.reading; position = a.position; registers = a.registers; kept = a.kept; writes = a.writes }

  -- it takes a pending slot back, or joins a queue
  pub stays_alike : {p q : SlotSet} → p ≡ q → AlikeSeat (goes_on z z.run p) (goes_on y y.run q)
  stays_alike d = renewed_alike a.phase run_alike d (ap worked a.tally)

  -- it does its instruction
  pub runs_alike : Ready z → Ready y → (img : List ℕ)
      → AlikeSeat (goes_on z (after_act (act_at z) img z.run) z.pending) (goes_on y (after_act (act_at y) img y.run) y.pending)
  runs_alike r s img =
      renewed_alike a.phase
      (subst (λ (x : Act). AlikeRun (after_act (act_at z) img z.run) (after_act x img y.run)) (act_alike z y a r.inside)
      (after_alike z.run y.run run_alike r.room s.room (act_at z) img))
      a.pending (ap worked a.tally)

  -- one seat holds h and the other g
  module _ (h g : SlotSet) (e : (k : ℕ) → has h k ≡ has g k) where
    pub ended_alike : (f : Phase) → AlikeSeat (ended z h f) (ended y g f)
    unfolding ended
    ended_alike f =
        renewed_alike refl
        (same_run (ap (λ (r : List ℕ). record { reading = 0; at = 0; regs = r; writes = blank_run.writes; kept = 0 }) a.registers)) refl
        (ap₂ (λ (n : Tally) (k : ℕ). record { restarts = n.restarts; working = n.working + 1; slots = k }) a.tally (size_same h g e))

    pub restarted_alike : (s : ℕ) → s < slots → AlikeSeat (restarted z h s) (restarted y g s)
    unfolding restarted
    restarted_alike s b =
        renewed_alike a.phase (same_run (ap opened_run a.reading))
        (same (adding (above h s) s) (adding (above g s) s) (adding_proper (above h s) s) (adding_proper (above g s) s)
        (λ k l. has-adding (above h s) s k b ∙ ap (λ (x : Bool). x || eqb k s) (above_alike h g e s k) ∙ sym (has-adding (above g s) s k b)))
        (ap (λ (n : Tally). record { restarts = n.restarts + 1; working = n.working + 1; slots = n.slots }) a.tally)
