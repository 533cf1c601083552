-- Rule 6 of 'A sound table' as a test, of a seat that is not open. `Rules` has it in words.
use Rattle.std.specs.Prelude.{Bool, not, ◌&&◌, leb, eqb, get_or}
use Rattle.slots.specs.declared.set.SlotSet.{SlotSet}
use Rattle.slots.specs.Sizes.{slots}
use Rattle.slots.specs.Sets.{is_empty}
use Rattle.script.specs.declared.code.Instr.{Instr}
use Rattle.script.specs.declared.code.Script.{Script}
use Rattle.script.specs.Scripts.{max_instructions, registers, no_instr}
use Rattle.seats.specs.declared.seat.Write.{Write}
use Rattle.seats.specs.declared.seat.Run.{Run}
use Rattle.seats.specs.declared.seat.Tally.{Tally}
use Rattle.seats.specs.declared.seat.Seat.{Seat}
use Rattle.seats.specs.Seats.{most_restarts, most_working, no_write}
use Rattle.rule_one.specs.Tests.{all}

unfoldable pub closed_test : Seat → SlotSet → Bool → Bool
closed_test z h queued = is_empty h && not queued && is_empty z.pending && eqb z.run.kept 0

unfoldable pub ended_test : Tally → Bool
ended_test y = leb y.restarts most_restarts && leb y.slots slots && leb y.working most_working

unfoldable pub is_no_instr : Instr → Bool
is_no_instr x = eqb x.op 0 && eqb x.a 0 && eqb x.b 0 && eqb x.c 0

unfoldable pub is_no_write : Write → Bool
is_no_write w = eqb w.cell.0 0 && eqb w.value 0

unfoldable pub is_blank_script : Script → Bool
is_blank_script s = eqb s.len 0 && all (λ k. is_no_instr (get_or s.code k no_instr)) max_instructions

unfoldable pub no_registers : Run → Bool
no_registers ρ = all (λ k. eqb (get_or ρ.regs k 0) 0) registers

unfoldable pub no_writes : Run → Bool
no_writes ρ = all (λ k. is_no_write (get_or ρ.writes k no_write)) max_instructions

unfoldable pub is_blank_run : Run → Bool
is_blank_run ρ =
    eqb ρ.reading 0 && eqb ρ.at 0 && eqb ρ.kept 0 && no_registers ρ && no_writes ρ

unfoldable pub is_no_tally : Tally → Bool
is_no_tally y = eqb y.restarts 0 && eqb y.working 0 && eqb y.slots 0

unfoldable pub blank_test : Seat → Bool
blank_test z = is_blank_script z.script && is_blank_run z.run && is_no_tally z.tally
