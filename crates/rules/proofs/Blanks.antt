-- A seat of the code that passes the test of a blank seat is the blank seat, and the blank seat passes it. An array is the array of a seat
-- never opened if it has its length and each of its elements is the blank one; a set with no members is the empty set.
use Prim.Native.Nat.{ℕ, ◌<◌}
use mathlib.Core.Path.{◌≡◌, sym, ap, ◌∙◌}
use mathlib.Core.Bool.{Bool, true, ◌&&◌}
use mathlib.Core.List.{List}
use native.Mathlib.Omega.{arith}
use lib.Dec.{eqb}
use lib.ListN.{length, get_or, replicate, length-replicate, get_or-replicate}
use lib.Seq.{ext_get_or}
use borrow.Author.Tests.{eqb-true}
use Rattle.slots.specs.declared.set.SlotSet.{SlotSet}
use Rattle.slots.specs.Sets.{none, is_empty}
use Rattle.slots.proofs.Truth.{and_l, and_r}
use Rattle.slots.proofs.Members.{Proper, same, none_proper, has-none}
use Rattle.slots.proofs.Counting.{empty_out}
use Rattle.script.specs.declared.code.Instr.{Instr}
use Rattle.script.specs.declared.code.Script.{Script}
use Rattle.script.specs.Scripts.{max_instructions, registers, no_instr, blank_script}
use Rattle.seats.specs.declared.seat.Phase.TheVariants.{Blank}
use Rattle.seats.specs.declared.seat.Write.{Write}
use Rattle.seats.specs.declared.seat.Run.{Run}
use Rattle.seats.specs.declared.seat.Tally.{Tally}
use Rattle.seats.specs.declared.seat.Seat.{Seat}
use Rattle.seats.specs.Seats.{no_write, blank_run, no_tally, blank_seat}
use Rattle.rule_one.specs.Tests.{all}
use Rattle.rule_six.specs.Tests.{is_no_instr, is_no_write, is_blank_script, no_registers, no_writes, is_blank_run, is_no_tally, blank_test}
use Rattle.rule_one.proofs.Loops.{three, four, all_at}
use Rattle.rules.proofs.Shaped.{ShapedSeat}

-- an array of n elements that are all d
alike_all : {A : Type 0} (xs : List A) (n : ℕ) (d : A) → length xs ≡ n → ((k : ℕ) → k < n → get_or xs k d ≡ d) → xs ≡ replicate n d
alike_all xs n d e h =
    ext_get_or d xs (replicate n d) (e ∙ sym (length-replicate n d))
    (λ k l. let b : k < n = omega arith in h k b ∙ sym (get_or-replicate n k d d b))

empty_none : (S : SlotSet) → Proper S → is_empty S ≡ true → S ≡ none
empty_none S p e = same S none p none_proper (λ s l. empty_out S s e ∙ sym (has-none s))

no_instr_lem : (x : Instr) → is_no_instr x ≡ true → x ≡ no_instr
unfolding is_no_instr
no_instr_lem x e =
    let f = four (eqb x.op 0) (eqb x.a 0) (eqb x.b 0) (eqb x.c 0) e in
    let op = eqb-true x.op 0 f.0 in
    let a = eqb-true x.a 0 f.1.0 in
    let b = eqb-true x.b 0 f.1.1.0 in
    let c = eqb-true x.c 0 f.1.1.1 in
    λ n. record { op = op n; a = a n; b = b n; c = c n }

no_write_lem : (w : Write) → is_no_write w ≡ true → w ≡ no_write
unfolding is_no_write
no_write_lem w e =
    let cell = eqb-true w.cell.0 0 (and_l (eqb w.cell.0 0) (eqb w.value 0) e) in
    let value = eqb-true w.value 0 (and_r (eqb w.cell.0 0) (eqb w.value 0) e) in
    λ n. record { cell = record { 0 = cell n }; value = value n }

blank_script_lem : (s : Script) → length s.code ≡ max_instructions → is_blank_script s ≡ true → s ≡ blank_script
unfolding is_blank_script blank_script
blank_script_lem s h e =
    let each : ℕ → Bool = λ k. is_no_instr (get_or s.code k no_instr) in
    let len = eqb-true s.len 0 (and_l (eqb s.len 0) (all each max_instructions) e) in
    let code = alike_all s.code max_instructions no_instr h
    (λ k l. no_instr_lem (get_or s.code k no_instr) (all_at each max_instructions (and_r (eqb s.len 0) (all each max_instructions) e) k l)) in
    λ n. record { code = code n; len = len n }

no_registers_lem : (ρ : Run) → length ρ.regs ≡ registers → no_registers ρ ≡ true → ρ.regs ≡ replicate registers 0
unfolding no_registers
no_registers_lem ρ h e =
    alike_all ρ.regs registers 0 h
    (λ k l. eqb-true (get_or ρ.regs k 0) 0 (all_at (λ k. eqb (get_or ρ.regs k 0) 0) registers e k l))

no_writes_lem : (ρ : Run) → length ρ.writes ≡ max_instructions → no_writes ρ ≡ true → ρ.writes ≡ replicate max_instructions no_write
unfolding no_writes
no_writes_lem ρ h e =
    alike_all ρ.writes max_instructions no_write h
    (λ k l. no_write_lem (get_or ρ.writes k no_write) (all_at (λ k. is_no_write (get_or ρ.writes k no_write)) max_instructions e k l))

blank_run_lem : (ρ : Run) → length ρ.regs ≡ registers → length ρ.writes ≡ max_instructions → is_blank_run ρ ≡ true → ρ ≡ blank_run
unfolding is_blank_run blank_run
blank_run_lem ρ h k e =
    let first : Bool = eqb ρ.reading 0 && eqb ρ.at 0 && eqb ρ.kept 0 in
    let f = three first (no_registers ρ) (no_writes ρ) e in
    let g = three (eqb ρ.reading 0) (eqb ρ.at 0) (eqb ρ.kept 0) f.0 in
    let reading = eqb-true ρ.reading 0 g.0 in
    let at = eqb-true ρ.at 0 g.1.0 in
    let kept = eqb-true ρ.kept 0 g.1.1 in
    let regs = no_registers_lem ρ h f.1.0 in
    let writes = no_writes_lem ρ k f.1.1 in
    λ n. record { reading = reading n; at = at n; regs = regs n; writes = writes n; kept = kept n }

no_tally_lem : (y : Tally) → is_no_tally y ≡ true → y ≡ no_tally
unfolding is_no_tally
no_tally_lem y e =
    let f = three (eqb y.restarts 0) (eqb y.working 0) (eqb y.slots 0) e in
    let restarts = eqb-true y.restarts 0 f.0 in
    let working = eqb-true y.working 0 f.1.0 in
    let slots = eqb-true y.slots 0 f.1.1 in
    λ n. record { restarts = restarts n; working = working n; slots = slots n }

pub blank_is : (z : Seat) → ShapedSeat z → z.phase ≡ Blank → is_empty z.pending ≡ true → blank_test z ≡ true → z ≡ blank_seat
unfolding blank_test blank_seat
blank_is z h phase p e =
    let f = three (is_blank_script z.script) (is_blank_run z.run) (is_no_tally z.tally) e in
    let script = blank_script_lem z.script h.code64 f.0 in
    let run = blank_run_lem z.run h.regs8 h.writes64 f.1.0 in
    let pending = empty_none z.pending h.pending p in
    let tally = no_tally_lem z.tally f.1.1 in
    λ n. record { phase = phase n; script = script n; run = run n; pending = pending n; tally = tally n }

pub blank_passes : (z : Seat) → z ≡ blank_seat → blank_test z ≡ true
unfolding blank_test is_blank_script is_blank_run is_no_tally is_no_instr is_no_write no_registers no_writes all blank_seat blank_script blank_run
blank_passes z e = ap blank_test e
