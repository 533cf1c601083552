-- The instructions of a body. At the start the array is the blank script's. A turn takes four bytes off what is left and stores the instruction that they are (`held_more`); where no four
-- bytes are left, all k have come.
use Rattle.std.proofs.Common.{rules, ◌≡◌, ◌*◌, sym, ap, ◌∙◌, arith, length, length-drop, replicate}
use Rattle.std.specs.Iterator.Adapters.{enumerate_source, enumerate_count}
use Rattle.std.specs.Slice.Iter.{chunks_exact_rest}
use Rattle.script.specs.declared.code.Script.{Script}
use Rattle.script.specs.Scripts.{max_instructions, no_instr, instr_bytes, blank_script}
use Rattle.script.proofs.Frames.{held, four_fit, left_next, held_more, held_all}
use Rattle.script.proofs.reading.script_in.Goals as goal

pub loop-i-init : goal.loop-i-init
unfolding blank_script
loop-i-init c =
    let blank : c.args.script.now.code ≡ replicate max_instructions no_instr = ap (λ (s : Script). s.code) c.requires.blank in
    search rules

pub loop-i-preserved : goal.loop-i-preserved
loop-i-preserved c =
    let known = c.loop-i.invariant in
    let turn = c.in-Some.ensures.steps in
    let b = c.args.body.now in
    let i = enumerate_count c.loop-i.i-iterator in
    let w = c.in-Some.bytes.now in
    let r = chunks_exact_rest (enumerate_source c.next.new.self) in
    let e = sym known.1 ∙ turn.0.1.0 in
    let n = turn.0.1.1 ∙ known.0 in
    rw (turn.1, turn.2)
    (turn.0.0 ∙ known.0, left_next b i w r e n, omega (arith, four_fit b i w r e n, c.requires.whole), held_more b i w r e n known.3 c.instr_in.ensures (omega (arith, four_fit b i w r e n, c.requires.whole, c.requires.short)), known.4)

pub returns : goal.returns
returns c =
    let known = c.loop-i.invariant in
    let i = enumerate_count c.loop-i.i-iterator in
    let short = c.in-None.ensures.steps.0.1.0 in
    let left = ap length known.1 ∙ length-drop (instr_bytes * i) c.args.body.now in
    let all : i ≡ c.args.k = omega (arith, short, left, known.0, known.2, c.requires.whole) in
    held_all c.args.body.now c.loop-i.script c.args.k (known.3 ∙ ap (held c.args.body.now) all) known.4 c.requires.whole
