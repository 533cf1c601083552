-- The instructions of a body. The loop's invariant: the array holds the body's first instructions, as many as have come, and behind them
-- none; and the iterator has the body behind those left.
use Rattle.std.proofs.Common.{◌≡◌, ◌*◌, ◌≤◌, drop}
use Rattle.std.specs.Iterator.Adapters.{enumerate_source, enumerate_count}
use Rattle.std.specs.Slice.Iter.{chunks_exact_rest, chunks_exact_size}
use Rattle.script.specs.Scripts.{instr_bytes}
use Rattle.script.proofs.Frames.{held}
use Rattle.script.proofs.reading.script_in.Given as goal

abbrev pub invariant-loop-i : goal.invariant-loop-i
invariant-loop-i l =
    let i = enumerate_count l.i-iterator in
    let left = enumerate_source l.i-iterator in
    (chunks_exact_size left ≡ instr_bytes) × (chunks_exact_rest left ≡ drop (instr_bytes * i) l.body) × (i ≤ l.k)
    × (l.script.code ≡ held l.body i) × (l.script.len ≡ l.k)
