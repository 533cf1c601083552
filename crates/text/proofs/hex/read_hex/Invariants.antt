-- Hex is decoded. Each refusal is one of the ways in which hex cannot be read, and comes before the first store. The loop's invariant: k
-- pairs are passed, what is left of s begins behind them, and their k bytes stand at the front.
use Rattle.std.proofs.Common.{◌≡◌, ◌*◌, ◌≤◌, length, drop}
use Rattle.std.specs.Iterator.Adapters.{enumerate_source, enumerate_count}
use Rattle.std.specs.Slice.Iter.{chunks_exact_rest, chunks_exact_size}
use lib.Seq.{paste}
use Rattle.text.specs.Hex.{hex_bytes}
use Rattle.text.proofs.hex.read_hex.Given as goal

abbrev pub invariant-loop-i : goal.invariant-loop-i
invariant-loop-i l =
    let pairs = enumerate_source l.i-iterator in
    let k = enumerate_count l.i-iterator in
    record {
      can_next : (goal.iterator-loop-i).can_next l.i-iterator;
      finite : (goal.iterator-loop-i).is_finite l.i-iterator;
      two : chunks_exact_size pairs ≡ 2;
      left : chunks_exact_rest pairs ≡ drop (2 * k) l.s;
      passed : 2 * k ≤ length l.s;
      decoded : l.dst ≡ paste l.initial.dst 0 (hex_bytes l.s) k;
    }
