-- The next pair is what the iterator gives: two bytes in front of what is left of s. Both are hex, since all of s is.
use Rattle.std.proofs.Common.{rules, arith, ◌≡◌, ◌+◌, ◌*◌, ◌++◌, length, drop, set, ap, sym, ◌∙◌}
use Rattle.std.specs.Iterator.Adapters.{enumerate_source, enumerate_count}
use Rattle.std.specs.Slice.Iter.{chunks_exact_rest}
use lib.Seq.{paste}
use Rattle.text.specs.Hex.{hex_bytes}
use Rattle.text.proofs.Nibbles.{pair_room, pair_rest, pair_nibbles, pair_decoded}
use Rattle.text.proofs.hex.read_hex.Goals as goal

pub nibble_of-requires : goal.nibble_of-requires
nibble_of-requires c =
    let h = c.in-Some.ensures.steps in
    (pair_nibbles c.args.s.now _ _ _ (sym c.loop-i.invariant.left ∙ h.0.1.0) (h.0.1.1 ∙ c.loop-i.invariant.two) (search rules)).0

pub nibble_of-requires-in-loop-i : goal.nibble_of-requires-in-loop-i
nibble_of-requires-in-loop-i c =
    let h = c.in-Some.ensures.steps in
    (pair_nibbles c.args.s.now _ _ _ (sym c.loop-i.invariant.left ∙ h.0.1.0) (h.0.1.1 ∙ c.loop-i.invariant.two) (search rules)).1

pub loop-i-preserved : goal.loop-i-preserved
loop-i-preserved c =
    let h = c.in-Some.ensures.steps in
    let s = c.args.s.now in
    let d = c.args.dst.now in
    let k = enumerate_count c.loop-i.i-iterator in
    let pair = c.in-Some.pair.now in
    let rest = chunks_exact_rest (enumerate_source c.next.new.self) in
    let e : drop (2 * k) s ≡ pair ++ rest = sym c.loop-i.invariant.left ∙ h.0.1.0 in
    let two : length pair ≡ 2 = h.0.1.1 ∙ c.loop-i.invariant.two in
    let byte = c.nibble_of.result * 16 + c.nibble_of-in-loop-i.result in
    record {
      can_next = search rules;
      finite = search rules;
      two = search rules;
      left = pair_rest s k pair rest e two ∙ ap (λ j. drop (2 * j) s) (sym h.2);
      passed = omega (arith, pair_room s k pair rest e two);
      decoded =
          ap (λ j. set c.loop-i.dst j byte) h.1
          ∙ pair_decoded s k pair rest e two d (omega (arith, pair_room s k pair rest e two)) c.loop-i.invariant.decoded c.nibble_of.ensures.worth
          c.nibble_of-in-loop-i.ensures.worth
          ∙ ap (paste d 0 (hex_bytes s)) (sym h.2);
    }
