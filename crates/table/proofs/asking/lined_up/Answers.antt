-- The entries, of which there are at most sixteen, stand in front of what is left of the sixteen zeros.
use Rattle.std.proofs.Common.{ℕ, ◌++◌, List, length, length-take, arith, ap}
use Rattle.std.proofs.lemmas.List.{drop-replicate}
use Rattle.seats.specs.declared.queue.Queue.{Queue}
use Rattle.seats.specs.Queues.{seats, entries}
use Rattle.table.specs.Calls.{line_up}
use Rattle.table.proofs.asking.lined_up.Goals as goal

pub slice_bounds-seats-end : goal.slice_bounds-seats-end
unfolding entries
slice_bounds-seats-end c = omega (arith, ap length c.entries-waiting.ensures, length-take {A = ℕ})

pub slice_bounds-copy_from_slice-end : goal.slice_bounds-copy_from_slice-end
unfolding entries
slice_bounds-copy_from_slice-end c = omega (arith, ap length c.entries-waiting.ensures, length-take {A = ℕ})

pub copy_from_slice-requires : goal.copy_from_slice-requires
unfolding entries
copy_from_slice-requires c = omega (arith, ap length c.entries-waiting.ensures, length-take {A = ℕ})

pub returns : goal.returns
unfolding line_up
returns c =
    let q = c.args.q.now in
    let line : List ℕ → Queue = λ zeros. record { seats = entries q ++ zeros; len = q.len } in
    rw (c.copy_from_slice.ensures.after, c.entries-waiting.ensures) (ap line (drop-replicate (length (entries q)) seats 0))
