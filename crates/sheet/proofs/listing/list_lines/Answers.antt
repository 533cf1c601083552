-- A turn hands on the first line of what is left, and goes on behind it, over fewer bytes (`ListTurns`).
use Rattle.std.proofs.Common.{rules, arith, length, ap, ◌<◌}
use Rattle.text.proofs.Separators.{before_length}
use Rattle.sheet.specs.Lines.{line_feed}
use Rattle.sheet.proofs.SheetLines.{others_length}
use Rattle.sheet.proofs.ListTurns.{first, line_room, line_bad, line_ends, line_more, cells_room, end_room, end_done}
use Rattle.sheet.proofs.listing.list_lines.Goals as goal

pub loop-rest-init : goal.loop-rest-init
loop-rest-init c = first c.args.s.now c.args.page.now _ c.requires.short c.fresh.ensures

pub take_line-requires-clause-room : goal.take_line-requires-clause-room
take_line-requires-clause-room c = line_room c.loop-rest.invariant c.requires.room c.cut.ensures.front (search rules)

pub take_line-requires-clause-short : goal.take_line-requires-clause-short
take_line-requires-clause-short c =
    let g = c.loop-rest.invariant in
    omega (arith, ap length c.cut.ensures.front, before_length line_feed c.loop-rest.rest.now, g.number, g.ends)

pub returns-in_default : goal.returns-in_default
returns-in_default c =
    line_bad c.loop-rest.invariant c.requires.room c.cut.ensures.front (search rules) c.take_line.ensures.reply (search rules)

pub overflow_add-ended : goal.overflow_add-ended
overflow_add-ended c =
    let g = c.loop-rest.invariant in
    let e = line_ends g c.requires.room c.cut.ensures.front (search rules) c.take_line.ensures.reply c.in-Some.ensures.ended in
    omega (arith, e, g.ends, g.number)

pub overflow_add-n : goal.overflow_add-n
overflow_add-n c = omega (arith, c.loop-rest.invariant.number)

pub loop-rest-smaller : goal.loop-rest-smaller
loop-rest-smaller c =
    let s = c.loop-rest.rest.now in
    let some : 0 < length s = search rules in
    omega (arith, ap length c.cut.ensures.others, others_length s, some)

pub loop-rest-preserved : goal.loop-rest-preserved
loop-rest-preserved c =
    let r = c.in-Some.ensures in
    line_more c.loop-rest.invariant c.requires.room c.cut.ensures.front (search rules) r.reply r.ended r.table r.image c.cut.ensures.others

pub put_cells-requires-clause-room : goal.put_cells-requires-clause-room
put_cells-requires-clause-room c = cells_room c.loop-rest.invariant c.requires.room (search rules)

pub put_end-requires : goal.put_end-requires
put_end-requires c = end_room c.loop-rest.invariant c.requires.room (search rules) c.put_cells.ensures

pub returns : goal.returns
returns c = end_done c.loop-rest.invariant c.requires.room (search rules) c.put_cells.ensures c.put_end.ensures
