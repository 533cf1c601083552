-- A step that no check refuses is of an open seat of a sound table, and that one fits (`Fitting`); its turn by the owner list is what
-- the definitions say of it (`Steppings`).
use Rattle.std.proofs.Common.{◌≡◌, ◌<◌, true, sym, ◌∙◌, arith}
use Rattle.slots.specs.Owners.{Lists, listed, owner_of}
use Rattle.seats.specs.Queues.{seats}
use Rattle.seats.specs.Seats.{is_open}
use Rattle.seats.specs.Tables.{no_seat, seat_at}
use Rattle.table.proofs.Fitting.{open_fits}
use Rattle.table.proofs.Steppings.{stepped, written}
use Rattle.table.proofs.stepping.sound_step.Goals as goal

pub take_turn-requires : goal.take_turn-requires
take_turn-requires c =
    let a = c.args in
    let found = c.in-Some.ensures.lookup.3 in
    let l : a.seat < seats = omega arith in
    let o : is_open (seat_at a.table.now a.seat).phase ≡ true = rw (← found.1 no_seat) (sym c.if-not-is_open.ensures) in
    open_fits owner_of a.table.now a.seat c.requires l o

pub returns : goal.returns
unfolding Lists
returns c =
    let a = c.args in
    let list = c.all_owners-owners in
    let found = c.in-Some.ensures.lookup.3 in
    let l : a.seat < seats = omega arith in
    let o : is_open (seat_at a.table.now a.seat).phase ≡ true = rw (← found.1 no_seat) (sym c.if-not-is_open.ensures) in
    record {
      answer = stepped owner_of _ _ _ (listed list.result) list.ensures c.requires c.if-image.false l o _ _ _ c.take_turn.ensures.turn;
      image = c.take_turn.ensures.written ∙ written owner_of _ _ _ (listed list.result) list.ensures c.requires c.if-image.false l o;
    }
