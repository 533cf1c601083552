-- A seat above 15 owns no slot, so the number of the slot's holder says whether there is one, and which.
use Rattle.std.proofs.Common.{◌≡◌, ℕ, ◌<◌, Option, Some, None, refl, sym, arith}
use mathlib.Core.Bool.{cond}
use borrow.Author.Tests.{lt-ltb, lt-leb}
use lib.Dec.{ltb}
use Rattle.std.specs.Option.{IfSome}
use Rattle.slots.specs.Sizes.{slots}
use Rattle.slots.specs.Refusals.{refusal}
use Rattle.seats.specs.Queues.{seats}
use Rattle.seats.specs.SlotTables.{no_queue}
use Rattle.table.specs.Answers.{said_view, said_holder, is_owned, owner_or_0}
use Rattle.table.specs.Calls.{slot_view_call, view_refusal}
use Rattle.table.proofs.asking.slot_view.Goals as goal

owned_if : (o : Option ℕ) → IfSome o (λ i. i < seats) → is_owned o ≡ ltb (said_holder o) seats
owned_if None h = refl
owned_if (Some i) h = sym (lt-ltb i seats h)

owner_if : (o : Option ℕ) → IfSome o (λ i. i < seats) → owner_or_0 o ≡ cond (ltb (said_holder o) seats) (said_holder o) 0
owner_if None h = refl
owner_if (Some i) h = rw (lt-ltb i seats h)

pub returns : goal.returns
unfolding slot_view_call view_refusal refusal
returns c =
    let found = c.in-Some.ensures.lookup.3 in
    let seat = c.holder.ensures.seat in
    rw (
      sym c.check.ensures.sound,
      c.in_ok-check.was,
      lt-leb slots c.args.s.0 (omega arith),
      owned_if c.holder.result seat,
      owner_if c.holder.result seat,
      c.holder.ensures.first,
      c.lined_up.ensures,
      rw c.from.ensures at (found.1 no_queue),
    )
