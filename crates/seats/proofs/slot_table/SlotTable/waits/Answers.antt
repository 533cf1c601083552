-- `SlotTable::waits` asks the slot's queue whether the seat is in it. A slot past the last has no queue, so nobody waits there, and the
-- answer is no.
use Rattle.std.proofs.Common.{rules, ◌≡◌, ◌∙◌, ℕ, Bool, false, Bor, Option, Some, None, [], refl, sym, ap, arith}
use Rattle.std.specs.Option.{MatchOption, unwrap_or, option_map}
use Rattle.seats.specs.declared.queue.Queue.{Queue}
use Rattle.seats.specs.Queues.{entries, waits_in}
use Rattle.seats.specs.SlotTables.{no_queue, queue_of}
use Rattle.seats.proofs.Lines.{waits_none}
use Rattle.seats.proofs.slot_table.SlotTable.waits.Goals as goal

no_entries : entries no_queue ≡ []
unfolding entries
no_entries = refl

asked : (seat : ℕ) (q : Queue) (o : Option (Bor Queue)) (r : Bool) (Said : Bor Queue → Type 0)
    → unwrap_or (option_map (λ x. x.now) o) no_queue ≡ q → MatchOption o (r ≡ false) Said → ((x : Bor Queue) → Said x → r ≡ waits_in x.now seat)
    → r ≡ waits_in q seat
asked seat q None r Said h e f = e ∙ sym (waits_none no_queue no_entries seat) ∙ ap (λ (p : Queue). waits_in p seat) h
asked seat q (Some x) r Said h e f = f x e ∙ ap (λ (p : Queue). waits_in p seat) h

pub returns : goal.returns
returns c =
    asked c.args.seat _ c.get.result c.is_some_and.result _ (c.get.ensures.lookup.4 (omega arith) no_queue) c.is_some_and.ensures (λ x p. search rules)
    ∙ ap (λ (k : ℕ). waits_in (queue_of c.args.self.now k) c.args.seat) c.from.ensures
