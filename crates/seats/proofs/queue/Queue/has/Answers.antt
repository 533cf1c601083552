-- `Queue::has` asks the entries. What `contains` answers at a list is what the definition does (`entry_any`).
use mathlib.Core.Path.{ap, ◌∙◌}
use Rattle.seats.specs.Queues.{is_entry, waits_in}
use Rattle.seats.proofs.Lines.{entry_any}
use Rattle.seats.proofs.queue.Queue.has.Goals as goal

pub returns : goal.returns
unfolding waits_in
returns c = c.contains.ensures.value ∙ entry_any c.args.seat _ ∙ ap (is_entry c.args.seat) c.entries.ensures
