-- What `result` reports is true. It reports on ended seats alone, and says what the seat keeps; that is what was written down when the seat
-- ended and what was counted in the replies since its opening, and the bounds hold of it.
use Prim.Native.Nat.{ℕ}
use mathlib.Core.Path.{◌≡◌, ◌∙◌}
use mathlib.Core.Bool.{true, false≢true}
use mathlib.Core.List.{List}
use Rattle.seats.specs.declared.seat.Phase.{Phase}
use Rattle.seats.specs.declared.seat.Phase.TheVariants.{Blank}
use Rattle.seats.specs.declared.seat.Seat.{Seat}
use Rattle.seats.specs.Tables.{seat_at}
use Rattle.table.specs.Answers.{Report}
use Rattle.table.specs.Calls.{is_ended, report_of, result_call}
use Rattle.upkeep.proofs.Stands.{Upkeep}
use Rattle.promises.specs.Histories.{Call, Notes, saucebell, history}
use Rattle.promises.specs.Demand2.{Lasting}
use Rattle.promises.specs.Demand3.{CountsTrue, Bounded}
use Rattle.promises.proofs.Answers.{reported}
use Rattle.promises.proofs.Noted.{Counts, Ends}
use Rattle.promises.proofs.NotedCalls.{history_noted}

not_blank : (p : Phase) → is_ended p ≡ true → p ≡ Blank → ⊥
unfolding is_ended
not_blank p e b = false≢true (rw b at e)

-- the report r is on the seat z, which has ended, and of which v is written down
record Told (z : Seat) (v : Notes) (r : Report) : Type 0 where
  answer : r ≡ report_of z
  counts : Counts z v
  ends : Ends z v

module _ (own : ℕ → ℕ) (up : Upkeep own) where
  told : (img : List ℕ) (cs : List Call) (i : ℕ) → (result_call own (history (saucebell own) img cs).table i).number ≡ 0
      → Told (seat_at (history (saucebell own) img cs).table i) ((history (saucebell own) img cs).notes i)
      (result_call own (history (saucebell own) img cs).table i)
  told img cs i e =
      let r = reported own (history (saucebell own) img cs).table i e in
      let n = history_noted own up img cs i r.seat in
      record { answer = r.answer; counts = n.counts (not_blank _ r.ended); ends = n.ends r.ended }

  pub counts_true : CountsTrue (saucebell own)
  unfolding CountsTrue
  counts_true img cs i e =
      let k = told img cs i e in
      rw k.answer (record { restarts = k.counts.restarts; working = k.counts.working; slots = k.ends.slots })

  pub bounded : Bounded (saucebell own)
  unfolding Bounded
  bounded img cs i e = let k = told img cs i e in rw (k.answer, ← k.counts.code) k.ends.within

  pub lasting : Lasting (saucebell own)
  unfolding Lasting
  lasting img cs i e = let k = told img cs i e in k.answer ∙ k.ends.report
