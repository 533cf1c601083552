-- No sham meets the demands: four of them do not follow Figure 1, and the fifth counts wrongly. All is seen on a zero image.
use Prim.Native.Nat.{ℕ}
use mathlib.Core.Path.{◌≡◌}
use mathlib.Core.List.{List}
use lib.ListN.{length, replicate, length-replicate}
use Rattle.slots.specs.Sizes.{cells}
use Rattle.upkeep.proofs.Stands.{Upkeep}
use Rattle.promises.specs.Shams.{ShutOut}
use Rattle.promises.proofs.ShamReplies.{not_refusing, not_one_reply, not_unchanging, not_at_once}
use Rattle.promises.proofs.ShamCounts.{not_invented}

pub shut_out : (own : ℕ → ℕ) → Upkeep own → ShutOut own
shut_out own up =
    let img : List ℕ = replicate cells 0 in
    let full : length img ≡ cells = length-replicate {A = ℕ} cells 0 in
    record {
      refuses = λ lib f. not_refusing own img full lib f;
      one_reply = λ lib w f. not_one_reply own img full lib f w;
      nothing = λ lib f. not_unchanging own img full lib f;
      at_once = λ lib f. not_at_once own img full lib f;
      invents = λ n c. not_invented own up img full n c;
    }
