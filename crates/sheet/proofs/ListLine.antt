-- The reply to a line: that to its item, and only a bad line's has the line's number. So what is written where a line is not bad, and `bad`
-- where it is, is the reply.
use Prim.Native.Nat.{ℕ}
use mathlib.Core.Path.{◌≡◌}
use mathlib.Core.Bool.{true, false≢true}
use mathlib.Core.List.{[]}
use native.Mathlib.Omega.{arith}
use Rattle.std.specs.Prelude.{Option, None}
use Rattle.std.specs.Option.{is_some}
use Rattle.std.proofs.lemmas.Grind.{common_steps}
use Rattle.text.specs.declared.page.Page.{Page}
use Rattle.text.specs.Pages.{HasRoom, Adds}
use Rattle.sheet.specs.Lines.{Item, opens, steps, bad, is_bad}
use Rattle.sheet.specs.Listings.{World, bad_line, reply_to}
use Rattle.sheet.specs.Turns.{ended_by, answered}
use Rattle.sheet.proofs.Putting.{room_rest, adds_both}

module _ (n : ℕ) (w : World) where
  pub room_answered : (p : Page) (x : Item) → HasRoom p (reply_to n w x) → HasRoom p (answered w x)
  unfolding reply_to answered is_bad
  room_answered p (opens i y f) h = h
  room_answered p (steps i) h = h
  room_answered p bad h = omega arith

  module _ (p q : Page) where
    -- none ended, since the line is bad
    pub room_bad : (x : Item) → HasRoom p (reply_to n w x) → Adds p q (answered w x) → None ≡ ended_by w x → HasRoom q (bad_line n)
    unfolding reply_to answered is_bad ended_by
    room_bad (opens i y f) h a e = let z : ◌≡◌ {A = ℕ} 0 1 = cc in absurd (omega arith)
    room_bad (steps i) h a e = let z : ◌≡◌ {A = ℕ} 0 1 = cc in absurd (omega arith)
    room_bad bad h a e = room_rest p [] (bad_line n) h q a

    pub replied_bad : (r : Page) (x : Item) → HasRoom p (reply_to n w x) → Adds p q (answered w x) → None ≡ ended_by w x
        → Adds q r (bad_line n) → Adds p r (reply_to n w x)
    unfolding reply_to answered is_bad ended_by
    replied_bad r (opens i y f) h a e b = let z : ◌≡◌ {A = ℕ} 0 1 = cc in absurd (omega arith)
    replied_bad r (steps i) h a e b = let z : ◌≡◌ {A = ℕ} 0 1 = cc in absurd (omega arith)
    replied_bad r bad h a e b = adds_both p [] (bad_line n) h q a r b

    pub replied : (x : Item) (k : Option ℕ) → is_some k ≡ true → k ≡ ended_by w x → Adds p q (answered w x) → Adds p q (reply_to n w x)
    unfolding reply_to answered is_bad ended_by
    replied (opens i y f) k s e a = a
    replied (steps i) k s e a = a
    replied bad k s e a = absurd (false≢true (rw e at s))

-- what the code needs that takes a line
pub ruleset replying = (room_answered, room_bad, replied_bad, replied, common_steps)
