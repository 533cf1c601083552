-- An invented working count is shut out by the count of replies. The sham has this library's tables, images and replies, and its reports
-- all have the number n. A transaction of no instructions ends after one working step, and one of one instruction after two, so n would be
-- 1 and 2.
use Prim.Native.Nat.{ℕ, ◌+◌}
use mathlib.Core.Path.{◌≡◌, refl, ap, ap₂, ◌∙◌}
use mathlib.Core.List.{List, [], ◌∷◌}
use native.Mathlib.Omega.{arith}
use lib.Dec.{eqb}
use lib.ListN.{length}
use Rattle.slots.specs.Sizes.{cells}
use Rattle.slots.proofs.Truth.{split}
use Rattle.table.specs.Calls.{opened_seat}
use Rattle.upkeep.proofs.Stands.{Upkeep}
use Rattle.promises.specs.Histories.{World, Library, opening, step, saucebell, begin, noting, works, noted}
use Rattle.promises.specs.Histories.{opened, step_reply, stepped, called, after, history}
use Rattle.promises.specs.Demand3.{CountsTrue}
use Rattle.promises.specs.Shams.{inventing}
use Rattle.promises.proofs.FiguresFrames.{plain_frame}
use Rattle.promises.proofs.FiguresSeat.{ran_reply, ran_at, end_reply, end_result}
use Rattle.promises.proofs.FiguresPlain.{plain_seat, ran_once, none-ends, one_runs, one_ends, plain_world, plain_at}

-- ---- the working count that is written down

module _ (lib : Library) where
  opened_working : (img f : List ℕ) → ((opened lib (begin img) 0 0 f).notes 0).working ≡ 0
  unfolding opened begin noting
  opened_working img f = split (eqb (lib.opens (begin img).table 0 0 f).number 0) (λ e. rw e) (λ e. rw e)

  stepped_working : (w : World) (m : ℕ) → (w.notes 0).working ≡ m → works (step_reply lib w 0).word ≡ 1
      → ((stepped lib w 0).notes 0).working ≡ m + 1
  unfolding stepped noting noted
  stepped_working w m e o = ap₂ ◌+◌ e o

-- ---- the sham

module _ (own : ℕ → ℕ) (up : Upkeep own) (img : List ℕ) (full : length img ≡ cells) (n : ℕ) (counts : CountsTrue (inventing own n)) where
  abbrev sham : ℕ → World
  sham k = opened (inventing own n) (begin img) 0 0 (plain_frame k)

  is_one : n ≡ 1
  unfolding CountsTrue history after called opened stepped opened_seat works
  is_one =
      let w : World = plain_world own img 0 in
      let at = plain_at own up img full 0 (omega arith) in
      let e = end_reply own up w (plain_seat 0) at refl (none-ends own) in
      let r = end_result own up w (plain_seat 0) at refl (none-ends own) in
      (counts img (opening 0 0 (plain_frame 0) ∷ step 0 ∷ []) 0 (ap (λ x. x.number) r)).working
      ∙ stepped_working (inventing own n) (sham 0) 0 (opened_working (inventing own n) img (plain_frame 0)) (ap works e)

  is_two : n ≡ 2
  unfolding CountsTrue history after called begin opened stepped opened_seat works
  is_two =
      let w : World = plain_world own img 1 in
      let at = plain_at own up img full 1 (omega arith) in
      let e = ran_reply own up w (plain_seat 1) at refl (one_runs own) in
      let v : World = stepped (saucebell own) w 0 in
      let on = ran_at own up w (plain_seat 1) at refl (one_runs own) in
      let f = end_reply own up v (ran_once 1 img) on refl (one_ends own img) in
      let r = end_result own up v (ran_once 1 img) on refl (one_ends own img) in
      (counts img (opening 0 0 (plain_frame 1) ∷ step 0 ∷ step 0 ∷ []) 0 (ap (λ x. x.number) r)).working
      ∙ stepped_working (inventing own n) (stepped (inventing own n) (sham 1) 0) 1
      (stepped_working (inventing own n) (sham 1) 0 (opened_working (inventing own n) img (plain_frame 1)) (ap works e)) (ap works f)

  pub not_invented : ⊥
  not_invented = omega (arith, is_one, is_two)
