-- One more ended transaction. Run alone after the others it begins with the image they left; so if it ends there as it did, with the outcome
-- and registers that `result` reports, the longer list is in turn as the shorter one was.
use Prim.Native.Nat.{ℕ}
use mathlib.Core.Path.{◌≡◌, refl, sym, ap, ◌∙◌}
use mathlib.Core.List.{List, [], ◌∷◌, ◌++◌}
use Rattle.script.specs.Alone.{Outcome, End, end}
use Rattle.promises.specs.Histories.{Transaction}
use Rattle.promises.specs.Demand2.{run_alone, in_turn, reported, Agree}

turn_more : (es : List Transaction) (e : Transaction) (img : List ℕ) → in_turn (es ++ (e ∷ [])) img ≡ (run_alone e (in_turn es img)).image
unfolding in_turn
turn_more [] e img = refl
turn_more (x ∷ es) e img = turn_more es e (run_alone x img).image

agree_more : (es : List Transaction) (e : Transaction) (img : List ℕ) → Agree es img
    → e.report.outcome ≡ reported (run_alone e (in_turn es img)).outcome → e.report.regs ≡ (run_alone e (in_turn es img)).registers
    → Agree (es ++ (e ∷ [])) img
unfolding in_turn Agree
agree_more [] e img a o r = (o, (r, tt))
agree_more (x ∷ es) e img a o r = (a.0, (a.1.0, agree_more es e (run_alone x img).image a.1.1 o r))

-- e ended as o with the registers r and left img', where the others had left now
module _ (es : List Transaction) (e : Transaction) (img now img' : List ℕ) (o : Outcome) (r : List ℕ) (before : now ≡ in_turn es img)
    (ends : run_alone e now ≡ end o r img') where
  here : run_alone e (in_turn es img) ≡ end o r img'
  here = ap (run_alone e) (sym before) ∙ ends

  pub image_more : img' ≡ in_turn (es ++ (e ∷ [])) img
  image_more = sym (turn_more es e img ∙ ap (λ (x : End). x.image) here)

  pub reports_more : Agree es img → e.report.outcome ≡ reported o → e.report.regs ≡ r → Agree (es ++ (e ∷ [])) img
  reports_more a p q =
      agree_more es e img a (p ∙ ap (λ (x : End). reported x.outcome) (sym here)) (q ∙ ap (λ (x : End). x.registers) (sym here))
