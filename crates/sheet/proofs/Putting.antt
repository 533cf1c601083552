-- Bytes put on a page and then more bytes put behind them are all of them put at once: what stands before the second place is what
-- stood before the first with the first bytes, and what stands behind both is as it was. So a line that is put piece by piece is put
-- as a whole, where there is room for the whole.
use Prim.Native.Nat.{ℕ, ◌+◌, ◌≤◌}
use mathlib.Core.Path.{◌≡◌, refl, sym, ap, ◌∙◌}
use mathlib.Core.List.{List, [], ◌++◌, append_assoc}
use native.Mathlib.Omega.{arith}
use lib.ListN.{length, take, drop, length-append, take-append-drop}
use lib.Seq.{drop-drop}
use borrow.Author.Tests.{le-leb}
use Rattle.text.specs.declared.page.Page.{Page}
use Rattle.text.specs.Pages.{fits, put, HasRoom, Adds}
use Rattle.std.proofs.lemmas.Grind.{common_steps}
use Rattle.text.proofs.Buffering.{next_fits, put-taken, put-behind, put_length}

put-fits : (d : List ℕ) (at : ℕ) (bs : List ℕ) → at + length bs ≤ length d → put d at bs ≡ take at d ++ (bs ++ drop (at + length bs) d)
unfolding put fits
put-fits d at bs h = rw (le-leb (at + length bs) (length d) h)

module _ (d : List ℕ) (at : ℕ) (bs cs : List ℕ) (h : at + length (bs ++ cs) ≤ length d) where
  -- there is room for the first bytes, and then for the rest
  first : at + length bs ≤ length d
  first = omega (arith, length-append bs cs)

  rest : at + length bs + length cs ≤ length (put d at bs)
  rest = omega (arith, length-append bs cs, put_length d at bs)

  twice : at + length bs + length cs ≡ at + length (bs ++ cs)
  twice = omega (arith, length-append bs cs)

  behind_both : drop (at + length bs + length cs) (put d at bs) ≡ drop (at + length (bs ++ cs)) d
  behind_both =
      sym (drop-drop (length cs) (at + length bs) (put d at bs)) ∙ ap (drop (length cs)) (put-behind d at bs first)
      ∙ drop-drop (length cs) (at + length bs) d
      ∙ ap (λ (n : ℕ). drop n d) twice

  pub put_twice : put (put d at bs) (at + length bs) cs ≡ put d at (bs ++ cs)
  put_twice =
      put-fits (put d at bs) (at + length bs) cs rest
      ∙ ap (λ (x : List ℕ). x ++ (cs ++ drop (at + length bs + length cs) (put d at bs))) (put-taken d at bs first)
      ∙ append_assoc (take at d) bs (cs ++ drop (at + length bs + length cs) (put d at bs))
      ∙ ap (λ (x : List ℕ). take at d ++ (bs ++ (cs ++ x))) behind_both
      ∙ ap (λ (x : List ℕ). take at d ++ x) (sym (append_assoc bs cs (drop (at + length (bs ++ cs)) d)))
      ∙ sym (put-fits d at (bs ++ cs) h)

-- ---- pages

pub adds_none : (p : Page) → HasRoom p [] → Adds p p []
adds_none p h =
    let e : p.at + 0 ≡ p.at = omega arith in
    record {
      same_reference = refl;
      place = sym e;
      bytes = sym (put-fits p.dst.now p.at [] h ∙ ap (λ (k : ℕ). take p.at p.dst.now ++ drop k p.dst.now) e ∙ take-append-drop p.at p.dst.now);
    }

module _ (p : Page) (bs cs : List ℕ) (h : HasRoom p (bs ++ cs)) where
  pub room_first : HasRoom p bs
  room_first = first p.dst.now p.at bs cs h

  module _ (q : Page) (w : Adds p q bs) where
    pub room_rest : HasRoom q cs
    room_rest = omega (arith, length-append bs cs, w.place, ap length w.bytes, put_length p.dst.now p.at bs)

    pub adds_both : (r : Page) → Adds q r cs → Adds p r (bs ++ cs)
    adds_both r v = record {
      same_reference = v.same_reference ∙ w.same_reference;
      place = omega (arith, length-append bs cs, w.place, v.place);
      bytes =
          v.bytes
          ∙ ap (λ (x : List ℕ). put x q.at cs) w.bytes
          ∙ ap (λ (k : ℕ). put (put p.dst.now p.at bs) k cs) w.place
          ∙ put_twice p.dst.now p.at bs cs h;
    }

-- what a loop has left to write: rest is still to be put on the page q, and then the bytes whole are put on the page p
pub record Rest (p : Page) (whole : List ℕ) (q : Page) (rest : List ℕ) : Type 0 where
  pub same_reference : q.dst.ghost_name ≡ p.dst.ghost_name
  pub place : q.at + length rest ≡ p.at + length whole
  pub bytes : put q.dst.now q.at rest ≡ put p.dst.now p.at whole

module _ (p : Page) (whole : List ℕ) (h : HasRoom p whole) (q : Page) where
  pub rest_room : (rest : List ℕ) → Rest p whole q rest → HasRoom q rest
  rest_room rest w = omega (arith, w.place, sym (put_length q.dst.now q.at rest) ∙ ap length w.bytes ∙ put_length p.dst.now p.at whole)

  pub rest_more : (bs cs : List ℕ) {r : Page} → Rest p whole q (bs ++ cs) → Adds q r bs → Rest p whole r cs
  rest_more bs cs {r} w v = record {
    same_reference = v.same_reference ∙ w.same_reference;
    place = omega (arith, length-append bs cs, w.place, v.place);
    bytes =
        ap (λ (x : List ℕ). put x r.at cs) v.bytes
        ∙ ap (λ (k : ℕ). put (put q.dst.now q.at bs) k cs) v.place
        ∙ put_twice q.dst.now q.at bs cs (rest_room (bs ++ cs) w)
        ∙ w.bytes;
  }

  pub rest_none : Rest p whole q [] → Adds p q whole
  rest_none w =
      let v = adds_none q (rest_room [] w) in
      record { same_reference = w.same_reference; place = v.place ∙ w.place; bytes = v.bytes ∙ w.bytes }

-- what the functions that put a piece behind another need: the pieces are one, and where there is room the place is behind it
pub ruleset putting = (put_twice, adds_none, next_fits, put_length, common_steps)
