-- The listing, line by line. At first all of it is left; a line writes its reply, behind which a bad line leaves nothing and any other the
-- listing of the lines that follow; and the last lines are two pieces. A line is counted for each byte at most, and each ends one
-- transaction at most, so neither number is too large.
use Prim.Native.Nat.{ℕ, ◌+◌, ◌≤◌, ◌<◌}
use mathlib.Core.Path.{◌≡◌, refl, sym, ap, ◌∙◌, subst}
use mathlib.Core.Bool.{Bool, true, false, cond}
use mathlib.Core.List.{List, [], ◌∷◌, ◌++◌, append-nil}
use native.Mathlib.Numerals.{add-one}
use native.Mathlib.Omega.{arith}
use lib.ListN.{length, replicate}
use Rattle.std.specs.Prelude.{Some, None}
use Rattle.slots.specs.Sizes.{cells}
use Rattle.seats.specs.declared.table.Table.{Table}
use Rattle.seats.specs.Tables.{fresh}
use Rattle.text.specs.declared.page.Page.{Page}
use Rattle.text.specs.Pages.{HasRoom, Adds}
use Rattle.sheet.specs.Lines.{Item, item_of, first_line, other_lines, sheet, is_bad}
use Rattle.sheet.specs.Listings.{World, cell_lines, end_line, world_after, reply_to, last_lines, begin, list_from, most_input}
use Rattle.sheet.specs.Turns.{world, ended_by}
use Rattle.sheet.proofs.SheetLines.{sheet-none, sheet_more, others_length}
use Rattle.sheet.proofs.WorldAfter.{world_at, reply_any, after_any, after_ended}
use Rattle.sheet.proofs.Putting.{room_first, Rest, rest_room, rest_more, rest_none}

abbrev pub lines : List ℕ → List ℕ
lines s = list_from 1 begin (sheet s)

-- of the sheet s, which is to be listed on the page p: the table, the image and the count, the next line's number, the bytes that are left,
-- and the page
pub record Going (s : List ℕ) (p : Page) (t : Table) (img : List ℕ) (e n : ℕ) (rest : List ℕ) (q : Page) : Type 0 where
  pub writing : Rest p (lines s) q (list_from n (world_at t img e) (sheet rest))
  pub number : n + length rest ≤ most_input + 1
  pub ends : e < n

pub first : (s : List ℕ) (p : Page) (t : Table) → length s ≤ most_input → t ≡ fresh → Going s p t (replicate cells 0) 0 1 s p
unfolding begin
first s p t h e =
    subst (λ (u : Table). Going s p u (replicate cells 0) 0 1 s p) (sym e)
    (record { writing = record { same_reference = refl; place = refl; bytes = refl }; number = omega arith; ends = omega arith })

-- ---- whether a line was bad

ended_bad : (w : World) (x : Item) → None ≡ ended_by w x → is_bad x ≡ true
unfolding ended_by
ended_bad w x e = go (is_bad x) e
  where
    go : (b : Bool) → None ≡ cond b None (Some (world_after w x).ended) → b ≡ true
    go true e = refl
    go false e = let z : ◌≡◌ {A = ℕ} 0 1 = cc in absurd (omega arith)

ended_some : (w : World) (x : Item) (k : ℕ) → Some k ≡ ended_by w x → (is_bad x ≡ false) × (k ≡ (world_after w x).ended)
unfolding ended_by
ended_some w x k e = go (is_bad x) e
  where
    go : (b : Bool) → Some k ≡ cond b None (Some (world_after w x).ended) → (b ≡ false) × (k ≡ (world_after w x).ended)
    go true e = let z : ◌≡◌ {A = ℕ} 0 1 = cc in absurd (omega arith)
    go false e = let z : k ≡ (world_after w x).ended = cc in (refl, z)

module _ {s : List ℕ} {p : Page} {t : Table} {img : List ℕ} {e n : ℕ} {rest : List ℕ} {q : Page} (g : Going s p t img e n rest q)
    (room : HasRoom p (lines s)) where
  abbrev left : List ℕ → Type 0
  left x = Rest p (lines s) q x

  piece_room : (bs cs : List ℕ) → left (bs ++ cs) → HasRoom q bs
  piece_room bs cs h = room_first q bs cs (rest_room p (lines s) room q (bs ++ cs) h)

  -- ---- a line l

  module _ {l : List ℕ} (front : l ≡ first_line rest) (some : 0 < length rest) where
    abbrev after : World
    after = world_after (world t img) (item_of l)

    abbrev reply : List ℕ
    reply = reply_to n (world t img) (item_of l)

    abbrev others : List ℕ
    others = list_from (n + 1) (world_at after.table after.image (e + after.ended)) (sheet (other_lines rest))

    item_first : sheet rest ≡ item_of l ∷ sheet (other_lines rest)
    item_first = sheet_more rest some ∙ ap (λ (x : List ℕ). item_of x ∷ sheet (other_lines rest)) (sym front)

    turn : left (reply ++ cond (is_bad (item_of l)) [] others)
    unfolding list_from
    turn =
        let z : list_from n (world_at t img e) (sheet rest) ≡ reply ++ cond (is_bad (item_of l)) [] others
        = rw (item_first, reply_any t img n e (item_of l), after_any t img e (item_of l), add-one n) in
        subst left z g.writing

    pub line_room : HasRoom q reply
    line_room = piece_room reply _ turn

    module _ {r : Page} (b : Adds q r reply) where
      written : Rest p (lines s) r (cond (is_bad (item_of l)) [] others)
      written = rest_more p (lines s) room q reply _ turn b

      pub line_bad : None ≡ ended_by (world t img) (item_of l) → Adds p r (lines s)
      line_bad h = let z = ended_bad (world t img) (item_of l) h in rest_none p (lines s) room r (rw z at written)

      module _ {k : ℕ} (h : Some k ≡ ended_by (world t img) (item_of l)) where
        pub line_ends : k ≤ 1
        line_ends = omega (arith, (ended_some (world t img) (item_of l) k h).1, after_ended t img (item_of l))

        pub line_more : {t' : Table} {img' rest' : List ℕ} → t' ≡ after.table → img' ≡ after.image → rest' ≡ other_lines rest
            → Going s p t' img' (e + k) (n + 1) rest' r
        line_more {t'} {img'} {rest'} u m o =
            let z = ended_some (world t img) (item_of l) k h in
            let a : Rest p (lines s) r others = rw (z.0) at written in
            let y : list_from (n + 1) (world_at t' img' (e + k)) (sheet rest') ≡ others = rw (u, m, o, z.1) in
            record {
              writing = rw y a;
              number = omega (arith, ap length o, others_length rest, g.number);
              ends = omega (arith, line_ends, g.ends);
            }

  -- ---- the last lines

  module _ (none : length rest ≡ 0) where
    last : left (cell_lines 0 img ++ (end_line e ++ []))
    unfolding list_from last_lines
    last =
        let z : list_from n (world_at t img e) (sheet rest) ≡ cell_lines 0 img ++ (end_line e ++ [])
        = rw (sheet-none rest none, append-nil (end_line e)) in
        subst left z g.writing

    pub cells_room : HasRoom q (cell_lines 0 img)
    cells_room = piece_room (cell_lines 0 img) _ last

    module _ {r : Page} (a : Adds q r (cell_lines 0 img)) where
      behind : Rest p (lines s) r (end_line e ++ [])
      behind = rest_more p (lines s) room q (cell_lines 0 img) _ last a

      pub end_room : HasRoom r (end_line e)
      end_room = room_first r (end_line e) [] (rest_room p (lines s) room r _ behind)

      pub end_done : {r' : Page} → Adds r r' (end_line e) → Adds p r' (lines s)
      end_done {r'} w = rest_none p (lines s) room r' (rest_more p (lines s) room r (end_line e) [] behind w)
