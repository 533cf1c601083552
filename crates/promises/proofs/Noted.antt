-- What somebody has written down of a seat is what the seat keeps: its counts and the length of its script once it was opened, and once it
-- has ended also the slots it held, the bounds, and the report. A step that is not refused adds to both what its reply counts for, and one
-- that ends the seat fixes both; a call changes one seat and what is written down of it, and leaves the others.
use Prim.Native.Nat.{ℕ, ◌+◌, ◌<◌}
use mathlib.Core.Path.{◌≡◌, sym, ap, ◌∙◌}
use mathlib.Core.Bool.{true}
use mathlib.Core.List.{List}
use native.Mathlib.Omega.{arith}
use native.Mathlib.Nat.{add-zero}
use lib.Dec.{eqb}
use lib.ListN.{length, get_or, set}
use lib.Seq.{get_or-set_same, get_or-set_other}
use borrow.Author.Tests.{eqb-true, eqb-false}
use Rattle.slots.specs.declared.set.SlotSet.{SlotSet}
use Rattle.slots.specs.Sets.{size}
use Rattle.slots.proofs.Truth.{split}
use Rattle.seats.specs.declared.seat.Phase.TheVariants.{Blank, Open}
use Rattle.seats.specs.declared.seat.Seat.{Seat}
use Rattle.seats.specs.Queues.{seats}
use Rattle.seats.specs.Tables.{no_seat}
use Rattle.course.specs.declared.cases.Case.{Case}
use Rattle.course.specs.Words as word
use Rattle.course.specs.Cases.{word_of}
use Rattle.course.specs.Steps.{seat_after}
use Rattle.table.specs.Answers.{Report}
use Rattle.table.specs.Calls.{is_ended, report_of}
use Rattle.promises.specs.Histories.{Library, Notes, World, noting, works, restarts, ends, noted}
use Rattle.promises.specs.Demand3.{Within}
use Rattle.promises.proofs.CountCases.{counted, ending}

-- of a seat that was opened
pub record Counts (z : Seat) (v : Notes) : Type 0 where
  pub restarts : z.tally.restarts ≡ v.restarts
  pub working : z.tally.working ≡ v.working
  pub code : z.script.len ≡ length v.code

-- of one that has ended
pub record Ends (z : Seat) (v : Notes) : Type 0 where
  pub slots : z.tally.slots ≡ v.slots
  pub within : Within z.script.len z.tally.slots z.tally.restarts z.tally.working
  pub report : report_of z ≡ v.report

pub record Noted (z : Seat) (v : Notes) : Type 0 where
  pub counts : (z.phase ≡ Blank → ⊥) → Counts z v
  pub ends : is_ended z.phase ≡ true → Ends z v

-- ---- one seat

module _ (lib : Library) (v : Notes) (k : ℕ) (r : Report) where
  -- a refused step counts for nothing
  pub refused_same : noted lib v word.None k r ≡ v
  unfolding noted works restarts ends
  refused_same = simp add-zero

  -- the step is of an open seat that holds h; k slots were seen, and `result` says r after
  module _ (z : Seat) (h : SlotSet) (img : List ℕ) (c : Case) where
    pub record Last : Type 0 where
      pub seen : k ≡ size h
      pub within : Within z.script.len (size h) z.tally.restarts (z.tally.working + 1)
      pub report : is_ended (seat_after c z h img).phase ≡ true → report_of (seat_after c z h img) ≡ r

    pub noted_after : z.phase ≡ Open → Counts z v → (ends (word_of c) ≡ true → Last)
        → Noted (seat_after c z h img) (noted lib v (word_of c) k r)
    unfolding noted
    noted_after o n last =
        let d = counted z h img c in
        record {
          counts = λ b. record {
            restarts = d.restarts ∙ ap (λ (m : ℕ). m + restarts (word_of c)) n.restarts;
            working = d.working ∙ ap (λ (m : ℕ). m + works (word_of c)) n.working;
            code = ap (λ s. s.len) d.script ∙ n.code;
          };
          ends = λ e.
              let f = ending z h img c o e in
              let l = last f.word in
              record {
                slots = rw f.word (f.slots ∙ sym l.seen);
                within = rw (d.script, f.slots, f.restarts, f.working) l.within;
                report = rw f.word (l.report e);
              };
        }

-- ---- all seats

-- what is written down of each
abbrev pub AllNoted : List Seat → (ℕ → Notes) → Type 0
AllNoted zs f = (j : ℕ) → j < seats → Noted (get_or zs j no_seat) (f j)

abbrev pub NotedIn : World → Type 0
NotedIn w = AllNoted w.table.seats w.notes

module _ (zs : List Seat) (f : ℕ → Notes) (i : ℕ) (all : AllNoted zs f) where
  -- seat i and what is written down of it are changed
  pub noted_set : (z : Seat) (v : Notes) → length zs ≡ seats → Noted z v → AllNoted (set zs i z) (noting f i v)
  unfolding noting
  noted_set z v n m j l =
      split (eqb j i)
      (λ e. let b : i < length zs = omega (arith, eqb-true j i e) in rw (e, eqb-true j i e, get_or-set_same zs i z no_seat) m)
      (λ e. rw (e, get_or-set_other zs i j z no_seat (eqb-false j i e)) (all j l))

  -- what is written down anew is what was
  pub noted_again : (v : Notes) → v ≡ f i → AllNoted zs (noting f i v)
  unfolding noting
  noted_again v e j l = split (eqb j i) (λ q. rw (q, e, ← eqb-true j i q) (all j l)) (λ q. rw q (all j l))
