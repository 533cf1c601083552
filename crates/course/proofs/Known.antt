-- What is known in each case of a step, and of the seat for each thing it can want. Both are read off the definitions: every test that
-- `case_for` and `want_of` make is branched on, and each branch keeps what its tests said.
use Prim.Native.Nat.{ℕ, ◌≤◌, ◌<◌}
use mathlib.Core.Path.{◌≡◌, refl, subst}
use mathlib.Core.Logic.{◌⊎◌, inl, inr}
use mathlib.Core.Bool.{Bool, true, false, not, cond, ◌||◌}
use mathlib.Core.List.{List}
use lib.Dec.{ltb}
use borrow.Author.Tests.{ltb-true, ltb-false}
use Rattle.slots.specs.Sizes.{cells}
use Rattle.slots.specs.declared.Slot.{Slot}
use Rattle.slots.specs.declared.set.SlotSet.{SlotSet}
use Rattle.slots.specs.Sets.{slot, has, above, is_empty, smallest}
use Rattle.slots.proofs.Members.{In, Out}
use Rattle.script.specs.Meaning.{Act, local, reads, writes}
use Rattle.seats.specs.declared.seat.Seat.{Seat}
use Rattle.course.specs.declared.wants.Want.{Want}
use Rattle.course.specs.declared.wants.Want.TheVariants.{Back, End, Nothing, Access, NoCell}
use Rattle.course.specs.declared.cases.Case.{Case}
use Rattle.course.specs.declared.cases.Case.TheVariants as case
use Rattle.course.specs.Wants.{act_at, want_cell, want_act, want_of}
use Rattle.course.specs.Cases.{waiting, case_for}

-- ---- the cases: w is wanted, h is held, o is owned, and b says that the seat waits

-- slot s is wanted and is another's, to wait for: a pending one, or one for an access with nothing held above it
pub record Waits (s : Slot) (w : Want) (h o : SlotSet) : Type 0 where
  pub wanted : (w ≡ Back s) ⊎ ((w ≡ Access s) × (is_empty (above h s.0) ≡ true))
  pub not_held : Out h s.0
  pub owned : In o s.0

pub record Takes (s : Slot) (w : Want) (h o : SlotSet) : Type 0 where
  pub wanted : w ≡ Access s
  pub not_held : Out h s.0
  pub free : Out o s.0

pub record Restarts (s : Slot) (w : Want) (h o : SlotSet) : Type 0 where
  pub wanted : w ≡ Access s
  pub not_held : Out h s.0
  pub owned : In o s.0
  pub higher : is_empty (above h s.0) ≡ false

abbrev pub Known : Case → Want → SlotSet → SlotSet → Bool → Type 0
Known (case.Got s) w h o b = (w ≡ Back s) × (In h s.0 ⊎ Out o s.0)
Known case.Blocked w h o b = (s : Slot) × Waits s w h o × (b ≡ true)
Known (case.Queued s) w h o b = Waits s w h o × (b ≡ false)
Known case.Committed w h o b = w ≡ End
Known case.Ran w h o b = (w ≡ Nothing) ⊎ ((s : Slot) × (w ≡ Access s) × In h s.0)
Known (case.Took s) w h o b = Takes s w h o
Known case.Failed w h o b = w ≡ NoCell
Known (case.Restarted s) w h o b = Restarts s w h o

waits_known : (s : Slot) (w : Want) (h o : SlotSet) (b : Bool) → Waits s w h o → Known (waiting b s) w h o b
unfolding waiting
waits_known s w h o true k = (s, k, refl)
waits_known s w h o false k = (k, refl)

pub known : (w : Want) (h o : SlotSet) (b : Bool) → Known (case_for w h o b) w h o b
unfolding case_for
known (Back s) h o b = go (has h s.0) (has o s.0) refl refl
  where
    go : (x y : Bool) → has h s.0 ≡ x → has o s.0 ≡ y → Known (cond (x || not y) (case.Got s) (waiting b s)) (Back s) h o b
    go true y p q = (refl, inl p)
    go false true p q = waits_known s (Back s) h o b (record { wanted = inl refl; not_held = p; owned = q })
    go false false p q = (refl, inr q)
known End h o b = refl
known Nothing h o b = inl refl
known (Access s) h o b = go (has h s.0) (has o s.0) (is_empty (above h s.0)) refl refl refl
  where
    go : (x y n : Bool) → has h s.0 ≡ x → has o s.0 ≡ y → is_empty (above h s.0) ≡ n
        → Known (cond x case.Ran (cond (not y) (case.Took s) (cond n (waiting b s) (case.Restarted s)))) (Access s) h o b
    go true y n p q r = inr (s, refl, p)
    go false false n p q r = record { wanted = refl; not_held = p; free = q }
    go false true true p q r = waits_known s (Access s) h o b (record { wanted = inr (refl, r); not_held = p; owned = q })
    go false true false p q r = record { wanted = refl; not_held = p; owned = q; higher = r }
known NoCell h o b = refl

pub known_case : (w : Want) (h o : SlotSet) (b : Bool) {c : Case} → case_for w h o b ≡ c → Known c w h o b
known_case w h o b e = subst (λ (c : Case). Known c w h o b) e (known w h o b)

-- ---- the wants

-- the act reads cell c, or writes to it
abbrev pub Accesses : Act → ℕ → Type 0
Accesses a c = ((r : ℕ) × (a ≡ reads r c)) ⊎ ((v : ℕ) × (a ≡ writes c v))

-- the seat wants nothing back, and is not at its end
pub record Runs (z : Seat) : Type 0 where
  pub calm : is_empty z.pending ≡ true
  pub inside : z.run.at < z.script.len

module _ (own : ℕ → ℕ) where
  abbrev pub ActWants : Want → Act → Type 0
  ActWants (Back s) a = ⊥
  ActWants End a = ⊥
  ActWants Nothing a = (r : List ℕ) × (n : ℕ) × (a ≡ local r n)
  ActWants (Access s) a = (c : ℕ) × Accesses a c × (c < cells) × (s.0 ≡ own c)
  ActWants NoCell a = (c : ℕ) × Accesses a c × (cells ≤ c)

  abbrev pub Wants : Want → Seat → Type 0
  Wants (Back s) z = (is_empty z.pending ≡ false) × (s.0 ≡ smallest z.pending)
  Wants End z = (is_empty z.pending ≡ true) × (z.script.len ≤ z.run.at)
  Wants Nothing z = Runs z × ActWants Nothing (act_at z)
  Wants (Access s) z = Runs z × ActWants (Access s) (act_at z)
  Wants NoCell z = Runs z × ActWants NoCell (act_at z)

  cell_known : (a : Act) (c : ℕ) → Accesses a c → ActWants (want_cell own c) a
  unfolding want_cell
  cell_known a c k = go (ltb c cells) refl
    where
      go : (x : Bool) → ltb c cells ≡ x → ActWants (cond x (Access (slot (own c))) NoCell) a
      go true e = (c, k, ltb-true c cells e, refl)
      go false e = (c, k, ltb-false c cells e)

  act_known : (a : Act) → ActWants (want_act own a) a
  unfolding want_act
  act_known (local r n) = (r, n, refl)
  act_known (reads r c) = cell_known (reads r c) c (inl (r, refl))
  act_known (writes c v) = cell_known (writes c v) c (inr (v, refl))

  runs_known : (w : Want) (z : Seat) → Runs z → ActWants w (act_at z) → Wants w z
  runs_known (Back s) z r k = absurd k
  runs_known End z r k = absurd k
  runs_known Nothing z r k = (r, k)
  runs_known (Access s) z r k = (r, k)
  runs_known NoCell z r k = (r, k)

  pub wants_known : (z : Seat) → Wants (want_of own z) z
  unfolding want_of
  wants_known z = go (is_empty z.pending) (ltb z.run.at z.script.len) refl refl
    where
      go : (x y : Bool) → is_empty z.pending ≡ x → ltb z.run.at z.script.len ≡ y
          → Wants (cond x (cond y (want_act own (act_at z)) End) (Back (slot (smallest z.pending)))) z
      go false y p q = (p, refl)
      go true false p q = (p, ltb-false z.run.at z.script.len q)
      go true true p q =
          runs_known (want_act own (act_at z)) z (record { calm = p; inside = ltb-true z.run.at z.script.len q }) (act_known (act_at z))

  pub known_want : (z : Seat) {w : Want} → want_of own z ≡ w → Wants w z
  known_want z e = subst (λ (w : Want). Wants w z) e (wants_known z)
