-- Two queues with the same entries. Who waits and who is head depends on the entries alone, and so do the entries after a joining or when
-- the head is gone: the head is the first entry, and the others are left.
use Prim.Native.Nat.{ℕ, ◌≤◌, ◌<◌}
use mathlib.Core.Path.{◌≡◌, sym, ap, ◌∙◌, subst}
use mathlib.Core.Logic.{⊎_elim}
use mathlib.Core.List.{List, [], ◌∷◌, ◌++◌}
use lib.Dec.{leb}
use lib.ListN.{length}
use borrow.Author.Tests.{leb-true, leb-false}
use Rattle.slots.proofs.Truth.{split}
use Rattle.seats.specs.declared.queue.Queue.{Queue}
use Rattle.seats.specs.Queues.{seats, entries, is_entry, waits_in, joined, served, head_of, is_head}
use Rattle.seats.proofs.Lines.{Line, joined_full, entries-joined, served-none, head_none, entries_cases, entries-served, head_first}

pub same_waits : (q p : Queue) → entries q ≡ entries p → (j : ℕ) → waits_in q j ≡ waits_in p j
unfolding waits_in
same_waits q p e j = ap (is_entry j) e

module _ (q p : Queue) (l : Line q) (m : Line p) (e : entries q ≡ entries p) where
  pub same_head : (j : ℕ) → is_head q j ≡ is_head p j
  same_head j =
      ⊎_elim (λ n. head_none q l n j ∙ sym (head_none p m (sym e ∙ n) j))
      (λ f. head_first q l (head_of q) (entries (served q)) f j ∙ sym (head_first p m (head_of q) (entries (served q)) (sym e ∙ f) j))
      (entries_cases q l)

  pub same_served : entries (served q) ≡ entries (served p)
  same_served =
      ⊎_elim (λ n. ap entries (served-none q l n) ∙ e ∙ sym (ap entries (served-none p m (sym e ∙ n))))
      (λ f. sym (entries-served p m (head_of q) (entries (served q)) (sym e ∙ f))) (entries_cases q l)

  -- in a full queue there is no room, and both stay as they are
  pub same_joined : (i : ℕ) → entries (joined q i) ≡ entries (joined p i)
  same_joined i =
      split (leb seats (length (entries q)))
      (λ f. let full = leb-true seats (length (entries q)) f in
      ap entries (joined_full q l i full) ∙ e ∙ sym (ap entries (joined_full p m i (subst (λ (xs : List ℕ). seats ≤ length xs) e full))))
      (λ f. let room = leb-false seats (length (entries q)) f in
      entries-joined q l i room ∙ ap (λ (xs : List ℕ). xs ++ (i ∷ [])) e
      ∙ sym (entries-joined p m i (subst (λ (xs : List ℕ). length xs < seats) e room)))
