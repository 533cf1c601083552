-- The locks after each change, beside the slot table after it: a lock taken, a queue joined, and locks released. Each lock is compared by
-- itself. A released lock goes to the head of its queue, as the slot does, and is free where nobody waits, since its one owner lost it.
use Prim.Native.Nat.{ℕ, ◌<◌}
use mathlib.Core.Path.{◌≡◌, refl, sym, ap, ◌∙◌, subst}
use mathlib.Core.Bool.{Bool, true, false, not, ◌&&◌, ◌||◌}
use mathlib.Core.List.{List, [], ◌∷◌, ◌++◌}
use mathlib.Core.Option.{Option, some, none}
use native.Mathlib.Omega.{arith}
use lib.Dec.{eqb}
use lib.ListN.{length}
use borrow.Author.Tests.{eqb-true, eqb-false, eq-eqb, ne_eqb}
use Rattle.slots.specs.Sizes.{slots}
use Rattle.slots.specs.declared.set.SlotSet.{SlotSet}
use Rattle.slots.specs.Sets.{has}
use Rattle.slots.proofs.Truth.{and_i, or_l, or_r, split}
use Rattle.slots.proofs.Members.{In, Out}
use Rattle.seats.specs.declared.slot_table.SlotTable.{SlotTable}
use Rattle.seats.specs.Queues.{seats, entries, waits_in, served, is_head}
use Rattle.seats.specs.SlotTables.{held_by, queue_of, owned, taken, joined_by, released}
use Rattle.seats.proofs.Lines.{Line, entries-joined, entries-served, served-none, head_none, head_first, head_waits}
use Rattle.seats.proofs.Shape.{Whole, Lined}
use Rattle.seats.proofs.Hands.{held-taken, queue_taken, queue_joined, whole_released, held-released, queue_released}
use Rattle.seats.proofs.Owned.{out_free, owned-taken, owned-joined, owned-released}
use Rattle.promises.specs.Figure1.{Lock, lock, handed_to, release, Locks, releasing, setting}
use Rattle.promises.proofs.FigureLocks.{Owner, LocksLike}

-- ---- one lock set

-- what is so of the lock that is set, and of each other as it was
setting-all : (P : ℕ → Lock → Type 0) (h : ℕ) (x : Lock) (k : Locks) → P h x → ((s : ℕ) → (s ≡ h → ⊥) → P s (k s)) → (s : ℕ) → P s (setting h x k s)
unfolding setting
setting-all P h x k here there s =
    split (eqb s h) (λ e. rw e (subst (λ (u : ℕ). P u x) (sym (eqb-true s h e)) here)) (λ e. rw e (there s (eqb-false s h e)))

module _ (T : SlotTable) (h : ℕ) (x : Lock) (k : Locks) where
  set_locks : (h < slots → Owner T h x.owner) → (h < slots → x.queue ≡ entries (queue_of T h))
      → ((s : ℕ) → (s ≡ h → ⊥) → s < slots → Owner T s (k s).owner)
      → ((s : ℕ) → (s ≡ h → ⊥) → s < slots → (k s).queue ≡ entries (queue_of T s))
      → LocksLike T (setting h x k)
  set_locks o q os qs =
      record {
        owner = setting-all (λ s y. s < slots → Owner T s y.owner) h x k o os;
        queue = setting-all (λ s y. s < slots → y.queue ≡ entries (queue_of T s)) h x k q qs;
      }

module _ (T : SlotTable) (k : Locks) (like : LocksLike T k) (w : Whole T) (i h : ℕ) (b : i < seats) (l : h < slots) where
  owner_taken : (s : ℕ) (o : Option ℕ) → (s ≡ h → ⊥) → Owner T s o → Owner (taken T i h) s o
  owner_taken s none n f = owned-taken T i h w b l s ∙ rw (f, ne_eqb s h n)
  owner_taken s (some j) n f = (f.0, held-taken T i h w l j s f.0 ∙ or_l (eqb s h && eqb i j) f.1)

  pub locks_taken : LocksLike (taken T i h) (setting h (lock (some i) (k h).queue) k)
  locks_taken =
      set_locks (taken T i h) h (lock (some i) (k h).queue) k
      (λ m. (b, held-taken T i h w l i h b ∙ or_r (has (held_by T i) h) (and_i (eq-eqb h h refl) (eq-eqb i i refl))))
      (λ m. like.queue h m ∙ ap entries (sym (queue_taken T i h h)))
      (λ s n m. owner_taken s (k s).owner n (like.owner s m))
      (λ s n m. like.queue s m ∙ ap entries (sym (queue_taken T i h s)))

  -- the lock of a slot that the seat holds already is as it was
  pub locks_mine : In (held_by T i) h → LocksLike T (setting h (lock (some i) (k h).queue) k)
  locks_mine m =
      set_locks T h (lock (some i) (k h).queue) k (λ e. (b, m)) (like.queue h) (λ s n. like.owner s) (λ s n. like.queue s)

  owner_joined : (s : ℕ) (o : Option ℕ) → Owner T s o → Owner (joined_by T i h) s o
  unfolding joined_by
  owner_joined s none f = rw (owned-joined T i h) f
  owner_joined s (some j) f = f

  pub locks_joined : Line (queue_of T h) → length (entries (queue_of T h)) < seats
      → LocksLike (joined_by T i h) (setting h (lock (k h).owner ((k h).queue ++ (i ∷ []))) k)
  locks_joined line room =
      set_locks (joined_by T i h) h (lock (k h).owner ((k h).queue ++ (i ∷ []))) k
      (λ m. owner_joined h (k h).owner (like.owner h m))
      (λ m. rw (queue_joined T i h w l h, eq-eqb h h refl, entries-joined (queue_of T h) line i room, like.queue h m))
      (λ s n m. owner_joined s (k s).owner (like.owner s m))
      (λ s n m. rw (queue_joined T i h w l s, ne_eqb s h n) (like.queue s m))

-- ---- locks released: those of R, which are the slots of S, all held by seat i

module _ (T : SlotTable) (k : Locks) (like : LocksLike T k) (w : Whole T) (lines : Lined T) (i : ℕ)
    (one : (s j : ℕ) → j < seats → In (held_by T i) s → In (held_by T j) s → j ≡ i)
    (seat : (s j : ℕ) → s < slots → waits_in (queue_of T s) j ≡ true → j < seats)
    (R S : SlotSet) (same : (s : ℕ) → has R s ≡ has S s) (mine : (s : ℕ) → In S s → In (held_by T i) s) where
  abbrev U : SlotTable
  U = released T i S

  kept_owner : (s : ℕ) (o : Option ℕ) → Out S s → Owner T s o → Owner U s o
  kept_owner s none n f = owned-released T i S w s n ∙ f
  kept_owner s (some j) n f = (f.0, held-released T i S w j s f.0 ∙ rw (n, f.1) (go (eqb i j)))
    where
      go : (c : Bool) → (not (c && false) || false) ≡ true
      go true = refl
      go false = refl

  -- nobody waits: nobody holds the slot then
  freed : (s : ℕ) → s < slots → In S s → entries (queue_of T s) ≡ [] → Out (owned U) s
  freed s l m e = out_free U s (λ j c. lost j (omega (arith, c, (whole_released T i S w).held16)))
    where
      lost : (j : ℕ) → j < seats → Out (held_by U j) s
      lost j c =
          held-released T i S w j s c
          ∙ rw (m, head_none (queue_of T s) (lines s l) e j)
          (split (has (held_by T j) s) (λ p. rw (p, one s j c (mine s m) p, eq-eqb i i refl)) (λ p. rw p))

  handed_owner : (s x : ℕ) (xs : List ℕ) → s < slots → In S s → entries (queue_of T s) ≡ x ∷ xs → Owner U s (some x)
  handed_owner s x xs l m e =
      let head : is_head (queue_of T s) x ≡ true = head_first (queue_of T s) (lines s l) x xs e x ∙ eq-eqb x x refl in
      let c : x < seats = seat s x l (head_waits (queue_of T s) (lines s l) x head) in
      (c, held-released T i S w x s c ∙ or_r (has (held_by T x) s && not (eqb i x && has S s)) (and_i m head))

  queue_in : (s : ℕ) → In S s → queue_of U s ≡ served (queue_of T s)
  queue_in s m = queue_released T i S w s ∙ rw m

  queue_out : (s : ℕ) → Out S s → queue_of U s ≡ queue_of T s
  queue_out s n = queue_released T i S w s ∙ rw n

  abbrev Good : ℕ → Lock → Type 0
  Good s y = Owner U s y.owner × (y.queue ≡ entries (queue_of U s))

  given_up : (s : ℕ) → s < slots → In S s → (xs : List ℕ) → entries (queue_of T s) ≡ xs → Good s (handed_to xs)
  unfolding handed_to
  given_up s l m [] e = (freed s l m e, sym (ap entries (queue_in s m ∙ served-none (queue_of T s) (lines s l) e) ∙ e))
  given_up s l m (x ∷ xs) e = (handed_owner s x xs l m e, sym (ap entries (queue_in s m) ∙ entries-served (queue_of T s) (lines s l) x xs e))

  released_one : (s : ℕ) → s < slots → Good s (releasing R k s)
  unfolding releasing release
  released_one s l =
      split (has S s)
      (λ m. rw (same s, m) (given_up s l m (k s).queue (sym (like.queue s l))))
      (λ n. rw (same s, n) (kept_owner s (k s).owner n (like.owner s l), like.queue s l ∙ ap entries (sym (queue_out s n))))

  pub locks_released : LocksLike (released T i S) (releasing R k)
  locks_released = record { owner = λ s l. (released_one s l).0; queue = λ s l. (released_one s l).1 }
