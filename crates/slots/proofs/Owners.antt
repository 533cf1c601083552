-- The owner of each cell. That the list follows its rule, and that each slot owns sixteen cells, are tests that antt computes at every
-- entry (`Every`); an owner is below 64 because it is a remainder by 64. What `owner` answers is told by its number and its
-- slot.
use Prim.Native.Nat.{ℕ, zero, suc, ◌+◌, ◌<◌, ◌≤◌}
use mathlib.Core.Path.{◌≡◌, refl, sym, ap, ap₂, ◌∙◌}
use mathlib.Core.Bool.{Bool, true, cond}
use mathlib.Core.List.{List}
use native.Mathlib.Nat.{mod-lt, zero-lt-suc, add-zero, zero-add, add-suc, suc-add}
use native.Mathlib.Omega.{arith}
use lib.Dec.{ltb, eqb}
use lib.ListN.{length, get_or, replicate, get_or-replicate}
use borrow.Author.Tests.{eqb-true, ltb-true, ltb-false, le-leb, lt-leb}
use Rattle.slots.specs.Sizes.{cells, slots}
use Rattle.slots.specs.Refusals.{refusal, number_in, value_in}
use Rattle.slots.specs.Sets.{tally, slot}
use Rattle.slots.specs.Owners.{owner_of, Lists, Says, says, said, owner_refusal, owner_says, OwnersBelow, EachOwnsSixteen}
use Rattle.slots.specs.declared.Slot.{Slot}
use Rattle.std.specs.Prelude.{Result, Ok, Err}
use Rattle.slots.specs.declared.refusals.Refusal.{Refusal}
use Rattle.slots.proofs.Truth.{split}
use Rattle.slots.proofs.Answers.{one_answer, no_number}
use Rattle.slots.proofs.Every.{every, every_at}

-- ---- what is said of a cell

pub says_by : (c : ℕ) → c < cells → owner_says c ≡ says 0 (owner_of c)
unfolding owner_says owner_refusal refusal
says_by c h = rw (lt-leb cells c h)

pub says_high : (c : ℕ) → cells ≤ c → owner_says c ≡ says 10 0
unfolding owner_says owner_refusal refusal
says_high c h = rw (le-leb cells c h)

-- a slot is no refusal
by_not_high : (a b : ℕ) → says 0 a ≡ says 10 b → ⊥
by_not_high a b e = let z : ◌≡◌ {A = ℕ} 0 10 = ap (λ (x : Says). x.number) e in omega arith

pub said_one : (a b : Result Slot Refusal) → said a ≡ said b → a ≡ b
said_one a b e = one_answer (slot 0) a b (ap (λ (x : Says). x.number) e) (ap (λ (x : Says). slot x.value) e)

pub owner_by : (c : ℕ) (s : Slot) → said (Ok s) ≡ owner_says c → (c < cells) × (s.0 ≡ owner_of c)
owner_by c s e =
    split (ltb c cells)
    (λ l. let h : c < cells = ltb-true c cells l in (h, ap (λ (x : Says). x.value) (e ∙ says_by c h)))
    (λ l. absurd (by_not_high s.0 0 (e ∙ says_high c (ltb-false c cells l))))

pub owner_high : (c : ℕ) (r : Refusal) → said (Err r) ≡ owner_says c → cells ≤ c
owner_high c r e =
    split (ltb c cells)
    (λ l. absurd (no_number r (ap (λ (x : Says). x.number) (e ∙ says_by c (ltb-true c cells l)))))
    (ltb-false c cells)

-- ---- the list

pub owners_below : OwnersBelow
unfolding OwnersBelow owner_of
owners_below c = mod-lt _ (zero-lt-suc 63)

-- entry s of the list at place c is what the rule says
abbrev pub ruled : ℕ → ℕ → Bool
ruled c s = eqb s (owner_of c)

-- a list that passes the test has the owner of each cell
pub lists : (list : List ℕ) → length list ≡ cells → every ruled 0 list ≡ true → Lists list
unfolding Lists
lists list n e c h = eqb-true (get_or list c 0) (owner_of c) (every_at ruled list e c (omega arith))

-- ---- each slot owns sixteen cells: counted from cell 0 up

count : (ℕ → Bool) → ℕ → ℕ → ℕ
count p c zero = 0
count p c (suc n) = cond (p c) 1 0 + count p (suc c) n

tally_count : (n : ℕ) (p q : ℕ → Bool) (c : ℕ) → ((t : ℕ) → q t ≡ p (c + t)) → tally q n ≡ count p c n
unfolding tally count
tally_count zero p q c h = refl
tally_count (suc n) p q c h =
    ap₂ (λ (b : Bool) (m : ℕ). cond b 1 0 + m) (h 0 ∙ ap p (add-zero c))
    (tally_count n p (λ t. q (suc t)) (suc c) (λ t. h (suc t) ∙ ap p (add-suc c t ∙ sym (suc-add c t))))

owns : ℕ → ℕ
owns s = count (λ c. eqb (owner_of c) s) 0 cells

-- entry n of a table at place s is how many cells slot s owns
abbrev counted : ℕ → ℕ → Bool
counted s n = eqb (owns s) n

all-counted : every counted 0 (replicate slots 16) ≡ true
unfolding owns count owner_of
all-counted = refl

pub sixteen : EachOwnsSixteen
unfolding EachOwnsSixteen owns
sixteen s h =
    let n : ℕ = get_or (replicate slots 16) s 0 in
    tally_count cells (λ c. eqb (owner_of c) s) (λ c. eqb (owner_of c) s) 0 (λ t. ap (λ (c : ℕ). eqb (owner_of c) s) (sym (zero-add t)))
    ∙ eqb-true (owns s) n (every_at counted (replicate slots 16) all-counted s h)
    ∙ get_or-replicate slots s 16 0 h
