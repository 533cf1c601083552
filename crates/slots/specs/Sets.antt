-- 'Slot sets': which slots are in a set, how many they are, and which is smallest.
--
-- The code holds a set as a number of 64 binary digits, one for each slot. Only `has` and `set_of` know of the digits:
-- an operation is the set of those slots that a test names, and what is asked of a set is asked of its members.
-- Nothing here has a condition. A slot above 63 is in no set, whatever is added.
use Rattle.std.specs.Prelude.{ℕ, zero, suc, ◌+◌, ◌*◌, ◌/◌, ◌%◌, ◌^◌, Bool, not, cond, ◌&&◌, ◌||◌, ltb, eqb}
use Rattle.slots.specs.Sizes.{slots}
use Rattle.slots.specs.declared.Slot.{Slot}
use Rattle.slots.specs.declared.set.SlotSet.{SlotSet}

-- a number as the code's slot, and as the code's set
abbrev pub slot : ℕ → Slot
slot s = record { 0 = s }

abbrev pub digits : ℕ → SlotSet
digits n = record { 0 = n }

-- ---- members

-- digit t of n, counted from the lowest, is 1
unfoldable pub digit : ℕ → ℕ → Bool
digit n t = eqb (n / 2 ^ t % 2) 1

-- slot t is in the set S
unfoldable pub has : SlotSet → ℕ → Bool
has S t = ltb t slots && digit S.0 t

-- ---- of the numbers below k that pass the test p: the number whose digits they are, how many they are, and the first
-- (k where there is none)

unfoldable pub pack : (ℕ → Bool) → ℕ → ℕ
pack p zero = 0
pack p (suc k) = pack (λ t. p (suc t)) k * 2 + cond (p 0) 1 0

unfoldable pub tally : (ℕ → Bool) → ℕ → ℕ
tally p zero = 0
tally p (suc k) = cond (p 0) 1 0 + tally (λ t. p (suc t)) k

unfoldable pub first : (ℕ → Bool) → ℕ → ℕ
first p zero = 0
first p (suc k) = cond (p 0) 0 (suc (first (λ t. p (suc t)) k))

-- ---- sets

-- the set of the slots that pass the test p
unfoldable pub set_of : (ℕ → Bool) → SlotSet
set_of p = digits (pack p slots)

abbrev pub none : SlotSet
none = digits 0

-- S with the slot s in it, and without it
unfoldable pub adding : SlotSet → ℕ → SlotSet
adding S s = set_of (λ t. has S t || eqb t s)

unfoldable pub removing : SlotSet → ℕ → SlotSet
removing S s = set_of (λ t. has S t && not (eqb t s))

-- the members of S greater than s
unfoldable pub above : SlotSet → ℕ → SlotSet
above S s = set_of (λ t. has S t && ltb s t)

-- what is in S or in R, and what is in S and not in R
unfoldable pub union : SlotSet → SlotSet → SlotSet
union S R = set_of (λ t. has S t || has R t)

unfoldable pub difference : SlotSet → SlotSet → SlotSet
difference S R = set_of (λ t. has S t && not (has R t))

-- ---- what every step asks

-- how many slots the set holds
unfoldable pub size : SlotSet → ℕ
size S = tally (has S) slots

unfoldable pub is_empty : SlotSet → Bool
is_empty S = eqb (size S) 0

-- which is smallest; 64 where the set is empty
unfoldable pub smallest : SlotSet → ℕ
smallest S = first (has S) slots
