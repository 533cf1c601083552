-- 'Numbers are decimal, 0 to 4294967295, no leading zeros': how a number is written, and which bytes are one.
use Rattle.std.specs.Prelude.{ℕ, zero, suc, ◌+◌, ◌-◌, ◌*◌, ◌/◌, ◌%◌, ◌≤◌, ◌≡◌, Bool, true, cond, ◌&&◌, List, [], ◌∷◌, ◌++◌, length, get_or, ltb, leb, eqb, Option, Some, None}

-- the byte of the digit 0; the others follow it
abbrev pub zero_byte : ℕ
zero_byte = 48

abbrev pub largest : ℕ
largest = 4294967295

-- ---- writing

-- the digits of n, of which there are at most k
unfoldable pub digits_in : ℕ → ℕ → List ℕ
digits_in zero n = []
digits_in (suc k) n = cond (ltb n 10) ((zero_byte + n) ∷ []) (digits_in k (n / 10) ++ ((zero_byte + n % 10) ∷ []))

-- a number of 32 bits has ten digits at most
unfoldable pub digits : ℕ → List ℕ
digits n = digits_in 10 n

-- ---- reading

abbrev pub is_digit : ℕ → Bool
is_digit b = leb zero_byte b && ltb b (zero_byte + 10)

unfoldable pub all_digits : List ℕ → Bool
all_digits [] = true
all_digits (b ∷ s) = is_digit b && all_digits s

-- v followed by the digits s
unfoldable pub value_from : ℕ → List ℕ → ℕ
value_from v [] = v
value_from v (b ∷ s) = value_from (v * 10 + (b - zero_byte)) s

unfoldable pub value_of : List ℕ → ℕ
value_of s = value_from 0 s

-- 0 in front only where it is the whole number
unfoldable pub is_plain : List ℕ → Bool
is_plain s = cond (eqb (get_or s 0 0) zero_byte) (eqb (length s) 1) (leb 1 (length s))

unfoldable pub is_number : List ℕ → Bool
is_number s = all_digits s && (is_plain s && leb (value_of s) largest)

-- the number that the bytes s are, if they are one
unfoldable pub number_in : List ℕ → Option ℕ
number_in s = cond (is_number s) (Some (value_of s)) None

-- ---- what is shown: a number written is read back, and only what is written so is read

unfoldable pub ReadBack : Type 0
ReadBack = (n : ℕ) → n ≤ largest → number_in (digits n) ≡ Some n

unfoldable pub WrittenSo : Type 0
WrittenSo = (s : List ℕ) (n : ℕ) → number_in s ≡ Some n → (n ≤ largest) × (s ≡ digits n)

-- the most digits a number has
abbrev pub most_digits : ℕ
most_digits = 10

unfoldable pub FewDigits : Type 0
FewDigits = (n : ℕ) → length (digits n) ≤ most_digits
