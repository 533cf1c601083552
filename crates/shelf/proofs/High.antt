-- A number of 65536 or more is on no shelf of bytes. An entry's number is two bytes, so it is below 65536, and what is left behind an entry
-- is bytes too: by recursion on the count of entries.
use Prim.Native.Nat.{ℕ, zero, suc, ◌+◌, ◌≤◌, ◌<◌}
use native.Mathlib.Omega.{arith}
use mathlib.Core.Path.{◌≡◌, refl}
use mathlib.Core.List.{List, []}
use lib.ListN.{length, get_or, drop}
use lib.Seq.{get_or-drop}
use lib.Dec.{eqb}
use borrow.Author.Tests.{ne_eqb}
use Rattle.slots.proofs.Truth.{split}
use Rattle.script.specs.Scripts.{word}
use Rattle.shelf.specs.Shelves.{entry_number, span, is_whole, entries, shelf, find}

abbrev pub Bytes : List ℕ → Type 0
Bytes s = (i : ℕ) → get_or s i 0 < 256

number_low : (s : List ℕ) → Bytes s → entry_number s < 65536
unfolding entry_number word
number_low s b = omega (arith, b 0, b 1)

bytes_behind : (k : ℕ) (s : List ℕ) → Bytes s → Bytes (drop k s)
bytes_behind k s b i = rw get_or-drop (b (k + i))

none_found : (n k : ℕ) (s : List ℕ) → 65536 ≤ n → Bytes s → find n (entries k s) ≡ []
unfolding find entries
none_found n zero s h b = refl
none_found n (suc k) s h b =
    let other = ne_eqb (entry_number s) n (λ q. omega (arith, number_low s b)) in
    let later = none_found n k (drop (span s) s) h (bytes_behind (span s) s b) in
    split (eqb (length s) 0) (λ e. rw e) (λ e. split (is_whole s) (λ w. rw (e, w, other, later)) (λ w. rw (e, w)))

pub high_nowhere : (n : ℕ) (f : List ℕ) → 65536 ≤ n → Bytes f → find n (shelf f) ≡ []
unfolding shelf
high_nowhere n f h b = none_found n (length f) f h b
