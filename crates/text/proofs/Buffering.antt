-- What is put into a buffer. Where there is room the buffer is the bytes before the place, what is put, and the bytes behind, so its
-- length stays; where there is none it is unchanged.
use Prim.Native.Nat.{ℕ, ◌+◌, ◌≤◌, ◌<◌}
use mathlib.Core.Path.{◌≡◌, refl, sym, ap, ◌∙◌}
use mathlib.Core.Bool.{Bool, true, false}
use mathlib.Core.List.{List, ◌++◌, append_assoc}
use native.Mathlib.Omega.{arith}
use lib.ListN.{length, take, drop}
use lib.Seq.{take-length, paste, length-paste, take-paste, drop-paste}
use lib.Dec.{leb}
use borrow.Author.Tests.{le-leb, lt-leb, leb-true, leb-false}
use Rattle.text.specs.Pages.{fits, put, next}

module _ (d : List ℕ) (at : ℕ) (bs : List ℕ) where
  pub no_room : length d < at + length bs → (at ≡ next d at bs) × (d ≡ put d at bs)
  unfolding next put fits
  no_room h = (rw (lt-leb (at + length bs) (length d) h), rw (lt-leb (at + length bs) (length d) h))

  module _ (h : at + length bs ≤ length d) where
    pub next_fits : next d at bs ≡ at + length bs
    unfolding next fits
    next_fits = rw (le-leb (at + length bs) (length d) h)

    put_copied : put d at bs ≡ paste d at bs (length bs)
    unfolding put fits
    put_copied =
        rw (le-leb (at + length bs) (length d) h)
        (sym (append_assoc (take at d) bs (drop (at + length bs) d))
        ∙ ap (λ (x : List ℕ). take at d ++ x ++ drop (at + length bs) d) (sym (take-length bs)))

    pub put-taken : take (at + length bs) (put d at bs) ≡ take at d ++ bs
    put-taken =
        ap (take (at + length bs)) put_copied ∙ take-paste d at bs (length bs) (omega arith) (omega arith)
        ∙ ap (λ (x : List ℕ). take at d ++ x) (take-length bs)

    pub put-behind : drop (at + length bs) (put d at bs) ≡ drop (at + length bs) d
    put-behind = ap (drop (at + length bs)) put_copied ∙ drop-paste d at bs (length bs) (omega arith) (omega arith)

  pub put_length : length (put d at bs) ≡ length d
  put_length = go (leb (at + length bs) (length d)) refl
    where
      go : (b : Bool) → leb (at + length bs) (length d) ≡ b → length (put d at bs) ≡ length d
      go true e =
          let h = leb-true (at + length bs) (length d) e in ap length (put_copied h) ∙ length-paste d at bs (length bs) h (omega arith)
      go false e = ap length (sym (no_room (leb-false (at + length bs) (length d) e)).1)
