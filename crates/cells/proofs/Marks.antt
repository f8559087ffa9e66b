-- Tables of marks: the numbers that were passed, each marked at its place.
-- Assumes nothing.
use mathlib.Core.Path.{◌≡◌, refl, sym, ◌∙◌}
use mathlib.Core.Bool.{Bool, true, false, ◌||◌, or-false, or-true}
use mathlib.Core.List.{List}
use Prim.Native.Nat.{ℕ, ◌+◌, ◌<◌}
use native.Mathlib.Numerals.{add-one}
use native.Mathlib.Omega.{arith}
use borrow.Author.Tests.{eqb-true, eqb-false}
use lib.Dec.{eqb}
use lib.ListN.{get_or, set, replicate, length-replicate, get_or-replicate, length-set}
use lib.Seq.{get_or-set_same, get_or-set_other}
use Rattle.numbers.specs.Tests.{any_below}
use Rattle.cells.specs.Code.{Marked}

module _ (size : ℕ) (key : ℕ → ℕ) where
  pub unmarked : Marked size key 0 (replicate size false)
  unfolding any_below
  unmarked = record { long = length-replicate size false; each = λ x h. get_or-replicate size x false false h }

  module _ (k : ℕ) {marks : List Bool} (m : Marked size key k marks) {n : ℕ} (e : n ≡ key k) where
    one_mark : (x : ℕ) (t : Bool) → eqb (key k) x ≡ t → x < size → get_or (set marks n true) x false ≡ (any_below k (λ j. eqb (key j) x) || t)
    one_mark x true q h =
        let p : n ≡ x = e ∙ eqb-true (key k) x q in
        rw (p, or-true) (get_or-set_same marks x true false (omega (arith, m.long)))
    one_mark x false q h =
        rw or-false (get_or-set_other marks n x true false (λ p. eqb-false (key k) x q (sym (p ∙ e))) ∙ m.each x h)

    -- One more passed and marked; past the table there is no mark.
    pub marked_more : Marked size key (k + 1) (set marks n true)
    unfolding any_below
    marked_more = record { long = length-set marks n true ∙ m.long; each = λ x h. rw (add-one k) (one_mark x (eqb (key k) x) refl h) }
