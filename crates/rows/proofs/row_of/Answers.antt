-- `row_of` meets its contract.
-- Assumes nothing.
use mathlib.Core.Path.{◌≡◌, sym, ◌∙◌, ap}
use mathlib.Core.Bool.{Bool, true}
use mathlib.Core.List.{List, [], ◌∷◌}
use Prim.Native.Nat.{ℕ, ◌-◌, ◌/◌, ◌%◌, ◌<◌}
use lib.ListN.{get_or}
use Rattle.rows.specs.Rows.{second_place}
use native.Mathlib.Omega.{arith}
use Rattle.rows.proofs.Order.{past, first_least, second_below, second_character, row_by_key}
use Rattle.rows.proofs.row_of.Goals as goal

named : {b t : Bool} → b ≡ t → b ≡ true → t ≡ true
named e n = sym e ∙ n

-- The two characters of a key, by its bytes.
module _ (k : ℕ) {n : ℕ} {bytes : List ℕ} (e : bytes ≡ k % 256 ∷ k / 256 % 256 ∷ []) where
  low : n ≡ get_or bytes 0 0 - 65 → n ≡ k % 256 - 65
  low h = h ∙ ap (λ (xs : List ℕ). get_or xs 0 0 - 65) e

  high : k < 65536 → n ≡ get_or bytes 1 0 → n ≡ k / 256
  high l h = let d : k / 256 % 256 ≡ k / 256 = omega arith in h ∙ ap (λ (xs : List ℕ). get_or xs 1 0) e ∙ d

pub returns-then-not-has_two_characters : goal.returns-then-not-has_two_characters
returns-then-not-has_two_characters c = sym (past _ (sym c.has_two_characters.ensures ∙ c.if-not-has_two_characters.true))

pub overflow_sub-first : goal.overflow_sub-first
overflow_sub-first c = rw c.to_le_bytes.ensures (first_least _ (named c.has_two_characters.ensures c.if-not-has_two_characters.false))

pub second_place-requires : goal.second_place-requires
second_place-requires c = rw (high _ c.to_le_bytes.ensures c.ranges.key.fits c.from-2.ensures) (second_character _ (named c.has_two_characters.ensures c.if-not-has_two_characters.false))

pub overflow_add-result : goal.overflow_add-result
overflow_add-result c =
    let h = high _ c.to_le_bytes.ensures c.ranges.key.fits c.from-2.ensures in
    omega (arith, c.second_place.ensures ∙ ap second_place h, second_below _ (second_character _ (named c.has_two_characters.ensures c.if-not-has_two_characters.false)), low _ c.to_le_bytes.ensures c.from.ensures)

pub returns : goal.returns
returns c =
    rw (c.second_place.ensures, high _ c.to_le_bytes.ensures c.ranges.key.fits c.from-2.ensures, low _ c.to_le_bytes.ensures c.from.ensures)
    (sym (row_by_key _ (named c.has_two_characters.ensures c.if-not-has_two_characters.false)))
