-- The eight bytes of a pair: what they say of its number and its value, and back.
-- Assumes nothing.
use mathlib.Core.Path.{◌≡◌, sym, ap, ap₂, ◌∙◌}
use mathlib.Core.List.{List, ◌++◌}
use Prim.Native.Nat.{ℕ, ◌+◌, ◌*◌, ◌≤◌, ◌<◌}
use native.Mathlib.Omega.{arith}
use lib.ListN.{length, take, drop, length-drop}
use lib.Seq.{length-take-le, take-add, drop-drop, take_at, drop_at}
use Rattle.numbers.specs.Bits.{signed32}
use Rattle.numbers.specs.Bytes.{Bytes, bytes, number, field}
use Rattle.numbers.proofs.Laws.{length_bytes, there_and_back, bytes_field}
use Rattle.settings.specs.Layout.{value_at, pair_at}

-- Bytes from a place on: how many, where the list has them.
pub length_part : (w at : ℕ) (s : List ℕ) → at + w ≤ length s → length (take w (drop at s)) ≡ w
length_part w at s h = length-take-le w (drop at s) (omega (arith, length-drop at s))

-- Two pieces of the same lengths that are joined to the same.
pieces : (n : ℕ) (xs ys us vs : List ℕ) → length xs ≡ n → length us ≡ n → xs ++ ys ≡ us ++ vs → (xs ≡ us) × (ys ≡ vs)
pieces n xs ys us vs p q e = (
  sym (take_at xs ys n p) ∙ ap (take n) e ∙ take_at us vs n q,
  sym (drop_at xs ys n p) ∙ ap (drop n) e ∙ drop_at us vs n q,
)

-- Eight bytes are two, two and four.
parted : (at : ℕ) (s : List ℕ) → take 8 (drop at s) ≡ take 2 (drop at s) ++ (take 2 (drop (at + 2) s) ++ take 4 (drop (at + 4) s))
parted at s =
    let e : at + 2 + 2 ≡ at + 4 = omega arith in
    take-add 2 6 (drop at s)
    ∙ ap (λ (l : List ℕ). take 2 (drop at s) ++ take 6 l) (drop-drop 2 at s)
    ∙ ap (λ (l : List ℕ). take 2 (drop at s) ++ l)
    (take-add 2 4 (drop (at + 2) s) ∙ ap (λ (l : List ℕ). take 2 (drop (at + 2) s) ++ take 4 l) (drop-drop 2 (at + 2) s ∙ ap (λ (n : ℕ). drop n s) e))

module _ (s : List ℕ) (i : ℕ) (inside : 8 * i + 8 ≤ length s) where
  -- A pair with zeros stands there as the bytes of its number, of 0 and of its value.
  pub pair_stands : Bytes s → (pair_at s i).zeros ≡ 0 → take 8 (drop (8 * i) s) ≡ bytes 2 (pair_at s i).number ++ (bytes 2 0 ++ take 4 (drop (8 * i + 4) s))
  unfolding pair_at
  pair_stands b z =
      parted (8 * i) s
      ∙ ap₂ (λ (l m : List ℕ). l ++ (m ++ take 4 (drop (8 * i + 4) s)))
      (sym (bytes_field 2 (8 * i) s b (omega arith)))
      (sym (bytes_field 2 (8 * i + 2) s b (omega arith)) ∙ ap (bytes 2) z)

  -- What stands there so is a pair of that number and that value.
  pub stands_pair : (v : ℕ) (four : List ℕ) → v < 65536 → take 8 (drop (8 * i) s) ≡ bytes 2 v ++ (bytes 2 0 ++ four)
      → ((pair_at s i).number ≡ v) × ((pair_at s i).value ≡ signed32 (number four))
  unfolding pair_at value_at field
  stands_pair v four h e =
      let two = pieces 2 (take 2 (drop (8 * i) s)) (take 2 (drop (8 * i + 2) s) ++ take 4 (drop (8 * i + 4) s)) (bytes 2 v) (bytes 2 0 ++ four)
      (length_part 2 (8 * i) s (omega arith)) (length_bytes 2 v) (sym (parted (8 * i) s) ∙ e) in
      let more = pieces 2 (take 2 (drop (8 * i + 2) s)) (take 4 (drop (8 * i + 4) s)) (bytes 2 0) four
      (length_part 2 (8 * i + 2) s (omega arith)) (length_bytes 2 0) two.1 in
      (ap number two.0 ∙ there_and_back 2 v h, ap (λ (l : List ℕ). signed32 (number l)) more.1)
