-- An accepted image is its cells, its label records, its variable records and its trailer, each written anew.
-- Assumes nothing.
use mathlib.Core.Path.{◌≡◌, refl, sym, ap, ap₂, ◌∙◌}
use mathlib.Core.Bool.{Bool, true, false, ◌&&◌}
use mathlib.Core.List.{List, ◌++◌, flat_map}
use mathlib.Core.Logic.{⊎_elim}
use Prim.Native.Nat.{ℕ, zero, suc, ◌+◌, ◌*◌, ◌/◌, ◌%◌, ◌≤◌, ◌<◌}
use native.Mathlib.Nat.{mul-suc, mul-zero, add-zero}
use native.Mathlib.Omega.{arith}
use lib.Dec.{T, eqb, eqb→eq}
use lib.ListN.{length, take, drop}
use lib.Seq.{take-add, drop-drop, take_all}
use Rattle.numbers.specs.Bytes.{Bytes, bytes, field}
use Rattle.numbers.specs.Bits.{signed32}
use Rattle.numbers.specs.Tests.{listed}
use Rattle.numbers.proofs.Laws.{bytes_field, field_below, digits_signed}
use Rattle.numbers.proofs.Truth.{both, either}
use Rattle.numbers.proofs.Tests.{from_some}
use Rattle.program.specs.Variables.{in_range, literals, present}
use Rattle.image.specs.Layout.{shape, operand_number, cell_bytes, label_bytes, variable_bytes, trailer_bytes, image_length, trailer_place, first_label_place, cell_count, label_count, variable_count, edition, whole_length, operand_at, cell_at, label_place, label_target, variable_place, start_value, name_at}
use Rattle.image.specs.Check.{Use, layouts, fits, good_operand}
use Rattle.listing.proofs.Lists.{numbers}
use Rattle.listing.proofs.Accepted.{Accepted}
use Rattle.listing.proofs.Cells.{Fit, fitting}
use Rattle.listing.proofs.Recorded.{Recorded, name_of_label, name_of_variable}

module _ (s : List ℕ) where
  -- The bytes from one place on.
  abbrev pub part : ℕ → ℕ → List ℕ
  part w from = take w (drop from s)

  -- Two parts one behind the other.
  pub parts : {x y : List ℕ} (a b c p q : ℕ) → x ≡ part a p → y ≡ part b q → q ≡ p + a → c ≡ a + b → x ++ y ≡ part c p
  parts a b c p q e f g h =
      ap₂ (λ (x y : List ℕ). x ++ y) e (f ∙ ap (part b) g ∙ ap (take b) (sym (drop-drop a p s))) ∙ sym (take-add a b (drop p s)) ∙ ap (λ (n : ℕ). part n p) (sym h)

  -- As many parts as there are numbers, all of one size.
  pieces_from : (g : ℕ → List ℕ) (w base from n : ℕ) → ((k : ℕ) → from ≤ k → k < from + n → g k ≡ part w (base + w * k))
      → flat_map g (numbers from n) ≡ part (w * n) (base + w * from)
  unfolding flat_map listed
  pieces_from g w base from zero h = rw (mul-zero w)
  pieces_from g w base from (suc n) h =
      let e = mul-suc w from in
      let f = mul-suc w n in
      parts w (w * n) (w * suc n) (base + w * from) (base + w * suc from) (h from (omega arith) (omega arith))
      (pieces_from g w base (suc from) n (λ k l m. h k (omega arith) (omega arith))) (omega arith) (omega arith)

  pub pieces : (g : ℕ → List ℕ) (w base n : ℕ) → ((k : ℕ) → k < n → g k ≡ part w (base + w * k)) → flat_map g (numbers 0 n) ≡ part (w * n) base
  pieces g w base n h =
      let e : base + w * 0 ≡ base = rw (mul-zero w) (add-zero base) in
      pieces_from g w base 0 n (λ k l m. h k (omega arith)) ∙ ap (part (w * n)) e

  module _ (byte : Bytes s) where
    -- A number that was read is written as it stands.
    part_of : (w from : ℕ) {n : ℕ} → n ≡ field w from s → from + w ≤ length s → bytes w n ≡ part w from
    part_of w from e h = ap (bytes w) e ∙ bytes_field w from s byte h

    field4 : (place : ℕ) → field 4 place s < 4294967296
    field4 place = field_below 4 place s byte

    -- An operand, used or not, has the shape and the number that it was read from.
    shape_again : (b : Bool) (sh place : ℕ) → T (good_operand (variable_count s) b sh (field 4 place s)) → shape (operand_at sh place s) ≡ sh
    unfolding good_operand operand_at shape
    shape_again true sh place t =
        let n = field 4 place s in
        ⊎_elim
        (λ p. let e = eqb→eq sh 1 (both (eqb sh 1) (in_range literals (signed32 n)) p).0 in rw e)
        (λ p. let e = eqb→eq sh 2 (both (eqb sh 2) (present (variable_count s) n) p).0 in rw e)
        (either (eqb sh 1 && in_range literals (signed32 n)) (eqb sh 2 && present (variable_count s) n) t)
    shape_again false sh place t = let e = eqb→eq sh 0 (both (eqb sh 0) (eqb (field 4 place s) 0) t).0 in rw e

    number_again : (b : Bool) (sh place : ℕ) → T (good_operand (variable_count s) b sh (field 4 place s)) → operand_number (operand_at sh place s) ≡ field 4 place s
    unfolding good_operand operand_at operand_number
    number_again true sh place t =
        let n = field 4 place s in
        ⊎_elim
        (λ p. let e = eqb→eq sh 1 (both (eqb sh 1) (in_range literals (signed32 n)) p).0 in rw e (digits_signed n (field4 place)))
        (λ p. let e = eqb→eq sh 2 (both (eqb sh 2) (present (variable_count s) n) p).0 in rw e)
        (either (eqb sh 1 && in_range literals (signed32 n)) (eqb sh 2 && present (variable_count s) n) t)
    number_again false sh place t =
        let q = both (eqb sh 0) (eqb (field 4 place s) 0) t in
        let e = eqb→eq sh 0 q.0 in
        let f = eqb→eq (field 4 place s) 0 q.1 in
        rw e (sym f)

    -- The 16 bytes of a cell that has a layout.
    cell_fit : (k : ℕ) → 16 * k + 16 ≤ length s → (u : Use) → Fit s (16 * k) u → cell_bytes (cell_at s k) ≡ part 16 (16 * k)
    unfolding cell_bytes cell_at
    cell_fit k h u f =
        let p = 16 * k in
        let sh = field 1 (p + 3) s in
        let l = shape_again u.left (sh % 4) (p + 4) f.left in
        let r = shape_again u.right (sh / 4) (p + 8) f.right in
        parts 1 15 16 p (p + 1) (part_of 1 p refl (omega arith))
        (parts 1 14 15 (p + 1) (p + 2) (part_of 1 (p + 1) refl (omega arith))
        (parts 1 13 14 (p + 2) (p + 3) (part_of 1 (p + 2) refl (omega arith))
        (parts 1 12 13 (p + 3) (p + 4) (part_of 1 (p + 3) (omega arith) (omega arith))
        (parts 4 8 12 (p + 4) (p + 8) (part_of 4 (p + 4) (number_again u.left (sh % 4) (p + 4) f.left) (omega arith))
        (parts 4 4 8 (p + 8) (p + 12) (part_of 4 (p + 8) (number_again u.right (sh / 4) (p + 8) f.right) (omega arith))
        (parts 2 2 4 (p + 12) (p + 14) (part_of 2 (p + 12) refl (omega arith)) (part_of 2 (p + 14) (sym f.rest) (omega arith)) (omega arith) refl)
        (omega arith) refl)
        (omega arith) refl)
        (omega arith) refl)
        (omega arith) refl)
        (omega arith) refl)
        refl refl

    module _ (a : Accepted s) (r : Recorded s) where
      -- The fields of the trailer.
      first_field : first_label_place s ≡ field 4 (trailer_place s) s
      unfolding first_label_place
      first_field = refl

      cells_field : cell_count s ≡ field 2 (trailer_place s + 4) s
      unfolding cell_count
      cells_field = refl

      labels_field : label_count s ≡ field 2 (trailer_place s + 6) s
      unfolding label_count
      labels_field = refl

      variables_field : variable_count s ≡ field 2 (trailer_place s + 8) s
      unfolding variable_count
      variables_field = refl

      edition_field : edition s ≡ field 2 (trailer_place s + 10) s
      unfolding edition
      edition_field = refl

      whole_field : whole_length s ≡ field 4 (trailer_place s + 12) s
      unfolding whole_length
      whole_field = refl

      whole_size : image_length (cell_count s) (label_count s) (variable_count s) ≡ whole_length s
      unfolding image_length
      whole_size = sym r.size ∙ sym r.whole

      trailer_inside : trailer_place s + 16 ≤ length s
      unfolding trailer_place
      trailer_inside = let z = r.size in omega arith

      trailer_behind : trailer_place s ≡ (16 * cell_count s + 4 * label_count s) + 8 * variable_count s
      unfolding trailer_place
      trailer_behind = let z = r.size in omega arith

      pub cell_part_lem : (k : ℕ) → k < cell_count s → cell_bytes (cell_at s k) ≡ part 16 (16 * k)
      cell_part_lem k h =
          let z = r.size in
          from_some (fits s (16 * k)) (cell_bytes (cell_at s k) ≡ part 16 (16 * k))
          (λ u t. cell_fit k (omega arith) u (fitting s (16 * k) u t)) layouts (a.layout k h)

      pub label_part_lem : (k : ℕ) → k < label_count s → label_bytes (name_of_label s k) (label_target s k) ≡ part 4 (label_place s k)
      unfolding label_bytes label_target name_at label_place
      label_part_lem k h =
          let z = r.size in
          let p = 16 * cell_count s + 4 * k in
          parts 2 2 4 p (p + 2) refl (part_of 2 (p + 2) refl (omega arith)) refl refl

      variable_inside : (k : ℕ) → k < variable_count s → variable_place s k + 8 ≤ length s
      unfolding variable_place
      variable_inside k h = let z = r.size in omega arith

      pub variable_part_lem : (k : ℕ) → k < variable_count s → variable_bytes (name_of_variable s k) (start_value s k) ≡ part 8 (variable_place s k)
      unfolding variable_bytes start_value name_at
      variable_part_lem k h =
          let p = variable_place s k in
          let e : variable_place s k + 8 ≤ length s = variable_inside k h in
          parts 2 6 8 p (p + 2) refl
          (parts 2 4 6 (p + 2) (p + 4) (part_of 2 (p + 2) (sym (r.zeros k h)) (omega arith))
          (part_of 4 (p + 4) (digits_signed (field 4 (p + 4) s) (field4 (p + 4))) (omega arith)) (omega arith) refl)
          refl refl

      pub trailer_part : trailer_bytes (cell_count s) (label_count s) (variable_count s) ≡ part 16 (trailer_place s)
      unfolding trailer_bytes
      trailer_part =
          let p = trailer_place s in
          let e : trailer_place s + 16 ≤ length s = trailer_inside in
          parts 4 12 16 p (p + 4) (part_of 4 p (sym r.first_label ∙ first_field) (omega arith))
          (parts 2 10 12 (p + 4) (p + 6) (part_of 2 (p + 4) cells_field (omega arith))
          (parts 2 8 10 (p + 6) (p + 8) (part_of 2 (p + 6) labels_field (omega arith))
          (parts 2 6 8 (p + 8) (p + 10) (part_of 2 (p + 8) variables_field (omega arith))
          (parts 2 4 6 (p + 10) (p + 12) (part_of 2 (p + 10) (sym r.version ∙ edition_field) (omega arith))
          (part_of 4 (p + 12) (whole_size ∙ whole_field) (omega arith))
          (omega arith) refl)
          (omega arith) refl)
          (omega arith) refl)
          (omega arith) refl)
          refl refl

      -- The four parts are the whole image.
      pub whole_image : {c l v t : List ℕ} → c ≡ part (16 * cell_count s) 0 → l ≡ part (4 * label_count s) (16 * cell_count s)
          → v ≡ part (8 * variable_count s) (16 * cell_count s + 4 * label_count s) → t ≡ part 16 (trailer_place s) → c ++ (l ++ (v ++ t)) ≡ s
      whole_image p q o e =
          let z = r.size in
          let c = 16 * cell_count s in
          let l = 4 * label_count s in
          let v = 8 * variable_count s in
          parts c (l + (v + 16)) (length s) 0 c p
          (parts l (v + 16) (l + (v + 16)) c (c + l) q (parts v 16 (v + 16) (c + l) (trailer_place s) o e trailer_behind refl) refl refl)
          (omega arith) (omega arith)
          ∙ take_all (length s) s (omega arith)
