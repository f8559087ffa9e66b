-- The fields of two records, as numbers and as bytes: the sum tells which differ.
-- Assumes nothing.
use mathlib.Core.Path.{◌≡◌, refl, sym, ap, ◌∙◌}
use mathlib.Core.Bool.{Bool, true, false, true≢false}
use mathlib.Core.List.{List, ◌++◌}
use mathlib.Core.Logic.{◌↔◌}
use Prim.Native.Nat.{ℕ, ◌+◌, ◌*◌, ◌-◌, ◌/◌, ◌%◌, ◌≤◌}
use native.Mathlib.Omega.{arith}
use borrow.Author.Tests.{eq-eqb, eqb-true}
use lib.Dec.{eqb}
use lib.ListN.{length, take, drop, length-drop}
use lib.Seq.{take-add, take_all, take-take, drop-drop, drop_at, length-take-le}
use Rattle.numbers.specs.Bits.{digits32, signed32}
use Rattle.numbers.specs.Bytes.{Bytes, number, field}
use Rattle.numbers.specs.Tests.{eq_z}
use Rattle.numbers.proofs.Tests.{eq_z_same, eq_z_refl}
use Rattle.numbers.proofs.Laws.{same_field_bytes, field_below, digits_signed}
use Rattle.events.specs.Events.{event_at}
use Rattle.events.specs.declared.Event.{Event}
use Rattle.comparing.specs.Differences.{weight, field_sum}
use Rattle.comparing.specs.Requests.{record_of, part, PartDiffers}
use Rattle.comparing.proofs.Sums.{weight_most}

-- ---- the digits of a sum

weight_digit : (t : Bool) (w : ℕ) → weight t w ≡ w * weight t 1
unfolding weight
weight_digit true w = omega arith
weight_digit false w = omega arith

digits_back : (p q r s : ℕ) → p ≤ 1 → q ≤ 1 → r ≤ 1 → s ≤ 1 → (n : ℕ) → n ≡ p + (2 * q + (4 * r + 8 * s))
    → (n % 2 ≡ p) × (n / 2 % 2 ≡ q) × (n / 4 % 2 ≡ r) × (n / 8 % 2 ≡ s)
digits_back p q r s hp hq hr hs n e = (omega arith, omega arith, omega arith, omega arith)

module _ (a b : Event) where
  sum_digits : (field_sum a b % 2 ≡ weight (eqb a.turn b.turn) 1) × (field_sum a b / 2 % 2 ≡ weight (eqb a.kind b.kind) 1)
      × (field_sum a b / 4 % 2 ≡ weight (eqb a.number b.number) 1) × (field_sum a b / 8 % 2 ≡ weight (eq_z a.value b.value) 1)
  unfolding field_sum
  sum_digits =
      digits_back (weight (eqb a.turn b.turn) 1) (weight (eqb a.kind b.kind) 1) (weight (eqb a.number b.number) 1) (weight (eq_z a.value b.value) 1)
      (weight_most (eqb a.turn b.turn) 1) (weight_most (eqb a.kind b.kind) 1) (weight_most (eqb a.number b.number) 1) (weight_most (eq_z a.value b.value) 1)
      (field_sum a b)
      (omega (arith, weight_digit (eqb a.kind b.kind) 2, weight_digit (eqb a.number b.number) 4, weight_digit (eq_z a.value b.value) 8))

-- A digit is 1 exactly if what its test says is not so; 0 where it is.
module _ (t : Bool) (P : Type 0) (yes : t ≡ true → P) (no : P → t ≡ true) where
  digit_tells : {n : ℕ} → n ≡ weight t 1 → (n ≡ 1) ↔ (P → ⊥)
  unfolding weight
  digit_tells {n} e = (one t refl, other t refl) where
    one : (u : Bool) → t ≡ u → n ≡ 1 → P → ⊥
    one true s z p = let w : n ≡ 0 = e ∙ rw s refl in omega arith
    one false s z p = true≢false (sym (no p) ∙ s)

    other : (u : Bool) → t ≡ u → (P → ⊥) → n ≡ 1
    other true s z = absurd (z (yes s))
    other false s z = e ∙ rw s refl

  digit_none : {n : ℕ} → n ≡ weight t 1 → n ≡ 0 → P
  unfolding weight
  digit_none {n} e z = yes (held t refl) where
    held : (u : Bool) → t ≡ u → t ≡ true
    held true s = s
    held false s = let w : n ≡ 1 = e ∙ rw s refl in absurd (omega arith)

-- ---- numbers and bytes

-- The 12 bytes of a record, field by field; and a part of the first n bytes.
in_fields : (r : List ℕ) → length r ≡ 12
    → r ≡ take 4 (drop 0 r) ++ (take 1 (drop 4 r) ++ (take 1 (drop 5 r) ++ (take 2 (drop 6 r) ++ take 4 (drop 8 r))))
in_fields r h =
    sym (take_all 12 r (omega arith))
    ∙ take-add 4 8 r
    ∙ rw (take-add 1 7 (drop 4 r), drop-drop 1 4 r, take-add 1 6 (drop 5 r), drop-drop 1 5 r, take-add 2 4 (drop 6 r), drop-drop 2 6 r) refl

pub length_record : (s : List ℕ) (k : ℕ) → 12 * k + 12 ≤ length s → length (record_of s k) ≡ 12
length_record s k h = length-take-le 12 (drop (12 * k) s) (omega (arith, length-drop (12 * k) s))

inner : (w from n : ℕ) (l : List ℕ) → from + w ≤ n → from ≤ length l → take w (drop from (take n l)) ≡ take w (drop from l)
inner w from n l h g =
    let e : from + (n - from) ≡ n = omega arith in
    let c : take n l ≡ take from l ++ take (n - from) (drop from l) = ap (λ (m : ℕ). take m l) (sym e) ∙ take-add from (n - from) l in
    rw (c, drop_at (take from l) (take (n - from) (drop from l)) from (length-take-le from l g)) (take-take w (n - from) (drop from l) (omega arith))

-- A record that both buffers have.
module _ (first second : List ℕ) (k : ℕ) (hf : 12 * k + 12 ≤ length first) (hs : 12 * k + 12 ≤ length second) where
  -- A field of w bytes from the record's byte `from` on, at a place of the buffer.
  module _ (w from at : ℕ) (e : at ≡ 12 * k + from) (h : from + w ≤ 12) where
    part_bytes : (s : List ℕ) → 12 * k + 12 ≤ length s → part w from s k ≡ take w (drop at s)
    part_bytes s l =
        let g : from ≤ length (drop (12 * k) s) = omega (arith, length-drop (12 * k) s) in
        inner w from 12 (drop (12 * k) s) h g ∙ ap (take w) (drop-drop from (12 * k) s ∙ ap (λ (n : ℕ). drop n s) (sym e))

    -- It is the same number exactly if its bytes are the same.
    same_bytes : Bytes first → Bytes second → field w at first ≡ field w at second → part w from first k ≡ part w from second k
    same_bytes bf bs z =
        part_bytes first hf ∙ same_field_bytes w at first second bf bs (omega arith) (omega arith) z ∙ sym (part_bytes second hs)

    same_field : part w from first k ≡ part w from second k → field w at first ≡ field w at second
    unfolding field
    same_field z = ap number (sym (part_bytes first hf) ∙ z ∙ part_bytes second hs)

    test_bytes : Bytes first → Bytes second → eqb (field w at first) (field w at second) ≡ true → part w from first k ≡ part w from second k
    test_bytes bf bs t = same_bytes bf bs (eqb-true (field w at first) (field w at second) t)

    bytes_test : part w from first k ≡ part w from second k → eqb (field w at first) (field w at second) ≡ true
    bytes_test z = eq-eqb (field w at first) (field w at second) (same_field z)

  -- The same of the value, which has a sign.
  value_bytes : Bytes first → Bytes second → eq_z (signed32 (field 4 (12 * k + 8) first)) (signed32 (field 4 (12 * k + 8) second)) ≡ true
      → part 4 8 first k ≡ part 4 8 second k
  value_bytes bf bs t =
      let x = field 4 (12 * k + 8) first in
      let y = field 4 (12 * k + 8) second in
      same_bytes 4 8 (12 * k + 8) refl (omega arith) bf bs
      (sym (digits_signed x (field_below 4 (12 * k + 8) first bf)) ∙ ap digits32 (eq_z_same (signed32 x) (signed32 y) t) ∙ digits_signed y (field_below 4 (12 * k + 8) second bs))

  bytes_value : part 4 8 first k ≡ part 4 8 second k → eq_z (signed32 (field 4 (12 * k + 8) first)) (signed32 (field 4 (12 * k + 8) second)) ≡ true
  bytes_value z = rw (same_field 4 8 (12 * k + 8) refl (omega arith) z) (eq_z_refl (signed32 (field 4 (12 * k + 8) second)))

  -- The sum's digits tell of each field whether its bytes differ.
  module _ (bf : Bytes first) (bs : Bytes second) where
    turn_place : 12 * k ≡ 12 * k + 0
    turn_place = omega arith

    pub told : ((field_sum (event_at first k) (event_at second k) % 2 ≡ 1) ↔ PartDiffers 4 0 first second k)
        × ((field_sum (event_at first k) (event_at second k) / 2 % 2 ≡ 1) ↔ PartDiffers 1 4 first second k)
        × ((field_sum (event_at first k) (event_at second k) / 4 % 2 ≡ 1) ↔ PartDiffers 1 5 first second k)
        × ((field_sum (event_at first k) (event_at second k) / 8 % 2 ≡ 1) ↔ PartDiffers 4 8 first second k)
    unfolding event_at
    told =
        let d = sum_digits (event_at first k) (event_at second k) in (
          digit_tells _ _ (test_bytes 4 0 (12 * k) turn_place (omega arith) bf bs) (bytes_test 4 0 (12 * k) turn_place (omega arith)) d.0,
          digit_tells _ _ (test_bytes 1 4 (12 * k + 4) refl (omega arith) bf bs) (bytes_test 1 4 (12 * k + 4) refl (omega arith)) d.1,
          digit_tells _ _ (test_bytes 1 5 (12 * k + 5) refl (omega arith) bf bs) (bytes_test 1 5 (12 * k + 5) refl (omega arith)) d.2,
          digit_tells _ _ (value_bytes bf bs) bytes_value d.3,
        )

    -- Where no field differs and both have their zeros, the records are the same; and back.
    pub none_differs : field 2 (12 * k + 6) first ≡ field 2 (12 * k + 6) second → field_sum (event_at first k) (event_at second k) ≡ 0
        → record_of first k ≡ record_of second k
    unfolding event_at
    none_differs z e =
        let d = sum_digits (event_at first k) (event_at second k) in
        let p1 = digit_none _ _ (test_bytes 4 0 (12 * k) turn_place (omega arith) bf bs) (bytes_test 4 0 (12 * k) turn_place (omega arith)) d.0 (rw e refl) in
        let p2 = digit_none _ _ (test_bytes 1 4 (12 * k + 4) refl (omega arith) bf bs) (bytes_test 1 4 (12 * k + 4) refl (omega arith)) d.1 (rw e refl) in
        let p3 = digit_none _ _ (test_bytes 1 5 (12 * k + 5) refl (omega arith) bf bs) (bytes_test 1 5 (12 * k + 5) refl (omega arith)) d.2 (rw e refl) in
        let p4 = same_bytes 2 6 (12 * k + 6) refl (omega arith) bf bs z in
        let p5 = digit_none _ _ (value_bytes bf bs) bytes_value d.3 (rw e refl) in
        in_fields (record_of first k) (length_record first k hf) ∙ rw (p1, p2, p3, p4, p5) (sym (in_fields (record_of second k) (length_record second k hs)))

  pub record_same : record_of first k ≡ record_of second k → field_sum (event_at first k) (event_at second k) ≡ 0
  unfolding event_at field_sum weight
  record_same z =
      let n : (w from : ℕ) → part w from first k ≡ part w from second k = λ w from. ap (λ (r : List ℕ). take w (drop from r)) z in
      rw (bytes_test 4 0 (12 * k) (omega arith) (omega arith) (n 4 0), bytes_test 1 4 (12 * k + 4) refl (omega arith) (n 1 4), bytes_test 1 5 (12 * k + 5) refl (omega arith) (n 1 5), bytes_value (n 4 8)) refl
