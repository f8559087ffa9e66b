-- The edition 2 file of a list of pairs: how long it is, what it says of itself, and that its pairs are read back; and back from a file to its pairs.
-- Assumes nothing.
use mathlib.Core.Path.{◌≡◌, refl, sym, ap, ◌∙◌}
use mathlib.Core.Bool.{true}
use mathlib.Core.List.{List, [], ◌∷◌, ◌++◌, flat_map, append_assoc}
use Prim.Native.Nat.{ℕ, zero, suc, ◌+◌, ◌*◌, ◌/◌, ◌%◌, ◌-◌, ◌≤◌, ◌<◌}
use native.Mathlib.Omega.{arith}
use lib.ListN.{length, get_or, take, drop, length-append, length-drop, take-append-drop}
use lib.Seq.{take_all, take-add, drop_at, drop-drop, ext_get_or}
use mir.Syntax.{w32}
use mir.Val.{SFits}
use Rattle.numbers.specs.Bits.{digits32}
use Rattle.numbers.specs.Bytes.{Bytes, bytes, field}
use Rattle.numbers.specs.Tests.{eq_list, Each, listed}
use Rattle.numbers.proofs.Laws.{length_bytes, field_back, field_below, bytes_field, signed_digits, digits_signed, digits_below}
use Rattle.numbers.proofs.Lists.{length_flat, flat_at}
use Rattle.numbers.proofs.Tests.{length_listed, listed_at, eq_list_refl, eq_list_eq}
use Rattle.numbers.proofs.Truth.{is_true, true_is}
use Rattle.settings.specs.Layout.{trailer, has_trailer, edition_of, value_at, pair_at, pairs_of, good_pairs, laid_out, pair_bytes, file_of}
use Rattle.settings.specs.declared.Pair.{Pair}

-- A pair whose parts fit their bytes.
pub record Fits (p : Pair) : Type 0 where
  pub number : p.number < 65536
  pub zeros : p.zeros < 65536
  pub value : SFits w32 p.value

-- ---- lengths

-- A pair has eight bytes, and so has the trailer.
pair_length : (p : Pair) → length (pair_bytes p) ≡ 8
unfolding pair_bytes
pair_length p = simp (length-append, length_bytes)

trailer_length : (edition whole : ℕ) → length (trailer edition whole) ≡ 8
unfolding trailer
trailer_length edition whole = simp (length-append, length_bytes)

pairs_length : (ps : List Pair) → length (flat_map pair_bytes ps) ≡ 8 * length ps
pairs_length ps = length_flat pair_bytes 8 pair_length ps

-- ---- the trailer

-- Any bytes with a trailer behind them: it says the length of all of it, and the edition.
module _ (front : List ℕ) (edition : ℕ) where
  abbrev pub ended : List ℕ
  ended = front ++ trailer edition (length front + 8)

  pub length_ended : length ended ≡ length front + 8
  length_ended = length-append front (trailer edition (length front + 8)) ∙ rw (trailer_length edition (length front + 8)) refl

  trailer_stands : drop (length ended - 8) ended ≡ trailer edition (length ended)
  trailer_stands =
      drop_at front (trailer edition (length front + 8)) (length ended - 8) (omega (arith, length_ended)) ∙ ap (trailer edition) (sym length_ended)

  pub trailer_ended : has_trailer ended (length ended - 8) edition ≡ true
  unfolding has_trailer
  trailer_ended =
      let t = trailer edition (length ended) in
      rw (trailer_stands, take_all 8 t (omega (arith, trailer_length edition (length ended)))) (is_true (eq_list t t) (eq_list_refl t))

  pub edition_ended : edition < 65536 → edition_of ended ≡ edition
  unfolding trailer edition_of
  edition_ended h =
      let behind = bytes 2 (length front + 8) in
      let long : length (front ++ bytes 4 0) ≡ length ended - 4 =
      length-append front (bytes 4 0) ∙ rw (length_bytes 4 0) (omega (arith, length_ended)) in
      ap (field 2 (length ended - 4)) (sym (append_assoc front (bytes 4 0) (bytes 2 edition ++ behind)))
      ∙ field_back 2 edition (length ended - 4) (front ++ bytes 4 0) behind long h

-- So the file of pairs: how long it is, its trailer and its edition.
file_ended : (ps : List Pair) → file_of ps ≡ ended (flat_map pair_bytes ps) 2
unfolding file_of
file_ended ps = rw (pairs_length ps) refl

pub length_file : (ps : List Pair) → length (file_of ps) ≡ 8 * length ps + 8
length_file ps = rw (file_ended ps, length_ended (flat_map pair_bytes ps) 2, pairs_length ps) refl

pub trailer_file : (ps : List Pair) → has_trailer (file_of ps) (length (file_of ps) - 8) 2 ≡ true
trailer_file ps = rw (file_ended ps) (trailer_ended (flat_map pair_bytes ps) 2)

pub edition_file : (ps : List Pair) → edition_of (file_of ps) ≡ 2
edition_file ps = rw (file_ended ps) (edition_ended (flat_map pair_bytes ps) 2 (omega arith))

-- ---- the pairs

-- A field of what stands behind the first pairs.
field_from : (w i at : ℕ) (s : List ℕ) → field w (8 * i + at) s ≡ field w at (drop (8 * i) s)
unfolding field
field_from w i at s = rw (drop-drop at (8 * i) s) refl

-- A pair that fits is read back from its bytes.
pair_back : (p : Pair) (rest s : List ℕ) (i : ℕ) → Fits p → drop (8 * i) s ≡ pair_bytes p ++ rest → pair_at s i ≡ p
unfolding pair_bytes pair_at value_at
pair_back p rest s i f e =
    let n = bytes 2 p.number in
    let z = bytes 2 p.zeros in
    let v = bytes 4 (digits32 p.value) in
    let a : (n ++ (z ++ v)) ++ rest ≡ n ++ (z ++ (v ++ rest)) = append_assoc n (z ++ v) rest ∙ ap (λ (l : List ℕ). n ++ l) (append_assoc z v rest) in
    let g : 8 * i ≡ 8 * i + 0 = omega arith in
    let number : field 2 (8 * i) s ≡ p.number =
    ap (λ (k : ℕ). field 2 k s) g ∙ field_from 2 i 0 s ∙ ap (field 2 0) (e ∙ a) ∙ field_back 2 p.number 0 [] (z ++ (v ++ rest)) refl f.number in
    let zeros : field 2 (8 * i + 2) s ≡ p.zeros =
    field_from 2 i 2 s ∙ ap (field 2 2) (e ∙ a) ∙ field_back 2 p.zeros 2 n (v ++ rest) (length_bytes 2 p.number) f.zeros in
    let long : length (n ++ z) ≡ 4 = length-append n z ∙ rw (length_bytes 2 p.number, length_bytes 2 p.zeros) refl in
    let value : field 4 (8 * i + 4) s ≡ digits32 p.value =
    field_from 4 i 4 s ∙ ap (field 4 4) (e ∙ a ∙ sym (append_assoc n z (v ++ rest)))
    ∙ field_back 4 (digits32 p.value) 4 (n ++ z) rest long (digits_below p.value f.value) in
    rw (number, zeros, value, signed_digits p.value f.value) refl

-- Each pair of the list has its place, so the pairs of the file are the list.
each_at : (ps : List Pair) (i : ℕ) (d : Pair) → Each Fits ps → i < length ps → Fits (get_or ps i d)
each_at [] i d f h = absurd (omega arith)
each_at (p ∷ ps) zero d f h = f.0
each_at (p ∷ ps) (suc i) d f h = each_at ps i d f.1 (omega arith)

pub pairs_file : (ps : List Pair) → Each Fits ps → pairs_of (file_of ps) ≡ ps
unfolding pairs_of file_of
pairs_file ps f =
    let n : length (file_of ps) / 8 - 1 ≡ length ps = omega (arith, length_file ps) in
    let all = listed 0 (length ps) (pair_at (file_of ps)) in
    let long : length all ≡ length ps = length_listed (pair_at (file_of ps)) 0 (length ps) in
    let none : Pair = pair_at [] 0 in
    ap (λ (k : ℕ). listed 0 k (pair_at (file_of ps))) n
    ∙ ext_get_or none all ps long (λ i h.
    let b : i < length ps = omega (arith, long, h) in
    let z : 0 + i ≡ i = omega arith in
    listed_at (pair_at (file_of ps)) none 0 (length ps) i b
    ∙ rw z (pair_back (get_or ps i none) (flat_map pair_bytes (drop (suc i) ps) ++ trailer 2 (8 * length ps + 8)) (file_of ps) i (each_at ps i none f b)
    (flat_at pair_bytes 8 pair_length ps i none (trailer 2 (8 * length ps + 8)) b)))

-- So the file of good pairs is laid out as asked.
pub laid_out_file : (ps : List Pair) → Each Fits ps → good_pairs 0 ps ≡ true → laid_out (file_of ps) ≡ true
unfolding laid_out
laid_out_file ps f g =
    let m : length (file_of ps) % 8 ≡ 0 = omega (arith, length_file ps) in
    rw (edition_file ps, m, pairs_file ps f, g) refl

-- ---- from a file to its pairs

-- A pair is written back as it stands.
pair_there : (s : List ℕ) (i : ℕ) → Bytes s → 8 * i + 8 ≤ length s → pair_bytes (pair_at s i) ≡ take 8 (drop (8 * i) s)
unfolding pair_bytes pair_at value_at
pair_there s i b h =
    let front = drop (8 * i) s in
    rw (
      digits_signed (field 4 (8 * i + 4) s) (field_below 4 (8 * i + 4) s b),
      bytes_field 2 (8 * i) s b (omega arith),
      bytes_field 2 (8 * i + 2) s b (omega arith),
      bytes_field 4 (8 * i + 4) s b (omega arith),
      ← drop-drop 2 (8 * i) s,
      ← drop-drop 4 (8 * i) s,
    )
    (sym (
    take-add 2 6 front
    ∙ ap (λ (l : List ℕ). take 2 front ++ l) (take-add 2 4 (drop 2 front) ∙ ap (λ (l : List ℕ). take 2 (drop 2 front) ++ take 4 l) (drop-drop 2 2 front))
    ))

pairs_there : (s : List ℕ) (from n : ℕ) → Bytes s → 8 * (from + n) ≤ length s → flat_map pair_bytes (listed from n (pair_at s)) ≡ take (8 * n) (drop (8 * from) s)
unfolding flat_map listed
pairs_there s from zero b h = refl
pairs_there s from (suc n) b h =
    let e : 8 * suc n ≡ 8 + 8 * n = omega arith in
    let f : 8 * from + 8 ≡ 8 * suc from = omega arith in
    rw (e, pair_there s from b (omega arith), pairs_there s (suc from) n b (omega arith))
    (sym (take-add 8 (8 * n) (drop (8 * from) s) ∙ rw (drop-drop 8 (8 * from) s, f) refl))

-- A file that has its trailer ends with it.
pub trailer_there : (s : List ℕ) (edition : ℕ) → has_trailer s (length s - 8) edition ≡ true → drop (length s - 8) s ≡ trailer edition (length s)
unfolding has_trailer
trailer_there s edition t =
    let last = drop (length s - 8) s in
    sym (take_all 8 last (omega (arith, length-drop (length s - 8) s)))
    ∙ eq_list_eq (take 8 last) (trailer edition (length s)) (true_is (eq_list (take 8 last) (trailer edition (length s))) t)

-- A file in eights with its trailer is the file of its pairs.
pub file_pairs : (s : List ℕ) → Bytes s → 8 ≤ length s → length s % 8 ≡ 0 → has_trailer s (length s - 8) 2 ≡ true → file_of (pairs_of s) ≡ s
unfolding file_of pairs_of
file_pairs s b h m t =
    let n = length s / 8 - 1 in
    let at : length s - 8 ≡ 8 * n = omega arith in
    let whole : 8 * n + 8 ≡ length s = omega arith in
    rw (length_listed (pair_at s) 0 n, pairs_there s 0 n b (omega arith), whole, ← trailer_there s 2 t, at) (take-append-drop (8 * n) s)
