-- What the writer stores: the pairs of the chosen names, one behind the other, and the trailer behind them.
-- Assumes nothing.
use mathlib.Core.Path.{◌≡◌, refl, sym, ap, ap₂, ◌∙◌}
use mathlib.Core.Bool.{Bool, true, false, cond, not, or-false}
use mathlib.Core.List.{List, [], ◌++◌, flat_map, append_assoc, append-nil}
use Prim.Native.Nat.{ℕ, ◌+◌, ◌*◌, ◌≤◌}
use native.Mathlib.Omega.{arith}
use lib.IntN.{ℤ}
use lib.ListN.{length, drop, length-append}
use lib.Seq.{sets}
use Rattle.numbers.specs.Bits.{digits32}
use Rattle.numbers.specs.Bytes.{bytes}
use Rattle.numbers.specs.Tests.{any_of}
use Rattle.numbers.proofs.Laws.{bytes_two, sets_append, over_front}
use Rattle.numbers.proofs.Lists.{flat_append}
use Rattle.program.specs.Variables.{in_range}
use Rattle.settings.specs.Layout.{trailer, pair_bytes, file_of}
use Rattle.settings.specs.Sets.{own_range}
use Rattle.settings.specs.Calls.{chosen_pair, chosen_pairs, outside}
use Rattle.settings.specs.declared.Settings.{Settings}
use Rattle.settings.specs.declared.Chosen.{Chosen}
use Rattle.settings.proofs.Files.{length_file}

-- A name that is not chosen, and one that is.
module _ (v : ℕ) (value : ℤ) {t : Bool} where
  pub outside_not : t ≡ false → any_of outside (chosen_pair t v value) ≡ false
  unfolding any_of chosen_pair
  outside_not e = rw e

  pub outside_one : t ≡ true → any_of outside (chosen_pair t v value) ≡ not (in_range (own_range v) value)
  unfolding any_of chosen_pair outside
  outside_one e = rw e (or-false (not (in_range (own_range v) value)))

  pub bytes_not : t ≡ false → flat_map pair_bytes (chosen_pair t v value) ≡ []
  unfolding chosen_pair flat_map
  bytes_not e = rw e

  pub bytes_one : (n : ℕ) → t ≡ true → v ≤ 65535 → bytes 8 n ≡ bytes 4 v ++ bytes 4 (digits32 value) → flat_map pair_bytes (chosen_pair t v value) ≡ bytes 8 n
  unfolding chosen_pair flat_map pair_bytes
  bytes_one n e h b =
      let w : bytes 4 v ≡ bytes 2 v ++ bytes 2 0 = ap (bytes 4) (omega arith) ∙ bytes_two 2 2 v 0 (omega arith) in
      rw (e, append-nil, ← append_assoc, ← w) (sym b)

-- How many bytes a name takes, and the chosen names together.
bytes_long : (t : Bool) (v : ℕ) (value : ℤ) → length (flat_map pair_bytes (chosen_pair t v value)) ≡ cond t 8 0
unfolding chosen_pair flat_map pair_bytes bytes
bytes_long true v value = refl
bytes_long false v value = refl

-- What each of the chosen names adds to a file.
module _ (g : Settings) (which : Chosen) where
  abbrev one : List ℕ
  one = flat_map pair_bytes (chosen_pair which.a 6 g.a)

  abbrev two : List ℕ
  two = flat_map pair_bytes (chosen_pair which.d 7 g.d)

  abbrev three : List ℕ
  three = flat_map pair_bytes (chosen_pair which.vi 8 g.vi)

  abbrev four : List ℕ
  four = flat_map pair_bytes (chosen_pair which.vm 9 g.vm)

  all_bytes : flat_map pair_bytes (chosen_pairs g which) ≡ (one ++ two) ++ (three ++ four)
  unfolding chosen_pairs
  all_bytes =
      flat_append pair_bytes (chosen_pair which.a 6 g.a ++ chosen_pair which.d 7 g.d) (chosen_pair which.vi 8 g.vi ++ chosen_pair which.vm 9 g.vm)
      ∙ ap₂ (λ (x y : List ℕ). x ++ y)
      (flat_append pair_bytes (chosen_pair which.a 6 g.a) (chosen_pair which.d 7 g.d))
      (flat_append pair_bytes (chosen_pair which.vi 8 g.vi) (chosen_pair which.vm 9 g.vm))

  pub all_long : length (flat_map pair_bytes (chosen_pairs g which)) ≡ (cond which.a 8 0 + cond which.d 8 0) + (cond which.vi 8 0 + cond which.vm 8 0)
  all_long =
      ap length all_bytes
      ∙ omega (
        arith,
        length-append (one ++ two) (three ++ four),
        length-append one two,
        length-append three four,
        bytes_long which.a 6 g.a,
        bytes_long which.d 7 g.d,
        bytes_long which.vi 8 g.vi,
        bytes_long which.vm 9 g.vm,
      )

  -- The pairs stored one behind the other.
  pub all_stored : (f k l m n : List ℕ) (x y z : ℕ) → x ≡ cond which.a 8 0 → y ≡ x + cond which.d 8 0 → z ≡ y + cond which.vi 8 0
      → k ≡ sets f 0 one → l ≡ sets k x two → m ≡ sets l y three → n ≡ sets m z four → n ≡ sets f 0 (flat_map pair_bytes (chosen_pairs g which))
  all_stored f k l m n x y z p q r first second third last =
      let u : 0 + length one ≡ x = omega (arith, p, bytes_long which.a 6 g.a) in
      let v : 0 + length (one ++ two) ≡ y = omega (arith, length-append one two, q, u, bytes_long which.d 7 g.d) in
      let w : y + length three ≡ z = omega (arith, r, bytes_long which.vi 8 g.vi) in
      last ∙ sym (
      ap (sets f 0) all_bytes
      ∙ sets_append (one ++ two) f 0 (three ++ four)
      ∙ rw (v, sets_append one f 0 two, u, ← first, ← second) (sets_append three l y four ∙ rw (w, ← third) refl)
      )

-- A file of the chosen names: its pairs, then its trailer.
module _ (g : Settings) (which : Chosen) where
  pub file_long : length (file_of (chosen_pairs g which)) ≡ ((cond which.a 8 0 + cond which.d 8 0) + (cond which.vi 8 0 + cond which.vm 8 0)) + 8
  unfolding file_of trailer bytes
  file_long = length-append (flat_map pair_bytes (chosen_pairs g which)) (trailer 2 (8 * length (chosen_pairs g which) + 8)) ∙ rw (all_long g which) refl

  pub file_stored : (old new : List ℕ) (at n m : ℕ) → at ≡ length (flat_map pair_bytes (chosen_pairs g which)) → new ≡ sets old 0 (flat_map pair_bytes (chosen_pairs g which))
      → n ≡ length (file_of (chosen_pairs g which)) → n ≤ length old → bytes 8 m ≡ trailer 2 n
      → sets new at (bytes 8 m) ≡ file_of (chosen_pairs g which) ++ drop (length (file_of (chosen_pairs g which))) old
  unfolding file_of
  file_stored old new at n m a e f h t =
      let ps = chosen_pairs g which in
      let long : n ≡ 8 * length ps + 8 = f ∙ length_file ps in
      let z : 0 + length (flat_map pair_bytes ps) ≡ at = omega (arith, a) in
      rw (e, t, long) (ap (λ (k : ℕ). sets (sets old 0 (flat_map pair_bytes ps)) k (trailer 2 (8 * length ps + 8))) (sym z)
      ∙ sym (sets_append (flat_map pair_bytes ps) old 0 (trailer 2 (8 * length ps + 8)))
      ∙ over_front (file_of ps) old (omega (arith, f, h)))
