-- Names as numbers: the tests of records on keys are those of Check on names. The keys passed are marked in a table.
-- Assumes nothing.
use mathlib.Core.Path.{◌≡◌, sym, subst, ap, ap₂, ◌∙◌}
use mathlib.Core.Bool.{Bool, true, false, ◌||◌, not}
use mathlib.Core.List.{List}
use mathlib.Core.Logic.{⊎_elim}
use Prim.Native.Nat.{ℕ, ◌+◌, ◌/◌, ◌%◌, ◌^◌, ◌≤◌, ◌<◌}
use native.Mathlib.Omega.{arith}
use native.Mathlib.Decide.{dec_lt}
use borrow.Author.Tests.{lt-ltb, le-ltb}
use lib.Dec.{T, eqb, leb, leb→le, eqb_refl, eqb→eq}
use lib.ListN.{length, get_or}
use Rattle.numbers.specs.Bytes.{Bytes, bytes, number}
use Rattle.numbers.specs.Tests.{eq_list}
use Rattle.numbers.proofs.Laws.{there_and_back, bytes_field, field_below}
use Rattle.program.specs.Names.{letter, digit, word_character, two_characters, reserved, free_name}
use Rattle.program.specs.Code.{name_of}
use Rattle.numbers.proofs.Truth.{both, either, same_test}
use Rattle.numbers.proofs.Tests.{eq_list_refl, eq_list_eq}
use Rattle.program.proofs.Keys.{two_bytes, free_bytes}
use Rattle.image.specs.Layout.{image_length, label_count, variable_count, label_place, variable_place, name_at}
use Rattle.image.specs.Check.{bad_trailer, record_place, record_name, bad_name}
use Rattle.image.proofs.Any.{same_search}
use Rattle.program.proofs.Results.{held, failed}
use Rattle.image.proofs.Records.{Fitting, fitting}
use Rattle.cells.specs.Code.{Marked}
use Rattle.checking.specs.Code.{key_at, repeated_key, bad_key}

-- Two numbers of w bytes are the same where their bytes are.
pub eq_bytes : (w a b : ℕ) → a < 256 ^ w → b < 256 ^ w → eq_list (bytes w a) (bytes w b) ≡ eqb a b
eq_bytes w a b ha hb =
    same_test (eq_list (bytes w a) (bytes w b)) (eqb a b)
    (λ t.
    let e : a ≡ b = sym (there_and_back w a ha) ∙ ap number (eq_list_eq (bytes w a) (bytes w b) t) ∙ there_and_back w b hb in
    subst (λ (m : ℕ). T (eqb a m)) e (eqb_refl a))
    (λ t. subst (λ (m : ℕ). T (eq_list (bytes w a) (bytes w m))) (eqb→eq a b t) (eq_list_refl (bytes w a)))

module _ (s : List ℕ) (byte : Bytes s) (fit : Fitting s) where
  inside : (k : ℕ) → k < label_count s + variable_count s → Dec (k < label_count s) → record_place s k + 2 ≤ length s
  unfolding record_place label_place variable_place image_length
  inside k h (yes l) = let e = fit.size in rw (lt-ltb k (label_count s) l) (omega arith)
  inside k h (no l) = let e = fit.size in rw (le-ltb k (label_count s) (omega arith)) (omega arith)

  name_key_lem : (k : ℕ) → k < label_count s + variable_count s → record_name s k ≡ bytes 2 (key_at s k)
  unfolding record_name name_at key_at
  name_key_lem k h = sym (bytes_field 2 (record_place s k) s byte (inside k h (dec_lt k (label_count s))))

  key_below : (k : ℕ) → key_at s k < 256 ^ 2
  unfolding key_at
  key_below k = field_below 2 (record_place s k) s byte

  -- A bad name is a bad key.
  bad_key_lem : (k : ℕ) → k < label_count s + variable_count s → bad_key s k ≡ bad_name s k
  unfolding bad_name bad_key repeated_key
  bad_key_lem k h =
      ap₂ (λ (u v : Bool). not u || v)
      (sym (ap free_name (name_key_lem k h) ∙ free_bytes (key_at s k) (key_below k)))
      (same_search k (λ j l. sym (ap₂ eq_list (name_key_lem j (omega arith)) (name_key_lem k h) ∙ eq_bytes 2 (key_at s j) (key_at s k) (key_below j) (key_below k))))

-- The same of an image whose trailer is good, by its counts.
pub looked : (s : List ℕ) → Bytes s → bad_trailer s ≡ false → {labels variables : ℕ} → labels ≡ label_count s → variables ≡ variable_count s → (k : ℕ)
    → k < labels + variables → bad_key s k ≡ bad_name s k
looked s byte t l v k h = bad_key_lem s byte (fitting s t) k (omega (arith, l, v))

-- The second character of a name is at most a `Z`, so its number is below 91 * 256.
character_most : (c : ℕ) → T (word_character c) → c ≤ 90
unfolding word_character letter digit
character_most c t =
    ⊎_elim
    (λ l. leb→le c 90 (both (leb 65 c) (leb c 90) l).1)
    (λ d. let h = leb→le c 57 (both (leb 48 c) (leb c 57) d).1 in omega arith)
    (either (letter c) (digit c) t)

pub name_below : (n : ℕ) → T (free_name (name_of n)) → n < 23296
unfolding free_name
name_below n t =
    let two = (both (two_characters (name_of n)) (not (reserved (name_of n))) t).0 in
    let h = character_most (n / 256) (both (letter (n % 256)) (word_character (n / 256)) (rw (two_bytes n) two)).1 in
    omega arith

-- A record's key, by whether it may be declared, and by the marks of those before.
module _ (s : List ℕ) (k : ℕ) {n : ℕ} {u : Bool} (e : n ≡ key_at s k) (eu : u ≡ free_name (name_of n)) where
  pub not_free : u ≡ false → bad_key s k ≡ true
  unfolding bad_key
  not_free f = rw (← e, failed eu f)

  pub key_inside : u ≡ true → n < 23296
  key_inside f = name_below n (rw (held eu f) tt)

  pub free : {marks : List Bool} {t : Bool} → u ≡ true → Marked 23296 (key_at s) k marks → get_or marks n false ≡ t → bad_key s k ≡ t
  unfolding bad_key repeated_key
  free f m et = rw (← e, held eu f) (sym (m.each n (key_inside f)) ∙ et)
