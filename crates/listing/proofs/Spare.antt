-- As many names that may be declared as an image may have, no two of them the same.
-- Assumes nothing.
use mathlib.Core.Path.{◌≡◌, refl, ap}
use mathlib.Core.Bool.{false, not}
use mathlib.Core.List.{[], ◌∷◌}
use Prim.Native.Nat.{ℕ, ◌+◌, ◌/◌, ◌%◌, ◌<◌}
use native.Mathlib.Omega.{arith}
use borrow.Author.Tests.{eqb-false}
use lib.Dec.{eqb}
use lib.ListN.{get_or}
use Rattle.numbers.specs.Bytes.{ascii}
use Rattle.numbers.specs.Tests.{any_below, any_of, eq_list}
use Rattle.numbers.proofs.Tests.{none_below, eq_list_eq}
use Rattle.numbers.proofs.Truth.{is_no, if_same}
use Rattle.program.specs.DriveWords.{drive_words}
use Rattle.program.specs.Names.{Name, letter, digit, word_character, two_characters, reserved, free_name}

-- The letters that no word of the drives has before a digit, and a name of such a letter and a digit for each number below 200.
abbrev letter_of : ℕ → ℕ
letter_of k = get_or (ascii "ABEGHJKLMNPQSTUVWXYZ") k 0

abbrev pub name_of : ℕ → Name
name_of k = letter_of (k / 10) ∷ (48 + k % 10) ∷ []

none_bad : any_below 192 (λ k. not (free_name (name_of k))) ≡ false
unfolding any_below free_name two_characters reserved drive_words letter word_character digit ascii any_of eq_list
none_bad = refl

pub name_good : (k : ℕ) → k < 192 → not (free_name (name_of k)) ≡ false
name_good k h = none_below (λ i. not (free_name (name_of i))) 192 none_bad k h

-- The letters are different, and so are the names.
letters_apart : any_below 20 (λ k. any_below k (λ j. eqb (letter_of j) (letter_of k))) ≡ false
unfolding any_below ascii
letters_apart = refl

pub names_apart : (j k : ℕ) → j < k → k < 192 → eq_list (name_of j) (name_of k) ≡ false
names_apart j k l h = is_no (eq_list (name_of j) (name_of k)) (λ t. go (eq_list_eq (name_of j) (name_of k) t)) where
  go : name_of j ≡ name_of k → ⊥
  go e =
      let d = ap (λ (w : Name). get_or w 1 0) e in
      if_same (j / 10) (k / 10) (λ i. omega arith)
      (λ o. let n = none_below (λ b. any_below b (λ a. eqb (letter_of a) (letter_of b))) 20 letters_apart (k / 10) (omega arith) in
      eqb-false (letter_of (j / 10)) (letter_of (k / 10))
      (none_below (λ a. eqb (letter_of a) (letter_of (k / 10))) (k / 10) n (j / 10) (omega arith)) (ap (λ (w : Name). get_or w 0 0) e))
