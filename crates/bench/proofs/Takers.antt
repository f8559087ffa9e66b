-- Impostors of Q-10: calls that go on asking the paper's words alone, each shut out by the request, whatever else they do.
-- Assumes nothing.
use mathlib.Core.Path.{◌≡◌, refl, sym, ap, ◌∙◌}
use mathlib.Core.Bool.{true, false, false≢true}
use mathlib.Core.List.{List, [], ◌∷◌, ◌++◌}
use Prim.Native.Nat.{ℕ}
use native.Mathlib.Omega.{arith}
use Rattle.numbers.specs.Bytes.{ascii, field, number}
use Rattle.numbers.specs.Tests.{any_of, eq_list, numbered}
use Rattle.program.specs.DriveWords.{drive_words}
use Rattle.program.specs.Names.{letter, digit, word_character, mnemonics, variable_names, paper_variable, paper_word, two_characters, reserved, newly_reserved, free_name}
use Rattle.image.specs.Layout.{trailer_place, cell_count, label_count, variable_count, label_place, name_at}
use Rattle.image.specs.Check.{record_place, record_name}
use Rattle.bench.specs.Demands.{Translate, Check}
use Rattle.bench.specs.Requests.{alone, Request10}
use Rattle.bench.specs.declared.Translated.{Translated}

-- The customer's name is a word of the drives, and none of the paper's.
hi_reserved : (two_characters (ascii "HI") ≡ true) × (reserved (ascii "HI") ≡ true) × (newly_reserved (ascii "HI") ≡ true)
unfolding two_characters letter digit word_character newly_reserved reserved drive_words paper_word mnemonics variable_names paper_variable any_of eq_list numbered ascii
hi_reserved = (refl, refl, refl)

-- No cell, one label HI, no variable.
abbrev hi_image : List ℕ
hi_image = 72 ∷ 73 ∷ 0 ∷ 0 ∷ 0 ∷ 0 ∷ 0 ∷ 0 ∷ 0 ∷ 0 ∷ 1 ∷ 0 ∷ 0 ∷ 0 ∷ 1 ∷ 0 ∷ 20 ∷ 0 ∷ 0 ∷ 0 ∷ []

hi_recorded : (label_count hi_image ≡ 1) × (free_name (record_name hi_image 0) ≡ false)
unfolding label_count variable_count cell_count trailer_place field number record_name record_place label_place name_at free_name two_characters letter digit word_character reserved drive_words any_of eq_list ascii
hi_recorded = (refl, refl)

module _ (translate : Translate) (check : Check) where
  -- A translator that gives `LB HI` another number than 5, 0 for one.
  pub declares_hi : (buffer : List ℕ) → ((translate (alone (ascii "LB " ++ ascii "HI")) buffer).answer.number ≡ 5 → ⊥) → Request10 translate check → ⊥
  declares_hi buffer other r = other ((r.five_label (ascii "HI") buffer hi_reserved.0).1 hi_reserved.1)

  -- A translator that takes `PR HI` for a statement of the wrong form.
  pub hi_of_no_form : (buffer : List ℕ) → (translate (alone (ascii "PR " ++ ascii "HI")) buffer).answer.number ≡ 3 → Request10 translate check → ⊥
  hi_of_no_form buffer e r = let z : ◌≡◌ {A = ℕ} 3 8 = sym e ∙ ap (λ (a : Translated). a.number) (r.eight_read (ascii "HI") buffer hi_reserved.2) in omega arith

  -- A checker that takes an image with a label HI.
  pub keeps_hi : (check hi_image).number ≡ 0 → Request10 translate check → ⊥
  keeps_hi e r = false≢true (sym hi_recorded.1 ∙ r.free_image hi_image e 0 (let n = hi_recorded.0 in omega arith))
