-- The names that the lines of a text declare have two characters.
-- Assumes nothing.
use mathlib.Core.List.{List, [], ◌∷◌, ◌++◌}
use Rattle.text.specs.Forms.{Line}
use Rattle.translation.proofs.Parts.{AllTwo}
use Rattle.translation.proofs.Writing.{two_named}
use Rattle.agreement.proofs.Sound.{Sound, Fine}

sound_two : (text before xs : List Line) → Sound text before xs → AllTwo xs
sound_two text before [] h = tt
sound_two text before (x ∷ xs) h = (two_named x h.0.heard, sound_two text (before ++ (x ∷ [])) xs h.1)

module _ (xs : List Line) (f : Fine xs) where
  pub all_two : AllTwo xs
  all_two = sound_two xs [] xs f.sound
