-- What is left of the forms behind LB, VA and OE.
-- Assumes nothing.
use mathlib.Core.Path.{◌≡◌, refl, subst, sym}
use mathlib.Core.List.{List, [], ◌∷◌}
use lib.IntN.{pos}
use Rattle.numbers.specs.Bytes.{ascii}
use Rattle.numbers.specs.Tests.{eq_list, numbered}
use Rattle.program.specs.Names.{Name, letter, word_character, mnemonics, variable_names, paper_variable, paper_word, two_characters, user_name}
use Rattle.program.specs.Statements.{OE, Disarm}
use Rattle.text.specs.Tokens.{Token}
use Rattle.text.specs.Forms.{Label, Declared, Acts, variable_name, Is, New, Target, Start, put, word, takes, fill, Form, form, forms, by_form, statement}

abbrev pub behind_lb : List Form
behind_lb = form (New ∷ []) (λ p. Label p.name) ∷ []

abbrev pub behind_va : List Form
behind_va = form (New ∷ []) (λ p. Declared p.name (pos 0)) ∷ form (New ∷ Is (ascii "=") ∷ Start ∷ []) (λ p. Declared p.name p.start) ∷ []

abbrev pub behind_oe : List Form
behind_oe = form (Target ∷ []) (λ p. Acts (OE p.name)) ∷ form (Is (ascii "0") ∷ []) (λ p. Acts Disarm) ∷ []

-- All that the forms compute with.
unfoldable table : Unit {0}
unfolding statement by_form forms fill takes put word eq_list ascii variable_name paper_variable variable_names user_name two_characters paper_word mnemonics numbered letter word_character
table = tt

module _ (t : Token) (ts : List Token) where
  abbrev Behind : List Form → Name → Type 0
  Behind fs w = statement (record { chars = w; glued = t.glued } ∷ ts) ≡ by_form fs ts

  pub rows_lb : t.chars ≡ ascii "LB" → statement (t ∷ ts) ≡ by_form behind_lb ts
  unfolding table
  rows_lb e = subst (Behind behind_lb) (sym e) refl

  pub rows_va : t.chars ≡ ascii "VA" → statement (t ∷ ts) ≡ by_form behind_va ts
  unfolding table
  rows_va e = subst (Behind behind_va) (sym e) refl

  pub rows_oe : t.chars ≡ ascii "OE" → statement (t ∷ ts) ≡ by_form behind_oe ts
  unfolding table
  rows_oe e = subst (Behind behind_oe) (sym e) refl
