-- What is heard of a line: nothing where it has one of the faults 2 to 5, and else what it says.
-- Assumes nothing.
use mathlib.Core.Path.{◌≡◌, refl}
use mathlib.Core.Bool.{Bool, true, false, cond, ◌||◌}
use mathlib.Core.List.{List}
use mathlib.Core.Option.{Option, none, some}
use Prim.Native.Nat.{ℕ}
use Rattle.numbers.specs.Tests.{any_of}
use Rattle.program.specs.Names.{reserved}
use Rattle.text.specs.Forms.{Line, Blank, reading}
use Rattle.text.specs.Faults.{long_line, bad_form, big_literal, reserved_name, big_in, declares, heard}

-- So a fact holds of what is heard if it holds of a blank line, and of what the line says where no literal of it is too big and it declares no reserved name.
module _ (P : Line → Type 0) (l : List ℕ) (blank : P Blank)
    (says : (x : Line) → reading l ≡ some x → big_in x ≡ false → any_of reserved (declares x) ≡ false → P x) where
  by_tests : (x : Line) → reading l ≡ some x → (long big kept : Bool) → big_in x ≡ big → any_of reserved (declares x) ≡ kept → P (cond (long || (false || (big || kept))) Blank x)
  by_tests x e true big kept b r = blank
  by_tests x e false true kept b r = blank
  by_tests x e false false true b r = blank
  by_tests x e false false false b r = says x e b r

  no_form : (long : Bool) → P (cond (long || true) Blank Blank)
  no_form true = blank
  no_form false = blank

  pub heard_by : P (heard l)
  unfolding heard bad_form big_literal reserved_name
  heard_by = pick (reading l) refl (long_line l) where
    pick : (o : Option Line) → reading l ≡ o → (long : Bool)
        → P (cond (long || ((elim o [ none ↦ true | some x ↦ false ]) || ((elim o [ none ↦ false | some x ↦ big_in x ]) || (elim o [ none ↦ false | some x ↦ any_of reserved (declares x) ]))))
        Blank (elim o [ none ↦ Blank | some x ↦ x ]))
    pick none e long = no_form long
    pick (some x) e long = by_tests x e long (big_in x) (any_of reserved (declares x)) refl refl
