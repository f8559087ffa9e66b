-- What the lines of an accepted text say, each by itself and among the others.
-- Assumes nothing.
use mathlib.Core.Path.{◌≡◌, subst}
use mathlib.Core.Bool.{true, false, not, and-eq-true_iff}
use mathlib.Core.List.{List, [], ◌∷◌, ◌++◌, map, append_assoc, append-nil}
use Prim.Native.Nat.{ℕ, ◌≤◌}
use borrow.Author.Tests.{eqb-true}
use Rattle.text.specs.Lines.{lines}
use Rattle.text.specs.Forms.{Line}
use Rattle.text.specs.Faults.{overlong, heard, repeated, undeclared, read_only_written, said, first_fault, how_many, makes_cell, makes_label, makes_variable}
use Rattle.reading.proofs.Heard as Heard
use Rattle.translation.specs.Images.{accepted}
use Rattle.translation.proofs.Accepted.{Clean, all_clean, no_repeated, no_undeclared, no_read_only, few_cells, few_labels, few_variables}

-- A line of a text, behind those before it.
pub record Good (text before : List Line) (x : Line) : Type 0 where
  pub heard : Heard.Fine x
  pub once : repeated before x ≡ false
  pub known : undeclared text x ≡ false
  pub writable : read_only_written x ≡ false

abbrev pub Sound : List Line → List Line → List Line → Type 0
Sound text before [] = Unit {0}
Sound text before (x ∷ xs) = Good text before x × Sound text (before ++ (x ∷ [])) xs

clean_sound : (text before : List Line) (ls : List (List ℕ)) → Clean text before ls → Sound text before (map heard ls)
clean_sound text before [] h = tt
clean_sound text before (l ∷ ls) h = (
  record {
    heard = Heard.heard_fine l;
    once = no_repeated text before l h.0;
    known = no_undeclared text before l h.0;
    writable = no_read_only text before l h.0;
  },
  clean_sound text (before ++ (heard l ∷ [])) ls h.1,
)

-- Lines that have an image.
pub record Fine (xs : List Line) : Type 0 where
  pub sound : Sound xs [] xs
  pub cells : how_many makes_cell xs ≤ 256
  pub labels : how_many makes_label xs ≤ 160
  pub variables : how_many makes_variable xs ≤ 32

pub fine : (text : List ℕ) → accepted text ≡ true → Fine (said text)
unfolding accepted said
fine text e =
    let n = eqb-true (first_fault text).number 0 ((and-eq-true_iff (not (overlong text)) _).0 e).1 in
    record {
      sound = clean_sound (said text) [] (lines text) (all_clean text n);
      cells = few_cells text n;
      labels = few_labels text n;
      variables = few_variables text n;
    }

-- The line behind these others is good among them.
pub good_at : (text before more : List Line) (x : Line) (rest : List Line) → Sound text before (more ++ (x ∷ rest)) → Good text (before ++ more) x
good_at text before [] x rest h = rw (append-nil before) h.0
good_at text before (y ∷ more) x rest h = rw (← append_assoc before (y ∷ []) more) (good_at text (before ++ (y ∷ [])) more x rest h.1)

pub good : (xs : List Line) → Fine xs → (before : List Line) (x : Line) (rest : List Line) → xs ≡ before ++ (x ∷ rest) → Good xs before x
good xs f before x rest e = good_at xs [] before x rest (subst (Sound xs []) e f.sound)
