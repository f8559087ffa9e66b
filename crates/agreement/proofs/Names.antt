-- The names that an accepted text declares: each is one of the user's and declared once, and its record in the image is found by it.
-- Assumes nothing.
use mathlib.Core.Path.{◌≡◌, refl, sym, subst, ap, ◌∙◌}
use mathlib.Core.Bool.{Bool, true, false, cond, ◌||◌}
use mathlib.Core.List.{List, [], ◌∷◌, ◌++◌}
use Prim.Native.Nat.{ℕ, ◌+◌, ◌-◌, ◌<◌}
use native.Mathlib.Omega.{arith}
use borrow.Author.Tests.{lt-ltb, le-ltb, ltb-true, ltb-false}
use lib.Dec.{ltb}
use lib.IntN.{ℤ}
use Rattle.numbers.specs.Tests.{any_of, eq_list}
use Rattle.numbers.proofs.Truth.{is_true, left_of_lem, neither}
use Rattle.numbers.proofs.Tests.{eq_list_refl}
use Rattle.program.specs.Names.{Name, free_name}
use Rattle.text.specs.Forms.{Line, Label, Declared}
use Rattle.text.specs.Faults.{how_many, makes_label, makes_variable, place_of, declares, declares_it, repeated, first_makes}
use Rattle.image.specs.Layout.{label_place, label_target, variable_place, name_at}
use Rattle.image.specs.Check.{record_place, record_name}
use Rattle.translation.specs.Images.{image_of}
use Rattle.names.proofs.Lines.{first_makes_lem}
use Rattle.agreement.proofs.Sound.{Fine, Good, good}
use Rattle.agreement.proofs.Places.{here, label_is, variable_is, rank_by, rank_here}
use Rattle.agreement.proofs.Records.{label_count_lem, label_name_lem, label_target_lem, variable_name_lem}

-- The line that makes the label, or the variable, with this number.
pub record LabelLine (xs : List Line) (k : ℕ) : Type 0 where
  pub before : List Line
  pub name : Name
  pub rest : List Line
  pub whole : xs ≡ before ++ (Label name ∷ rest)
  pub rank : how_many makes_label before ≡ k

pub record VariableLine (xs : List Line) (k : ℕ) : Type 0 where
  pub before : List Line
  pub name : Name
  pub start : ℤ
  pub rest : List Line
  pub whole : xs ≡ before ++ (Declared name start ∷ rest)
  pub rank : how_many makes_variable before ≡ k

pub label_line_lem : (xs : List Line) (k : ℕ) → k < how_many makes_label xs → LabelLine xs k
label_line_lem xs k h =
    let i = here makes_label xs k h in
    let l = label_is i.line i.passes in
    record {
      before = i.before;
      name = l.0;
      rest = i.rest;
      whole = i.whole ∙ ap (λ (x : Line). i.before ++ (x ∷ i.rest)) l.1;
      rank = i.rank;
    }

pub variable_line_lem : (xs : List Line) (k : ℕ) → k < how_many makes_variable xs → VariableLine xs k
variable_line_lem xs k h =
    let i = here makes_variable xs k h in
    let v = variable_is i.line i.passes in
    record {
      before = i.before;
      name = v.0;
      start = v.1;
      rest = i.rest;
      whole = i.whole ∙ ap (λ (x : Line). i.before ++ (x ∷ i.rest)) v.2;
      rank = i.rank;
    }

-- A line that declares a name.
module _ (w : Name) (x : Line) (d : declares x ≡ w ∷ []) where
  pub declares_it_lem : declares_it w x ≡ true
  unfolding declares_it any_of
  declares_it_lem = rw d (is_true (eq_list w w || false) (left_of_lem (eq_list w w) false (eq_list_refl w)))

  module _ (text before : List Line) (g : Good text before x) where
    -- no line before it declares the name
    pub declared_once : any_of (declares_it w) before ≡ false
    unfolding repeated any_of
    declared_once =
        let e : repeated before x ≡ false = g.once in
        (neither (any_of (declares_it w) before) false (rw (repeated, d) at e)).0

-- The number of a name's record, the labels' first.
pub record_of : List Line → Name → ℕ
record_of xs w = cond (first_makes makes_label w xs) (rank_by makes_label xs w) (how_many makes_label xs + rank_by makes_variable xs w)

-- A record of a text's image: its name may be declared, and gives back the number.
pub record Recorded (xs : List Line) (k : ℕ) : Type 0 where
  pub free : free_name (record_name (image_of xs) k) ≡ true
  pub number : record_of xs (record_name (image_of xs) k) ≡ k

module _ (xs : List Line) (f : Fine xs) where
  -- Image 9, Image 10: a label record has the name of its line, and its place
  pub label_record : (k : ℕ) (h : k < how_many makes_label xs)
      → (name_at (image_of xs) (label_place (image_of xs) k) ≡ (label_line_lem xs k h).name) × (label_target (image_of xs) k ≡ place_of xs (label_line_lem xs k h).name)
  label_record k h =
      let l = label_line_lem xs k h in (
        ap (λ (j : ℕ). name_at (image_of xs) (label_place (image_of xs) j)) (sym l.rank) ∙ label_name_lem xs f l.before l.rest l.name l.whole,
        ap (label_target (image_of xs)) (sym l.rank) ∙ label_target_lem xs f l.before l.rest l.name l.whole,
      )

  label_recorded : (k : ℕ) → k < how_many makes_label xs → Recorded xs k
  unfolding record_name record_place record_of makes_label declares
  label_recorded k h =
      let l = label_line_lem xs k h in
      let g = good xs f l.before (Label l.name) l.rest l.whole in
      let place : record_place (image_of xs) k ≡ label_place (image_of xs) k = rw (label_count_lem xs f, lt-ltb k (how_many makes_label xs) h) in
      let n : record_name (image_of xs) k ≡ l.name =
      ap (name_at (image_of xs)) place ∙ (label_record k h).0 in
      let once = declared_once l.name (Label l.name) refl xs l.before g in
      let it = declares_it_lem l.name (Label l.name) refl in
      let first : first_makes makes_label l.name xs ≡ true =
      ap (first_makes makes_label l.name) l.whole ∙ first_makes_lem makes_label l.name l.before (Label l.name) l.rest once it in
      let rank : rank_by makes_label xs l.name ≡ k =
      ap (λ (ys : List Line). rank_by makes_label ys l.name) l.whole
      ∙ rank_here makes_label l.name l.before (Label l.name) l.rest once it
      ∙ l.rank in
      record {
        free = ap free_name n ∙ is_true (free_name l.name) g.heard;
        number = ap (record_of xs) n ∙ rw (first, rank);
      }

  variable_recorded : (k : ℕ) → k < how_many makes_variable xs → Recorded xs (how_many makes_label xs + k)
  unfolding record_name record_place record_of makes_label declares
  variable_recorded k h =
      let l = variable_line_lem xs k h in
      let x = Declared l.name l.start in
      let g = good xs f l.before x l.rest l.whole in
      let less : (how_many makes_label xs + k) - how_many makes_label xs ≡ k = omega arith in
      let place : record_place (image_of xs) (how_many makes_label xs + k) ≡ variable_place (image_of xs) k =
      rw (label_count_lem xs f, le-ltb (how_many makes_label xs + k) (how_many makes_label xs) (omega arith), less) in
      let n : record_name (image_of xs) (how_many makes_label xs + k) ≡ l.name =
      ap (name_at (image_of xs)) (place ∙ ap (variable_place (image_of xs)) (sym l.rank))
      ∙ variable_name_lem xs f l.before l.rest l.name l.start l.whole in
      let once = declared_once l.name x refl xs l.before g in
      let it = declares_it_lem l.name x refl in
      let first : first_makes makes_label l.name xs ≡ false =
      ap (first_makes makes_label l.name) l.whole ∙ first_makes_lem makes_label l.name l.before x l.rest once it in
      let rank : rank_by makes_variable xs l.name ≡ k =
      ap (λ (ys : List Line). rank_by makes_variable ys l.name) l.whole ∙ rank_here makes_variable l.name l.before x l.rest once it ∙ l.rank in
      record {
        free = ap free_name n ∙ is_true (free_name l.name) g.heard.0;
        number = ap (record_of xs) n ∙ rw (first, rank);
      }

  pub recorded : (k : ℕ) → k < how_many makes_label xs + how_many makes_variable xs → Recorded xs k
  recorded k h = go (ltb k (how_many makes_label xs)) refl
    where
      go : (b : Bool) → ltb k (how_many makes_label xs) ≡ b → Recorded xs k
      go true e = label_recorded k (ltb-true k (how_many makes_label xs) e)
      go false e =
          let l = ltb-false k (how_many makes_label xs) e in
          let m : how_many makes_label xs + (k - how_many makes_label xs) ≡ k = omega arith in
          subst (Recorded xs) m (variable_recorded (k - how_many makes_label xs) (omega arith))

  -- no two records have one name
  pub names_apart : (j k : ℕ) → j < how_many makes_label xs + how_many makes_variable xs → k < how_many makes_label xs + how_many makes_variable xs
      → record_name (image_of xs) j ≡ record_name (image_of xs) k → j ≡ k
  names_apart j k h l e = sym (recorded j h).number ∙ ap (record_of xs) e ∙ (recorded k l).number
