-- The names that the lines of a listing declare are those of the records, each once, the variables' first.
-- Assumes nothing.
use mathlib.Core.Path.{◌≡◌, refl, sym, subst, ap, ap₂, ◌∙◌}
use mathlib.Core.Bool.{Bool, true, false, cond, ◌||◌, not, or-true}
use mathlib.Core.List.{List, [], ◌∷◌, ◌++◌, flat_map, append-nil}
use Prim.Native.Nat.{ℕ, ◌+◌, ◌≤◌, ◌<◌}
use native.Mathlib.Omega.{arith}
use lib.Dec.{T, eqb}
use Rattle.numbers.specs.Tests.{all_of, any_of, listed, eq_list}
use Rattle.numbers.proofs.Lists.{flat_append}
use Rattle.program.specs.Names.{Name}
use Rattle.numbers.proofs.Tests.{all_listed, eq_list_refl, eq_list_eq, all_append}
use Rattle.numbers.proofs.Truth.{both, is_true, is_no}
use Rattle.text.specs.Forms.{Line, Label}
use Rattle.text.specs.Faults.{declares, declares_it, first_makes, makes_label, makes_variable}
use Rattle.names.proofs.Lines.{makes_behind}
use Rattle.image.specs.Layout.{cell_count, label_count, variable_count, label_target}
use Rattle.listing.specs.Listed.{variable_says, label_says, labels_say, cell_says, listed_lines}
use Rattle.listing.proofs.Clear.{all_flat}
use Rattle.listing.proofs.Lists.{numbers, flat_one, any_flat, any_listed, none_listed}
use Rattle.listing.proofs.Recorded.{Recorded, name_of_label, name_of_variable}
use Rattle.listing.proofs.Order.{label_line, body, front, front_body, of_labels, only_variables}

-- The names that lines declare.
abbrev pub declared_by : List Line → List Name
declared_by xs = flat_map declares xs

pub declared_any : (w : Name) (xs : List Line) → any_of (declares_it w) xs ≡ any_of (eq_list w) (declared_by xs)
unfolding declares_it
declared_any w xs = sym (any_flat (eq_list w) declares xs)

-- The first line that declares a name, where all lines make what is asked for: what declares the name passes the test.
module _ (p : Line → Bool) (w : Name) where
  pub makes_here : (xs ys : List Line) → T (all_of (λ x. not (declares_it w x) || p x) xs) → T (any_of (declares_it w) xs) → first_makes p w (xs ++ ys) ≡ true
  unfolding any_of all_of first_makes
  makes_here [] ys a h = absurd h
  makes_here (x ∷ xs) ys a h =
      let c = both (not (declares_it w x) || p x) (all_of (λ y. not (declares_it w y) || p y) xs) a in
      go (declares_it w x) (p x) (any_of (declares_it w) xs) c.0 h (makes_here xs ys c.1)
    where
      go : (b q c : Bool) → T (not b || q) → T (b || c) → (T c → first_makes p w (xs ++ ys) ≡ true) → cond b q (first_makes p w (xs ++ ys)) ≡ true
      go true q c s t f = is_true q s
      go false q c s t f = f t

-- A name among those of some numbers, and one that is not.
named_among : (f : ℕ → Name) (from n k : ℕ) → from ≤ k → k < from + n → T (any_of (eq_list (f k)) (listed from n f))
named_among f from n k l h = any_listed (eq_list (f k)) f from n k l h (eq_list_refl (f k))

named_not : (w : Name) (f : ℕ → Name) (n : ℕ) → ((k : ℕ) → k < n → w ≡ f k → ⊥) → any_of (eq_list w) (listed 0 n f) ≡ false
named_not w f n h = none_listed (eq_list w) f 0 n (λ k l m. is_no (eq_list w (f k)) (λ t. h k (omega arith) (eq_list_eq w (f k) t)))

module _ (s : List ℕ) where
  pub declared_front : declared_by (front s) ≡ listed 0 (variable_count s) (name_of_variable s)
  unfolding declares variable_says
  declared_front = only_variables s declares ∙ flat_one (λ k. declares (variable_says s k)) (name_of_variable s) 0 (variable_count s) (λ k l m. refl)

  -- All lines of variables make one; no other line does.
  front_makes : (w : Name) → T (all_of (λ x. not (declares_it w x) || makes_variable x) (front s))
  unfolding variable_says makes_variable
  front_makes w =
      all_listed (variable_says s) (λ x. not (declares_it w x) || makes_variable x) 0 (variable_count s) (λ k h. rw (or-true (not (declares_it w (variable_says s k)))) tt)

  labels_make : (w : Name) (t : ℕ) → T (all_of (λ x. not (declares_it w x) || makes_label x) (labels_say s t))
  unfolding labels_say label_says makes_label all_of
  labels_make w t = all_flat (λ x. not (declares_it w x) || makes_label x) (label_says s t) (numbers 0 (label_count s)) (λ k. go (eqb (label_target s k) t) (name_of_label s k))
    where
      go : (b : Bool) (v : Name) → T (all_of (λ x. not (declares_it w x) || makes_label x) (cond b (Label v ∷ []) []))
      go true v = rw (or-true (not (declares_it w (Label v)))) tt
      go false v = tt

  body_makes : (w : Name) → T (all_of (λ x. not (declares_it w x) || makes_label x) (body s))
  unfolding cell_says declares_it declares any_of all_of
  body_makes w =
      let p : Line → Bool = λ x. not (declares_it w x) || makes_label x in
      all_append p (flat_map (cell_says s) (numbers 0 (cell_count s))) (labels_say s (cell_count s))
      (all_flat p (cell_says s) (numbers 0 (cell_count s)) (λ k. all_append p (labels_say s k) _ (labels_make w k) tt))
      (labels_make w (cell_count s))

module _ (s : List ℕ) (r : Recorded s) where
  pub declared_body : declared_by (body s) ≡ listed 0 (label_count s) (name_of_label s)
  unfolding declares
  declared_body = of_labels s r declares (λ st. refl) ∙ flat_one (λ k. declares (label_line s k)) (name_of_label s) 0 (label_count s) (λ k l m. refl)

  pub declared_lines : declared_by (listed_lines s) ≡ listed 0 (variable_count s) (name_of_variable s) ++ listed 0 (label_count s) (name_of_label s)
  declared_lines =
      ap declared_by (front_body s) ∙ flat_append declares (front s) (body s) ∙ ap₂ (λ (x y : List Name). x ++ y) (declared_front s) declared_body

  -- The name of a label is declared behind the variables.
  pub label_not_before : (k : ℕ) → k < label_count s → any_of (declares_it (name_of_label s k)) (front s) ≡ false
  label_not_before k h =
      declared_any (name_of_label s k) (front s) ∙ ap (any_of (eq_list (name_of_label s k))) (declared_front s)
      ∙ named_not (name_of_label s k) (name_of_variable s) (variable_count s) (λ j l e. r.apart k j h l e)

  pub label_declared : (k : ℕ) → k < label_count s → first_makes makes_label (name_of_label s k) (listed_lines s) ≡ true
  label_declared k h =
      let w = name_of_label s k in
      let e = declared_any w (body s) ∙ ap (any_of (eq_list w)) declared_body in
      ap (first_makes makes_label w) (front_body s)
      ∙ makes_behind makes_label w (front s) (body s) (label_not_before k h)
      ∙ ap (first_makes makes_label w) (sym (append-nil (body s)))
      ∙ makes_here makes_label w (body s) [] (body_makes s w)
      (subst T (sym e) (named_among (name_of_label s) 0 (label_count s) k (omega arith) (omega arith)))

  pub variable_declared : (k : ℕ) → k < variable_count s → first_makes makes_variable (name_of_variable s k) (listed_lines s) ≡ true
  variable_declared k h =
      let w = name_of_variable s k in
      let e = declared_any w (front s) ∙ ap (any_of (eq_list w)) (declared_front s) in
      ap (first_makes makes_variable w) (front_body s)
      ∙ makes_here makes_variable w (front s) (body s) (front_makes s w)
      (subst T (sym e) (named_among (name_of_variable s) 0 (variable_count s) k (omega arith) (omega arith)))
