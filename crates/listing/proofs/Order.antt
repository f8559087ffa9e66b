-- The labels of a listing stand in the order of their records: before each cell those with this target, a run of them.
-- Assumes nothing.
use mathlib.Core.Path.{◌≡◌, refl, sym, ap, ap₂, ◌∙◌}
use mathlib.Core.Bool.{Bool, true, false, cond}
use mathlib.Core.List.{List, [], ◌∷◌, ◌++◌, flat_map, append_assoc, append-nil}
use Prim.Native.Nat.{ℕ, zero, suc, ◌+◌, ◌-◌, ◌≤◌, ◌<◌}
use native.Mathlib.Decide.{dec_lt}
use native.Mathlib.Nat.{add-zero, sub-zero}
use native.Mathlib.Omega.{arith}
use borrow.Author.Tests.{leb-false, eq-eqb, ne_eqb, leb-true}
use lib.Dec.{eqb, leb}
use Rattle.numbers.specs.Tests.{listed, first_below}
use Rattle.numbers.proofs.Lists.{flat_append}
use Rattle.numbers.proofs.Tests.{first_most, first_passes, first_before}
use Rattle.program.specs.Names.{Name}
use Rattle.program.specs.Statements.{Statement}
use Rattle.program.specs.Cells.{statement_of}
use Rattle.text.specs.Forms.{Line, Label, Acts}
use Rattle.image.specs.Layout.{cell_count, label_count, variable_count, cell_at, label_target}
use Rattle.listing.specs.Listed.{statement_named, variable_says, label_says, labels_say, cell_says, listed_lines}
use Rattle.listing.proofs.Lists.{numbers, flat_flat, flat_same, flat_none, flat_middle, flat_listed, listed_append}
use Rattle.listing.proofs.Recorded.{Recorded, name_of_label}

-- The lines of label record k and of cell k.
abbrev pub label_line : List ℕ → ℕ → Line
label_line s k = Label (name_of_label s k)

abbrev pub cell_line : List ℕ → ℕ → Line
cell_line s k = Acts (statement_named s (statement_of (cell_at s k)))

-- What the cells say, with their labels and those behind the last cell.
abbrev pub body : List ℕ → List Line
body s = flat_map (cell_says s) (numbers 0 (cell_count s)) ++ labels_say s (cell_count s)

abbrev pub front : List ℕ → List Line
front s = listed 0 (variable_count s) (variable_says s)

pub front_body : (s : List ℕ) → listed_lines s ≡ front s ++ body s
unfolding listed_lines
front_body s = refl

-- The first label that has this target or a later one.
unfoldable pub start : List ℕ → ℕ → ℕ
start s t = first_below (label_count s) (λ k. leb t (label_target s k))

module _ (s : List ℕ) (r : Recorded s) where
  pub start_most : (t : ℕ) → start s t ≤ label_count s
  unfolding start
  start_most t = first_most (λ k. leb t (label_target s k)) (label_count s)

  pub earlier : (t k : ℕ) → k < start s t → label_target s k < t
  unfolding start
  earlier t k h = leb-false t (label_target s k) (first_before (λ j. leb t (label_target s j)) (label_count s) k h)

  pub later : (t k : ℕ) → start s t ≤ k → k < label_count s → t ≤ label_target s k
  unfolding start
  later t k h l =
      let a = leb-true t (label_target s (start s t)) (first_passes (λ j. leb t (label_target s j)) (label_count s) (omega arith)) in
      let b = r.rising (start s t) k h l in
      omega arith

  pub start_rise : (t u : ℕ) → t ≤ u → start s t ≤ start s u
  start_rise t u l = go (dec_lt (start s u) (start s t)) where
    go : Dec (start s u < start s t) → start s t ≤ start s u
    go (yes h) =
        let m = start_most t in
        let a = earlier t (start s u) h in
        let b = later u (start s u) (omega arith) (omega arith) in
        absurd (omega arith)
    go (no h) = omega arith

  pub start_first : start s 0 ≡ 0
  start_first = go (dec_lt 0 (start s 0)) where
    go : Dec (0 < start s 0) → start s 0 ≡ 0
    go (yes h) = let a = earlier 0 0 h in absurd (omega arith)
    go (no h) = omega arith

  pub start_last : start s (suc (cell_count s)) ≡ label_count s
  start_last = go (dec_lt (start s (suc (cell_count s))) (label_count s)) where
    go : Dec (start s (suc (cell_count s)) < label_count s) → start s (suc (cell_count s)) ≡ label_count s
    go (yes h) =
        let a = later (suc (cell_count s)) (start s (suc (cell_count s))) (omega arith) h in
        let b = r.inside (start s (suc (cell_count s))) h in
        absurd (omega arith)
    go (no h) = let m = start_most (suc (cell_count s)) in omega arith

  -- The labels of one target are a run of the records.
  labels_run : (t : ℕ) → labels_say s t ≡ listed (start s t) (start s (suc t) - start s t) (label_line s)
  unfolding labels_say label_says
  labels_run t =
      let a = start_rise t (suc t) (omega arith) in
      let b = start_most (suc t) in
      flat_middle (label_says s t) (label_line s) (start s t) (start s (suc t) - start s t) (label_count s - start s (suc t)) (label_count s) (omega arith)
      (λ k l. let c = earlier t k l in rw (ne_eqb (label_target s k) t (λ e. omega arith)))
      (λ k l m. let c = later t k l (omega arith) in let d = earlier (suc t) k (omega arith) in rw (eq-eqb (label_target s k) t (omega arith)))
      (λ k l m. let c = later (suc t) k (omega arith) m in rw (ne_eqb (label_target s k) t (λ e. omega arith)))

  -- What is made of the labels alone, cell by cell and on the whole.
  module _ {A : Type 0} (f : Line → List A) (none : (st : Statement Name) → f (Acts st) ≡ []) where
    abbrev of_label : ℕ → List A
    of_label k = f (label_line s k)

    pub of_run : (t : ℕ) → flat_map f (labels_say s t) ≡ flat_map of_label (numbers (start s t) (start s (suc t) - start s t))
    of_run t = ap (flat_map f) (labels_run t) ∙ flat_listed f (label_line s) (start s t) (start s (suc t) - start s t)

    of_cell : (t : ℕ) → flat_map f (cell_says s t) ≡ flat_map f (labels_say s t)
    unfolding cell_says flat_map
    of_cell t =
        flat_append f (labels_say s t) (cell_line s t ∷ [])
        ∙ ap (λ (l : List A). flat_map f (labels_say s t) ++ (l ++ [])) (none (statement_named s (statement_of (cell_at s t))))
        ∙ append-nil (flat_map f (labels_say s t))

    of_cells : (t n : ℕ) → flat_map f (flat_map (cell_says s) (numbers t n) ++ labels_say s (t + n)) ≡ flat_map of_label (numbers (start s t) (start s (suc (t + n)) - start s t))
    unfolding flat_map listed
    of_cells t zero = rw (add-zero t) (of_run t)
    of_cells t (suc n) =
        let u = suc (suc t + n) in
        let e : t + suc n ≡ suc t + n = omega arith in
        let a = start_rise t (suc t) (omega arith) in
        let b = start_rise (suc t) u (omega arith) in
        let i : start s t + (start s (suc t) - start s t) ≡ start s (suc t) = omega arith in
        let j : (start s (suc t) - start s t) + (start s u - start s (suc t)) ≡ start s u - start s t = omega arith in
        rw (e, append_assoc (cell_says s t) (flat_map (cell_says s) (numbers (suc t) n)) (labels_say s (suc t + n)))
        (flat_append f (cell_says s t) (flat_map (cell_says s) (numbers (suc t) n) ++ labels_say s (suc t + n))
        ∙ ap₂ (λ (x y : List A). x ++ y) (of_cell t ∙ of_run t) (of_cells (suc t) n)
        ∙ sym (flat_append of_label (numbers (start s t) (start s (suc t) - start s t)) (numbers (start s (suc t)) (start s u - start s (suc t))))
        ∙ ap (flat_map of_label)
        (ap (λ (k : ℕ). numbers (start s t) (start s (suc t) - start s t) ++ numbers k (start s u - start s (suc t))) (sym i)
        ∙ sym (listed_append (λ k. k) (start s t) (start s (suc t) - start s t) (start s u - start s (suc t)))
        ∙ ap (numbers (start s t)) j))

    pub of_labels : flat_map f (body s) ≡ flat_map of_label (numbers 0 (label_count s))
    of_labels =
        let e : 0 + cell_count s ≡ cell_count s = omega arith in
        ap (λ (n : ℕ). flat_map f (flat_map (cell_says s) (numbers 0 (cell_count s)) ++ labels_say s n)) (sym e)
        ∙ of_cells 0 (cell_count s)
        ∙ ap (λ (n : ℕ). flat_map of_label (numbers (start s 0) (start s (suc n) - start s 0))) e
        ∙ ap₂ (λ (i n : ℕ). flat_map of_label (numbers i (n - i))) start_first start_last
        ∙ ap (λ (n : ℕ). flat_map of_label (numbers 0 n)) (sub-zero (label_count s))

-- What is made of the cells alone, in whatever order the labels are.
module _ (s : List ℕ) {A : Type 0} (f : Line → List A) (none : (w : Name) → f (Label w) ≡ []) where
  pub no_label : (t : ℕ) → flat_map f (labels_say s t) ≡ []
  unfolding labels_say label_says flat_map
  no_label t =
      flat_flat f (label_says s t) (numbers 0 (label_count s))
      ∙ flat_none (λ k. flat_map f (label_says s t k)) 0 (label_count s) (λ k l m. go (eqb (label_target s k) t) (name_of_label s k))
    where
      go : (b : Bool) (w : Name) → flat_map f (cond b (Label w ∷ []) []) ≡ []
      go true w = ap (λ (l : List A). l ++ []) (none w)
      go false w = refl

  only_cell : (t : ℕ) → flat_map f (cell_says s t) ≡ f (cell_line s t)
  unfolding cell_says flat_map
  only_cell t =
      flat_append f (labels_say s t) (cell_line s t ∷ []) ∙ ap (λ (l : List A). l ++ (f (cell_line s t) ++ [])) (no_label t) ∙ append-nil (f (cell_line s t))

  pub only_cells : flat_map f (body s) ≡ flat_map (λ k. f (cell_line s k)) (numbers 0 (cell_count s))
  only_cells =
      flat_append f (flat_map (cell_says s) (numbers 0 (cell_count s))) (labels_say s (cell_count s))
      ∙ ap₂ (λ (x y : List A). x ++ y)
      (flat_flat f (cell_says s) (numbers 0 (cell_count s)) ∙ flat_same (λ k. flat_map f (cell_says s k)) (λ k. f (cell_line s k)) 0 (cell_count s) (λ k l m. only_cell k))
      (no_label (cell_count s))
      ∙ append-nil (flat_map (λ k. f (cell_line s k)) (numbers 0 (cell_count s)))

-- What is made of the variables.
pub only_variables : (s : List ℕ) {A : Type 0} (f : Line → List A) → flat_map f (front s) ≡ flat_map (λ k. f (variable_says s k)) (numbers 0 (variable_count s))
only_variables s f = flat_listed f (variable_says s) 0 (variable_count s)
