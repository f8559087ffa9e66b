-- The cells of a text's image, read back: each is that of the line with as many cell lines before it.
-- Assumes nothing.
use mathlib.Core.Path.{◌≡◌, refl, sym, subst, ap, ◌∙◌}
use mathlib.Core.Bool.{true, not, and-eq-true_iff}
use mathlib.Core.List.{List, ◌∷◌, ◌++◌, append_assoc, flat_map}
use Prim.Native.Nat.{ℕ, ◌*◌, ◌≤◌, ◌<◌}
use native.Mathlib.Omega.{arith}
use lib.Dec.{lit<}
use lib.ListN.{length}
use Rattle.numbers.proofs.Kit.{within32}
use Rattle.numbers.proofs.Tests.{each_then}
use Rattle.numbers.proofs.Truth.{true_is}
use Rattle.program.specs.Names.{Name}
use Rattle.program.specs.Variables.{literals, present, read_only}
use Rattle.program.specs.Cells.{cell_of, operand_of, no_target}
use Rattle.program.specs.Statements.{Value, Literal, Variable, Statement, operands, writes, targets}
use Rattle.program.proofs.Ranges.{by_present}
use Rattle.program.proofs.Statements.{cell_has, both_read, all_written, all_aimed}
use Rattle.text.specs.Forms.{Line, Acts}
use Rattle.text.specs.Faults.{how_many, makes_cell, makes_variable, place_of, number_of}
use Rattle.image.specs.Layout.{cell_bytes, cell_at}
use Rattle.image.proofs.Back.{GoodOperand, GoodCell, cell_back}
use Rattle.image.proofs.Accepted.{Writes, Reads, Names, Acceptable}
use Rattle.translation.specs.Images.{cell_part, label_part, variable_part, image_of}
use Rattle.translation.specs.Places.{line_at}
use Rattle.translation.proofs.Parts.{parts_length, cells_sized}
use Rattle.agreement.proofs.Sound.{Fine, Good, good}
use Rattle.agreement.proofs.Places.{here, cell_is, line_at_lem}
use Rattle.agreement.proofs.Records.{trailer, part_at, place_below}
use Rattle.agreement.proofs.References.{acceptable}

-- A variable that is present has a number below 64, where there are at most 32 of the user's.
present_below : (users n : ℕ) → users ≤ 32 → present users n ≡ true → n < 64
present_below users n h e = by_present users n (true_is (present users n) e) (λ l m. omega arith) (λ l m. omega arith)

-- The cell of an acceptable statement fits its bytes.
module _ {R : Type 0} (place number : R → ℕ) (s : List ℕ) (variables : ℕ) (few : variables ≤ 32) (near : (n : R) → place n < 65536) where
  good_written_lem : (v : R) → Writes place number s variables v → number v < 256
  unfolding Writes
  good_written_lem v h =
      let l = present_below variables (number v) few ((and-eq-true_iff (present variables (number v)) (not (read_only (number v)))).0 h).0 in
      omega arith

  good_operand_lem : (x : Value R) → Reads place number s variables x → GoodOperand (operand_of place number x)
  unfolding Reads GoodOperand operand_of
  good_operand_lem (Literal z) h = within32 literals.lowest literals.highest z refl refl h
  good_operand_lem (Variable v) h = let l = present_below variables (number v) few h in omega arith

  pub good_cell : (st : Statement R) → Acceptable place number s variables st → GoodCell (cell_of place number st)
  unfolding GoodOperand no_target
  good_cell st h =
      let c = cell_has place number st in
      let x = each_then (Reads place number s variables) (λ x. GoodOperand (operand_of place number x)) good_operand_lem (operands st) h.reads in
      let b = both_read place number GoodOperand tt c.read x in
      record {
        operation = omega (arith, c.operation);
        written = all_written place number (λ w. w < 256) (lit< tt) c.written (each_then (Writes place number s variables) (λ v. number v < 256) good_written_lem (writes st) h.sets);
        selector = omega (arith, c.selector);
        left = b.0;
        right = b.1;
        target = all_aimed place number (λ t. t < 65536) (lit< tt) (lit< tt) c.target (each_then (Names place number s variables) (λ n. place n < 65536) (λ n a. near n) (targets st) h.aims);
      }

-- What stands behind a cell, with these lines behind its own.
abbrev pub cell_rest : List Line → List Line → List ℕ
cell_rest xs rest = flat_map (cell_part xs) rest ++ (flat_map (label_part xs) xs ++ (flat_map variable_part xs ++ trailer xs))

module _ (xs : List Line) (f : Fine xs) (before rest : List Line) (s : Statement Name) (e : xs ≡ before ++ (Acts s ∷ rest)) where
  pub cell_good : GoodCell (cell_of (place_of xs) (number_of xs) s)
  cell_good =
      good_cell (place_of xs) (number_of xs) (image_of xs) (how_many makes_variable xs) f.variables (place_below xs f) s
      (acceptable xs f before s (good xs f before (Acts s) rest e))

  pub cells_before : length (flat_map (cell_part xs) before) ≡ 16 * how_many makes_cell before
  cells_before = parts_length (cell_part xs) makes_cell 16 before (cells_sized xs before)

  pub cell_split : image_of xs ≡ flat_map (cell_part xs) before ++ (cell_bytes (cell_of (place_of xs) (number_of xs) s) ++ cell_rest xs rest)
  unfolding image_of cell_part
  cell_split =
      ap (λ (l : List ℕ). l ++ (flat_map (label_part xs) xs ++ (flat_map variable_part xs ++ trailer xs))) (part_at (cell_part xs) xs before (Acts s) rest e)
      ∙ simp append_assoc

  pub cell_read : cell_at (image_of xs) (how_many makes_cell before) ≡ cell_of (place_of xs) (number_of xs) s
  cell_read =
      ap (λ (i : List ℕ). cell_at i (how_many makes_cell before)) cell_split
      ∙ cell_back (cell_of (place_of xs) (number_of xs) s) cell_good (flat_map (cell_part xs) before) (cell_rest xs rest) (how_many makes_cell before) cells_before

  pub line_read : line_at xs (how_many makes_cell before) ≡ s
  line_read = ap (λ (ys : List Line). line_at ys (how_many makes_cell before)) e ∙ line_at_lem before s rest

-- The line that makes the cell with this number.
pub record CellLine (xs : List Line) (k : ℕ) : Type 0 where
  pub before : List Line
  pub rest : List Line
  pub whole : xs ≡ before ++ (Acts (line_at xs k) ∷ rest)
  pub rank : how_many makes_cell before ≡ k

pub cell_line_lem : (xs : List Line) → Fine xs → (k : ℕ) → k < how_many makes_cell xs → CellLine xs k
cell_line_lem xs f k h =
    let i = here makes_cell xs k h in
    let c = cell_is i.line i.passes in
    let e : xs ≡ i.before ++ (Acts c.0 ∷ i.rest) = i.whole ∙ ap (λ (x : Line). i.before ++ (x ∷ i.rest)) c.1 in
    let l : line_at xs k ≡ c.0 = subst (λ (j : ℕ). line_at xs j ≡ c.0) i.rank (line_read xs f i.before i.rest c.0 e) in
    record { before = i.before; rest = i.rest; whole = e ∙ ap (λ (s : Statement Name). i.before ++ (Acts s ∷ i.rest)) (sym l); rank = i.rank }

-- Image 3: the cell with this number is that of the statement at this place.
pub cell_at_lem : (xs : List Line) → Fine xs → (k : ℕ) → k < how_many makes_cell xs → cell_at (image_of xs) k ≡ cell_of (place_of xs) (number_of xs) (line_at xs k)
cell_at_lem xs f k h =
    let l = cell_line_lem xs f k h in
    subst (λ (j : ℕ). cell_at (image_of xs) j ≡ cell_of (place_of xs) (number_of xs) (line_at xs k)) l.rank
    (cell_read xs f l.before l.rest (line_at xs k) l.whole)

-- The statement at a place is well made, refers to what is there, and its cell fits its bytes.
module _ (xs : List Line) (f : Fine xs) (k : ℕ) (h : k < how_many makes_cell xs) where
  pub line_good : (l : CellLine xs k) → Good xs l.before (Acts (line_at xs k))
  line_good l = good xs f l.before (Acts (line_at xs k)) l.rest l.whole

  pub line_acceptable : Acceptable (place_of xs) (number_of xs) (image_of xs) (how_many makes_variable xs) (line_at xs k)
  line_acceptable = let l = cell_line_lem xs f k h in acceptable xs f l.before (line_at xs k) (line_good l)
