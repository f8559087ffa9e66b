-- The listing of an accepted image, read as a text, says just the lines that the image stands for.
-- Assumes nothing.
use mathlib.Core.Path.{◌≡◌, refl, sym, ap, ◌∙◌}
use mathlib.Core.Bool.{Bool, true, false, cond}
use mathlib.Core.List.{List, [], ◌∷◌, ◌++◌, map, flat_map, append_assoc, append-nil}
use Prim.Native.Nat.{ℕ, zero, suc, ◌+◌, ◌≤◌, ◌<◌}
use native.Mathlib.Omega.{arith}
use lib.Dec.{eqb}
use lib.ListN.{length}
use Rattle.numbers.specs.Bytes.{ascii}
use Rattle.numbers.specs.Tests.{listed}
use Rattle.program.specs.Names.{Name}
use Rattle.program.specs.Statements.{Value, Literal, Variable, Condition, Always, Compare, Statement, Set, SetWith, IC, DC, BR, CL, RT, E, H, Hold, OE, Disarm, MA, MR, SL, PR}
use Rattle.program.specs.Cells.{statement_of}
use Rattle.text.specs.Lines.{lines}
use Rattle.text.specs.Forms.{Line, Label, Declared, Acts}
use Rattle.text.specs.Faults.{heard, said}
use Rattle.image.specs.Layout.{cell_count, label_count, variable_count, cell_at, label_place, label_target, variable_place, start_value, name_at}
use Rattle.image.specs.Check.{checked}
use Rattle.printing.specs.Listing.{plain, value_text, condition_text, statement_text, line, variable_line, label_line, label_lines, cell_lines, listing}
use Rattle.listing.specs.Listed.{value_named, condition_named, statement_named, variable_says, label_says, labels_say, cell_says, listed_lines}
use Rattle.listing.proofs.Cut.{lines_line}
use Rattle.listing.proofs.Tokens.{fine_in_line}
use Rattle.listing.proofs.Values.{value_told}
use Rattle.listing.proofs.Told.{condition_told, told, Heard, hears_statement, hears_label, hears_declared}
use Rattle.listing.proofs.Lengths.{statement_short, declared_short, labelled_short}
use Rattle.listing.proofs.Accepted.{Accepted, accepted}
use Rattle.listing.proofs.Sayable.{sayable}

-- Whatever follows it, a text says these lines first.
abbrev Says : List ℕ → List Line → Type 0
Says text xs = (rest : List ℕ) → said (text ++ rest) ≡ xs ++ said rest

says_none : Says [] []
says_none rest = refl

says_both : (a b : List ℕ) (xs ys : List Line) → Says a xs → Says b ys → Says (a ++ b) (xs ++ ys)
says_both a b xs ys p q rest =
    ap said (append_assoc a b rest) ∙ p (b ++ rest) ∙ ap (λ (zs : List Line). xs ++ zs) (q rest) ∙ sym (append_assoc xs ys (said rest))

says_line : (l : List ℕ) (x : Line) → Heard l x → Says (line l) (x ∷ [])
unfolding said line
says_line l x h rest = ap (map heard) (lines_line l rest (fine_in_line l h.kind)) ∙ ap (λ (y : Line). y ∷ map heard (lines rest)) h.hears

-- One after the other, for each number from `from` on.
module _ (f : ℕ → List ℕ) where
  says_each : (g : ℕ → List Line) (from n : ℕ) → ((k : ℕ) → k < from + n → Says (f k) (g k)) → Says (flat_map f (listed from n (λ k. k))) (flat_map g (listed from n (λ k. k)))
  unfolding flat_map listed
  says_each g from zero h = says_none
  says_each g from (suc n) h =
      says_both (f from) (flat_map f (listed (suc from) n (λ k. k))) (g from) (flat_map g (listed (suc from) n (λ k. k)))
      (h from (omega arith)) (says_each g (suc from) n (λ k l. h k (omega arith)))

  says_all : (g : ℕ → Line) (from n : ℕ) → ((k : ℕ) → k < from + n → Says (f k) (g k ∷ [])) → Says (flat_map f (listed from n (λ k. k))) (listed from n g)
  unfolding flat_map listed
  says_all g from zero h = says_none
  says_all g from (suc n) h =
      says_both (f from) (flat_map f (listed (suc from) n (λ k. k))) (g from ∷ []) (listed (suc from) n g)
      (h from (omega arith)) (says_all g (suc from) n (λ k l. h k (omega arith)))

-- The listing prints a statement as it is told by its names.
module _ (s : List ℕ) where
  value_named_lem : (x : Value ℕ) → value_text s x ≡ value_told (value_named s x)
  unfolding value_text value_named
  value_named_lem (Literal z) = refl
  value_named_lem (Variable v) = refl

  condition_named_lem : (c : Condition ℕ) → condition_text s c ≡ condition_told (condition_named s c)
  unfolding condition_text condition_named
  condition_named_lem Always = refl
  condition_named_lem (Compare x c y) = rw (value_named_lem x, value_named_lem y)

  pub statement_named_lem : (a : Statement ℕ) → statement_text s a ≡ told (statement_named s a)
  unfolding statement_text statement_named told
  statement_named_lem (Set v x) = rw (value_named_lem x)
  statement_named_lem (SetWith v x o y) = rw (value_named_lem x, value_named_lem y)
  statement_named_lem (IC v) = refl
  statement_named_lem (DC v) = refl
  statement_named_lem (BR n c) = rw (condition_named_lem c)
  statement_named_lem (CL n c) = rw (condition_named_lem c)
  statement_named_lem RT = refl
  statement_named_lem E = refl
  statement_named_lem H = refl
  statement_named_lem (Hold x) = rw (value_named_lem x)
  statement_named_lem (OE n) = refl
  statement_named_lem Disarm = refl
  statement_named_lem (MA x) = rw (value_named_lem x)
  statement_named_lem (MR x) = rw (value_named_lem x)
  statement_named_lem (SL x) = rw (value_named_lem x)
  statement_named_lem (PR x) = rw (value_named_lem x)

module _ (s : List ℕ) (a : Accepted s) where
  says_variable : (k : ℕ) → k < variable_count s → Says (variable_line s k) (variable_says s k ∷ [])
  unfolding variable_line variable_says
  says_variable k h =
      let w = name_at s (variable_place s k) in
      says_line (ascii "VA " ++ (w ++ (ascii "=" ++ plain (start_value s k)))) (Declared w (start_value s k))
      (hears_declared w (start_value s k) (a.variable_name k h) (a.start_value k h) (omega (arith, declared_short s k)))

  says_label : (target k : ℕ) → k < label_count s → Says (label_line s target k) (label_says s target k)
  unfolding label_line label_says
  says_label target k h = either_way (eqb (label_target s k) target) where
    w : Name
    w = name_at s (label_place s k)

    either_way : (t : Bool) → Says (cond t (line (ascii "LB " ++ w)) []) (cond t (Label w ∷ []) [])
    either_way true = says_line (ascii "LB " ++ w) (Label w) (hears_label w (a.label_name k h) (omega (arith, labelled_short s k)))
    either_way false = says_none

  says_labels : (target : ℕ) → Says (label_lines s target) (labels_say s target)
  unfolding label_lines labels_say
  says_labels target = says_each (label_line s target) (label_says s target) 0 (label_count s) (λ k h. says_label target k (omega arith))

  hears_cell : (k : ℕ) → k < cell_count s → Heard (statement_text s (statement_of (cell_at s k))) (Acts (statement_named s (statement_of (cell_at s k))))
  hears_cell k h =
      let st = statement_of (cell_at s k) in
      let l : length (told (statement_named s st)) ≤ 64 = rw (← statement_named_lem s st) (omega (arith, statement_short s st)) in
      rw (statement_named_lem s st) (hears_statement (statement_named s st) (sayable s a k (a.layout k h)) l)

  says_cell : (k : ℕ) → k < cell_count s → Says (cell_lines s k) (cell_says s k)
  unfolding cell_lines cell_says
  says_cell k h =
      let st = statement_of (cell_at s k) in
      says_both (label_lines s k) (line (statement_text s st)) (labels_say s k) (Acts (statement_named s st) ∷ []) (says_labels k)
      (says_line (statement_text s st) (Acts (statement_named s st)) (hears_cell k h))

  says_listing : Says (listing s) (listed_lines s)
  unfolding listing listed_lines
  says_listing =
      let vs = flat_map (variable_line s) (listed 0 (variable_count s) (λ k. k)) in
      let cs = flat_map (cell_lines s) (listed 0 (cell_count s) (λ k. k)) in
      let xs = listed 0 (variable_count s) (variable_says s) in
      let ys = flat_map (cell_says s) (listed 0 (cell_count s) (λ k. k)) in
      says_both vs (cs ++ label_lines s (cell_count s)) xs (ys ++ labels_say s (cell_count s))
      (says_all (variable_line s) (variable_says s) 0 (variable_count s) (λ k h. says_variable k (omega arith)))
      (says_both cs (label_lines s (cell_count s)) ys (labels_say s (cell_count s))
      (says_each (cell_lines s) (cell_says s) 0 (cell_count s) (λ k h. says_cell k (omega arith)))
      (says_labels (cell_count s)))

said_nothing : said [] ≡ []
unfolding said lines
said_nothing = refl

-- Demand 2: the text of an accepted image says the lines that the image stands for.
pub listing_said : (s : List ℕ) → checked s ≡ 0 → said (listing s) ≡ listed_lines s
listing_said s e =
    ap said (sym (append-nil (listing s))) ∙ says_listing s (accepted s e) []
    ∙ ap (λ (more : List Line). listed_lines s ++ more) said_nothing
    ∙ append-nil (listed_lines s)
