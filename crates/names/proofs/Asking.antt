-- What the code asks of a line by its reading is what the paper asks: the faults 6 to 9.
-- Assumes nothing.
use mathlib.Core.Path.{◌≡◌, refl, sym, ap, ◌∙◌}
use mathlib.Core.Bool.{Bool, true, false, cond, ◌&&◌, ◌||◌, not, true≢false, and-true, and-false, or-true, or-false}
use mathlib.Core.List.{List, [], ◌∷◌, ◌++◌}
use mathlib.Core.Logic.{◌⊎◌, ⊎_elim}
use lib.IntN.{ℤ}
use Prim.Native.Nat.{ℕ, suc, ◌<◌}
use native.Mathlib.Omega.{arith}
use borrow.Author.Tests.{lt-ltb}
use lib.Dec.{eqb, ltb, leb-suc-suc}
use lib.ListN.{length}
use Rattle.std.specs.Prelude.{Result, Ok, Err}
use Rattle.numbers.specs.Tests.{eq_list, any_of, lowest}
use Rattle.numbers.proofs.Truth.{is_true, of_both}
use Rattle.numbers.proofs.Tests.{each_then, any_append, eq_list_refl}
use Rattle.program.specs.Names.{Name, paper_variable}
use Rattle.program.specs.Code.{key, name_of}
use Rattle.program.specs.Cells as Cells
use Rattle.program.specs.Cells.{cell_of, no_target}
use Rattle.program.specs.Statements as Said
use Rattle.program.specs.Statements.{Literal, Variable, Statement, operands}
use Rattle.program.specs.declared.Cell.{Cell}
use Rattle.program.specs.declared.Operand.{Operand}
use Rattle.program.specs.declared.Operand.TheVariants as O
use Rattle.program.proofs.Statements.{cell_has, both_read}
use Rattle.program.proofs.Keys.{key_below, name_key_lem, free_word}
use Rattle.text.specs.Forms.{Line, Blank, Label, Declared, Acts}
use Rattle.text.specs.Faults.{said, heard, declares, declares_it, repeated, too_many, makes_cell, makes_label, makes_variable, long_line, bad_form, big_literal, reserved_name, undeclared, unknown_variable, unknown_value, read_only_written, faults}
use Rattle.reading.specs.Code.{Reading, fault_number, faulty_by, told_by, said_by, reading_of, in_declared, in_cell, in_operand}
use Rattle.reading.specs.declared.Said.{Said}
use Rattle.reading.specs.declared.Said.TheVariants as S
use Rattle.reading.specs.declared.LineFault.{LineFault}
use Rattle.reading.specs.declared.LineFault.TheVariants as E
use Rattle.text.proofs.Words.{variable_word}
use Rattle.text.proofs.Filled.{Known, Named}
use Rattle.reading.proofs.Heard.{Fine, heard_fine, line_fault, reading_told, repeated_asked, unknown_asked, undeclared_asked, read_only_asked}
use Rattle.rows.specs.Rows.{Row, kind, line, row_at, arranged, lines_before}
use Rattle.names.specs.declared.Counts.{Counts}
use Rattle.names.specs.Code.{KeyOperand, Keyed, unknown_variable_in, unknown_value_in, unknown_target, unknown_written, unknown_operand, unknown_cell, read_only_key, first_as, earlier, SaidKeyed, ReadKeyed, repeated_by, too_many_by, counts_of, number_of_fault, lowest_number, fault_by}
use Rattle.names.specs.declared.TextFault.{TextFault}
use Rattle.names.specs.declared.TextFault.TheVariants as F
use Rattle.names.proofs.Arranging.{sought}

-- A variable that is declared as one; any other.
module _ (rows : List Row) (w : Name) {r : Row} (e : r ≡ row_at rows w) where
  pub variable_declared : first_as r 2 ≡ true → false ≡ unknown_variable_in rows w
  unfolding unknown_variable_in
  variable_declared h = rw (← e, h) (sym (and-false (eqb (paper_variable w) 0)))

  pub variable_other : {n : ℕ} → first_as r 2 ≡ false → n ≡ paper_variable w → eqb n 0 ≡ unknown_variable_in rows w
  unfolding unknown_variable_in
  variable_other h k = rw (← e, h, k) (sym (and-true (eqb (paper_variable w) 0)))

-- A target: no label's; a label's.
module _ (rows : List Row) (k : ℕ) where
  pub no_target_lem : (eqb k 0 || eqb k 65535) ≡ true → false ≡ unknown_target rows k
  unfolding unknown_target no_target
  no_target_lem h = pick (eqb k 0) (eqb k 65535) h
    where
      pick : (a b : Bool) → (a || b) ≡ true → false ≡ ((not a && not b) && not (first_as (row_at rows (name_of k)) 1))
      pick true b h = refl
      pick false true h = refl
      pick false false h = absurd (true≢false (sym h))

  pub target_sought : (eqb k 0 || eqb k 65535) ≡ false → not (first_as (row_at rows (name_of k)) 1) ≡ unknown_target rows k
  unfolding unknown_target no_target
  target_sought h = pick (eqb k 0) (eqb k 65535) h
    where
      pick : (a b : Bool) → (a || b) ≡ false → not (first_as (row_at rows (name_of k)) 1) ≡ ((not a && not b) && not (first_as (row_at rows (name_of k)) 1))
      pick true b h = absurd (true≢false h)
      pick false true h = absurd (true≢false h)
      pick false false h = refl

-- The key in an operand.
pub keyed_variable : (o : Operand) (k : ℕ) → o ≡ O.Variable k → KeyOperand o → k < 65536
keyed_variable o k e h = rw e at h

-- A line that makes no cell has none to be asked of.
no_cell_asked : (P : Cell → Bool) (x : Said) → ((c : Cell) → x ≡ S.Acts c → ⊥) → in_cell P x ≡ false
unfolding in_cell
no_cell_asked P S.Blank z = refl
no_cell_asked P (S.Label k) z = refl
no_cell_asked P (S.Declared k y) z = refl
no_cell_asked P (S.Acts c) z = absurd (z c refl)

-- The lowest fault of a line by the tests of its reading.
module _ (rows : List Row) (line : ℕ) (n : Counts) {r : Reading} where
  pub fault_own : {e : LineFault} {f : Result Unit TextFault} → r ≡ Err e → f ≡ Err (F.Own e) → lowest_number f ≡ fault_by rows line n r
  unfolding fault_by faulty_by lowest_number number_of_fault
  fault_own h k = rw (h, k)

  module _ {x : Said} (h : r ≡ Ok x) where
    pub fault_lowest : (a b c d : Bool) → repeated_by rows line x ≡ a → too_many_by n x ≡ b
        → in_cell (unknown_cell rows) x ≡ c → in_cell (λ z. read_only_key z.written) x ≡ d → lowest 6 (a ∷ b ∷ c ∷ d ∷ []) ≡ fault_by rows line n r
    unfolding fault_by faulty_by
    fault_lowest a b c d p q s t = rw (h, p, q, s, t)

    -- A line that makes no cell; one that does.
    pub fault_blank : repeated_by rows line x ≡ false → too_many_by n x ≡ false → ((c : Cell) → x ≡ S.Acts c → ⊥) → 0 ≡ fault_by rows line n r
    unfolding lowest
    fault_blank p q z = fault_lowest false false false false p q (no_cell_asked _ x z) (no_cell_asked _ x z)

    pub fault_acts : {z : Cell} (c d : Bool) → x ≡ S.Acts z → repeated_by rows line x ≡ false → too_many_by n x ≡ false
        → unknown_cell rows z ≡ c → read_only_key z.written ≡ d → lowest 6 (false ∷ false ∷ c ∷ d ∷ []) ≡ fault_by rows line n r
    unfolding in_cell
    fault_acts c d k p q s t = fault_lowest false false c d p q (rw k s) (rw k t)

-- A line without a fault has the number 0.
pub no_fault : (f : Result Unit TextFault) → ((e : TextFault) → f ≡ Err e → ⊥) → lowest_number f ≡ 0
unfolding lowest_number
no_fault (Ok u) h = refl
no_fault (Err e) h = absurd (h e refl)

-- A fault has a number above 0.
pub fault_positive : (e : TextFault) → number_of_fault e ≡ 0 → ⊥
unfolding number_of_fault fault_number
fault_positive (F.Own E.LongLine) h = omega arith
fault_positive (F.Own E.BadForm) h = omega arith
fault_positive (F.Own E.BigLiteral) h = omega arith
fault_positive (F.Own E.ReservedName) h = omega arith
fault_positive F.Repeated h = omega arith
fault_positive F.TooMany h = omega arith
fault_positive F.Undeclared h = omega arith
fault_positive F.ReadOnly h = omega arith

-- The line that is asked is the first to declare a name exactly if none before it does.
first_before : (w : Name) (before : List Line) (x : Line) (after : List Line) → declares_it w x ≡ true
    → ltb (suc (lines_before (before ++ (x ∷ after)) w)) (suc (length before)) ≡ any_of (declares_it w) before
unfolding lines_before any_of
first_before w [] x after d = rw d
first_before w (y ∷ ys) x after d = pick (declares_it w y) (first_before w ys x after d)
  where
    more : ℕ
    more = lines_before (ys ++ (x ∷ after)) w

    pick : (b : Bool) → ltb (suc more) (suc (length ys)) ≡ any_of (declares_it w) ys
        → ltb (suc (cond b 0 (suc more))) (suc (suc (length ys))) ≡ (b || any_of (declares_it w) ys)
    pick true h = lt-ltb 1 (suc (suc (length ys))) (omega arith)
    pick false h = leb-suc-suc (suc (suc more)) (suc (length ys)) ∙ h

any_there : (w : Name) (before : List Line) (x : Line) (after : List Line) → declares_it w x ≡ true → any_of (declares_it w) (before ++ (x ∷ after)) ≡ true
unfolding any_of
any_there w before x after d = any_append (declares_it w) before (x ∷ after) ∙ rw d (or-true (any_of (declares_it w) before))

-- Of a name that is declared, the row tells the line.
earlier_found : (r : Row) (n : ℕ) → eqb (kind r) 0 ≡ false → earlier r n ≡ ltb (line r) n
unfolding earlier
earlier_found r n h = rw h

same_in_cell : (P Q : Cell → Bool) → ((c : Cell) → P c ≡ Q c) → (x : Said) → in_cell P x ≡ in_cell Q x
unfolding in_cell
same_in_cell P Q h S.Blank = refl
same_in_cell P Q h (S.Label k) = refl
same_in_cell P Q h (S.Declared k z) = refl
same_in_cell P Q h (S.Acts c) = h c

-- What the rows of a text tell is what the paper asks of it.
module _ (s : List ℕ) where
  abbrev R : List Row
  R = arranged (said s)

  variable_told : (w : Name) → unknown_variable_in R w ≡ unknown_variable (said s) w
  unfolding unknown_variable_in unknown_variable first_as
  variable_told w = rw (sought s w).variable

  value_told_lem : (x : Said.Value Name) → unknown_value_in R x ≡ unknown_value (said s) x
  unfolding unknown_value_in unknown_value
  value_told_lem (Literal z) = refl
  value_told_lem (Variable w) = variable_told w

  operand_told : (o : Operand) → in_operand (unknown_value_in R) o ≡ in_operand (unknown_value (said s)) o
  operand_told O.Nothing = refl
  operand_told (O.Literal z) = value_told_lem (Literal z)
  operand_told (O.Variable k) = value_told_lem (Variable (name_of k))

  cell_told : (c : Cell) → unknown_asked (said s) c ≡ unknown_cell R c
  unfolding unknown_cell unknown_target unknown_written unknown_operand first_as
  cell_told c = rw ((sought s (name_of c.target)).label, variable_told (name_of c.written), operand_told c.left, operand_told c.right)

  unknown_told : (x : Line) → Fine x → undeclared (said s) x ≡ in_cell (unknown_cell R) (said_by x)
  unknown_told x f = undeclared_asked (said s) x f ∙ same_in_cell _ _ cell_told (said_by x)

  module _ (before : List Line) (x : Line) (after : List Line) (e : before ++ (x ∷ after) ≡ said s) where
    line_told : (w : Name) → declares_it w x ≡ true → any_of (declares_it w) before ≡ earlier (row_at R w) (suc (length before))
    unfolding earlier
    line_told w d =
        let q = sought s w in
        let there : any_of (declares_it w) (said s) ≡ true = rw (← e) (any_there w before x after d) in
        let found = q.none ∙ rw there in
        let first : line (row_at R w) ≡ suc (lines_before (said s) w) = q.first found in
        sym (earlier_found (row_at R w) (suc (length before)) found ∙ rw (first, ← e) (first_before w before x after d))

    repeated_told : Fine x → repeated before x ≡ repeated_by R (suc (length before)) (said_by x)
    unfolding repeated_by in_declared said_by declares_it declares any_of
    repeated_told f = repeated_asked before x f ∙ pick x f line_told
      where
        m : ℕ
        m = suc (length before)

        pick : (y : Line) → Fine y → ((w : Name) → declares_it w y ≡ true → any_of (declares_it w) before ≡ earlier (row_at R w) m)
            → in_declared (λ w. any_of (declares_it w) before) (said_by y) ≡ in_declared (λ w. earlier (row_at R w) m) (said_by y)
        pick Blank g h = refl
        pick (Label w) g h = h (name_of (key w)) (rw (name_key_lem w (free_word w g), is_true (eq_list w w) (eq_list_refl w)))
        pick (Declared w z) g h = h (name_of (key w)) (rw (name_key_lem w (free_word w g.0), is_true (eq_list w w) (eq_list_refl w)))
        pick (Acts t) g h = refl

many_told : (before : List Line) (x : Line) → too_many before x ≡ too_many_by (counts_of before) (said_by x)
unfolding too_many too_many_by counts_of said_by makes_cell makes_label makes_variable
many_told before Blank = refl
many_told before (Label w) = or-false _
many_told before (Declared w z) = refl
many_told before (Acts s) = or-false _

read_only_told : (x : Line) → Fine x → read_only_written x ≡ in_cell (λ c. read_only_key c.written) (said_by x)
unfolding read_only_key
read_only_told x f = read_only_asked x f

-- The paper's lowest fault of a line.
pub fault_by_lem : (s : List ℕ) (before : List Line) (l : List ℕ) (after : List Line) → before ++ (heard l ∷ after) ≡ said s
    → fault_by (arranged (said s)) (suc (length before)) (counts_of before) (reading_of l) ≡ lowest 2 (faults (said s) before l)
unfolding fault_by
fault_by_lem s before l after e =
    let x = heard l in
    let f = heard_fine l in
    rw (reading_told l)
    (sym (line_fault (said s) before l ∙ rw (repeated_told s before x after e f, many_told before x, unknown_told s x f, read_only_told x f)))

-- A line that declares the name with this key.
pub repeated_found : (rows : List Row) (n : ℕ) {x : Said} {k : ℕ} {r : Row} → (x ≡ S.Label k) ⊎ ((z : ℤ) × (x ≡ S.Declared k z)) → r ≡ row_at rows (name_of k)
    → earlier r n ≡ repeated_by rows n x
unfolding repeated_by in_declared
repeated_found rows n h e =
    ap (λ (z : Row). earlier z n) e ∙ ⊎_elim (λ p. sym (ap (repeated_by rows n) p)) (λ p. sym (ap (repeated_by rows n) p.1)) h

-- The keys in a line's cell are those of words.
operand_keyed : (x : Said.Value Name) → Known x → KeyOperand (Cells.operand_of key key x)
unfolding Cells.operand_of
operand_keyed (Literal z) k = tt
operand_keyed (Variable v) k = key_below (variable_word v k)

statement_keyed : (s : Statement Name) → Named s → Keyed (cell_of key key s)
statement_keyed s h =
    let k = each_then Known (λ (x : Said.Value Name). KeyOperand (Cells.operand_of key key x)) operand_keyed (operands s) h.reads in
    let b = both_read key key KeyOperand tt (cell_has key key s).read k in
    record { left = b.0; right = b.1 }

line_keyed : (x : Line) → Fine x → SaidKeyed (said_by x)
unfolding said_by
line_keyed Blank f = tt
line_keyed (Label w) f = tt
line_keyed (Declared w z) f = tt
line_keyed (Acts s) f = statement_keyed s f.0

pub keyed : (l : List ℕ) → ReadKeyed (reading_of l)
unfolding reading_of
keyed l =
    of_both ReadKeyed (long_line l) tt
    (of_both ReadKeyed (bad_form l) tt
    (of_both ReadKeyed (big_literal l) tt (of_both ReadKeyed (reserved_name l) tt (line_keyed (heard l) (heard_fine l)))))

pub keyed_by : (l : List ℕ) {q : Reading} → q ≡ reading_of l → ReadKeyed q
keyed_by l e = rw e (keyed l)

pub told_keyed : (l : List ℕ) {q : Reading} {x : Said} → q ≡ reading_of l → x ≡ told_by q → SaidKeyed x
told_keyed l {q} {x} e f =
    let told : x ≡ said_by (heard l) = f ∙ ap told_by e ∙ reading_told l in
    rw told (line_keyed (heard l) (heard_fine l))

-- The keys in the cell of a line that was read.
pub cell_keyed : {r : Reading} {x : Said} {c : Cell} → ReadKeyed r → r ≡ Ok x → x ≡ S.Acts c → Keyed c
cell_keyed k e f = rw (e, f) at k
