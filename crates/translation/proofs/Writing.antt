-- What the code writes for a line is what the paper has for it, and the pass over the lines writes the parts of the image.
-- Assumes nothing.
use mathlib.Core.Path.{◌≡◌, refl, sym, ap, ◌∙◌}
use mathlib.Core.Bool.{Bool, true, false, cond, ◌&&◌, ◌||◌, not, true≢false, or-false}
use mathlib.Core.List.{List, [], ◌∷◌, ◌++◌, map, map-append, append_assoc}
use Prim.Native.Nat.{ℕ, zero, suc, ◌+◌, ◌*◌, ◌≤◌}
use native.Mathlib.Nat.{add-zero}
use native.Mathlib.Omega.{arith}
use borrow.Author.Tests.{eq-eqb, ne_eqb}
use lib.Dec.{T, eqb}
use lib.IntN.{ℤ}
use lib.ListN.{length, length-append}
use lib.Seq.{sets, length-sets}
use Rattle.numbers.specs.Bytes.{Bytes, bytes}
use Rattle.numbers.specs.Bits.{digits32}
use Rattle.numbers.specs.Tests.{eq_list, any_of}
use Rattle.numbers.proofs.Truth.{is_true}
use Rattle.numbers.proofs.Tests.{eq_list_refl}
use Rattle.program.specs.Names.{Name, paper_variable, free_name}
use Rattle.program.specs.Code.{name_of}
use Rattle.program.specs.Cells.{no_target}
use Rattle.program.specs.declared.Cell.{Cell}
use Rattle.program.proofs.Keys.{IsWord, name_key_lem, two_long, free_two, free_word, single, double}
use Rattle.text.specs.Lines.{lines}
use Rattle.text.specs.Forms.{Line, Blank, Label, Declared, Acts}
use Rattle.text.specs.Faults.{heard, said, declares, declares_it, makes_label, repeated, undeclared, faults, first_fault, place_of, number_of}
use Rattle.text.proofs.Lines.{lines_fit}
use Rattle.reading.specs.Code.{Reading, told_by, said_by, reading_of, placed, resolved}
use Rattle.reading.specs.declared.Said.{Said}
use Rattle.reading.specs.declared.Said.TheVariants as S
use Rattle.reading.proofs.Heard.{Fine, heard_fine, reading_told, cell_resolved}
use Rattle.rows.specs.Rows.{Row, kind, place, row_at, arranged}
use Rattle.names.proofs.Lines.{first_makes_lem}
use Rattle.image.specs.Layout.{cell_bytes}
use Rattle.image.proofs.Back.{label_bytes_lem, variable_bytes_lem}
use Rattle.image.proofs.Laws.{length_cell, length_label, length_variable}
use Rattle.translation.specs.declared.Places.{Places}
use Rattle.translation.specs.Images.{cell_part, label_part, variable_part}
use Rattle.translation.specs.Resolving.{place_in, number_in}
use Rattle.translation.specs.Code.{emit_from, cell_out, label_out, variable_out, emitted_by, places_by, Within}
use Rattle.translation.proofs.Accepted.{NoneOf, Clean, all_clean, no_repeated, no_undeclared}
use Rattle.translation.proofs.Known.{place_known, cell_known}
use Rattle.translation.proofs.Parts.{TwoNamed, AllTwo}

-- The number of a variable: the user's; the paper's. The place of a label.
module _ (rows : List Row) (w : Name) {r : Row} (e : r ≡ row_at rows w) where
  pub number_user : kind r ≡ 2 → 32 + place r ≡ number_in rows w
  unfolding number_in
  number_user h = rw (← e, eq-eqb (kind r) 2 h)

  pub number_paper : {n : ℕ} → (kind r ≡ 2 → ⊥) → n ≡ paper_variable w → n ≡ number_in rows w
  unfolding number_in
  number_paper h k = rw (← e, ne_eqb (kind r) 2 h) k

  pub place_found : place r ≡ place_in rows w
  unfolding place_in
  place_found = rw e

-- A target: no label's; a label's.
module _ (place : Name → ℕ) (k : ℕ) where
  pub target_none : (eqb k 0 || eqb k 65535) ≡ true → k ≡ placed place k
  unfolding no_target
  target_none h = pick (eqb k 0) (eqb k 65535) h
    where
      pick : (a b : Bool) → (a || b) ≡ true → k ≡ cond (not a && not b) (place (name_of k)) k
      pick true b h = refl
      pick false true h = refl
      pick false false h = absurd (true≢false (sym h))

  pub target_placed : (eqb k 0 || eqb k 65535) ≡ false → place (name_of k) ≡ placed place k
  unfolding no_target
  target_placed h = pick (eqb k 0) (eqb k 65535) h
    where
      pick : (a b : Bool) → (a || b) ≡ false → place (name_of k) ≡ cond (not a && not b) (place (name_of k)) k
      pick true b h = absurd (true≢false h)
      pick false true h = absurd (true≢false h)
      pick false false h = refl

-- What is written for a line, by what it says, and the places behind it.
abbrev pub Emitted : List Row → Said → Places → List ℕ → Places → List ℕ → Type 0
Emitted rows x p b q c = (q ≡ places_by rows x p) × (c ≡ emitted_by rows x p b)

module _ (rows : List Row) (p : Places) (b : List ℕ) {c : List ℕ} where
  pub emit_cell : (k z : Cell) → z ≡ resolved (place_in rows) (number_in rows) k → c ≡ sets b p.cell (cell_bytes z)
      → Emitted rows (S.Acts k) p b (record { cell = p.cell + 16; label = p.label; variable = p.variable }) c
  unfolding places_by emitted_by cell_out label_out variable_out
  emit_cell k z e w = (simp (length_cell, add-zero), w ∙ rw e)

  pub emit_label : (k t : ℕ) → t ≡ place_in rows (name_of k) → c ≡ sets b p.label (bytes 2 k ++ bytes 2 t)
      → Emitted rows (S.Label k) p b (record { cell = p.cell; label = p.label + 4; variable = p.variable }) c
  unfolding places_by emitted_by cell_out label_out variable_out
  emit_label k t e w = (simp (length_label, add-zero), w ∙ rw e)

  pub emit_variable : (k : ℕ) (y z : ℤ) → z ≡ y → c ≡ sets b p.variable (bytes 2 k ++ (bytes 2 0 ++ bytes 4 (digits32 z)))
      → Emitted rows (S.Declared k y) p b (record { cell = p.cell; label = p.label; variable = p.variable + 8 }) c
  unfolding places_by emitted_by cell_out label_out variable_out
  emit_variable k y z e w = (simp (length_variable, add-zero), w ∙ rw e)

  pub emit_none : c ≡ b → Emitted rows S.Blank p b p c
  unfolding places_by emitted_by cell_out label_out variable_out
  emit_none w = (simp add-zero, w)

-- A name that is declared has two characters, each a byte.
two_length : (w : Name) → T (free_name w) → length w ≡ 2
two_length w t = two_long w (free_two w t)

word_bytes : {w : Name} → IsWord w → Bytes w
word_bytes (single a) zero = a.1
word_bytes (single a) (suc k) = omega arith
word_bytes (double a b) zero = a.1
word_bytes (double a b) (suc zero) = b.1
word_bytes (double a b) (suc (suc k)) = omega arith

pub two_named : (x : Line) → Fine x → TwoNamed x
two_named Blank f = tt
two_named (Label w) f = two_length w f
two_named (Declared w z) f = two_length w f.0
two_named (Acts s) f = tt

all_heard : (ls : List (List ℕ)) → AllTwo (map heard ls)
all_heard [] = tt
all_heard (l ∷ ls) = (two_named (heard l) (heard_fine l), all_heard ls)

pub all_two : (s : List ℕ) → AllTwo (said s)
unfolding said
all_two s = all_heard (lines s)

-- What is written for a line of a text is what the paper has for it, where its names are declared and none before it declares the same.
module _ (s : List ℕ) (before after : List Line) (l : List ℕ) (e : before ++ (heard l ∷ after) ≡ said s) (clean : NoneOf (faults (said s) before l)) where
  abbrev text : List Line
  text = said s

  abbrev R : List Row
  R = arranged (said s)

  cell_said : (x : Line) → Fine x → undeclared text x ≡ false → cell_out R (said_by x) ≡ cell_part text x
  unfolding cell_out cell_part said_by
  cell_said Blank f h = refl
  cell_said (Label w) f h = refl
  cell_said (Declared w z) f h = refl
  cell_said (Acts t) f h = ap cell_bytes (cell_known s t f.0 f.1 h ∙ sym (cell_resolved (place_of text) (number_of text) t f.0))

  own_place : (w : Name) → heard l ≡ Label w → place_in R w ≡ place_of text w
  unfolding repeated declares declares_it any_of makes_label
  own_place w q =
      let none : repeated before (Label w) ≡ false = sym (ap (repeated before) q) ∙ no_repeated text before l clean in
      let there : before ++ (Label w ∷ after) ≡ text = ap (λ (x : Line). before ++ (x ∷ after)) (sym q) ∙ e in
      let self : declares_it w (Label w) ≡ true = rw (is_true (eq_list w w) (eq_list_refl w)) in
      place_known s w (rw (← there) (first_makes_lem makes_label w before (Label w) after (sym (or-false _) ∙ none) self))

  label_said : (x : Line) → heard l ≡ x → Fine x → label_out R (said_by x) ≡ label_part text x
  unfolding label_out label_part said_by
  label_said Blank q f = refl
  label_said (Label w) q f =
      let i = free_word w f in
      rw (name_key_lem w i, own_place w q) (label_bytes_lem w (place_of text w) (word_bytes i) (two_length w f))
  label_said (Declared w z) q f = refl
  label_said (Acts t) q f = refl

  cell_part_lem : cell_out R (told_by (reading_of l)) ≡ cell_part text (heard l)
  cell_part_lem = rw (reading_told l) (cell_said (heard l) (heard_fine l) (no_undeclared text before l clean))

  label_part_lem : label_out R (told_by (reading_of l)) ≡ label_part text (heard l)
  label_part_lem = rw (reading_told l) (label_said (heard l) refl (heard_fine l))

variable_said : (x : Line) → Fine x → variable_out (said_by x) ≡ variable_part x
unfolding variable_out variable_part said_by
variable_said Blank f = refl
variable_said (Label w) f = refl
variable_said (Declared w z) f = variable_bytes_lem w z (word_bytes (free_word w f.0)) (two_length w f.0)
variable_said (Acts s) f = refl

variable_part_lem : (l : List ℕ) → variable_out (told_by (reading_of l)) ≡ variable_part (heard l)
variable_part_lem l = rw (reading_told l) (variable_said (heard l) (heard_fine l))

-- No line puts more than 16 bytes anywhere.
module _ (rows : List Row) where
  cell_few : (x : Said) → length (cell_out rows x) ≤ 16
  unfolding cell_out
  cell_few S.Blank = omega arith
  cell_few (S.Label k) = omega arith
  cell_few (S.Declared k z) = omega arith
  cell_few (S.Acts c) = omega (arith, length_cell (resolved (place_in rows) (number_in rows) c))

  label_few : (x : Said) → length (label_out rows x) ≤ 16
  unfolding label_out
  label_few S.Blank = omega arith
  label_few (S.Label k) = omega (arith, length_label k (place_in rows (name_of k)))
  label_few (S.Declared k z) = omega arith
  label_few (S.Acts c) = omega arith

variable_few : (x : Said) → length (variable_out x) ≤ 16
unfolding variable_out
variable_few S.Blank = omega arith
variable_few (S.Label k) = omega arith
variable_few (S.Declared k z) = omega (arith, length_variable k (digits32 z))
variable_few (S.Acts c) = omega arith

-- What the lines put into the buffer from these places on.
abbrev pub parts_from : List Line → Places → List Line → List ℕ → List ℕ
parts_from text p xs b = emit_from (cell_part text) (label_part text) variable_part p.cell p.label p.variable xs b

-- At the start of a line: what is left to write gives the whole.
pub record Writing (s : List ℕ) (start : Places) (b₀ b : List ℕ) (p : Places) (rest : List (List ℕ)) : Type 0 where
  pub before : List (List ℕ)
  pub whole : before ++ rest ≡ lines s
  pub clean : Clean (said s) (map heard before) rest
  pub low : Within (65536 + 16 * length before) p
  pub size : length b ≡ length b₀
  pub left : parts_from (said s) p (map heard rest) b ≡ parts_from (said s) start (said s) b₀

pub writing_first : (s t : List ℕ) (p : Places) (b : List ℕ) → t ≡ s → (first_fault s).number ≡ 0 → Within 65536 p → Writing s p b b p (lines t)
unfolding said
writing_first s t p b e z h =
    rw e
    (record {
      before = [];
      whole = refl;
      clean = all_clean s z;
      low = record { cell = omega (arith, h.cell); label = omega (arith, h.label); variable = omega (arith, h.variable) };
      size = refl;
      left = refl;
    })

module _ {s : List ℕ} {start : Places} {b₀ b : List ℕ} {p : Places} {rest : List (List ℕ)} (w : Writing s start b₀ b p rest) where
  module _ {l : List ℕ} {more : List (List ℕ)} (r : rest ≡ l ∷ more) where
    whole_said : map heard w.before ++ (heard l ∷ map heard more) ≡ said s
    unfolding said
    whole_said = sym (map-append heard w.before (l ∷ more)) ∙ ap (map heard) (rw r at w.whole)

    -- The places are near, since the text is short.
    pub places_low : length s ≤ 16384 → Within 4294967296 p
    places_low h =
        let n = w.low in
        let whole : length (w.before ++ (l ∷ more)) ≡ length (lines s) = ap length (rw r at w.whole) in
        let few : length w.before ≤ 16384 = omega (arith, whole, length-append w.before (l ∷ more), lines_fit s) in
        record { cell = omega (arith, n.cell); label = omega (arith, n.label); variable = omega (arith, n.variable) }

    pub writing_more : {q : Reading} {x : Said} {p' : Places} {rows : List Row} {b' : List ℕ} → rows ≡ arranged (said s) → q ≡ reading_of l → x ≡ told_by q
        → (p' ≡ places_by rows x p) × (b' ≡ emitted_by rows x p b) → Writing s start b₀ b' p' more
    unfolding places_by emitted_by emit_from
    writing_more {q} {x} {p'} {rows} {b'} a e t g =
        let xs = said s in
        let before = map heard w.before in
        let i = cell_few rows x in
        let j = label_few rows x in
        let k = variable_few x in
        let n = w.low in
        let told : x ≡ told_by (reading_of l) = t ∙ ap told_by e in
        let cleared : Clean xs before (l ∷ more) = rw r at w.clean in
        let long : length (w.before ++ (l ∷ [])) ≡ suc (length w.before) = length-append w.before (l ∷ []) ∙ omega arith in
        let size : length b' ≡ length b =
        ap length g.1
        ∙ length-sets (sets (sets b p.cell (cell_out rows x)) p.label (label_out rows x)) p.variable (variable_out x)
        ∙ length-sets (sets b p.cell (cell_out rows x)) p.label (label_out rows x)
        ∙ length-sets b p.cell (cell_out rows x) in
        record {
          before = w.before ++ (l ∷ []);
          whole = append_assoc w.before (l ∷ []) more ∙ (rw r at w.whole);
          clean = rw (map-append heard w.before (l ∷ [])) cleared.1;
          low = rw (g.0, long) (record { cell = omega (arith, n.cell); label = omega (arith, n.label); variable = omega (arith, n.variable) });
          size = size ∙ w.size;
          left =
              rw (g.0, g.1, told, a, cell_part_lem s before (map heard more) l whole_said cleared.0, label_part_lem s before (map heard more) l whole_said cleared.0, variable_part_lem l)
              (rw r at w.left);
        }

  pub writing_done : rest ≡ [] → b ≡ parts_from (said s) start (said s) b₀
  unfolding emit_from
  writing_done h = rw h at w.left
