-- The words of a line give its text: of a label, a variable, and the two halves of a cell's; and the loops that put them.
-- Assumes nothing.
use mathlib.Core.Path.{◌≡◌, refl, sym, ap, ◌∙◌}
use mathlib.Core.Bool.{Bool, true, false, ◌&&◌, ◌||◌, not}
use mathlib.Core.List.{List, [], ◌∷◌, ◌++◌, flat_map, append_assoc, append-nil}
use Prim.Native.Nat.{ℕ, ◌+◌, ◌-◌, ◌≤◌, ◌<◌}
use native.Mathlib.Nat.{sub-zero}
use borrow.Author.Tests.{le-ltb, lt-ltb, le-leb, lt-leb, eq-eqb, ne_eqb}
use lib.Dec.{ltb, eqb, lit<}
use lib.IntN.{ℤ}
use lib.ListN.{get_or}
use Rattle.numbers.specs.Bytes.{ascii, number}
use Rattle.numbers.proofs.Truth.{if_same, if_below}
use Rattle.program.specs.Names.{mnemonics}
use Rattle.program.specs.Code.{key}
use Rattle.image.specs.Layout.{cell_count, label_count, variable_count, operand_at, cell_at}
use Rattle.printing.specs.Listing.{plain}
use Rattle.printing.specs.Code.{packed, packed_in, Put, if_so, is_there, phrase_text, opening, mnemonic_key, end_of, opening_text, operands_text, label_text, label_next, variable_text, record_text, variable_texts, firsts_of, cell_texts, image_text}
use Rattle.printing.proofs.Packed.{packed_none, packed_spaced}
use Rattle.printing.proofs.Pages.{put_then, put_same, Putting, putting, putting_same, put_all, put_next, pieces_left, pieces_over}
use Rattle.printing.proofs.Targets.{next_there, cell_there, label_first, cell_first, none_left}

-- Two words, and what stands behind them.
two_words : (first second : ℕ) (text rest : List ℕ) → packed first ++ packed second ≡ text → packed first ++ (packed second ++ rest) ≡ text ++ rest
two_words first second text rest e = sym (append_assoc (packed first) (packed second) rest) ∙ ap (λ (xs : List ℕ). xs ++ rest) e

-- One word, and none behind it.
pub one_word : (word : ℕ) → packed word ++ packed 0 ≡ packed word
one_word word = ap (λ (xs : List ℕ). packed word ++ xs) packed_none ∙ append-nil (packed word)

end_packed : packed 10 ≡ 10 ∷ []
unfolding packed packed_in
end_packed = refl

equals_packed : packed 61 ≡ 61 ∷ []
unfolding packed packed_in
equals_packed = refl

label_front_lem : packed 2114124 ≡ packed (key (get_or mnemonics 0 [])) ++ (32 ∷ [])
unfolding number key mnemonics ascii
label_front_lem = packed_spaced 76 66 (lit< tt, lit< tt) (lit< tt, lit< tt)

variable_front_lem : packed 2113878 ≡ packed (key (get_or mnemonics 1 [])) ++ (32 ∷ [])
unfolding number key mnemonics ascii
variable_front_lem = packed_spaced 86 65 (lit< tt, lit< tt) (lit< tt, lit< tt)

pub label_words : (name : ℕ) → flat_map packed (2114124 ∷ name ∷ 10 ∷ []) ≡ phrase_text (key (get_or mnemonics 0 [])) true name 10
unfolding phrase_text if_so flat_map
label_words name =
    let m = packed (key (get_or mnemonics 0 [])) in
    ap (λ (xs : List ℕ). packed 2114124 ++ (packed name ++ xs)) (append-nil (packed 10))
    ∙ ap (λ (xs : List ℕ). xs ++ (packed name ++ packed 10)) label_front_lem
    ∙ append_assoc m (32 ∷ []) (packed name ++ packed 10)

pub variable_words : (name first second : ℕ) (start : ℤ) → packed first ++ packed second ≡ plain start
    → flat_map packed (2113878 ∷ name ∷ 61 ∷ first ∷ second ∷ 10 ∷ []) ≡ variable_text name start
unfolding variable_text phrase_text if_so flat_map
variable_words name first second start e =
    let m = packed (key (get_or mnemonics 1 [])) in
    let rest = plain start ++ (10 ∷ []) in
    ap (λ (xs : List ℕ). packed 2113878 ++ (packed name ++ (packed 61 ++ (packed first ++ (packed second ++ (xs ++ [])))))) end_packed
    ∙ ap (λ (xs : List ℕ). packed 2113878 ++ (packed name ++ (packed 61 ++ xs))) (two_words first second (plain start) (10 ∷ []) e)
    ∙ ap (λ (xs : List ℕ). xs ++ (packed name ++ (packed 61 ++ rest))) variable_front_lem
    ∙ append_assoc m (32 ∷ []) (packed name ++ (packed 61 ++ rest))
    ∙ ap (λ (xs : List ℕ). m ++ (32 ∷ xs)) (sym (append_assoc (packed name) (packed 61) rest))
    ∙ sym (append_assoc m (32 ∷ (packed name ++ packed 61)) rest)

pub operands_words : (first second sign third fourth : ℕ) (left signed right : List ℕ) → packed first ++ packed second ≡ left → packed sign ≡ signed
    → packed third ++ packed fourth ≡ right → flat_map packed (first ∷ second ∷ sign ∷ third ∷ fourth ∷ 10 ∷ []) ≡ left ++ (signed ++ (right ++ (10 ∷ [])))
unfolding flat_map
operands_words first second sign third fourth left signed right e s f =
    two_words first second left (packed sign ++ (packed third ++ (packed fourth ++ (packed 10 ++ [])))) e
    ∙ ap (λ (xs : List ℕ). left ++ (xs ++ (packed third ++ (packed fourth ++ (packed 10 ++ []))))) s
    ∙ ap (λ (xs : List ℕ). left ++ (signed ++ xs)) (two_words third fourth right (packed 10 ++ []) f)
    ∙ ap (λ (xs : List ℕ). left ++ (signed ++ (right ++ (xs ++ [])))) end_packed

-- The end of an opening, where a statement has a mnemonic and where it has none.
opened : (operation name : ℕ) (more : Bool)
    → packed (mnemonic_key operation) ++ (if_so (ltb 2 operation && (more || not (eqb name 0))) (32 ∷ []) ++ (packed name ++ packed (end_of operation more)))
    ≡ opening operation name more
unfolding mnemonic_key end_of opening phrase_text if_so
opened operation name more =
    if_below 2 operation
    (λ h. rw (lt-ltb 2 operation h, lt-leb operation 2 h) refl)
    (λ h. rw (le-ltb 2 operation h, le-leb operation 2 h, packed_none, equals_packed) refl)

pub opening_words : (operation name space : ℕ) (more : Bool) {mnemonic end : ℕ} → mnemonic ≡ mnemonic_key operation
    → packed space ≡ if_so (ltb 2 operation && (more || not (eqb name 0))) (32 ∷ []) → end ≡ end_of operation more
    → flat_map packed (mnemonic ∷ space ∷ name ∷ end ∷ []) ≡ opening operation name more
unfolding flat_map
opening_words operation name space more {mnemonic} {end} m s e =
    ap (λ (xs : List ℕ). packed mnemonic ++ (packed space ++ (packed name ++ xs))) (append-nil (packed end))
    ∙ ap (λ (n : ℕ). packed n ++ (packed space ++ (packed name ++ packed end))) m
    ∙ ap (λ (xs : List ℕ). packed (mnemonic_key operation) ++ (xs ++ (packed name ++ packed end))) s
    ∙ ap (λ (n : ℕ). packed (mnemonic_key operation) ++ (if_so (ltb 2 operation && (more || not (eqb name 0))) (32 ∷ []) ++ (packed name ++ packed n))) e
    ∙ opened operation name more

-- An operand is there by its shape.
pub there : (shape place : ℕ) (s : List ℕ) → (eqb shape 1 || eqb shape 2) ≡ is_there (operand_at shape place s)
unfolding is_there operand_at
there shape place s =
    if_same shape 1
    (λ e. rw (eq-eqb shape 1 e) refl)
    (λ n. if_same shape 2 (λ e. rw (ne_eqb shape 1 n, eq-eqb shape 2 e) refl) (λ m. rw (ne_eqb shape 1 n, ne_eqb shape 2 m) refl))

-- ---- the loop over variables

module _ (s : List ℕ) (k to : ℕ) {whole old page new : List ℕ} {start at next : ℕ} where
  pub variable_next : (words : List ℕ) → k < to → flat_map packed words ≡ record_text s k → Putting whole old start (variable_texts s k to) page at
      → Put (flat_map packed words) page at next new → Putting whole old start (variable_texts s (k + 1) to) new next
  unfolding variable_texts
  variable_next words h e p q = put_next (putting_same (pieces_left (record_text s) k to h) p) (put_same e q)

pub variables_put : (s : List ℕ) (k to : ℕ) {old page : List ℕ} {at : ℕ} → to ≡ variable_count s → to ≤ k
    → Putting (variable_texts s 0 to) old 0 (variable_texts s k to) page at → Put (variable_texts s 0 (variable_count s)) old 0 at page
unfolding variable_texts
variables_put s k to e h p = put_same (ap (variable_texts s 0) e) (put_all (pieces_over (record_text s) k to h) p)

-- ---- the loop over labels and cells

pub cells_first : (s : List ℕ) (old : List ℕ) (start : ℕ) → Putting (cell_texts s (cell_count s) 0 0) old start (cell_texts s (cell_count s - 0) 0 0) old start
cells_first s old start = putting_same (ap (λ (n : ℕ). cell_texts s n 0 0) (sym (sub-zero (cell_count s)))) (putting (cell_texts s (cell_count s) 0 0) old start)

module _ (s : List ℕ) (label cell : ℕ) {cells labels : ℕ} {test : Bool} (c : cells ≡ cell_count s) (l : labels ≡ label_count s) (t : test ≡ label_next s label cell) where
  pub label_there : test ≡ true → label < labels
  label_there e = rw l (next_there s label cell (sym t ∙ e))

  pub cell_here : test ≡ false → (ltb cell cells || ltb label labels) ≡ true → cell < cells
  cell_here e h = rw c (cell_there s label cell (sym t ∙ e) (rw (c, l) at h))

  module _ {whole old page : List ℕ} {start at : ℕ} (p : Putting whole old start (cell_texts s (cell_count s - cell) cell label) page at) where
    -- The line of a label, that of a cell in two halves, and no more.
    pub label_put : (words : List ℕ) {new : List ℕ} {next : ℕ} → test ≡ true → flat_map packed words ≡ label_text s label → Put (flat_map packed words) page at next new
        → Putting whole old start (cell_texts s (cell_count s - cell) cell (label + 1)) new next
    label_put words e w q = put_next (putting_same (label_first s label cell (sym t ∙ e)) p) (put_same w q)

    pub cell_put : (words more : List ℕ) {firsts mid new : List ℕ} {further next : ℕ} → test ≡ false → (ltb cell cells || ltb label labels) ≡ true → firsts ≡ firsts_of s
        → flat_map packed words ≡ opening_text s firsts (cell_at s cell) → flat_map packed more ≡ operands_text s (cell_at s cell)
        → Put (flat_map packed words) page at further mid → Put (flat_map packed more) mid further next new
        → Putting whole old start (cell_texts s (cell_count s - (cell + 1)) (cell + 1) label) new next
    cell_put words more {firsts} e h f w m q r =
        let there : cell < cell_count s = cell_there s label cell (sym t ∙ e) (rw (c, l) at h) in
        put_next (put_next (putting_same (cell_first s label cell (sym t ∙ e) there) p) (put_same (w ∙ ap (λ (keys : List ℕ). opening_text s keys (cell_at s cell)) f) q)) (put_same m r)

-- All lines are put: those of the variables, and behind them those of labels and cells.
pub lines_put : (s : List ℕ) (label cell : ℕ) {cells labels first at : ℕ} {old mid page : List ℕ} → cells ≡ cell_count s → labels ≡ label_count s
    → (ltb cell cells || ltb label labels) ≡ false → Put (variable_texts s 0 (variable_count s)) old 0 first mid
    → Putting (cell_texts s (cell_count s) 0 0) mid first (cell_texts s (cell_count s - cell) cell label) page at → Put (image_text s) old 0 at page
unfolding image_text
lines_put s label cell c l h p q = put_then p (put_all (none_left s label cell (rw (c, l) at h)) q)
