-- The line that the code makes of a cell, of a label and of a variable is that of the listing.
-- Assumes nothing.
use mathlib.Core.Path.{◌≡◌, refl, sym, ap, ◌∙◌}
use mathlib.Core.Bool.{Bool, true, false, ◌&&◌, ◌||◌, or-true, or-false}
use mathlib.Core.List.{List, [], ◌∷◌, ◌++◌, append_assoc}
use Prim.Native.Nat.{ℕ, ◌-◌, ◌%◌, ◌≤◌, ◌<◌}
use native.Mathlib.Omega.{arith}
use borrow.Author.Tests.{lt-ltb, le-ltb, ne_eqb, eqb-true}
use lib.Dec.{T, eqb, leb}
use lib.ListN.{get_or}
use Rattle.numbers.specs.Bytes.{ascii, number, field}
use Rattle.numbers.specs.Tests.{first_below}
use Rattle.numbers.proofs.Tests.{first_found, first_passes}
use Rattle.program.specs.Names.{Name, mnemonics, variable_names, free_name}
use Rattle.program.specs.Variables.{present}
use Rattle.program.specs.Statements.{Value, Literal, Variable, Always, Compare, Statement, Set, SetWith, IC, DC, BR, CL, RT, E, H, Hold, OE, Disarm, MA, MR, SL, PR, operands, compared, writes, targets}
use Rattle.program.specs.Cells.{no_target, same, operand_of, jump_of, cell_of, statement_of}
use Rattle.program.specs.Code.{key}
use Rattle.program.proofs.Keys.{IsWord, single, double, free_word, paper_word_lem, key_positive}
use Rattle.program.proofs.Ranges.{by_present}
use Rattle.program.proofs.Selectors.{operator_back, comparison_back, comparison_some}
use Rattle.text.specs.Forms.{comparison_sign}
use Rattle.image.specs.Layout.{cell_count, label_count, variable_count, cell_at, label_place, label_target, variable_place, start_value, name_at}
use Rattle.printing.specs.Listing.{plain, variable_name, label_name, value_text, condition_text, statement_text, line, variable_line}
use Rattle.printing.specs.Code.{packed, packed_in, if_so, phrase_text, operand_text, is_there, jumps, firsts_of, target_key, name_key, comma_if, opening, operator_text, comparison_text, sign_text, opening_text, operands_text, cell_text, label_text, variable_text, record_text}
use Rattle.printing.proofs.Packed.{packed_number}
use Rattle.listing.proofs.Accepted.{Accepted}
use Rattle.listing.proofs.Recorded.{Recorded}
use Rattle.listing.proofs.Resolved.{Written, Read, Aimed, Resolved, stands}
use Rattle.listing.proofs.Placed.{paper_numbered}
use Rattle.listing.proofs.Firsts.{first_key}

-- A word's key has the word's characters.
pub packed_word : (w : Name) → IsWord w → packed (key w) ≡ w
unfolding key
packed_word [] h = elim h [ ]
packed_word (a ∷ []) (single p) = packed_number (a ∷ []) (p, tt)
packed_word (a ∷ b ∷ []) (double p q) = packed_number (a ∷ b ∷ []) (p, (q, tt))
packed_word (_ ∷ (_ ∷ (_ ∷ _))) h = elim h [ ]

-- A mnemonic, a name, a sign and what stands behind it, however they are put together.
joined : (m w x : List ℕ) (sign : ℕ) → (m ++ (32 ∷ (w ++ (sign ∷ [])))) ++ (x ++ (10 ∷ [])) ≡ (m ++ (32 ∷ (w ++ (sign ∷ x)))) ++ (10 ∷ [])
joined m w x sign = simp append_assoc

joined_condition : (m w x c y : List ℕ)
    → (m ++ (32 ∷ (w ++ (44 ∷ [])))) ++ (x ++ (c ++ (y ++ (10 ∷ [])))) ≡ (m ++ (32 ∷ (w ++ (44 ∷ (x ++ (c ++ y)))))) ++ (10 ∷ [])
joined_condition m w x c y = simp append_assoc

module _ (s : List ℕ) (a : Accepted s) (r : Recorded s) where
  abbrev keys : List ℕ
  keys = firsts_of s

  -- ---- names

  recorded_word : (place : ℕ) → T (free_name (name_at s place)) → packed (field 2 place s) ≡ name_at s place
  unfolding name_at field key
  recorded_word place t = packed_word (name_at s place) (free_word (name_at s place) t)

  variable_word : (v : ℕ) → T (present (variable_count s) v) → IsWord (variable_name s v)
  unfolding variable_name
  variable_word v t =
      by_present (variable_count s) v t
      (λ l m. rw (lt-ltb v 32 (omega arith)) (paper_word_lem (get_or variable_names (v - 1) []) (λ e. let p = paper_numbered (v - 1) (omega arith) in omega arith)))
      (λ l m. rw (le-ltb v 32 l) (free_word (name_at s (variable_place s (v - 32))) (a.variable_name (v - 32) (omega arith))))

  variable_low : (v : ℕ) → T (present (variable_count s) v) → (1 ≤ v) × (v < 64)
  variable_low v t = by_present (variable_count s) v t (λ l m. (l, omega arith)) (λ l m. (omega arith, omega (arith, a.few_variables)))

  variable_key : (v : ℕ) → T (present (variable_count s) v) → key (variable_name s (v % 256)) ≡ key (variable_name s v)
  variable_key v t = let h = variable_low v t in let e : v % 256 ≡ v = omega arith in rw e

  label_word : (n : ℕ) → Aimed s n → IsWord (label_name s n)
  unfolding label_name
  label_word n t = free_word _ (a.label_name (first_below (label_count s) (λ k. eqb (label_target s k) n)) (first_found (λ k. eqb (label_target s k) n) (label_count s) t))

  -- A target that a label has is a cell, or the place behind the last.
  target_low : (n : ℕ) → Aimed s n → n < 257
  target_low n t =
      let k = first_below (label_count s) (λ j. eqb (label_target s j) n) in
      let l = first_found (λ j. eqb (label_target s j) n) (label_count s) t in
      let e = eqb-true (label_target s k) n (first_passes (λ j. eqb (label_target s j) n) (label_count s) l) in
      omega (arith, r.inside k l, a.few_cells)

  target_key_lem : (n : ℕ) → Aimed s n → target_key keys n ≡ key (label_name s n)
  unfolding target_key no_target
  target_key_lem n t = let h = target_low n t in rw (ne_eqb n 65535 (λ e. omega arith)) (first_key s n h t)

  -- ---- operands

  operand_text_lem : (x : Value ℕ) → Read s x → operand_text s (operand_of same same x) ≡ value_text s x
  unfolding operand_text operand_of value_text
  operand_text_lem (Literal z) h = refl
  operand_text_lem (Variable v) h = ap packed (variable_key v h) ∙ packed_word (variable_name s v) (variable_word v h)

  operand_there : (x : Value ℕ) → is_there (operand_of same same x) ≡ true
  unfolding is_there operand_of
  operand_there (Literal z) = refl
  operand_there (Variable v) = refl

  -- ---- the name of a statement, with its key

  -- A key that has the characters of a name, and is not 0.
  abbrev Keyed : ℕ → Name → Type 0
  Keyed k w = (packed k ≡ w) × (eqb k 0 ≡ false)

  word_keyed : (k : ℕ) (w : Name) → k ≡ key w → IsWord w → Keyed k w
  word_keyed k w e p = let h = key_positive p in (ap packed e ∙ packed_word w p, ne_eqb k 0 (λ z. omega arith))

  written_keyed : (o v n : ℕ) → Written s v → Keyed (name_key s keys o v n) (variable_name s v)
  unfolding name_key
  written_keyed o v n h =
      let l = variable_low v h.0 in
      word_keyed (name_key s keys o v n) (variable_name s v) (rw (ne_eqb v 0 (λ e. omega arith)) (variable_key v h.0)) (variable_word v h.0)

  aimed_keyed : (o n : ℕ) → (jumps o || eqb o 10) ≡ true → Aimed s n → Keyed (name_key s keys o 0 n) (label_name s n)
  unfolding name_key
  aimed_keyed o n e t = word_keyed (name_key s keys o 0 n) (label_name s n) (rw e (target_key_lem n t)) (label_word n t)

  -- ---- what stands before the operands

  named : (o k : ℕ) (w : Name) (more : Bool) → leb o 2 ≡ false → Keyed k w
      → opening o k more ≡ packed (key (get_or mnemonics (o - 1) [])) ++ (32 ∷ (w ++ packed (comma_if (more && jumps o))))
  unfolding opening phrase_text if_so
  named o k w more h e = rw (h, e.0, e.1, or-true more) refl

  -- A comma stands before a condition.
  comma : (o : ℕ) → jumps o ≡ true → packed (comma_if (true && jumps o)) ≡ 44 ∷ []
  unfolding comma_if packed packed_in
  comma o h = rw h refl

  assigned : (o k : ℕ) (w : Name) (more : Bool) → leb o 2 ≡ true → Keyed k w → opening o k more ≡ w ++ (61 ∷ [])
  unfolding opening
  assigned o k w more h e = rw (h, e.0) refl

  unnamed : (o : ℕ) (more : Bool) → leb o 2 ≡ false → (jumps o || eqb o 10) ≡ false
      → opening o (name_key s keys o 0 0) more ≡ packed (key (get_or mnemonics (o - 1) [])) ++ (if_so more (32 ∷ []) ++ packed (comma_if (more && jumps o)))
  unfolding opening phrase_text name_key packed packed_in
  unnamed o more h e = rw (h, e, or-false more) refl

  disarm_keyed : Keyed (name_key s keys 10 0 no_target) (48 ∷ [])
  unfolding name_key jumps target_key no_target packed packed_in
  disarm_keyed = (refl, refl)

  -- ---- statements

  cell_text_lem : (st : Statement ℕ) → Resolved s st → cell_text s keys (cell_of same same st) ≡ line (statement_text s st)
  unfolding cell_text opening_text operands_text cell_of jump_of operand_text is_there sign_text jumps operator_text comparison_text comma_if if_so packed packed_in mnemonics ascii key number statement_text condition_text line operands writes targets compared
  cell_text_lem (Set v x) h = rw (assigned 1 _ _ _ refl (written_keyed 1 v 0 h.sets.0), operand_text_lem x h.reads.0) (simp append_assoc)
  cell_text_lem (SetWith v x o y) h =
      rw (assigned 2 _ _ _ refl (written_keyed 2 v 0 h.sets.0), operand_text_lem x h.reads.0, operand_text_lem y h.reads.1.0, operator_back o) (simp append_assoc)
  cell_text_lem (IC v) h = rw (named 3 _ _ false refl (written_keyed 3 v 0 h.sets.0)) (simp append_assoc)
  cell_text_lem (DC v) h = rw (named 4 _ _ false refl (written_keyed 4 v 0 h.sets.0)) (simp append_assoc)
  cell_text_lem (BR n Always) h = rw (named 5 _ _ false refl (aimed_keyed 5 n refl h.aims.0)) (simp append_assoc)
  cell_text_lem (BR n (Compare x c y)) h =
      rw (operand_there x, named 5 _ _ true refl (aimed_keyed 5 n refl h.aims.0), comma 5 refl, operand_text_lem x h.reads.0, operand_text_lem y h.reads.1.0, comparison_some c, comparison_back c)
      (joined_condition (ascii "BR") (label_name s n) (value_text s x) (comparison_sign c) (value_text s y))
  cell_text_lem (CL n Always) h = rw (named 6 _ _ false refl (aimed_keyed 6 n refl h.aims.0)) (simp append_assoc)
  cell_text_lem (CL n (Compare x c y)) h =
      rw (operand_there x, named 6 _ _ true refl (aimed_keyed 6 n refl h.aims.0), comma 6 refl, operand_text_lem x h.reads.0, operand_text_lem y h.reads.1.0, comparison_some c, comparison_back c)
      (joined_condition (ascii "CL") (label_name s n) (value_text s x) (comparison_sign c) (value_text s y))
  cell_text_lem RT h = rw (unnamed 7 false refl refl) refl
  cell_text_lem E h = rw (unnamed 8 false refl refl) refl
  cell_text_lem H h = rw (unnamed 9 false refl refl) refl
  cell_text_lem (Hold x) h = rw (operand_there x, unnamed 9 true refl refl, operand_text_lem x h.reads.0) (simp append_assoc)
  cell_text_lem (OE n) h = rw (named 10 _ _ false refl (aimed_keyed 10 n refl h.aims.0)) (simp append_assoc)
  cell_text_lem Disarm h = rw (named 10 _ _ false refl disarm_keyed) refl
  cell_text_lem (MA x) h = rw (operand_there x, unnamed 11 true refl refl, operand_text_lem x h.reads.0) (simp append_assoc)
  cell_text_lem (MR x) h = rw (operand_there x, unnamed 12 true refl refl, operand_text_lem x h.reads.0) (simp append_assoc)
  cell_text_lem (SL x) h = rw (operand_there x, unnamed 13 true refl refl, operand_text_lem x h.reads.0) (simp append_assoc)
  cell_text_lem (PR x) h = rw (operand_there x, unnamed 14 true refl refl, operand_text_lem x h.reads.0) (simp append_assoc)

  -- ---- lines

  pub cell_line_lem : (k : ℕ) → k < cell_count s → cell_text s keys (cell_at s k) ≡ line (statement_text s (statement_of (cell_at s k)))
  cell_line_lem k h = let t = stands s k (a.layout k h) in sym (ap (cell_text s keys) t.again) ∙ cell_text_lem (statement_of (cell_at s k)) t.resolved

  pub label_line_lem : (k : ℕ) → k < label_count s → label_text s k ≡ line (ascii "LB " ++ name_at s (label_place s k))
  unfolding label_text phrase_text if_so packed packed_in mnemonics key number ascii line name_at field
  label_line_lem k h = rw (recorded_word (label_place s k) (a.label_name k h)) (simp append_assoc)

  pub variable_line_lem : (k : ℕ) → k < variable_count s → record_text s k ≡ variable_line s k
  unfolding record_text variable_text phrase_text if_so packed packed_in mnemonics key number ascii line name_at field variable_line
  variable_line_lem k h =
      rw (recorded_word (variable_place s k) (a.variable_name k h)) (joined (ascii "VA") (name_at s (variable_place s k)) (plain (start_value s k)) 61)
