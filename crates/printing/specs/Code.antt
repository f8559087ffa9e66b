-- How the code goes about a listing: words of a few bytes, each as one number, put on a page one behind the other; labels by a cursor, and by a
-- table for the targets. No demand reaches this; `written` in crates/listing/proofs/Written.antt ties it to Listing.
-- Assumes nothing.
use Rattle.std.specs.Prelude.{◌≡◌, Bool, true, false, cond, ◌&&◌, ◌||◌, not, ℕ, zero, suc, ◌+◌, ◌*◌, ◌-◌, ◌/◌, ◌%◌, eqb, ltb, leb, ℤ, length, get_or, set, drop, replicate}
use mathlib.Core.List.{List, [], ◌∷◌, ◌++◌, flat_map}
use Rattle.std.proofs.lemmas.List.Edits.{sets}
use Rattle.numbers.specs.Bytes.{field}
use Rattle.numbers.specs.Tests.{listed}
use Rattle.program.specs.Names.{mnemonics}
use Rattle.program.specs.Cells.{no_target, operator_of, comparison_of}
use Rattle.program.specs.Code.{key}
use Rattle.program.specs.declared.Cell.{Cell}
use Rattle.program.specs.declared.Operand.{Operand}
use Rattle.program.specs.declared.Operand.TheVariants.{Nothing, Literal, Variable}
use Rattle.text.specs.Forms.{operator_sign, comparison_sign}
use Rattle.image.specs.Layout.{cell_count, label_count, variable_count, cell_at, label_place, label_target, variable_place, start_value}
use Rattle.printing.specs.Listing.{plain, variable_name}

-- The bytes of a word, the lowest first, up to the highest that is not 0: at most w of them; all.
unfoldable pub packed_in : ℕ → ℕ → List ℕ
packed_in zero n = []
packed_in (suc w) n = cond (eqb n 0) [] (n % 256 ∷ packed_in w (n / 256))

unfoldable pub packed : ℕ → List ℕ
packed n = packed_in n n

-- The place behind these bytes, put from `at` on as far as there is room.
unfoldable pub behind : ℕ → ℕ → List ℕ → ℕ
behind room at [] = at
behind room at (x ∷ xs) = cond (ltb at room) (behind room (suc at) xs) at

-- These bytes were put on a page from `at` on, as far as there is room, and `next` is the place behind them.
pub record Put (xs old : List ℕ) (at next : ℕ) (new : List ℕ) : Type 0 where
  pub place : next ≡ behind (length old) at xs
  pub page : new ≡ sets old at xs

-- The last digits of n, so many, in front of a word.
unfoldable pub digits_onto : ℕ → ℕ → ℕ → ℕ
digits_onto zero n word = word
digits_onto (suc w) n word = digits_onto w (n / 10) (word * 256 + (48 + n % 10))

-- A number of digits, but no fewer than asked for.
unfoldable pub at_least : ℕ → ℕ → ℕ
at_least least width = cond (ltb width least) least width

-- Bytes where a test holds, and else none.
unfoldable pub if_so : Bool → List ℕ → List ℕ
if_so test xs = cond test xs []

-- A mnemonic, a space where more follows, a name, and what ends it.
unfoldable pub phrase_text : ℕ → Bool → ℕ → ℕ → List ℕ
phrase_text mnemonic spaced name end = packed mnemonic ++ (if_so spaced (32 ∷ []) ++ (packed name ++ packed end))

unfoldable pub operand_text : List ℕ → Operand → List ℕ
operand_text s Nothing = []
operand_text s (Literal z) = plain z
operand_text s (Variable v) = packed (key (variable_name s (v % 256)))

unfoldable pub is_there : Operand → Bool
is_there Nothing = false
is_there (Literal z) = true
is_there (Variable v) = true

unfoldable pub jumps : ℕ → Bool
jumps operation = eqb operation 5 || eqb operation 6

-- The keys of the first labels by target, once label records k - 1 to 0 are entered: the first of several stays.
unfoldable pub firsts_from : List ℕ → ℕ → List ℕ → List ℕ
firsts_from s zero keys = keys
firsts_from s (suc k) keys = firsts_from s k (set keys (label_target s k) (field 2 (label_place s k) s))

unfoldable pub firsts_of : List ℕ → List ℕ
firsts_of s = firsts_from s (label_count s) (replicate 257 0)

-- The key of a target's first label, or of the digit in `OE 0`.
unfoldable pub target_key : List ℕ → ℕ → ℕ
target_key firsts target = cond (eqb target no_target) 48 (get_or firsts target 0)

-- The key of the name that a statement begins with, or has behind its mnemonic; 0 where there is none.
unfoldable pub name_key : List ℕ → List ℕ → ℕ → ℕ → ℕ → ℕ
name_key s firsts operation written target =
    cond (eqb written 0)
    (cond (jumps operation || eqb operation 10) (target_key firsts target) 0)
    (key (variable_name s (written % 256)))

unfoldable pub comma_if : Bool → ℕ
comma_if test = cond test 44 0

-- What stands before the operands.
unfoldable pub opening : ℕ → ℕ → Bool → List ℕ
opening operation name more =
    cond (leb operation 2)
    (packed name ++ (61 ∷ []))
    (phrase_text (key (get_or mnemonics (operation - 1) [])) (more || not (eqb name 0)) name (comma_if (more && jumps operation)))

-- The sign of an operator and of a comparison by its number, and the one between the operands.
unfoldable pub operator_text : ℕ → List ℕ
operator_text selector = operator_sign (operator_of selector)

unfoldable pub comparison_text : ℕ → List ℕ
comparison_text selector = cond (eqb selector 0) [] (comparison_sign (comparison_of selector))

unfoldable pub sign_text : ℕ → ℕ → List ℕ
sign_text operation selector = cond (eqb operation 2) (operator_text selector) (cond (jumps operation) (comparison_text selector) [])

-- The line of a cell in two halves: what stands before the operands; the operands, and the end of the line.
unfoldable pub opening_text : List ℕ → List ℕ → Cell → List ℕ
opening_text s firsts c = opening c.operation (name_key s firsts c.operation c.written c.target) (is_there c.left)

unfoldable pub operands_text : List ℕ → Cell → List ℕ
operands_text s c = operand_text s c.left ++ (sign_text c.operation c.selector ++ (operand_text s c.right ++ (10 ∷ [])))

unfoldable pub cell_text : List ℕ → List ℕ → Cell → List ℕ
cell_text s firsts c = opening_text s firsts c ++ operands_text s c

-- The name for a statement with this operation whose cell stands at this place.
unfoldable pub name_after : List ℕ → List ℕ → ℕ → ℕ → ℕ
name_after s firsts operation place = name_key s firsts operation (field 1 (place + 1) s) (field 2 (place + 12) s)

-- The parts of an opening: the mnemonic, and what ends it.
unfoldable pub mnemonic_key : ℕ → ℕ
mnemonic_key operation = cond (leb operation 2) 0 (key (get_or mnemonics (operation - 1) []))

unfoldable pub end_of : ℕ → Bool → ℕ
end_of operation more = cond (leb operation 2) 61 (comma_if (more && jumps operation))

-- The line of a label, and those of the labels from one to before another.
unfoldable pub label_text : List ℕ → ℕ → List ℕ
label_text s k = phrase_text (key (get_or mnemonics 0 [])) true (field 2 (label_place s k) s) 10

unfoldable pub label_texts : List ℕ → ℕ → ℕ → List ℕ
label_texts s from to = flat_map (label_text s) (listed from (to - from) (λ k. k))

-- The line of a variable, that of a variable record, and those of the records from one to before another.
unfoldable pub variable_text : ℕ → ℤ → List ℕ
variable_text name start = phrase_text (key (get_or mnemonics 1 [])) true name 61 ++ (plain start ++ (10 ∷ []))

unfoldable pub record_text : List ℕ → ℕ → List ℕ
record_text s k = variable_text (field 2 (variable_place s k) s) (start_value s k)

unfoldable pub variable_texts : List ℕ → ℕ → ℕ → List ℕ
variable_texts s from to = flat_map (record_text s) (listed from (to - from) (λ k. k))

-- A label comes before a cell: one that is there, with a target not past the cell, or any behind the last cell.
unfoldable pub label_next : List ℕ → ℕ → ℕ → Bool
label_next s label cell = ltb label (label_count s) && (leb (cell_count s) cell || leb (label_target s label) cell)

-- Of n labels from label k on the first whose target is past this cell, or the one behind them.
unfoldable pub past_from : List ℕ → ℕ → ℕ → ℕ → ℕ
past_from s cell zero k = k
past_from s cell (suc n) k = cond (ltb cell (label_target s k)) k (past_from s cell n (suc k))

-- The lines of n cells from cell k on, each behind the labels up to it, from this label on; and then of the labels that are left.
unfoldable pub cell_texts : List ℕ → ℕ → ℕ → ℕ → List ℕ
cell_texts s zero k label = label_texts s label (label_count s)
cell_texts s (suc n) k label =
    let next = past_from s k (label_count s - label) label in
    label_texts s label next ++ (cell_text s (firsts_of s) (cell_at s k) ++ cell_texts s n (suc k) next)

-- All lines.
unfoldable pub image_text : List ℕ → List ℕ
image_text s = variable_texts s 0 (variable_count s) ++ cell_texts s (cell_count s) 0 0

-- A text over the front of a buffer, if there is room.
unfoldable pub if_room : List ℕ → List ℕ → List ℕ
if_room xs old = cond (ltb (length old) (length xs)) old (xs ++ drop (length xs) old)
