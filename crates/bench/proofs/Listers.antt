-- Impostors of listing: wrong texts for an image, shut out though two of them translate into that very image. The statement decides the text.
-- Assumes nothing.
use mathlib.Core.Path.{◌≡◌, refl, sym, ap, ◌∙◌}
use mathlib.Core.List.{List, [], ◌∷◌, ◌++◌}
use mathlib.Core.List as List
use Prim.Native.Nat.{ℕ, ◌≤◌}
use native.Mathlib.Omega.{arith}
use lib.ListN.{length, drop, get_or}
use Rattle.numbers.specs.Bits as Bits
use Rattle.numbers.specs.Bytes as B
use Rattle.numbers.specs.Tests as Tests
use Rattle.numbers.specs.Bytes.{ascii}
use Rattle.program.specs.Cells as Cells
use Rattle.program.specs.DriveWords as DriveWords
use Rattle.program.specs.Names as Names
use Rattle.program.specs.Statements as Statements
use Rattle.program.specs.Variables as Variables
use Rattle.text.specs.Faults as Faults
use Rattle.text.specs.Forms as Forms
use Rattle.text.specs.Lines as Lines
use Rattle.text.specs.Tokens as Tokens
use Rattle.image.specs.Check as Check
use Rattle.image.specs.Check.{checked}
use Rattle.image.specs.Layout as Layout
use Rattle.translation.specs.Images as Images
use Rattle.translation.specs.Images.{image}
use Rattle.printing.specs.Listing as Listing
use Rattle.printing.specs.Listing.{listing}
use Rattle.bench.specs.Listings.{list_answered}
use Rattle.bench.specs.Calls.{Lists}
use Rattle.bench.specs.Demands.{Translate}
use Rattle.bench.specs.Requests.{Listing, ListImage, Request1}
use Rattle.bench.specs.Sheet.{padded, fresh}
use Rattle.bench.specs.declared.Listed.{Listed}
use Rattle.bench.proofs.Listings.{fits_answered, fits_listed}
use Rattle.bench.proofs.Relisted.{list_decided}

-- A jump to itself under two labels: its image, and its listing.
abbrev loop_image : List ℕ
loop_image =
    padded (5 ∷ [])
    ++ (65 ∷ 65 ∷ 0 ∷ 0 ∷ 65 ∷ 67 ∷ 0 ∷ 0
    ∷ 16 ∷ 0 ∷ 0 ∷ 0 ∷ 1 ∷ 0 ∷ 2 ∷ 0 ∷ 0 ∷ 0 ∷ 1 ∷ 0 ∷ 40 ∷ 0 ∷ 0 ∷ 0 ∷ [])

abbrev loop_listing : List ℕ
loop_listing = ascii "LB AA\nLB AC\nBR AA\n"

-- The same program with a space more, and with the other label for the target.
abbrev spaced : List ℕ
spaced = ascii "LB AA\nLB AC\nBR  AA\n"

abbrev relabelled : List ℕ
relabelled = ascii "LB AA\nLB AC\nBR AC\n"

-- The image is accepted and lists so; and both other texts have this image.
pub loop_holds : (checked loop_image ≡ 0) × (listing loop_image ≡ loop_listing) × (image spaced ≡ loop_image) × (image relabelled ≡ loop_image)
unfolding Bits.digits32 Bits.signed32 B.bytes B.number B.field B.ascii Tests.eq_list Tests.all_of Tests.any_of Tests.any_below Tests.first_below Tests.listed Tests.numbered Tests.lowest List.flat_map Cells.no_target Cells.comparison_of Cells.operand_of Cells.jump_of Cells.cell_of Cells.value_of Cells.condition_of Cells.statement_by Cells.statement_of Names.letter Names.digit Names.word_character Names.mnemonics Names.variable_names Names.paper_variable Names.paper_word Names.two_characters Names.user_name DriveWords.drive_words Names.reserved Names.free_name Statements.operands Statements.compared Variables.most_cells Variables.most_labels Variables.most_variables Faults.long_line Faults.bad_form Faults.too_big Faults.big_value Faults.big_in Faults.big_literal Faults.declares Faults.reserved_name Faults.heard Faults.makes_cell Faults.makes_label Faults.makes_variable Faults.how_many Faults.declares_it Faults.said Faults.place_of Forms.literal Forms.variable_name Forms.variable Forms.operand Forms.put Forms.word Forms.sign Forms.takes Forms.fill Forms.forms Forms.by_form Forms.statement Forms.reading Lines.onto_first_line Lines.lines Tokens.printable Tokens.uncommented Tokens.joins Tokens.onto_first_token Tokens.tokens Check.bad_length Check.bad_edition Check.bad_trailer Check.layouts Check.good_written Check.good_selector Check.good_operand Check.good_target Check.fits Check.bad_cell Check.bad_cells Check.record_place Check.record_name Check.bad_name Check.bad_target Check.bad_records Check.image_faults Check.checked Layout.shape Layout.operand_number Layout.cell_bytes Layout.label_bytes Layout.image_length Layout.trailer_bytes Layout.trailer_place Layout.first_label_place Layout.cell_count Layout.label_count Layout.variable_count Layout.edition Layout.whole_length Layout.operand_at Layout.cell_at Layout.label_place Layout.label_target Layout.variable_place Layout.name_at Images.cell_part Images.label_part Images.variable_part Images.image_of Images.image Listing.label_name Listing.condition_text Listing.statement_text Listing.line Listing.variable_line Listing.label_line Listing.label_lines Listing.cell_lines Listing.listing
loop_holds = (refl, refl, refl, refl)

size : length loop_listing ≡ 18
unfolding ascii
size = refl

room : length (listing loop_image) ≤ length (fresh 64)
room = rw loop_holds.1 (omega (arith, size))

-- What the promise leaves in a buffer of 64 bytes for that image.
promised : (answer : Listed) (new : List ℕ) → Lists loop_image (fresh 64) answer new → (answer ≡ list_answered 0 18) × (new ≡ loop_listing ++ fresh 46)
promised answer new l = (
  l.answers ∙ fits_answered loop_image (fresh 64) loop_holds.0 room ∙ ap (λ (t : List ℕ). list_answered 0 (length t)) loop_holds.1 ∙ ap (list_answered 0) size,
  l.leaves ∙ fits_listed loop_image (fresh 64) loop_holds.0 room ∙ ap (λ (t : List ℕ). t ++ drop (length t) (fresh 64)) loop_holds.1 ∙ ap (λ (n : ℕ). loop_listing ++ drop n (fresh 64)) size,
)

-- An empty listing, with any buffer.
pub empty_listing : (new : List ℕ) → Lists loop_image (fresh 64) (list_answered 0 0) new → ⊥
empty_listing new l = let z : ◌≡◌ {A = ℕ} 0 18 = ap (λ (a : Listed). a.length) (promised (list_answered 0 0) new l).0 in omega arith

-- The text with a space more, and that with the other label, with any answer and whatever stands behind them: neither is the listing.
pub other_space : (answer : Listed) (rest : List ℕ) → Lists loop_image (fresh 64) answer (spaced ++ rest) → ⊥
unfolding ascii
other_space answer rest l = let z : ◌≡◌ {A = ℕ} 32 65 = ap (λ (b : List ℕ). get_or b 15 0) (promised answer (spaced ++ rest) l).1 in omega arith

pub other_label : (answer : Listed) (rest : List ℕ) → Lists loop_image (fresh 64) answer (relabelled ++ rest) → ⊥
unfolding ascii
other_label answer rest l = let z : ◌≡◌ {A = ℕ} 67 65 = ap (λ (b : List ℕ). get_or b 16 0) (promised answer (relabelled ++ rest) l).1 in omega arith

-- A lister that gives no image any bytes, with any number and buffer, whatever translator stands beside it: shut out by the request.
pub lists_nothing : (translate : Translate) (list : ListImage) → ((s buffer : List ℕ) → (list s buffer).answer.length ≡ 0) → Request1 translate list → ⊥
lists_nothing translate list nothing r =
    let e : (list loop_image (fresh 64)).answer ≡ list_answered 0 (length (listing loop_image)) =
    ap (λ (l : Listing). l.answer) (list_decided translate list r loop_image (fresh 64)) ∙ fits_answered loop_image (fresh 64) loop_holds.0 room in
    let z : ◌≡◌ {A = ℕ} 0 18 =
    sym (nothing loop_image (fresh 64)) ∙ ap (λ (a : Listed). a.length) e ∙ ap length loop_holds.1 ∙ size in
    omega arith
