-- `accept` meets its contract: the tests come in the order of the refusals.
-- Assumes nothing.
use mathlib.Core.Bool.{false}
use mathlib.Core.Path.{◌≡◌, sym, ◌∙◌}
use Rattle.numbers.specs.Tests.{lowest}
use Rattle.image.specs.Check.{bad_length, bad_edition, bad_trailer, bad_cells, image_faults, checked}
use Rattle.checking.specs.Code.{number_of, refusal_number}
use Rattle.checking.proofs.accept.Goals as goal

pub returns-then-bad_length : goal.returns-then-bad_length
unfolding checked lowest image_faults refusal_number number_of
returns-then-bad_length c = rw (sym c.bad_length.ensures ∙ c.if-bad_length.true)

pub returns-then-bad_edition : goal.returns-then-bad_edition
unfolding checked lowest image_faults refusal_number number_of
returns-then-bad_edition c =
    let length_good : bad_length c.args.s.now ≡ false = sym c.bad_length.ensures ∙ c.if-bad_length.false in
    rw (length_good, sym c.bad_edition.ensures ∙ c.if-bad_edition.true)

pub returns-then-bad_trailer : goal.returns-then-bad_trailer
unfolding checked lowest image_faults refusal_number number_of
returns-then-bad_trailer c =
    let edition_good : bad_edition c.args.s.now ≡ false = sym c.bad_edition.ensures ∙ c.if-bad_edition.false in
    let length_good : bad_length c.args.s.now ≡ false = sym c.bad_length.ensures ∙ c.if-bad_length.false in
    rw (length_good, edition_good, sym c.bad_trailer.ensures ∙ c.if-bad_trailer.true)

pub returns-then-bad_cells : goal.returns-then-bad_cells
unfolding checked lowest image_faults refusal_number number_of
returns-then-bad_cells c =
    let trailer_good : bad_trailer c.args.s.now ≡ false = sym c.bad_trailer.ensures ∙ c.if-bad_trailer.false in
    let edition_good : bad_edition c.args.s.now ≡ false = sym c.bad_edition.ensures ∙ c.if-bad_edition.false in
    let length_good : bad_length c.args.s.now ≡ false = sym c.bad_length.ensures ∙ c.if-bad_length.false in
    rw (length_good, edition_good, trailer_good, sym c.bad_cells.ensures ∙ c.if-bad_cells.true)

pub bad_records-requires : goal.bad_records-requires
bad_records-requires c =
    let trailer_good : bad_trailer c.args.s.now ≡ false = sym c.bad_trailer.ensures ∙ c.if-bad_trailer.false in
    trailer_good

pub returns-then-bad_records : goal.returns-then-bad_records
unfolding checked lowest image_faults refusal_number number_of
returns-then-bad_records c =
    let cells_good : bad_cells c.args.s.now ≡ false = sym c.bad_cells.ensures ∙ c.if-bad_cells.false in
    let trailer_good : bad_trailer c.args.s.now ≡ false = sym c.bad_trailer.ensures ∙ c.if-bad_trailer.false in
    let edition_good : bad_edition c.args.s.now ≡ false = sym c.bad_edition.ensures ∙ c.if-bad_edition.false in
    let length_good : bad_length c.args.s.now ≡ false = sym c.bad_length.ensures ∙ c.if-bad_length.false in
    rw (length_good, edition_good, trailer_good, cells_good, sym c.bad_records.ensures ∙ c.if-bad_records.true)

pub returns : goal.returns
unfolding checked lowest image_faults refusal_number number_of
returns c =
    let cells_good : bad_cells c.args.s.now ≡ false = sym c.bad_cells.ensures ∙ c.if-bad_cells.false in
    let trailer_good : bad_trailer c.args.s.now ≡ false = sym c.bad_trailer.ensures ∙ c.if-bad_trailer.false in
    let edition_good : bad_edition c.args.s.now ≡ false = sym c.bad_edition.ensures ∙ c.if-bad_edition.false in
    let length_good : bad_length c.args.s.now ≡ false = sym c.bad_length.ensures ∙ c.if-bad_length.false in
    rw (length_good, edition_good, trailer_good, cells_good, sym c.bad_records.ensures ∙ c.if-bad_records.false)
