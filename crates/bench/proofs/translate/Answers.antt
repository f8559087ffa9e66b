-- `translate` meets its contract: each refusal behind the tests before it, then the image of the text.
use mathlib.Core.Path.{◌≡◌, sym, ap, ◌∙◌}
use native.Mathlib.Omega.{arith}
use lib.ListN.{length}
use Rattle.rows.proofs.Seeking.{long}
use Rattle.translation.specs.Images.{image}
use Rattle.bench.specs.Translating.{answered}
use Rattle.bench.proofs.Translations.{few, measured, refused_long, refused_line, refused_short, translated_as}
use Rattle.bench.proofs.translate.Goals as goal

pub returns-then-text-gt-LONGEST_TEXT : goal.returns-then-text-gt-LONGEST_TEXT
returns-then-text-gt-LONGEST_TEXT c = refused_long _ _ c.if-text-gt-LONGEST_TEXT.true c.not_translated.ensures

pub slice_bounds-survey_lines-end : goal.slice_bounds-survey_lines-end
slice_bounds-survey_lines-end c = sym (ap length c.arrange-rows.ensures ∙ long _)

pub survey_lines-requires : goal.survey_lines-requires
survey_lines-requires c = c.arrange-rows.ensures

pub returns-in-Err : goal.returns-in-Err
returns-in-Err c =
    refused_line _ _ c.if-text-gt-LONGEST_TEXT.false c.in-Err.ensures.first c.in-Err.ensures.there c.not_translated-in-Err.ensures

pub overflow_cast-counts : goal.overflow_cast-counts
overflow_cast-counts c =
    let h = few _ c.in-Ok.ensures.clear c.in-Ok.ensures.counts in omega arith

pub overflow_cast-counts-2 : goal.overflow_cast-counts-2
overflow_cast-counts-2 c =
    let h = few _ c.in-Ok.ensures.clear c.in-Ok.ensures.counts in omega arith

pub overflow_cast-counts-3 : goal.overflow_cast-counts-3
overflow_cast-counts-3 c =
    let h = few _ c.in-Ok.ensures.clear c.in-Ok.ensures.counts in omega arith

pub returns-then-image-length : goal.returns-then-image-length
returns-then-image-length c =
    let clean = c.in-Ok.ensures.clear in
    let size : c.image_length-length.result ≡ length (image c.args.text.now) = measured _ clean c.in-Ok.ensures.counts c.image_length-length.ensures in
    refused_short _ _ c.if-text-gt-LONGEST_TEXT.false clean (rw size at c.if-image-length.true) c.not_translated-then-image-length.ensures

pub slice_bounds-write_image-end : goal.slice_bounds-write_image-end
slice_bounds-write_image-end c = sym (ap length c.arrange-rows.ensures ∙ long _)

pub write_image-requires : goal.write_image-requires
write_image-requires c =
    let clean = c.in-Ok.ensures.clear in
    record {
      short = c.if-text-gt-LONGEST_TEXT.false;
      clear = clean;
      arranged = c.arrange-rows.ensures;
      counted = c.in-Ok.ensures.counts;
      has_room = rw c.image_length-length.ensures at c.if-image-length.false;
    }

pub returns : goal.returns
unfolding image
returns c =
    let clean = c.in-Ok.ensures.clear in
    let size : c.image_length-length.result ≡ length (image c.args.text.now) = measured _ clean c.in-Ok.ensures.counts c.image_length-length.ensures in
    translated_as _ _ c.if-text-gt-LONGEST_TEXT.false clean (rw size at c.if-image-length.false) (ap (answered 0 0) size) c.write_image.ensures
