-- `write_file` meets its contract: a chosen value that can never be, a buffer that is too short, or the pairs and the trailer.
-- Assumes nothing.
use mathlib.Core.Path.{refl, sym, ap, ◌∙◌}
use native.Mathlib.Omega.{arith}
use Rattle.settings.specs.Calls.{written}
use Rattle.settings.proofs.Writing.{number_44, number_45, number_0, gives_refused, gives_accepted}
use Rattle.settings.proofs.Stored.{file_stored}
use Rattle.settings.proofs.write_file.Goals as goal

pub returns-then-is_any_outside : goal.returns-then-is_any_outside
returns-then-is_any_outside c =
    gives_refused _ _ _ (number_44 _ _ _ (sym c.is_any_outside.ensures ∙ c.if-is_any_outside.true)) (λ z. omega arith) refl refl

pub returns-then-file-length : goal.returns-then-file-length
returns-then-file-length c =
    let long = c.file_size-length.ensures.0 c.args.settings in
    gives_refused _ _ _
    (number_45 _ _ _ (sym c.is_any_outside.ensures ∙ c.if-is_any_outside.false) (omega (arith, long, c.if-file-length.true)))
    (λ z. omega arith) refl refl

pub returns : goal.returns
returns c =
    let room = c.if-file-length.false in
    let long = c.file_size-length.ensures.0 c.args.settings in
    gives_accepted _ _ _
    (number_0 _ _ _ (sym c.is_any_outside.ensures ∙ c.if-is_any_outside.false) (omega (arith, long, room)))
    (ap (written 0) long)
    (c.write.ensures ∙ file_stored _ _ _ _ _ c.file_size-length.result _ c.write_pairs-at.ensures.0 c.write_pairs-at.ensures.2 long (omega (arith, room)) c.trailer.ensures)
