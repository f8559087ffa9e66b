-- `list` meets its contract: the refusals of the image, then a buffer that is too short, then the listing.
use mathlib.Core.Path.{sym, ap, ◌∙◌}
use native.Mathlib.Omega.{arith}
use Rattle.checking.specs.Code.{refusal_number}
use Rattle.bench.proofs.Listings.{page_room, list_refused, list_short, list_fits}
use Rattle.bench.proofs.Refusing.{some_image}
use Rattle.bench.proofs.list.Goals as goal

pub returns-in-Err : goal.returns-in-Err
unfolding refusal_number
returns-in-Err c =
    let e = sym (ap refusal_number c.in-Err.is) ∙ c.accept.ensures in
    list_refused _ _ (c.number.ensures ∙ e) (λ z. some_image _ (sym c.number.ensures ∙ z)) c.not_listed.ensures

pub write_listing-length-requires : goal.write_listing-length-requires
unfolding refusal_number
write_listing-length-requires c = page_room _ (sym c.accept.ensures ∙ ap refusal_number c.in_default.is)

pub returns-then-text-length : goal.returns-then-text-length
unfolding refusal_number
returns-then-text-length c =
    list_short _ _ c.accept.ensures (ap refusal_number c.in_default.is) c.write_listing-length.ensures.0 c.write_listing-length.ensures.1 (omega arith) c.not_listed-then-text-length.ensures

pub returns : goal.returns
unfolding refusal_number
returns c =
    list_fits _ _ c.accept.ensures (ap refusal_number c.in_default.is) c.write_listing-length.ensures.0 c.write_listing-length.ensures.1 (omega arith)
