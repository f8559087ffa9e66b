-- `write_listing` meets its contract.
-- Assumes nothing.
use mathlib.Core.Path.{refl}
use native.Mathlib.Omega.{arith}
use Rattle.printing.proofs.Room.{on_page, cut, given}
use Rattle.printing.proofs.write_listing.Goals as goal

pub slice_bounds-page-end : goal.slice_bounds-page-end
slice_bounds-page-end c = on_page (omega (arith, c.requires)) c.put_lines-length.ensures

pub slice_bounds-give-end : goal.slice_bounds-give-end
slice_bounds-give-end c = cut (omega (arith, c.requires)) c.put_lines-length.ensures

pub returns : goal.returns
returns c =
    given (omega (arith, c.requires)) c.put_lines-length.ensures _ refl c.give.ensures
