-- `try_text` meets its contract: the image of the text is run, and its run is the text's own.
use mathlib.Core.Path.{refl, sym}
use lib.Seq.{length-take-le}
use Rattle.tried.proofs.Trials.{prefix, tries}
use Rattle.tried.proofs.try_text.Goals as goal

pub slice_bounds-run-end : goal.slice_bounds-run-end
slice_bounds-run-end c = prefix _ _ c.translate-translated.ensures

pub slice_bounds-run-end-2 : goal.slice_bounds-run-end-2
slice_bounds-run-end-2 c = sym (length-take-le _ _ (prefix _ _ c.translate-translated.ensures))

pub returns : goal.returns
returns c = tries _ _ c.translate-translated.ensures _ _ _ refl c.run-ran.ensures
