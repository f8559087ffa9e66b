-- `line` meets its contract.
-- Assumes nothing.
use mathlib.Core.Path.{ap, ◌∙◌}
use mathlib.Core.Bool.{true}
use mathlib.Core.List.{[]}
use Prim.Native.Nat.{ℕ}
use lib.ListN.{get_or}
use Rattle.program.specs.Names.{mnemonics}
use Rattle.program.specs.Code.{key}
use Rattle.printing.specs.Code.{phrase_text, label_text}
use Rattle.printing.proofs.Targets.{name_known}
use Rattle.printing.proofs.Pieces.{label_words}
use Rattle.printing.proofs.labels.line.Goals as goal

pub returns : goal.returns
unfolding label_text
returns c =
    label_words _ ∙ ap (λ (n : ℕ). phrase_text (key (get_or mnemonics 0 [])) true n 10) (name_known _ _ c.cell_count.ensures c.label_place-place.ensures c.read2.ensures)
