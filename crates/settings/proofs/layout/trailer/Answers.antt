-- `trailer` meets its contract: edition and length are one number of four bytes.
-- Assumes nothing.
use mathlib.Core.Path.{ap, ◌∙◌}
use mathlib.Core.List.{List, ◌++◌}
use Prim.Native.Nat.{ℕ}
use native.Mathlib.Omega.{arith}
use Rattle.numbers.specs.Bytes.{bytes}
use Rattle.numbers.proofs.Laws.{bytes_two}
use Rattle.settings.specs.Layout.{trailer}
use Rattle.settings.proofs.layout.trailer.Goals as goal

pub returns : goal.returns
unfolding trailer
returns c = c.eight_bytes.ensures ∙ ap (λ (l : List ℕ). bytes 4 0 ++ l) (rw (c.from.ensures, c.from-2.ensures) (bytes_two 2 2 _ _ (omega arith)))
