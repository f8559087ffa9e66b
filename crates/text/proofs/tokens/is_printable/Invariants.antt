-- `is_printable` meets its contract. The loop's invariant: what was found so far and the bytes from here on decide.
-- Assumes nothing.
use lib.ListN.{drop}
use mathlib.Core.Bool.{◌&&◌}
use mathlib.Core.Path.{◌≡◌}
use Rattle.numbers.specs.Tests.{all_of}
use Rattle.text.specs.Tokens.{printable}
use Rattle.text.proofs.tokens.is_printable.Given as goal

abbrev pub invariant-loop-b : goal.invariant-loop-b
invariant-loop-b l = (l.all && all_of printable (drop l.b-index l.l)) ≡ all_of printable l.l
