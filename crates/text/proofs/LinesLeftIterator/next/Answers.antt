-- `LinesLeft::next` gives the first of the lines that are left, and leaves the others.
-- Assumes nothing.
use mathlib.Core.Path.{sym}
use borrow.Author.Tests.{eqb-true}
use native.Mathlib.Omega.{arith}
use Rattle.text.proofs.Lines.{lines_end}
use Rattle.text.proofs.LinesLeftIterator.next.Goals as goal

pub returns-then-is_empty-clause-steps : goal.returns-then-is_empty-clause-steps
returns-then-is_empty-clause-steps c =
    let e = lines_end c.args.self.now.rest.now 0 (omega (arith, eqb-true _ _ (sym c.if-is_empty.ensures))) in (e, e)
