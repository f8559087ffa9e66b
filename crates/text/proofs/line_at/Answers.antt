-- `line_at` meets its contract.
-- Assumes nothing.
use native.Mathlib.Omega.{arith}
use Rattle.text.proofs.Lines.{end_le, line_at_lem}
use Rattle.text.proofs.line_at.Goals as goal

pub line_next-next-requires : goal.line_next-next-requires
line_next-next-requires c =
    end_le c.args.s.now c.args.at c.line_end-end.result (omega arith) c.line_end-end.ensures

pub returns : goal.returns
returns c =
    line_at_lem c.args.s.now c.args.at c.line_end-end.result c.line_next-next.result c.requires c.line_end-end.ensures c.line_next-next.ensures
