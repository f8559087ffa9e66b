-- `read_line` meets its contract.
-- Assumes nothing.
use mathlib.Core.Path.{sym, ◌∙◌}
use lib.Seq.{length-take-le}
use Rattle.reading.proofs.Readings.{line_long, line_bad, line_says, code_inside, line_reads}
use Rattle.reading.proofs.read_line.Goals as goal

pub returns-then-is_long : goal.returns-then-is_long
returns-then-is_long c =
    let l = c.args.l.now in
    line_long l (sym c.is_long.ensures ∙ c.if-is_long.true) ∙ line_reads l

pub returns-then-not-is_printable : goal.returns-then-not-is_printable
returns-then-not-is_printable c =
    let l = c.args.l.now in
    line_bad l (sym c.is_long.ensures ∙ c.if-is_long.false) (sym c.is_printable.ensures ∙ c.if-not-is_printable.true)
    ∙ line_reads l

pub slice_bounds-code-end : goal.slice_bounds-code-end
slice_bounds-code-end c =
    let l = c.args.l.now in
    sym (length-take-le c.code_length-n.result l (code_inside l c.code_length-n.ensures))

pub returns : goal.returns
returns c =
    let l = c.args.l.now in
    line_says l (sym c.is_long.ensures ∙ c.if-is_long.false) (sym c.is_printable.ensures ∙ c.if-not-is_printable.false) c.code_length-n.ensures c.read_tokens.ensures
    c.statement.ensures
    ∙ line_reads l
