-- `value_with` meets its contract.
-- Assumes nothing.
use Rattle.text.specs.Code.{value_with}
use Rattle.text.proofs.Scanning.{digit_above, digit_more, digit_none}
use Rattle.text.proofs.tokens.value_with.Goals as goal

pub returns-in_err-value : goal.returns-in_err-value
unfolding value_with
returns-in_err-value c = rw (c.from_residual.ensures, c.in_err-value.was)

pub overflow_sub-c : goal.overflow_sub-c
overflow_sub-c c = digit_above c.args.c _ _ c.is_digit.ensures c.if-is_digit-size.true

pub returns-then-is_digit-size : goal.returns-then-is_digit-size
returns-then-is_digit-size c =
    rw c.in_ok-value.was (digit_more c.args.size c.in_ok-value.value c.args.c c.is_digit.ensures c.if-is_digit-size.true c.from.ensures)

pub returns : goal.returns
returns c = rw c.in_ok-value.was (digit_none c.args.size c.in_ok-value.value c.args.c c.is_digit.ensures c.if-is_digit-size.false)
