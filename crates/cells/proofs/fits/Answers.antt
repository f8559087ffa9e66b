-- `fits` meets its contract: the tests come in the order of `fits_of`.
-- Assumes nothing.
use borrow.Author.Tests.{eq-eqb, ne_eqb}
use Rattle.cells.specs.Code.{use_of, fits_of}
use Rattle.program.proofs.Results.{held, failed}
use Rattle.cells.proofs.fits.Goals as goal

pub returns-then-f-operation : goal.returns-then-f-operation
unfolding fits_of use_of
returns-then-f-operation c = rw (ne_eqb _ _ c.if-f-operation.true)

pub returns-then-not-good_written : goal.returns-then-not-good_written
unfolding fits_of use_of
returns-then-not-good_written c = rw (eq-eqb _ _ c.if-f-operation.false, failed c.good_written.ensures c.if-not-good_written.true)

pub returns-then-not-good_selector : goal.returns-then-not-good_selector
unfolding fits_of use_of
returns-then-not-good_selector c =
    rw (eq-eqb _ _ c.if-f-operation.false, held c.good_written.ensures c.if-not-good_written.false, failed c.good_selector.ensures c.if-not-good_selector.true)

pub returns-then-not-good_operand : goal.returns-then-not-good_operand
unfolding fits_of use_of
returns-then-not-good_operand c =
    rw (
      eq-eqb _ _ c.if-f-operation.false,
      held c.good_written.ensures c.if-not-good_written.false,
      held c.good_selector.ensures c.if-not-good_selector.false,
      failed c.good_operand.ensures c.if-not-good_operand.true,
    )

pub returns-then-not-good_operand-2 : goal.returns-then-not-good_operand-2
unfolding fits_of use_of
returns-then-not-good_operand-2 c =
    rw (
      eq-eqb _ _ c.if-f-operation.false,
      held c.good_written.ensures c.if-not-good_written.false,
      held c.good_selector.ensures c.if-not-good_selector.false,
      held c.good_operand.ensures c.if-not-good_operand.false,
      failed c.good_operand-2.ensures c.if-not-good_operand-2.true,
    )

pub returns-then-target : goal.returns-then-target
unfolding fits_of use_of
returns-then-target c =
    rw (
      eq-eqb _ _ c.if-f-operation.false,
      held c.good_written.ensures c.if-not-good_written.false,
      held c.good_selector.ensures c.if-not-good_selector.false,
      held c.good_operand.ensures c.if-not-good_operand.false,
      held c.good_operand-2.ensures c.if-not-good_operand-2.false,
      c.if-target.true,
    )

pub returns : goal.returns
unfolding fits_of use_of
returns c =
    rw (
      eq-eqb _ _ c.if-f-operation.false,
      held c.good_written.ensures c.if-not-good_written.false,
      held c.good_selector.ensures c.if-not-good_selector.false,
      held c.good_operand.ensures c.if-not-good_operand.false,
      held c.good_operand-2.ensures c.if-not-good_operand-2.false,
      c.if-target.false,
    )
