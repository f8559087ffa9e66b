-- `mnemonic` meets its contract.
-- Assumes nothing.
use mathlib.Core.Path.{refl}
use borrow.Author.Tests.{le-leb, lt-leb}
use Rattle.printing.specs.Code.{mnemonic_key}
use Rattle.printing.proofs.statements.mnemonic.Goals as goal

pub returns-then-operation-le-SET_WITH : goal.returns-then-operation-le-SET_WITH
unfolding mnemonic_key
returns-then-operation-le-SET_WITH c = rw (le-leb _ 2 c.if-operation-le-SET_WITH.true) refl

pub returns : goal.returns
unfolding mnemonic_key
returns c = rw (lt-leb _ 2 c.if-operation-le-SET_WITH.false) c.mnemonic.ensures
