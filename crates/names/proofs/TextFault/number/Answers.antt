-- `TextFault::number` meets its contract.
-- Assumes nothing.
use mathlib.Core.Path.{◌≡◌, refl}
use Prim.Native.Nat.{◌+◌}
use Rattle.reading.specs.Code.{fault_number}
use Rattle.reading.specs.declared.LineFault.{LineFault}
use Rattle.reading.specs.declared.LineFault.TheVariants as E
use Rattle.reading.specs.contracts.LineFault as Of
use denote.Enum.Declared.{tag_of}
use Rattle.names.specs.Code.{number_of_fault}
use Rattle.names.proofs.TextFault.number.Goals as goal

own : (e : LineFault) → tag_of Of.the_type e + 2 ≡ fault_number e
unfolding fault_number
own E.LongLine = refl
own E.BadForm = refl
own E.BigLiteral = refl
own E.ReservedName = refl

pub returns-in-Own : goal.returns-in-Own
unfolding number_of_fault fault_number
returns-in-Own c = rw c.in-Own.is (own _)

pub returns-in-Repeated : goal.returns-in-Repeated
unfolding number_of_fault
returns-in-Repeated c = rw c.in-Repeated.is

pub returns-in-TooMany : goal.returns-in-TooMany
unfolding number_of_fault
returns-in-TooMany c = rw c.in-TooMany.is

pub returns-in-Undeclared : goal.returns-in-Undeclared
unfolding number_of_fault
returns-in-Undeclared c = rw c.in-Undeclared.is

pub returns-in-ReadOnly : goal.returns-in-ReadOnly
unfolding number_of_fault
returns-in-ReadOnly c = rw c.in-ReadOnly.is
