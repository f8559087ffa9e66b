-- `run` meets its contract: what is refused is told, else the course of the image.
-- Assumes nothing.
use mathlib.Core.Path.{refl}
use native.Mathlib.Omega.{arith}
use lib.ListN.{length}
use Rattle.bench.proofs.Refusals.{refused_as_lem, ran_as_lem}
use Rattle.bench.proofs.Refusing.{Clear, clear, told, none_told}
use Rattle.bench.proofs.run.Goals as goal

pub returns-in-Err : goal.returns-in-Err
returns-in-Err c =
    let may = c.may_run.ensures in
    let t = told (record { number = may.number; index = may.index }) c.in-Err.is in
    refused_as_lem _ _ _ _ _ _ refl t.some t.index (rw t.number at c.refused.ensures)

pub overflow_cast-budget : goal.overflow_cast-budget
overflow_cast-budget c =
    let t : Clear c.args.image.now c.args.events.now c.args.budget (length c.args.records.now) = clear _ _ _ _ (none_told c.may_run.ensures.number c.in_default.is) in
    record { fits = omega (arith, t.low) }

pub course-ended-requires : goal.course-ended-requires
course-ended-requires c = let t = clear _ _ _ _ (none_told c.may_run.ensures.number c.in_default.is) in (t.whole, t.fine, t.space)

pub returns : goal.returns
returns c =
    let t = clear _ _ _ _ (none_told c.may_run.ensures.number c.in_default.is) in
    ran_as_lem _ _ _ _ t.image t.whole t.fine t.low t.space c.course-ended.ensures c.state_of.ensures (rw c.number.ensures refl)
