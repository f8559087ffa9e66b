-- `course` meets its contract: it goes on from the start.
-- Assumes nothing.
use native.Mathlib.Omega.{arith}
use Rattle.running.proofs.Courses.{from_start, inputs_first}
use Rattle.running.proofs.course.Goals as goal

pub go_on-requires : goal.go_on-requires
go_on-requires c = let p = c.requires in (p.0, p.1, omega arith, inputs_first _ c.started.ensures, omega (arith, p.2))

pub returns : goal.returns
returns c = rw (from_start _ _ _ c.started.ensures) at c.go_on.ensures
