-- `motion_number` meets its contract: each motion has its number.
use Rattle.bench.specs.Answers.{motion_number}
use Rattle.bench.proofs.answers.motion_number.Goals as goal

pub returns-in-Still : goal.returns-in-Still
unfolding motion_number
returns-in-Still c = rw c.in-Still.is

pub returns-in-To : goal.returns-in-To
unfolding motion_number
returns-in-To c = rw c.in-To.is

pub returns-in-Slewing : goal.returns-in-Slewing
unfolding motion_number
returns-in-Slewing c = rw c.in-Slewing.is
