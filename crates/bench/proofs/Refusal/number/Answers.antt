-- `Refusal::number` meets its contract: by the refusal.
-- Assumes nothing.
use Rattle.bench.specs.Running.{number_of}
use Rattle.bench.proofs.Refusal.number.Goals as goal

pub returns-in-Image : goal.returns-in-Image
unfolding number_of
returns-in-Image c = rw c.in-Image.is c.number.ensures

pub returns-in-BadScript : goal.returns-in-BadScript
unfolding number_of
returns-in-BadScript c = rw c.in-BadScript.is

pub returns-in-BadEvent : goal.returns-in-BadEvent
unfolding number_of
returns-in-BadEvent c = rw c.in-BadEvent.is

pub returns-in-BigBudget : goal.returns-in-BigBudget
unfolding number_of
returns-in-BigBudget c = rw c.in-BigBudget.is

pub returns-in-SmallRoom : goal.returns-in-SmallRoom
unfolding number_of
returns-in-SmallRoom c = rw c.in-SmallRoom.is
