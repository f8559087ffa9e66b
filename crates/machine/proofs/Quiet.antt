-- An event leaves the next cell, the return places and the handler as they are.
-- Assumes nothing.
use mathlib.Core.Path.{◌≡◌, refl}
use mathlib.Core.Bool.{Bool, true, false, cond}
use lib.Dec.{eqb}
use Rattle.machine.specs.declared.Machine.{Machine}
use Rattle.machine.specs.declared.Motion.{Motion}
use Rattle.machine.specs.declared.Motion.TheVariants.{Still, To, Slewing}
use Rattle.events.specs.declared.Event.{Event}
use Rattle.machine.specs.Turn.{in_motion}
use Rattle.machine.specs.Happens.{happens, arrived_by}

-- What holds of each of three machines holds of the one that is chosen.
pub of_three : (P : Machine → Type 0) (a b : Bool) {x y z : Machine} → P x → P y → P z → P (cond a x (cond b y z))
of_three P true b h k l = h
of_three P false true h k l = k
of_three P false false h k l = l

-- The next cell, the return places and the handler are the same.
abbrev pub SameWay : Machine → Machine → Type 0
SameWay m x = (x.next ≡ m.next) × (x.places ≡ m.places) × (x.handler ≡ m.handler)

arrived_way : (k : Motion) (m : Machine) → SameWay m (arrived_by k m)
unfolding arrived_by in_motion
arrived_way Still m = (refl, refl, refl)
arrived_way (To z) m = (refl, refl, refl)
arrived_way (Slewing z) m = (refl, refl, refl)

pub happens_way : (e : Event) (m : Machine) → SameWay m (happens e m)
unfolding happens
happens_way e m = of_three (SameWay m) (eqb e.kind 1) (eqb e.kind 2) (refl, refl, refl) (arrived_way m.motion m) (refl, refl, refl)

pub happens_next : (e : Event) (m : Machine) → (happens e m).next ≡ m.next
happens_next e m = (happens_way e m).0
