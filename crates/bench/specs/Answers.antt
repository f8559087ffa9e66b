-- Document 01, "Events and records" and "Refusal numbers", and document 02, "A handler that arms itself again": what a run answers, whether it was an image's run
-- or a text's own. No image.
-- Assumes nothing.
use Rattle.std.specs.Prelude.{cond, map, ℕ, ◌/◌, eqb, ℤ, pos, length, replicate}
use Rattle.machine.specs.declared.Machine.{Machine}
use Rattle.machine.specs.declared.Place.{Place}
use Rattle.machine.specs.declared.Motion.{Motion}
use Rattle.machine.specs.declared.Motion.TheVariants.{Still, To, Slewing}
use Rattle.machine.specs.Turn.{no_handler}
use Rattle.machine.specs.Run.{Course}
use Rattle.bench.specs.declared.StatePlace.{StatePlace}
use Rattle.bench.specs.declared.State.{State}
use Rattle.bench.specs.declared.Ran.{Ran}

-- Turn 2: the motion's number and value in an answer: 0 still, 1 to a target, 2 slewing.
unfoldable pub motion_number : Motion → ℕ
motion_number Still = 0
motion_number (To z) = 1
motion_number (Slewing z) = 2

unfoldable pub motion_value : Motion → ℤ
motion_value Still = pos 0
motion_value (To z) = z
motion_value (Slewing z) = z

-- Q-7 2, Q-7 4, Q-7 5: a return place in an answer: mark and target are 0 where CL kept it or it is unused; where the call of a handler kept it, the mark is 1 and
-- the target the handler's.
unfoldable pub state_place_of : Place → StatePlace
state_place_of place =
    cond (eqb place.handler no_handler)
    (record { cell = place.cell; target = 0; mark = 0 })
    (record { cell = place.cell; target = place.handler; mark = 1 })

-- Events 7, Q-7 4: every part of the final state.
unfoldable pub state_of : Machine → State
state_of m =
    record {
      variables = m.variables;
      next = m.next;
      places = map state_place_of m.places.all;
      kept = m.places.kept;
      handler = m.handler;
      hold = m.hold;
      motion = motion_number m.motion;
      value = motion_value m.motion;
    }

-- Refusals 23: the state of a refused run.
abbrev pub no_place : StatePlace
no_place = record { cell = 0; target = 0; mark = 0 }

unfoldable pub no_state : State
no_state =
    record {
      variables = replicate 64 (pos 0);
      next = 0;
      places = replicate 8 no_place;
      kept = 0;
      handler = 0;
      hold = 0;
      motion = 0;
      value = pos 0;
    }

-- Events 7, Refusals 25: the answer of a run that was not refused; a record has 12 bytes.
unfoldable pub ran_as : Course → Ran
ran_as c =
    record {
      number = 0;
      index = 0;
      reason = c.reason;
      turns = c.turns;
      records = length c.records / 12;
      state = state_of c.machine;
    }

unfoldable pub refused_as : ℕ → ℕ → Ran
refused_as number index = record { number = number; index = index; reason = 0; turns = 0; records = 0; state = no_state }
