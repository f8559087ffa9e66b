-- `fill` meets its contract. The loop's invariant: the slots that are left give the whole; each took at most two tokens.
-- Assumes nothing.
use Prim.Native.Nat.{◌≤◌, ◌*◌}
use lib.ListN.{drop}
use mathlib.Core.Path.{◌≡◌}
use Rattle.forms.specs.Code.{no_match, slots_of, fill_by}
use Rattle.forms.proofs.fill.Given as goal

abbrev pub invariant-loop-slot : goal.invariant-loop-slot
invariant-loop-slot l =
    (l.m.place ≤ 2 * l.slot-index) × (fill_by (drop l.slot-index l.slot-items) l.at l.m ≡ fill_by (slots_of l.form) l.at no_match)
