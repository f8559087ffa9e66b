-- `by_place` meets its contract: each value is read at its place.
-- Assumes nothing.
use Rattle.program.proofs.Results.{got32}
use Rattle.settings.specs.Sets.{by_place}
use Rattle.settings.proofs.by_place.Goals as goal

pub returns : goal.returns
unfolding by_place
returns c =
    let vm = c.value_at-4 in
    let vi = c.value_at-3 in
    let d = c.value_at-2 in
    let a = c.value_at in
    rw (got32 _ _ a.type_inv a.ensures, got32 _ _ d.type_inv d.ensures, got32 _ _ vi.type_inv vi.ensures, got32 _ _ vm.type_inv vm.ensures)
