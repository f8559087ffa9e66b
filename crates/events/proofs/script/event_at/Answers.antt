-- `event_at` meets its contract: each field is read where specs/ has it.
-- Assumes nothing.
use mathlib.Core.Path.{◌≡◌}
use Prim.Native.Nat.{◌+◌, ◌*◌}
use borrow.Author.Rules.{rules}
use lib.ListN.{get_or}
use Rattle.numbers.proofs.Laws.{field_one}
use Rattle.program.proofs.Results.{got32}
use Rattle.events.specs.Events.{event_at}
use Rattle.events.proofs.script.event_at.Goals as goal

pub returns : goal.returns
unfolding event_at
returns c =
    let a = c.args in
    let kind : c.unwrap_or.result ≡ get_or a.s.now (12 * a.k + 4) 0 = search rules in
    let number : c.unwrap_or-2.result ≡ get_or a.s.now (12 * a.k + 5) 0 = search rules in
    simp (c.read4.ensures, kind, number, ← field_one, c.read2.ensures, got32 _ _ c.signed.type_inv c.signed.ensures, c.read4-2.ensures)
