-- `write_record` meets its contract: five fields, one after the other.
-- Assumes nothing.
use mathlib.Core.Path.{ap, ◌≡◌, refl, ◌∙◌}
use Prim.Native.Nat.{◌+◌}
use native.Mathlib.Omega.{arith}
use borrow.Author.Tests.{eq-eqb, ne_eqb}
use borrow.Author.Rules.{rules}
use lib.ListN.{length}
use mir.Val.{SFits}
use mir.Syntax.{w32}
use Rattle.numbers.specs.Bits.{digits32}
use Rattle.numbers.proofs.Kit.{back32}
use Rattle.events.specs.Events.{record_bytes}
use Rattle.events.proofs.Written.{record_written, record_size, record_none}
use Rattle.events.proofs.records.write_record.Goals as goal

pub returns-then-r-eq0 : goal.returns-then-r-eq0
returns-then-r-eq0 c = rw (record_none _ _ (eq-eqb _ _ c.if-r-eq0.true)) (omega arith, refl)

pub overflow_add-result : goal.overflow_add-result
overflow_add-result c = let h = c.requires in let g = c.well_formed in record { fits = omega arith }

pub returns : goal.returns
returns c =
    let k = ne_eqb _ _ c.if-r-eq0.false in
    let f : SFits w32 c.args.r.value = search rules in
    let n : c.args.at + 12 ≡ c.args.at + length (record_bytes c.args.turn c.args.r) = rw (record_size c.args.turn c.args.r k) in (
      n,
      record_written c.args.turn c.args.r k c.args.b.now c.args.at
          (rw c.from.ensures at c.write.ensures) (rw c.from-2.ensures at c.write-2.ensures) (rw c.from-3.ensures at c.write-3.ensures) c.write-4.ensures
          (c.from-4.ensures ∙ c.digits.ensures ∙ ap digits32 (back32 f)) c.write-5.ensures,
    )
