-- `reach` meets its contract. The invariant: what the events left do to the machine here, all of them do to the machine at the start.
-- Assumes nothing.
use mathlib.Core.Path.{◌≡◌, refl, ◌∙◌}
use mathlib.Core.Bool.{true}
use mathlib.Core.List.{[]}
use Prim.Native.Nat.{◌-◌}
use native.Mathlib.Omega.{arith}
use Rattle.machine.specs.Turn.{start_machine}
use Rattle.events.specs.Events.{good_event}
use Rattle.machine.specs.Code.{acts}
use Rattle.machine.proofs.Inputs.{inputs_happened, size_happened}
use Rattle.events.proofs.Scripts.{good_events}
use Rattle.machine.proofs.Starting.{acts_more}
use Rattle.machine.proofs.happening.reach.Goals as goal

pub loop-k-init : goal.loop-k-init
loop-k-init c = let p = c.requires in (omega arith, p.2.0, p.0, λ m. refl, refl)

pub whole_event-requires : goal.whole_event-requires
whole_event-requires c = let p = c.requires in (omega (arith, p.2.1, c.loop-k-test.true), omega (arith, p.3))

pub happen-here-requires : goal.happen-here-requires
happen-here-requires c =
    let good : good_event c.whole_event.result ≡ true = rw c.whole_event.ensures (good_events c.args.events.now c.loop-k.k c.requires.1 (omega (arith, c.requires.2.1, c.loop-k-test.true))) in
    (c.loop-k.invariant.2, good)

pub loop-k-preserved : goal.loop-k-preserved
loop-k-preserved c =
    let f = c.loop-k-test.true in
    let good : good_event c.whole_event.result ≡ true = rw c.whole_event.ensures (good_events c.args.events.now c.loop-k.k c.requires.1 (omega (arith, c.requires.2.1, c.loop-k-test.true))) in (
      omega arith,
      omega arith,
      inputs_happened (start_machine []) c.loop-k.invariant.2 good c.happen-here.ensures,
      λ m. acts_more c.args.events.now c.loop-k.k c.args.last _ f c.whole_event.ensures (c.happen-here.ensures.each m) ∙ c.loop-k.invariant.3 m,
      size_happened (start_machine []) c.happen-here.ensures ∙ c.loop-k.invariant.4,
    )

pub returns : goal.returns
unfolding acts
returns c =
    let e : c.args.last - c.loop-k.k ≡ 0 = omega arith in
    record { each = λ m. rw e at (c.loop-k.invariant.3 m); inputs = c.loop-k.invariant.2; size = c.loop-k.invariant.4 }
