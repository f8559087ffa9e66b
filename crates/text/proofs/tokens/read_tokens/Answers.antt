-- `read_tokens` meets its contract. The loop's invariant: reading on from here gives the whole; the present token has no more characters than were passed.
-- Assumes nothing.
use lib.ListN.{drop, get_or}
use mathlib.Core.Path.{refl, sym, ◌∙◌}
use native.Mathlib.Omega.{arith}
use Rattle.text.proofs.Scanning.{scan_more, scan_ends, scan_end, scan_full, push_is, grown_fits, none_fits}
use Rattle.text.proofs.Packing.{scan_packs}
use Rattle.text.proofs.tokens.read_tokens.Goals as goal
use Rattle.text.proofs.tokens.read_tokens.Goals.{then-ends+else-n-ge-MOST, else-ends}

pub returns-then-n-ge-MOST : goal.returns-then-n-ge-MOST
returns-then-n-ge-MOST c =
    let l = c.args.l.now in
    sym (scan_full c.loop-i.ts c.loop-i.w (drop c.loop-i.i l) c.if-n-ge-MOST.true) ∙ c.loop-i.invariant.2 ∙ scan_packs l (λ i. omega (arith, c.type_inv.l i))

pub loop-i-preserved : goal.loop-i-preserved
loop-i-preserved c =
    let l = c.args.l.now in
    let i = c.loop-i.i in
    elim c.if-ends.branch [
      | then-ends+else-n-ge-MOST w ↦
          let n = none_fits w.none-w-then-ends.ensures in
          rw (w.ts-is, w.w-is) (
            omega (arith, n.0),
            n.1,
            scan_ends l c.loop-i.ts c.loop-i.w i c.loop-i-test.true refl c.character-next.ensures c.grown-w.ensures (sym w.if-ends.ensures) (push_is c.loop-i.ts w.if-n-ge-MOST.false w.token.ensures) w.none-w-then-ends.ensures
                ∙ c.loop-i.invariant.2,
          )
      | else-ends w ↦
          let r = grown_fits c.loop-i.w (get_or l i 0) c.grown-w.ensures c.loop-i.invariant.1 in
          rw (w.ts-is, w.w-is) (
            omega (arith, r.0),
            r.1,
            scan_more l c.loop-i.ts c.loop-i.w i c.loop-i-test.true refl c.character-next.ensures c.grown-w.ensures (sym w.if-ends.ensures) ∙ c.loop-i.invariant.2,
          )
    ]

pub returns : goal.returns
returns c =
    let l = c.args.l.now in
    sym (scan_end l c.loop-i.ts c.loop-i.w c.loop-i.i c.loop-i-test.false) ∙ c.loop-i.invariant.2 ∙ scan_packs l (λ i. omega (arith, c.type_inv.l i))
