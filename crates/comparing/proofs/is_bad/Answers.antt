-- `is_bad` meets its contract: a search over the records.
-- Assumes nothing.
use mathlib.Core.Path.{refl, sym, ◌∙◌}
use native.Mathlib.Omega.{arith}
use borrow.Author.Tests.{tests}
use Rattle.std.proofs.Common.{rules}
use Rattle.numbers.proofs.Searches.{found_below}
use Rattle.comparing.specs.Differences.{bad_record}
use Rattle.comparing.proofs.Buffers.{bad_count, bad_length_lem, as_records}
use Rattle.comparing.proofs.is_bad.Goals as goal

pub returns-then-count-gt-MOST : goal.returns-then-count-gt-MOST
returns-then-count-gt-MOST c = sym (bad_count _ (omega (arith, c.event_count-count.ensures, c.if-count-gt-MOST.true)))

pub returns-then-s-ne0 : goal.returns-then-s-ne0
returns-then-s-ne0 c = sym (bad_length_lem _ c.if-s-ne0.true)

pub returns : goal.returns
returns c =
    let n = c.event_count-count.ensures in
    found_below (bad_record c.args.s.now) c.event_count-count.result refl c.any.ensures.ran (λ x b q k. search (rules, tests))
    ∙ rw n (as_records _ (omega (arith, n, c.if-count-gt-MOST.false)) c.if-s-ne0.false)
