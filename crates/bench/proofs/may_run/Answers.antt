-- `may_run` meets its contract: the image's refusal comes before the run's own.
-- Assumes nothing.
use Rattle.bench.proofs.Refusing.{by_image, by_rest}
use Rattle.bench.proofs.may_run.Goals as goal

pub returns-in-Err : goal.returns-in-Err
returns-in-Err c = let a = by_image _ _ _ _ c.accept.ensures c.in-Err.is in record { number = a.number; index = a.index }

pub returns : goal.returns
returns c =
    let began = c.may_begin.ensures in
    let a = by_rest _ _ _ _ c.accept.ensures c.in_default.is (record { number = began.number; index = began.index }) in
    record { number = a.number; index = a.index }
