-- `bad_names` meets its contract: the loop searches the records, and a bad key is a bad name. The invariant: none was found before,
-- and the names passed are marked.
-- Assumes nothing.
use mathlib.Core.Path.{ap₂}
use Prim.Native.Nat.{ℕ, ◌+◌}
use native.Mathlib.Omega.{arith}
use Rattle.image.proofs.Any.{none_yet, one_more, that_is, all_without}
use Rattle.cells.proofs.Marks.{unmarked, marked_more}
use Rattle.checking.proofs.Keys.{not_free, key_inside, free, looked}
use Rattle.image.proofs.Records.{fitting}
use Rattle.checking.proofs.Records.bad_names.Goals as goal

pub overflow_add-k-end : goal.overflow_add-k-end
overflow_add-k-end c =
    let r = c.args.self.now in
    let f = fitting _ c.requires in
    record { fits = omega (arith, f.labels, f.variables, r.labels_counted, r.variables_counted) }

pub loop-k-init : goal.loop-k-init
loop-k-init c = (omega arith, none_yet _, unmarked 23296 _)

pub returns-then-not-is_free_name : goal.returns-then-not-is_free_name
returns-then-not-is_free_name c =
    that_is _ c.loop-k.k (ap₂ (λ (n m : ℕ). n + m) c.args.self.now.labels_counted c.args.self.now.variables_counted) c.loop-k-test.true (looked _ c.args.self.now.bytes c.requires c.args.self.now.labels_counted c.args.self.now.variables_counted c.loop-k.k c.loop-k-test.true) (not_free _ _ c.key_at-key.ensures c.is_free_name.ensures c.if-not-is_free_name.true)

pub bounds-seen-i : goal.bounds-seen-i
bounds-seen-i c = key_inside _ _ c.key_at-key.ensures c.is_free_name.ensures c.if-not-is_free_name.false

pub returns-then-seen-i : goal.returns-then-seen-i
returns-then-seen-i c =
    that_is _ c.loop-k.k (ap₂ (λ (n m : ℕ). n + m) c.args.self.now.labels_counted c.args.self.now.variables_counted) c.loop-k-test.true
    (looked _ c.args.self.now.bytes c.requires c.args.self.now.labels_counted c.args.self.now.variables_counted c.loop-k.k c.loop-k-test.true) (free _ _ c.key_at-key.ensures c.is_free_name.ensures c.if-not-is_free_name.false c.loop-k.invariant.2 c.if-seen-i.true)

pub bounds-seen-i-in-loop-k : goal.bounds-seen-i-in-loop-k
bounds-seen-i-in-loop-k c = key_inside _ _ c.key_at-key.ensures c.is_free_name.ensures c.if-not-is_free_name.false

pub loop-k-preserved : goal.loop-k-preserved
loop-k-preserved c = (
  omega arith,
  one_more _ c.loop-k.k c.loop-k.invariant.1 (looked _ c.args.self.now.bytes c.requires c.args.self.now.labels_counted c.args.self.now.variables_counted c.loop-k.k c.loop-k-test.true)
      (free _ _ c.key_at-key.ensures c.is_free_name.ensures c.if-not-is_free_name.false c.loop-k.invariant.2 c.if-seen-i.false),
  marked_more 23296 _ c.loop-k.k c.loop-k.invariant.2 c.key_at-key.ensures,
)

pub returns : goal.returns
returns c = all_without _ c.loop-k.k (ap₂ (λ (n m : ℕ). n + m) c.args.self.now.labels_counted c.args.self.now.variables_counted) c.loop-k.invariant.0 c.loop-k-test.false c.loop-k.invariant.1
