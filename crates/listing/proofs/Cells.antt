-- A cell that has one of the layouts passes each of its tests.
-- Assumes nothing.
use mathlib.Core.Path.{◌≡◌}
use mathlib.Core.Bool.{◌&&◌}
use mathlib.Core.List.{List}
use Prim.Native.Nat.{ℕ, ◌+◌, ◌/◌, ◌%◌}
use lib.Dec.{T, eqb, eqb→eq}
use Rattle.numbers.specs.Bytes.{field}
use Rattle.numbers.proofs.Truth.{both}
use Rattle.image.specs.Layout.{variable_count}
use Rattle.image.specs.Check.{Use, good_written, good_selector, good_operand, good_target, fits}

-- The tests on a cell one by one.
pub record Fit (s : List ℕ) (place : ℕ) (u : Use) : Type 0 where
  pub operation : field 1 place s ≡ u.operation
  pub written : T (good_written (variable_count s) u.writes (field 1 (place + 1) s))
  pub selector : T (good_selector u.selectors (field 1 (place + 2) s))
  pub left : T (good_operand (variable_count s) u.left (field 1 (place + 3) s % 4) (field 4 (place + 4) s))
  pub right : T (good_operand (variable_count s) u.right (field 1 (place + 3) s / 4) (field 4 (place + 8) s))
  pub target : T (good_target s u.operation u.target (field 2 (place + 12) s))
  pub rest : field 2 (place + 14) s ≡ 0

pub fitting : (s : List ℕ) (place : ℕ) (u : Use) → T (fits s place u) → Fit s place u
unfolding fits
fitting s place u t =
    let tested = good_target s u.operation u.target (field 2 (place + 12) s) in
    let ended = tested && eqb (field 2 (place + 14) s) 0 in
    let right = good_operand (variable_count s) u.right (field 1 (place + 3) s / 4) (field 4 (place + 8) s) in
    let left = good_operand (variable_count s) u.left (field 1 (place + 3) s % 4) (field 4 (place + 4) s) in
    let chosen = good_selector u.selectors (field 1 (place + 2) s) in
    let written = good_written (variable_count s) u.writes (field 1 (place + 1) s) in
    let a = both (eqb (field 1 place s) u.operation) (written && (chosen && (left && (right && ended)))) t in
    let b = both written (chosen && (left && (right && ended))) a.1 in
    let c = both chosen (left && (right && ended)) b.1 in
    let d = both left (right && ended) c.1 in
    let e = both right ended d.1 in
    let f = both tested (eqb (field 2 (place + 14) s) 0) e.1 in
    record {
      operation = eqb→eq (field 1 place s) u.operation a.0;
      written = b.0;
      selector = c.0;
      left = d.0;
      right = e.0;
      target = f.0;
      rest = eqb→eq (field 2 (place + 14) s) 0 f.1;
    }
