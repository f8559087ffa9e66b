-- A record in the buffer.
-- Assumes nothing.
use mathlib.Core.Path.{◌≡◌, refl, ap, ◌∙◌}
use mathlib.Core.Bool.{Bool, true, false, cond}
use mathlib.Core.List.{List, [], ◌++◌}
use Prim.Native.Nat.{ℕ, ◌+◌, ◌≤◌}
use native.Mathlib.Omega.{arith}
use lib.Dec.{eqb}
use lib.ListN.{length, length-append}
use lib.Seq.{sets}
use Rattle.numbers.specs.Bytes.{bytes}
use Rattle.numbers.specs.Bits.{digits32}
use Rattle.numbers.proofs.Laws.{length_bytes, sets_append}
use Rattle.events.specs.declared.Record.{Record}
use Rattle.events.specs.Events.{record_bytes}

-- Fields of these widths, written one after the other.
pub written : (w n at : ℕ) (b ys : List ℕ) → sets b at (bytes w n ++ ys) ≡ sets (sets b at (bytes w n)) (at + w) ys
written w n at b ys = rw (sets_append (bytes w n) b at ys, length_bytes w n)

module _ (t : ℕ) (r : Record) (h : eqb r.kind 0 ≡ false) where
  -- The bytes of a record, field by field.
  record_fields : (b : List ℕ) (at : ℕ)
      → sets (sets (sets (sets (sets b at (bytes 4 t)) (at + 4) (bytes 1 r.kind)) (at + 5) (bytes 1 r.number)) (at + 6) (bytes 2 0)) (at + 8) (bytes 4 (digits32 r.value))
      ≡ sets b at (record_bytes t r)
  unfolding record_bytes
  record_fields b at =
      let e5 : at + 4 + 1 ≡ at + 5 = omega arith in
      let e6 : at + 5 + 1 ≡ at + 6 = omega arith in
      let e8 : at + 6 + 2 ≡ at + 8 = omega arith in
      rw (h, written 4 t at b, written 1 r.kind (at + 4), e5, written 1 r.number (at + 5), e6, written 2 0 (at + 6), e8)

  pub record_written : (b : List ℕ) (at : ℕ) {b1 b2 b3 b4 b5 : List ℕ} {d : ℕ}
      → b1 ≡ sets b at (bytes 4 t) → b2 ≡ sets b1 (at + 4) (bytes 1 r.kind) → b3 ≡ sets b2 (at + 5) (bytes 1 r.number)
      → b4 ≡ sets b3 (at + 6) (bytes 2 0) → d ≡ digits32 r.value → b5 ≡ sets b4 (at + 8) (bytes 4 d) → b5 ≡ sets b at (record_bytes t r)
  record_written b at {b1} {b2} {b3} {b4} e1 e2 e3 e4 ed e5 =
      e5
      ∙ ap (λ (x : ℕ). sets b4 (at + 8) (bytes 4 x)) ed
      ∙ ap (λ (x : List ℕ). sets x (at + 8) (bytes 4 (digits32 r.value))) (e4 ∙ ap (λ (x : List ℕ). sets x (at + 6) (bytes 2 0)) (e3 ∙ ap (λ (x : List ℕ). sets x (at + 5) (bytes 1 r.number)) (e2 ∙ ap (λ (x : List ℕ). sets x (at + 4) (bytes 1 r.kind)) e1)))
      ∙ record_fields b at

  pub record_size : length (record_bytes t r) ≡ 12
  unfolding record_bytes
  record_size = rw h (simp (length-append, length_bytes))

-- A turn that records nothing writes nothing.
pub record_none : (t : ℕ) (r : Record) → eqb r.kind 0 ≡ true → record_bytes t r ≡ []
unfolding record_bytes
record_none t r h = rw h

-- Events 6: a turn writes 12 bytes or none.
pub record_length : (t : ℕ) (r : Record) → length (record_bytes t r) ≡ cond (eqb r.kind 0) 0 12
record_length t r = by_kind (eqb r.kind 0) refl
  where
    by_kind : (b : Bool) → eqb r.kind 0 ≡ b → length (record_bytes t r) ≡ cond b 0 12
    by_kind true h = ap length (record_none t r h)
    by_kind false h = record_size t r h

pub record_most : (t : ℕ) (r : Record) → length (record_bytes t r) ≤ 12
record_most t r = rw (record_length t r) (at_most (eqb r.kind 0))
  where
    at_most : (b : Bool) → cond b 0 12 ≤ 12
    at_most true = omega arith
    at_most false = omega arith
