-- Bytes written one by one are those written at once, as far as there are places.
-- Assumes nothing.
use native.Mathlib.Omega.{arith}
use lib.Seq.{set_out}
use Rattle.std.proofs.Common.{◌≡◌, refl, ◌≤◌, ◌<◌, ◌∷◌, [], take, drop, length, ℕ, suc, ◌+◌, ◌-◌, List, slice_set, get_or}
use Rattle.std.proofs.lemmas.List.{drop_more}
use Rattle.std.proofs.lemmas.List.Edits.{sets}
use Rattle.std.proofs.Math.Seq.{take-set-lt}

-- At first all is left.
pub none_written : (l : List ℕ) (at : ℕ) (values : List ℕ) → sets l at (drop (at - at) values) ≡ sets l at values
none_written l at values = let k : at - at ≡ 0 = omega arith in rw k refl

-- One more, at a place that is held, and what is left behind it.
pub one_written : (held at i : ℕ) (bytes values : List ℕ) → at ≤ i → i < held → i - at < length values → sets (take held (slice_set bytes i (get_or values (i - at) 0))) (i + 1) (drop (i + 1 - at) values) ≡ sets (take held bytes) i (drop (i - at) values)
one_written held at i bytes values from below more =
    let e : i + 1 ≡ suc i = omega arith in
    let k : suc i - at ≡ i - at + 1 = omega arith in
    rw (e, k, take-set-lt held bytes i (get_or values (i - at) 0) below, drop_more values (i - at) 0 more) refl

-- Past the end nothing is written.
past_end : (l : List ℕ) (i : ℕ) (values : List ℕ) → length l ≤ i → sets l i values ≡ l
past_end l i [] h = refl
past_end l i (v ∷ vs) h = rw (set_out l i v h) (past_end l (suc i) vs (omega arith))

-- Where no byte is left, or no place, all is written.
pub all_written : (l : List ℕ) (i : ℕ) (values : List ℕ) → (0 < length values → length l ≤ i) → sets l i values ≡ l
all_written l i [] h = refl
all_written l i (v ∷ vs) h = past_end l i (v ∷ vs) (h (omega arith))
