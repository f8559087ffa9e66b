-- Bytes added one by one are those added at once, as far as there is room.
-- Assumes nothing.
use Rattle.std.proofs.lemmas.Grind.{common_steps}
use mathlib.Core.Path.{ap}
use native.Mathlib.Omega.{arith}
use Rattle.std.proofs.Common.{◌≡◌, refl, ◌≤◌, ◌<◌, ◌∷◌, [], ◌++◌, take, length, ℕ, zero, suc, ◌+◌, List, slice_set, get_or}
use Rattle.std.proofs.lemmas.List.{take_more, take_more_set, take_all, take-append-le, length-append, length-take-le, append_assoc}
use Rattle.parts.specs.Added.{added}

-- A byte more, where there is room for it.
pub pushed : (room held : ℕ) (bytes : List ℕ) (b : ℕ) → length bytes ≡ room → held < room → take (held + 1) (slice_set bytes held b) ≡ added room (take held bytes) (b ∷ [])
unfolding added
pushed room held bytes b full below = grind (arith, common_steps, take_more_set bytes held b, take_all room (take held bytes ++ b ∷ []), length-append (take held bytes) (b ∷ []), length-take-le held bytes)

-- Bytes more, where there is none.
pub left_out : (room held : ℕ) (bytes more : List ℕ) → length bytes ≡ room → room ≤ held → held ≤ room → take held bytes ≡ added room (take held bytes) more
unfolding added
left_out room held bytes more full above within = grind (arith, common_steps, take-append-le room (take held bytes) more, take_all room (take held bytes), length-take-le held bytes)

-- What is left out once is left out of more, too.
taken : (n : ℕ) (l more : List ℕ) → take n (take n l ++ more) ≡ take n (l ++ more)
taken zero l more = refl
taken (suc n) [] more = refl
taken (suc n) (b ∷ bs) more = ap (λ x. b ∷ x) (taken n bs more)

-- Nothing more leaves the bytes as they are.
pub none_more : (room : ℕ) (held : List ℕ) → length held ≤ room → held ≡ added room held []
unfolding added
none_more room held within = grind (arith, common_steps, take_all room held)

-- One more of a list, behind those before it.
pub one_more : (room : ℕ) (held values : List ℕ) (i : ℕ) → i < length values → added room (added room held (take i values)) (get_or values i 0 ∷ []) ≡ added room held (take (i + 1) values)
unfolding added
one_more room held values i below = grind (arith, taken room (held ++ take i values) (get_or values i 0 ∷ []), append_assoc held (take i values) (get_or values i 0 ∷ []), take_more values i 0 below)
