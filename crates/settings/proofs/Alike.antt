-- The edition 1 file of four values, in bytes, and the edition 2 file of the four pairs with them read alike.
-- Assumes nothing.
use mathlib.Core.Path.{◌≡◌, refl}
use mathlib.Core.List.{List, [], ◌∷◌, ◌++◌}
use Prim.Native.Nat.{ℕ}
use native.Mathlib.Omega.{arith}
use lib.ListN.{length}
use Rattle.numbers.specs.Bytes.{bytes, number, field}
use Rattle.numbers.specs.Tests.{eq_list, listed, lowest}
use Rattle.settings.specs.Layout.{trailer, has_trailer, edition_of, value_at, pair_at, pairs_of, good_pair, good_pairs, laid_out}
use Rattle.settings.specs.Sets.{by_place, under, by_pairs, finished}
use Rattle.settings.specs.Calls.{read_faults, read_number, shown_by}
use Rattle.settings.specs.Requests.{our_read}
use Rattle.settings.specs.declared.Settings.{Settings}

-- The two files.
abbrev by_places : List ℕ → List ℕ → List ℕ → List ℕ → List ℕ
by_places a d vi vm = a ++ (d ++ (vi ++ (vm ++ trailer 1 24)))

abbrev by_numbers : List ℕ → List ℕ → List ℕ → List ℕ → List ℕ
by_numbers a d vi vm =
    bytes 2 6 ++ (bytes 2 0 ++ (a ++ (bytes 2 7 ++ (bytes 2 0 ++ (d ++ (bytes 2 8 ++ (bytes 2 0 ++ (vi ++ (bytes 2 9 ++ (bytes 2 0 ++ (vm ++ trailer 2 40)))))))))))

abbrev Alike : Settings → List ℕ → List ℕ → List ℕ → List ℕ → Type 0
Alike given a d vi vm = our_read (by_places a d vi vm) given ≡ our_read (by_numbers a d vi vm) given

-- Of any four times four bytes, both compute to the same.
abbrev four : ℕ → ℕ → ℕ → ℕ → List ℕ
four x y z w = x ∷ y ∷ z ∷ w ∷ []

same : (given : Settings) (a₀ a₁ a₂ a₃ d₀ d₁ d₂ d₃ i₀ i₁ i₂ i₃ m₀ m₁ m₂ m₃ : ℕ)
    → Alike given (four a₀ a₁ a₂ a₃) (four d₀ d₁ d₂ d₃) (four i₀ i₁ i₂ i₃) (four m₀ m₁ m₂ m₃)
unfolding bytes number field eq_list listed lowest trailer has_trailer edition_of value_at pair_at pairs_of good_pair good_pairs laid_out by_place under by_pairs finished read_faults read_number shown_by
same given a₀ a₁ a₂ a₃ d₀ d₁ d₂ d₃ i₀ i₁ i₂ i₃ m₀ m₁ m₂ m₃ = refl

-- What holds of any four bytes holds of each list of that length.
by_four : (P : List ℕ → Type 0) → ((x y z w : ℕ) → P (four x y z w)) → (l : List ℕ) → length l ≡ 4 → P l
by_four P f [] h = absurd (omega arith)
by_four P f (x ∷ []) h = absurd (omega arith)
by_four P f (x ∷ y ∷ []) h = absurd (omega arith)
by_four P f (x ∷ y ∷ z ∷ []) h = absurd (omega arith)
by_four P f (x ∷ y ∷ z ∷ w ∷ []) h = f x y z w
by_four P f (x ∷ y ∷ z ∷ w ∷ v ∷ l) h = absurd (omega arith)

pub alike : (a d vi vm : List ℕ) (given : Settings) → length a ≡ 4 → length d ≡ 4 → length vi ≡ 4 → length vm ≡ 4
    → our_read (by_places a d vi vm) given ≡ our_read (by_numbers a d vi vm) given
alike a d vi vm given ha hd hi hm =
    by_four (λ l. Alike given l d vi vm)
    (λ a₀ a₁ a₂ a₃.
    let a' = four a₀ a₁ a₂ a₃ in
    by_four (λ l. Alike given a' l vi vm)
    (λ d₀ d₁ d₂ d₃.
    let d' = four d₀ d₁ d₂ d₃ in
    by_four (λ l. Alike given a' d' l vm)
    (λ i₀ i₁ i₂ i₃. by_four (λ l. Alike given a' d' (four i₀ i₁ i₂ i₃) l) (same given a₀ a₁ a₂ a₃ d₀ d₁ d₂ d₃ i₀ i₁ i₂ i₃) vm hm)
    vi hi)
    d hd)
    a ha
