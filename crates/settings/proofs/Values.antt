-- What a file gives under a name and what is written in it under that name: four bytes, by place or by pair, or nothing.
-- Assumes nothing.
use mathlib.Core.Path.{◌≡◌, refl, ap, subst, ◌∙◌}
use mathlib.Core.Bool.{true}
use mathlib.Core.List.{List, ◌++◌}
use mathlib.Core.Logic.{◌⊎◌, inl, inr, ⊎_elim}
use Prim.Native.Nat.{ℕ, ◌+◌, ◌*◌, ◌-◌, ◌≤◌}
use native.Mathlib.Omega.{arith}
use lib.IntN.{ℤ}
use lib.ListN.{length, take, drop}
use Rattle.numbers.specs.Bits.{signed32}
use Rattle.numbers.specs.Bytes.{Bytes, bytes, number, field}
use Rattle.settings.specs.Layout.{edition_of, value_at, pair_at, pairs_of, good_pairs, laid_out}
use Rattle.settings.specs.Sets.{finished}
use Rattle.settings.specs.Requests.{IsName, value_of, ByPair, WrittenUnder}
use Rattle.settings.specs.declared.Settings.{Settings}
use Rattle.settings.proofs.Pairs.{zeros_there, under_there, FoundThere, AbsentThere, there_or}
use Rattle.settings.proofs.Eights.{length_part, pair_stands, stands_pair}
use Rattle.settings.proofs.Editions.{one_or_two, laid_1, value_1, laid_2, value_2}

-- These four bytes are written under the name, and their value is this one; or none are, and this is the given one.
abbrev pub Gives : List ℕ → ℕ → ℤ → Type 0
Gives s v z = (four : List ℕ) × WrittenUnder s v four × (z ≡ signed32 (number four))

abbrev pub Keeps : List ℕ → ℕ → ℤ → ℤ → Type 0
Keeps s v given z = ((four : List ℕ) → WrittenUnder s v four → ⊥) × (z ≡ given)

module _ (s : List ℕ) (given : Settings) (v : ℕ) (n : IsName v) where
  -- Edition 1 has every name by place.
  place_gives : edition_of s ≡ 1 → length s ≡ 24 → Gives s v (value_of (finished s given) v)
  unfolding value_at field
  place_gives e l = (
    take 4 (drop (4 * (v - 6)) s),
    (length_part 4 (4 * (v - 6)) s (omega (arith, l, n.1)), inl (record { edition = e; stands = refl })),
    value_1 s e given v n,
  )

  place_taken : edition_of s ≡ 1 → (four : List ℕ) → take 4 (drop (4 * (v - 6)) s) ≡ four → value_of (finished s given) v ≡ signed32 (number four)
  unfolding value_at field
  place_taken e four t = value_1 s e given v n ∙ ap (λ (l : List ℕ). signed32 (number l)) t

  -- Edition 2 has a name by the pair of its number.
  pair_there : (four : List ℕ) (p : ByPair s v four) → ((pair_at s p.place).number ≡ v) × ((pair_at s p.place).value ≡ signed32 (number four))
  pair_there four p = stands_pair s p.place (omega (arith, p.inside)) v four (omega (arith, n.1)) p.stands

  module _ (e : edition_of s ≡ 2) (good : good_pairs 0 (pairs_of s) ≡ true) where
    pair_gives : Bytes s → FoundThere s v (value_of given v) → Gives s v (value_of (finished s given) v)
    unfolding pair_at value_at field
    pair_gives b f = let i = f.0 in let inside = f.1 in (
      take 4 (drop (8 * i + 4) s),
      (
        length_part 4 (8 * i + 4) s (omega (arith, inside)),
        inr (record {
          edition = e;
          place = i;
          inside = inside;
          stands =
              subst (λ (k : ℕ). take 8 (drop (8 * i) s) ≡ bytes 2 k ++ (bytes 2 0 ++ take 4 (drop (8 * i + 4) s))) f.2
              (pair_stands s i (omega (arith, inside)) b (zeros_there s good i inside));
        }),
      ),
      value_2 s e given v n ∙ f.3,
    )

    pair_keeps : AbsentThere s v (value_of given v) → Keeps s v (value_of given v) (value_of (finished s given) v)
    pair_keeps a = (
      λ four w. ⊎_elim (λ p. omega (arith, e, p.edition)) (λ p. a.0 p.place p.inside (pair_there four p).0) w.1,
      value_2 s e given v n ∙ a.1,
    )

    pair_taken : (four : List ℕ) → ByPair s v four → value_of (finished s given) v ≡ signed32 (number four)
    pair_taken four p =
        let q = pair_there four p in
        value_2 s e given v n ∙ under_there s good p.place p.inside v (value_of given v) q.0 ∙ q.1

  -- Of either edition, laid out as it should be.
  module _ (laid : laid_out s ≡ true) where
    pub file_tells : (last : ℕ) → last ≤ 2 → 8 ≤ length s → 1 ≤ edition_of s → edition_of s ≤ last → Bytes s
        → Gives s v (value_of (finished s given) v) ⊎ Keeps s v (value_of given v) (value_of (finished s given) v)
    file_tells last l long low high b =
        ⊎_elim
        (λ e. inl (place_gives e (laid_1 s e laid)))
        (λ e.
        let good = laid_2 s e laid in
        ⊎_elim (λ f. inl (pair_gives e good b f)) (λ a. inr (pair_keeps e good a)) (there_or s v (value_of given v) long))
        (one_or_two s last l low high)

    pub file_taken : (four : List ℕ) → WrittenUnder s v four → value_of (finished s given) v ≡ signed32 (number four)
    file_taken four w =
        ⊎_elim
        (λ p. place_taken p.edition four p.stands)
        (λ p. pair_taken p.edition (laid_2 s p.edition laid) four p)
        w.1
