-- Three runs of parts written side by side, each into its own room, give the three joined lists.
-- Assumes nothing.
use mathlib.Core.Path.{◌≡◌, refl, sym, ap, ◌∙◌}
use mathlib.Core.List.{List, [], ◌∷◌, ◌++◌, append_assoc, flat_map}
use Prim.Native.Nat.{ℕ, suc, ◌+◌, ◌≤◌}
use native.Mathlib.Omega.{arith}
use lib.ListN.{length, take, drop, length-append, take-append-drop, length-drop}
use lib.Seq.{sets, sets-eq, take_at, drop_at, length-take-le}
use Rattle.translation.specs.Code.{emit_from}

-- a list written over as many elements behind a prefix
pub sets_mid : (p x s v : List ℕ) (i : ℕ) → i ≡ length p → length x ≡ length v → sets (p ++ (x ++ s)) i v ≡ p ++ (v ++ s)
sets_mid p x s v i e h =
    let n : length (p ++ (x ++ s)) ≡ length p + (length x + length s) = simp length-append in
    let room : i + length v ≤ length (p ++ (x ++ s)) = omega arith in
    let front : take i (p ++ (x ++ s)) ≡ p = take_at p (x ++ s) i (sym e) in
    let m : length (p ++ x) ≡ i + length v = length-append p x ∙ omega arith in
    let back : drop (i + length v) (p ++ (x ++ s)) ≡ s = rw (← append_assoc p x s) (drop_at (p ++ x) s (i + length v) m) in
    sets-eq v (p ++ (x ++ s)) i room ∙ rw (front, back) (append_assoc p v s)

-- three parts, each over the front of its room
written : (p x q y r z t x₁ x₂ y₁ y₂ z₁ z₂ u v w : List ℕ) (i j k : ℕ)
    → x ≡ x₁ ++ x₂ → y ≡ y₁ ++ y₂ → z ≡ z₁ ++ z₂ → length x₁ ≡ length u → length y₁ ≡ length v → length z₁ ≡ length w
    → i ≡ length p → j ≡ length p + (length x + length q) → k ≡ length p + (length x + (length q + (length y + length r)))
    → sets (sets (sets (p ++ (x ++ (q ++ (y ++ (r ++ (z ++ t)))))) i u) j v) k w
    ≡ (p ++ u) ++ (x₂ ++ ((q ++ v) ++ (y₂ ++ ((r ++ w) ++ (z₂ ++ t)))))
written p x q y r z t x₁ x₂ y₁ y₂ z₁ z₂ u v w i j k ex ey ez hu hv hw ei ej ek =
    let nx : length x ≡ length x₁ + length x₂ = ap length ex ∙ length-append x₁ x₂ in
    let ny : length y ≡ length y₁ + length y₂ = ap length ey ∙ length-append y₁ y₂ in
    let first : sets (p ++ (x₁ ++ (x₂ ++ (q ++ (y ++ (r ++ (z ++ t))))))) i u ≡ p ++ (u ++ (x₂ ++ (q ++ (y ++ (r ++ (z ++ t))))))
    = sets_mid p x₁ (x₂ ++ (q ++ (y ++ (r ++ (z ++ t))))) u i ei hu in
    let nj : length (p ++ (u ++ (x₂ ++ q))) ≡ length p + (length u + (length x₂ + length q)) = simp length-append in
    let second : sets (p ++ (u ++ (x₂ ++ (q ++ (y₁ ++ (y₂ ++ (r ++ (z ++ t)))))))) j v ≡ p ++ (u ++ (x₂ ++ (q ++ (v ++ (y₂ ++ (r ++ (z ++ t)))))))
    = simp append_assoc at (sets_mid (p ++ (u ++ (x₂ ++ q))) y₁ (y₂ ++ (r ++ (z ++ t))) v j (omega arith) hv) in
    let nk : length (p ++ (u ++ (x₂ ++ (q ++ (v ++ (y₂ ++ r)))))) ≡ length p + (length u + (length x₂ + (length q + (length v + (length y₂ + length r))))) = simp length-append in
    let third : sets (p ++ (u ++ (x₂ ++ (q ++ (v ++ (y₂ ++ (r ++ (z₁ ++ (z₂ ++ t))))))))) k w ≡ p ++ (u ++ (x₂ ++ (q ++ (v ++ (y₂ ++ (r ++ (w ++ (z₂ ++ t))))))))
    = simp append_assoc at (sets_mid (p ++ (u ++ (x₂ ++ (q ++ (v ++ (y₂ ++ r)))))) z₁ (z₂ ++ t) w k (omega arith) hw) in
    ap (λ (l : List ℕ). sets (sets (sets (p ++ (l ++ (q ++ (y ++ (r ++ (z ++ t)))))) i u) j v) k w) ex
    ∙ ap (λ (l : List ℕ). sets (sets (sets (p ++ l) i u) j v) k w) (append_assoc x₁ x₂ (q ++ (y ++ (r ++ (z ++ t)))))
    ∙ ap (λ (l : List ℕ). sets (sets l j v) k w) first
    ∙ ap (λ (l : List ℕ). sets (sets (p ++ (u ++ (x₂ ++ (q ++ (l ++ (r ++ (z ++ t))))))) j v) k w) ey
    ∙ ap (λ (l : List ℕ). sets (sets (p ++ (u ++ (x₂ ++ (q ++ l)))) j v) k w) (append_assoc y₁ y₂ (r ++ (z ++ t)))
    ∙ ap (λ (l : List ℕ). sets l k w) second
    ∙ ap (λ (l : List ℕ). sets (p ++ (u ++ (x₂ ++ (q ++ (v ++ (y₂ ++ (r ++ (l ++ t)))))))) k w) ez
    ∙ ap (λ (l : List ℕ). sets (p ++ (u ++ (x₂ ++ (q ++ (v ++ (y₂ ++ (r ++ l))))))) k w) (append_assoc z₁ z₂ t)
    ∙ third
    ∙ simp append_assoc

nothing : (x : List ℕ) → length x ≡ 0 → x ≡ []
nothing [] h = refl
nothing (y ∷ ys) h = let z : ◌≡◌ {A = ℕ} (suc (length ys)) 0 = h in absurd (omega arith)

-- the front of a room that has at least so many elements, and what is left of it
front_length : (x u v : List ℕ) → length x ≡ length (u ++ v) → length (take (length u) x) ≡ length u
front_length x u v h = length-take-le (length u) x (omega (arith, length-append u v))

rest_length : (x u v : List ℕ) → length x ≡ length (u ++ v) → length (drop (length u) x) ≡ length v
rest_length x u v h = length-drop (length u) x ∙ omega (arith, length-append u v)

module _ {A : Type 0} (f g h : A → List ℕ) where
  -- from these places on, each run of parts fills its room x, y or z
  abbrev Fits : ℕ → ℕ → ℕ → List A → List ℕ → List ℕ → List ℕ → List ℕ → List ℕ → List ℕ → List ℕ → Type 0
  Fits i j k xs p x q y r z t =
      emit_from f g h i j k xs (p ++ (x ++ (q ++ (y ++ (r ++ (z ++ t))))))
      ≡ p ++ (flat_map f xs ++ (q ++ (flat_map g xs ++ (r ++ (flat_map h xs ++ t)))))

  pub emitted : (xs : List A) (i j k : ℕ) (p x q y r z t : List ℕ)
      → length x ≡ length (flat_map f xs) → length y ≡ length (flat_map g xs) → length z ≡ length (flat_map h xs)
      → i ≡ length p → j ≡ length p + (length x + length q) → k ≡ length p + (length x + (length q + (length y + length r)))
      → Fits i j k xs p x q y r z t
  unfolding emit_from flat_map
  emitted [] i j k p x q y r z t a b c d e o = rw (nothing x a, nothing y b, nothing z c)
  emitted (w ∷ ws) i j k p x q y r z t a b c d e o =
      let u = f w in
      let v = g w in
      let s = h w in
      let ux = front_length x u (flat_map f ws) a in
      let uy = front_length y v (flat_map g ws) b in
      let uz = front_length z s (flat_map h ws) c in
      let rx = rest_length x u (flat_map f ws) a in
      let ry = rest_length y v (flat_map g ws) b in
      let rz = rest_length z s (flat_map h ws) c in
      let nx : length x ≡ length u + length (flat_map f ws) = a ∙ length-append u (flat_map f ws) in
      let ny : length y ≡ length v + length (flat_map g ws) = b ∙ length-append v (flat_map g ws) in
      ap (λ (l : List ℕ). emit_from f g h (i + length u) (j + length v) (k + length s) ws l)
      (written p x q y r z t (take (length u) x) (drop (length u) x) (take (length v) y) (drop (length v) y) (take (length s) z) (drop (length s) z) u v s i j k
      (sym (take-append-drop (length u) x)) (sym (take-append-drop (length v) y)) (sym (take-append-drop (length s) z)) ux uy uz d e o)
      ∙ emitted ws (i + length u) (j + length v) (k + length s) (p ++ u) (drop (length u) x) (q ++ v) (drop (length v) y) (r ++ s) (drop (length s) z) t rx ry rz
      (omega (arith, length-append p u)) (omega (arith, length-append p u, length-append q v)) (omega (arith, length-append p u, length-append q v, length-append r s))
      ∙ simp append_assoc
