-- Laws of the reading of tokens, character by character.
-- Assumes nothing.
use mathlib.Core.Path.{◌≡◌, refl, sym, ap, ap₂, ◌∙◌}
use mathlib.Core.Bool.{Bool, true, false, cond, ◌&&◌, and-true, and-eq-true_iff}
use mathlib.Core.List.{List, [], ◌∷◌}
use Prim.Native.Nat.{ℕ, suc, ◌+◌, ◌*◌, ◌-◌, ◌≤◌, ◌<◌}
use native.Mathlib.Nat.{pow-suc}
use native.Mathlib.Numerals.{add-one}
use native.Mathlib.Omega.{arith}
use borrow.Author.Tests.{lt-ltb, le-ltb, ltb-false, leb-true}
use lib.Dec.{eqb, leb, ltb}
use lib.ListN.{length, take, drop, get_or, set, drop_of_length-le}
use lib.Seq.{drop-cons, get_or-drop}
use Rattle.std.specs.Prelude.{Option, Some, None, unwrap_or}
use Rattle.std.specs.List.{position, position_or_len}
use Rattle.std.proofs.lemmas.List.Recursion.{is_position_or_len}
use Rattle.numbers.specs.Tests.{all_of}
use Rattle.numbers.proofs.Truth.{of_both}
use Rattle.program.specs.Names.{digit}
use Rattle.text.specs.Tokens.{printable, uncommented}
use Rattle.text.specs.Code.{Small, value_with, word, key_with, grown, token_of, ends, no_word, tokens_with, pushed, scan}
use Rattle.text.specs.declared.tokens.Word.{Word}
use Rattle.text.specs.declared.tokens.Token.{Token}
use Rattle.text.specs.declared.tokens.Tokens.{Tokens}

-- Tests that hold together.
digit_size : (c : ℕ) → digit c ≡ true → (47 < c) × (c < 58)
unfolding digit
digit_size c e = let p = (and-eq-true_iff (leb 48 c) (leb c 57)).0 e in (omega (arith, leb-true 48 c p.0), omega (arith, leb-true c 57 p.1))

-- A digit is not below `0`.
pub digit_above : (c : ℕ) (d r : Bool) → d ≡ digit c → (d && r) ≡ true → 48 ≤ c
digit_above c d r p e = (digit_size c (sym p ∙ ((and-eq-true_iff d r).0 e).0)).0

-- The number with one character more: a digit where there is room for one; else none.
pub digit_more : (size v c : ℕ) {d : Bool} {k : ℕ} → d ≡ digit c → (d && ltb size 10) ≡ true → k ≡ c - 48 → Some (v * 10 + k) ≡ value_with size (Some v) c
unfolding value_with
digit_more size v c {d} {k} p e q = rw (← p, e, q)

pub digit_none : (size v c : ℕ) {d : Bool} → d ≡ digit c → (d && ltb size 10) ≡ false → None ≡ value_with size (Some v) c
unfolding value_with
digit_none size v c {d} p e = rw (← p, e)

value_small : (size : ℕ) (value : Option ℕ) (c : ℕ) → Small size value → Small (size + 1) (value_with size value c)
unfolding value_with
value_small size None c h = tt
value_small size (Some v) c h = pick (digit c && ltb size 10) refl
  where
    pick : (t : Bool) → (digit c && ltb size 10) ≡ t → Small (size + 1) (cond t (Some (v * 10 + (c - 48))) None)
    pick false e = tt
    pick true e = let d = digit_size c ((and-eq-true_iff (digit c) (ltb size 10)).0 e).0 in rw (add-one, pow-suc) (omega arith)

-- The characters that are read so far are no more than the bytes that are passed, and their number stays small.
pub grown_room : (w : Word) (c : ℕ) → Small w.size w.value → ((grown w c).size ≤ suc w.size) × Small (grown w c).size (grown w c).value
unfolding grown
grown_room w c h = pick (eqb c 32)
  where
    v : Word
    v = word (w.size + 1) (key_with w.size w.key c) (value_with w.size w.value c)

    pick : (t : Bool) → ((cond t w v).size ≤ suc w.size) × Small (cond t w v).size (cond t w v).value
    pick true = (omega arith, h)
    pick false = (omega arith, value_small w.size w.value c h)

pub grown_fits : (w : Word) (c : ℕ) {v : Word} → v ≡ grown w c → Small w.size w.value → (v.size ≤ suc w.size) × Small v.size v.value
grown_fits w c e h = rw e (grown_room w c h)

pub none_fits : {w : Word} → w ≡ no_word → (w.size ≤ 0) × Small w.size w.value
none_fits e = rw e (omega arith, omega arith)

-- A character passed, where it ends no token and where it does; and the end.
module _ (l : List ℕ) (ts : Tokens) (w : Word) (i : ℕ) where
  next_is : get_or (drop (suc i) l) 0 32 ≡ get_or l (suc i) 32
  next_is = get_or-drop (suc i) l 0 32 ∙ ap (λ (k : ℕ). get_or l k 32) (omega arith)

  pub scan_more : {c next : ℕ} {v : Word} → i < length l → c ≡ get_or l i 0 → next ≡ get_or l (i + 1) 32 → v ≡ grown w c → ends c next ≡ false
      → scan ts v (drop (i + 1) l) ≡ scan ts w (drop i l)
  unfolding scan
  scan_more {c} {next} {v} h p q r e =
      let f : ends (get_or l i 0) (get_or l (suc i) 32) ≡ false = ap₂ ends (sym p) (ap (λ (k : ℕ). get_or l k 32) (sym (add-one i)) ∙ sym q) ∙ e in
      rw (drop-cons l i 0 h, next_is, f, add-one) (rw (r, p))

  pub scan_ends : {c next : ℕ} {v x : Word} {us : Tokens} → i < length l → c ≡ get_or l i 0 → next ≡ get_or l (i + 1) 32 → v ≡ grown w c → ends c next ≡ true
      → us ≡ pushed ts (token_of v next) → x ≡ no_word → scan us x (drop (i + 1) l) ≡ scan ts w (drop i l)
  unfolding scan
  scan_ends {c} {next} {v} h p q r e u f =
      let n : next ≡ get_or l (suc i) 32 = q ∙ ap (λ (k : ℕ). get_or l k 32) (add-one i) in
      let t : ends (get_or l i 0) (get_or l (suc i) 32) ≡ true = ap₂ ends (sym p) (sym n) ∙ e in
      rw (drop-cons l i 0 h, next_is, t, add-one) (rw (f, u, r, p, n))

  pub scan_end : length l ≤ i → scan ts w (drop i l) ≡ ts
  unfolding scan
  scan_end h = rw (drop_of_length-le l h)

-- One token more where there is room; where there is none, nothing that follows is kept.
pub push_is : (ts : Tokens) {t u : Token} → ts.count < 9 → u ≡ t → tokens_with (set ts.at ts.count u) (ts.count + 1) ≡ pushed ts t
unfolding pushed
push_is ts h e = rw (lt-ltb ts.count 9 h, e, add-one)

push_none : (ts : Tokens) (t : Token) → 9 ≤ ts.count → pushed ts t ≡ ts
unfolding pushed
push_none ts t h = rw (le-ltb ts.count 9 h)

pub scan_full : (ts : Tokens) (w : Word) (l : List ℕ) → 9 ≤ ts.count → scan ts w l ≡ ts
unfolding scan
scan_full ts w [] h = refl
scan_full ts w (c ∷ cs) h =
    of_both (λ (us : Tokens). us ≡ ts) (ends c (get_or cs 0 32))
    (ap (λ (us : Tokens). scan us no_word cs) (push_none ts _ h) ∙ scan_full ts no_word cs h)
    (scan_full ts (grown w c) cs h)

-- The bytes that a line may hold, one after the other.
module _ (l : List ℕ) (i : ℕ) where
  pub printable_more : (all : Bool) {r : Bool} → i < length l → r ≡ printable (get_or l i 0)
      → ((all && r) && all_of printable (drop (i + 1) l)) ≡ (all && all_of printable (drop i l))
  unfolding all_of
  printable_more true h e = rw (add-one i, drop-cons l i 0 h, e)
  printable_more false h e = refl

  pub printable_end : (all : Bool) → length l ≤ i → all ≡ (all && all_of printable (drop i l))
  unfolding all_of
  printable_end all h = rw (drop_of_length-le l h) (sym (and-true all))

-- What stands before the comment is a part of the line.
pub code_part : (l : List ℕ) → (uncommented l ≡ take (length (uncommented l)) l) × (length (uncommented l) ≤ length l)
unfolding uncommented
code_part [] = (refl, omega arith)
code_part (c ∷ cs) = pick (eqb c 39) (code_part cs)
  where
    pick : (t : Bool) → (uncommented cs ≡ take (length (uncommented cs)) cs) × (length (uncommented cs) ≤ length cs)
        → (cond t [] (c ∷ uncommented cs) ≡ take (length (cond t [] (c ∷ uncommented cs))) (c ∷ cs)) × (length (cond t [] (c ∷ uncommented cs)) ≤ suc (length cs))
    pick true h = (refl, omega arith)
    pick false h = (ap (λ (x : List ℕ). c ∷ x) h.0, omega (arith, h.1))

-- It ends where the first apostrophe stands.
code_until : (l : List ℕ) → length (uncommented l) ≡ position_or_len (λ c. eqb c 39) l
unfolding uncommented
code_until l = is_position_or_len (λ l. length (uncommented l)) (λ c. eqb c 39) refl (λ c cs. pick (eqb c 39) c (uncommented cs)) l
  where
    pick : (t : Bool) (c : ℕ) (more : List ℕ) → length (cond t [] (c ∷ more)) ≡ cond t 0 (1 + length more)
    pick true c more = refl
    pick false c more = omega arith

pub code_position : (l : List ℕ) → unwrap_or (position (λ c. eqb c 39) l) (length l) ≡ length (uncommented l)
code_position l = pick (ltb n (length l)) refl ∙ sym (code_until l)
  where
    n : ℕ
    n = position_or_len (λ c. eqb c 39) l

    pick : (t : Bool) → ltb n (length l) ≡ t → unwrap_or (cond t (Some n) None) (length l) ≡ n
    pick true e = refl
    pick false e = omega (arith, ltb-false n (length l) e, code_until l, (code_part l).1)
