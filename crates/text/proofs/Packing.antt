-- The tokens that the code reads are those of the paper, packed.
-- Assumes nothing.
use mathlib.Core.Path.{◌≡◌, refl, sym, ap, ap₂, ◌∙◌}
use mathlib.Core.Bool.{Bool, true, false, cond, ◌&&◌, ◌||◌, not, and-true}
use mathlib.Core.List.{List, [], ◌∷◌, ◌++◌}
use Prim.Native.Nat.{ℕ, zero, suc, ◌+◌, ◌*◌, ◌-◌, ◌<◌}
use native.Mathlib.Numerals.{add-one}
use native.Mathlib.Omega.{arith}
use borrow.Author.Tests.{ne_eqb, ltb-true, lt-leb, le-leb}
use lib.Dec.{eqb, leb, ltb}
use lib.ListN.{length, get_or, length-append}
use Rattle.std.specs.Prelude.{Some, None}
use Rattle.numbers.specs.Bytes.{Bytes, number}
use Rattle.numbers.specs.Tests.{all_of}
use Rattle.program.specs.Names.{digit, letter, word_character}
use Rattle.program.specs.Code.{key}
use Rattle.text.specs.Tokens as Paper
use Rattle.text.specs.Tokens.{tokens, joins, onto_first_token}
use Rattle.text.specs.Forms.{digits, decimal}
use Rattle.text.specs.Code.{short_key, pack, pushed, pushed_all, packed, no_tokens, word, no_word, key_with, value_with, grown, token_of, ends, scan}
use Rattle.text.specs.declared.tokens.Word.{Word}
use Rattle.text.specs.declared.tokens.Token.{Token}
use Rattle.text.specs.declared.tokens.Tokens.{Tokens}

abbrev paper : List ℕ → Bool → Paper.Token
paper w glued = record { chars = w; glued = glued }

-- What the code keeps of the characters w of a token.
word_of : List ℕ → Word
word_of w = word (length w) (short_key w) (cond (digits (paper w false)) (Some (decimal 0 w)) None)

-- One character more.
key_more : (w : List ℕ) (c : ℕ) → Bytes w → key_with (length w) (short_key w) c ≡ short_key (w ++ (c ∷ []))
unfolding key_with short_key key number
key_more [] c h = omega arith
key_more (a ∷ []) c h = let b = h 0 in omega arith
key_more (a ∷ b ∷ w) c h =
    let l : 2 < suc (suc (length (w ++ (c ∷ [])))) = omega (arith, length-append w (c ∷ [])) in
    simp (ne_eqb (suc (suc (length w))) 0 (λ e. omega arith), ne_eqb (suc (suc (length w))) 1 (λ e. omega arith), lt-leb (suc (suc (length (w ++ (c ∷ []))))) 2 l)

all_more : (w : List ℕ) (c : ℕ) → all_of digit (w ++ (c ∷ [])) ≡ (all_of digit w && digit c)
unfolding all_of
all_more [] c = and-true (digit c)
all_more (a ∷ w) c = pick (digit a) (all_more w c)
  where
    pick : (t : Bool) → all_of digit (w ++ (c ∷ [])) ≡ (all_of digit w && digit c) → (t && all_of digit (w ++ (c ∷ []))) ≡ ((t && all_of digit w) && digit c)
    pick true e = e
    pick false e = refl

enough : (x y z t : Bool) → (t ≡ true → y ≡ true) → (((x && y) && z) && t) ≡ ((x && z) && t)
enough true true z t f = refl
enough true false true true f = f refl
enough true false true false f = refl
enough true false false t f = refl
enough false y z t f = refl

digits_more : (w : List ℕ) (c : ℕ) → ((digits (paper w false) && digit c) && ltb (length w) 10) ≡ digits (paper (w ++ (c ∷ [])) false)
unfolding digits
digits_more w c =
    let n : length (w ++ (c ∷ [])) ≡ suc (length w) = length-append w (c ∷ []) ∙ add-one (length w) in
    enough (all_of digit w) (leb (length w) 10) (digit c) (ltb (length w) 10) (λ e. le-leb (length w) 10 (omega (arith, ltb-true (length w) 10 e)))
    ∙ rw (all_more w c, n)

pub decimal_snoc : (v : ℕ) (w : List ℕ) (c : ℕ) → decimal v (w ++ (c ∷ [])) ≡ decimal v w * 10 + (c - 48)
unfolding decimal
decimal_snoc v [] c = refl
decimal_snoc v (a ∷ w) c = decimal_snoc (v * 10 + (a - 48)) w c

value_more : (w : List ℕ) (c : ℕ) (x y : Bool) → ((x && digit c) && ltb (length w) 10) ≡ y
    → value_with (length w) (cond x (Some (decimal 0 w)) None) c ≡ cond y (Some (decimal 0 (w ++ (c ∷ [])))) None
unfolding value_with
value_more w c true y e = rw (e, decimal_snoc 0 w c)
value_more w c false y e = rw (← e)

grown_word : (w : List ℕ) (c : ℕ) → Bytes w → eqb c 32 ≡ false → grown (word_of w) c ≡ word_of (w ++ (c ∷ []))
unfolding grown word_of
grown_word w c h e =
    let d = digits_more w c in
    let v = value_more w c (digits (paper w false)) (digits (paper (w ++ (c ∷ [])) false)) d in
    let n : length w + 1 ≡ length (w ++ (c ∷ [])) = sym (length-append w (c ∷ [])) in
    rw (e, v, key_more w c h, n)

grown_space : (w : Word) (c : ℕ) → eqb c 32 ≡ true → grown w c ≡ w
unfolding grown
grown_space w c e = rw e

packs : (w : List ℕ) (next : ℕ) → token_of (word_of w) next ≡ pack (paper w (not (eqb next 32)))
unfolding word_of pack digits
packs w next = refl

none_packs : no_word ≡ word_of []
unfolding word_of digits short_key key number decimal all_of
none_packs = refl

-- The characters w in front of the first token.
prefixed : List ℕ → List Paper.Token → List Paper.Token
prefixed [] ts = ts
prefixed (c ∷ w) ts = onto_first_token c (prefixed w ts)

prefixed_more : (w : List ℕ) (c : ℕ) (ts : List Paper.Token) → prefixed w (onto_first_token c ts) ≡ prefixed (w ++ (c ∷ [])) ts
unfolding prefixed
prefixed_more [] c ts = refl
prefixed_more (a ∷ w) c ts = ap (onto_first_token a) (prefixed_more w c ts)

prefixed_ends : (w : List ℕ) (c : ℕ) (g : Bool) (ts : List Paper.Token) → prefixed w (paper (c ∷ []) g ∷ ts) ≡ paper (w ++ (c ∷ [])) g ∷ ts
unfolding prefixed onto_first_token
prefixed_ends [] c g ts = refl
prefixed_ends (a ∷ w) c g ts = ap (onto_first_token a) (prefixed_ends w c g ts)

-- Nothing belongs together with a space behind it.
joins_space : (c : ℕ) → joins c 32 ≡ false
unfolding joins word_character letter digit
joins_space c = pick (leb 65 c && leb c 90 || leb 48 c && leb c 57) (eqb c 60) (eqb c 62)
  where
    pick : (x y z : Bool) → ((x && false) || ((y && false) || (z && false))) ≡ false
    pick true true true = refl
    pick true true false = refl
    pick true false true = refl
    pick true false false = refl
    pick false true true = refl
    pick false true false = refl
    pick false false true = refl
    pick false false false = refl

-- A token is open only before a character of its own.
abbrev Open : List ℕ → List ℕ → Type 0
Open [] cs = Unit {0}
Open (a ∷ w) [] = ⊥
Open (a ∷ w) (c ∷ cs) = eqb c 32 ≡ false

opened : (w : List ℕ) (c : ℕ) (cs : List ℕ) → joins c (get_or cs 0 32) ≡ true → Open (w ++ (c ∷ [])) cs
opened w c cs e = go (w ++ (c ∷ [])) cs e
  where
    go : (v cs : List ℕ) → joins c (get_or cs 0 32) ≡ true → Open v cs
    go [] cs e = tt
    go (a ∷ v) [] e = let q : ◌≡◌ {A = ℕ} 0 1 = cc (joins_space c) in absurd (omega arith)
    go (a ∷ v) (d ∷ cs) e = ne_eqb d 32 (λ p. let z : joins c 32 ≡ true = rw p at e in let q : ◌≡◌ {A = ℕ} 0 1 = cc (joins_space c) in omega arith)

bytes_more : (w : List ℕ) (c : ℕ) → Bytes w → c < 256 → Bytes (w ++ (c ∷ []))
bytes_more [] c h l zero = l
bytes_more [] c h l (suc k) = omega arith
bytes_more (a ∷ w) c h l zero = h 0
bytes_more (a ∷ w) c h l (suc k) = bytes_more w c (λ j. h (suc j)) l k

-- By the character that comes next: a space; one that goes on with its token; one that ends it.
abbrev Scanned : List ℕ → Type 0
Scanned cs = (w : List ℕ) (ts : Tokens) → Bytes w → Bytes cs → Open w cs → scan ts (word_of w) cs ≡ pushed_all ts (prefixed w (tokens cs))

turned : (c : ℕ) (cs : List ℕ) (x y : Bool) → eqb c 32 ≡ x → joins c (get_or cs 0 32) ≡ y → Scanned cs → Scanned (c ∷ cs)
unfolding scan prefixed tokens pushed_all ends
turned c cs true y e f ih [] ts b h o = simp (e, grown_space (word_of []) c e) (ih [] ts b (λ k. h (suc k)) tt)
turned c cs true y e f ih (a ∷ w) ts b h o = absurd (let q : ◌≡◌ {A = ℕ} 0 1 = cc in omega arith)
turned c cs false true e f ih w ts b h o =
    simp (e, f, grown_word w c b e)
    (ih (w ++ (c ∷ [])) ts (bytes_more w c b (h 0)) (λ k. h (suc k)) (opened w c cs f) ∙ ap (pushed_all ts) (sym (prefixed_more w c (tokens cs))))
turned c cs false false e f ih w ts b h o =
    let next = get_or cs 0 32 in
    let glued = not (eqb next 32) in
    simp (e, f)
    (ap₂ (λ (t : Token) (v : Word). scan (pushed ts t) v cs) (ap (λ (v : Word). token_of v next) (grown_word w c b e) ∙ packs (w ++ (c ∷ [])) next) none_packs
    ∙ ih [] (pushed ts (pack (paper (w ++ (c ∷ [])) glued))) (λ k. omega arith) (λ k. h (suc k)) tt
    ∙ ap (pushed_all ts) (sym (prefixed_ends w c glued (tokens cs))))

scanned : (cs : List ℕ) → Scanned cs
unfolding scan prefixed tokens pushed_all
scanned [] [] ts b h o = refl
scanned [] (a ∷ w) ts b h o = absurd o
scanned (c ∷ cs) w ts b h o = turned c cs (eqb c 32) (joins c (get_or cs 0 32)) refl refl (scanned cs) w ts b h o

pub scan_packs : (l : List ℕ) → Bytes l → scan no_tokens no_word l ≡ packed (tokens l)
unfolding packed prefixed
scan_packs l h = rw none_packs (scanned l [] no_tokens (λ k. omega arith) h tt)
