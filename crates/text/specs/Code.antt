-- What the code holds of a text, its lines and their tokens, in its own shape. No demand reaches this; proofs/ ties it to the definitions of the paper.
-- Assumes nothing.
use Rattle.std.specs.Prelude.{◌≡◌, Bool, true, false, cond, ◌&&◌, ◌||◌, not, List, [], ◌∷◌, ◌⊎◌, ℕ, zero, suc, ◌+◌, ◌*◌, ◌-◌, ◌%◌, ◌^◌, ◌≤◌, ◌<◌, eqb, leb, ltb, length, take, drop, get_or, set, replicate}
use Rattle.std.specs.Prelude as Std
use Rattle.std.specs.Prelude.{Some, None, IfSome}
use Rattle.std.proofs.Math.Option.{Option, none, some}
use Rattle.program.specs.Names.{Name, digit}
use Rattle.program.specs.Code.{key, name_of}
use Rattle.text.specs.Lines.{lines}
use Rattle.text.specs.Tokens as Paper
use Rattle.text.specs.Tokens.{joins}
use Rattle.text.specs.Forms.{digits, decimal, operator_meant, comparison_meant}
use Rattle.text.specs.declared.Span.{Span}
use Rattle.text.specs.declared.tokens.Word.{Word}
use Rattle.text.specs.declared.tokens.Token.{Token}
use Rattle.text.specs.declared.tokens.Tokens.{Tokens}

-- A line ends here: at an LF, or at a CR and an LF.
unfoldable pub at_end : List ℕ → Bool
at_end t = eqb (get_or t 0 0) 10 || (eqb (get_or t 0 0) 13 && eqb (get_or t 1 0) 10)

-- The length of the first line, and of what ends it.
unfoldable pub line_length : List ℕ → ℕ
line_length [] = zero
line_length (b ∷ bs) = let n = suc (line_length bs) in cond (at_end (b ∷ bs)) zero n

unfoldable pub ending_length : List ℕ → ℕ
ending_length [] = zero
ending_length (b ∷ bs) = cond (eqb b 10) 1 2

-- A line of the text s starts at `at`: behind an LF, at the beginning (where an LF is thought before the text); or the text has ended there.
unfoldable pub Starts : List ℕ → ℕ → Type 0
Starts s at = (get_or (10 ∷ s) at 10 ≡ 10) ⊎ (length s ≤ at)

-- The line of the text s that starts at `at`: s[at..end], and the next one starts at `next`.
pub record LineAt (s : List ℕ) (at : ℕ) (r : Span) : Type 0 where
  pub cut : lines (drop at s) ≡ take (r.end - at) (drop at s) ∷ lines (drop r.next s)
  pub from : at ≤ r.end
  pub within : r.end ≤ length s
  pub moves : at < r.next
  pub fits : r.next ≤ length s + 1
  pub starts : Starts s r.next

-- The key of a token's characters; 0 where there are more than two.
unfoldable pub short_key : Name → ℕ
short_key w = cond (leb (length w) 2) (key w) 0

-- What the code keeps of a token.
abbrev pub token : ℕ → Std.Option ℕ → Bool → Token
token key value glued = record { key = key; value = value; glued = glued }

unfoldable pub pack : Paper.Token → Token
pack t = token (short_key t.chars) (cond (digits t) (Some (decimal 0 t.chars)) None) t.glued

abbrev pub no_token : Token
no_token = token 0 None false

-- The token at a place; none past the last.
unfoldable pub token_at : List Token → ℕ → Token
token_at ts i = get_or ts i no_token

-- The first nine tokens, with places for three more: one more behind them; none; and all of a list.
abbrev pub tokens_with : List Token → ℕ → Tokens
tokens_with at count = record { at = at; count = count }

unfoldable pub pushed : Tokens → Token → Tokens
pushed ts t = cond (ltb ts.count 9) (tokens_with (set ts.at ts.count t) (suc ts.count)) ts

abbrev pub no_tokens : Tokens
no_tokens = tokens_with (replicate 12 no_token) 0

unfoldable pub pushed_all : Tokens → List Paper.Token → Tokens
pushed_all ts [] = ts
pushed_all ts (u ∷ us) = pushed_all (pushed ts (pack u)) us

unfoldable pub packed : List Paper.Token → Tokens
packed us = pushed_all no_tokens us

-- The characters of a token that are read so far: how many, their key, and the number that they write where they are at most 10 digits.
abbrev pub word : ℕ → ℕ → Std.Option ℕ → Word
word size key value = record { size = size; key = key; value = value }

abbrev pub no_word : Word
no_word = word 0 0 (Some 0)

-- Digits write a number that is below the power of ten of their count.
abbrev pub Small : ℕ → Std.Option ℕ → Type 0
Small size value = IfSome value (λ v. v < 10 ^ size)

-- There is room for one more character.
pub record Room (w : Word) : Type 0 where
  pub counts : w.size + 1 < 2 ^ 64
  pub small : Small w.size w.value

unfoldable pub key_with : ℕ → ℕ → ℕ → ℕ
key_with size key c = cond (eqb size 0) c (cond (eqb size 1) (key % 256 + 256 * c) 0)

unfoldable pub value_with : ℕ → Std.Option ℕ → ℕ → Std.Option ℕ
value_with size None c = None
value_with size (Some v) c = cond (digit c && ltb size 10) (Some (v * 10 + (c - 48))) None

-- One character more; a space is none.
unfoldable pub grown : Word → ℕ → Word
grown w c = cond (eqb c 32) w (word (w.size + 1) (key_with w.size w.key c) (value_with w.size w.value c))

abbrev pub token_of : Word → ℕ → Token
token_of w next = token w.key w.value (not (eqb next 32))

-- A token ends with the character c, with this one behind it.
unfoldable pub ends : ℕ → ℕ → Bool
ends c next = not (eqb c 32) && not (joins c next)

-- The tokens of what is left of a line, behind those that are read and the characters of the present one.
unfoldable pub scan : Tokens → Word → List ℕ → Tokens
scan ts w [] = ts
scan ts w (c ∷ cs) =
    let v = grown w c in
    let next = get_or cs 0 32 in
    let ended = scan (pushed ts (token_of v next)) no_word cs in
    let more = scan ts v cs in
    cond (ends c next) ended more

-- The name of a key, or none where the key is 0.
unfoldable pub spelt : ℕ → Name
spelt k = cond (eqb k 0) [] (name_of k)

-- A sign: whether the characters are one.
unfoldable pub known : {A : Type 0} → Option A → Bool
known none = false
known (some a) = true

unfoldable pub is_operator : Name → Bool
is_operator w = known (operator_meant w)

unfoldable pub is_comparison : Name → Bool
is_comparison w = known (comparison_meant w)

abbrev pub or_else : {A : Type 0} → A → Option A → A
or_else d none = d
or_else d (some a) = a
