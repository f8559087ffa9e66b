-- The tokens of a line that declare a name, as a label or as a variable, and what they say.
-- Assumes nothing.
use mathlib.Core.Path.{◌≡◌, refl, ap, ◌∙◌}
use mathlib.Core.List.{List, [], ◌∷◌}
use mathlib.Core.Option.{some}
use Prim.Native.Nat.{ℕ, ◌<◌}
use native.Mathlib.Omega.{arith}
use lib.Dec.{T}
use lib.IntN.{ℤ, pos, neg_ℤ}
use lib.ListN.{length, drop}
use Rattle.numbers.proofs.Truth.{is_true}
use Rattle.numbers.specs.Bytes.{ascii}
use Rattle.numbers.specs.Tests.{all_of, eq_list}
use Rattle.numbers.proofs.Tests.{eq_list_eq, eq_list_refl}
use Rattle.program.specs.Names.{Name, digit, two_characters}
use Rattle.text.specs.Tokens.{Token}
use Rattle.text.specs.Forms.{Line, digits, decimal, took, literal, put, word, Slot, Is, New, Start, Parts, no_parts, naming, starting, takes, fill, forms, statement}
use Rattle.text.specs.Faults.{declares}
use Rattle.refusals.proofs.Slots.{figures, suits, signed, Took, one, two, Fits, done, step, spelled, opening}
use Rattle.refusals.proofs.Forms.{form_at, Fills, form_says}

-- The tokens of a line declare w: LB and w; VA and w; or VA, w, = and a literal.
pub data Declares (w : Name) (ts : List Token) : Type 0 where
  label : spelled ts ≡ ascii "LB" ∷ w ∷ [] → Declares w ts
  plain : spelled ts ≡ ascii "VA" ∷ w ∷ [] → Declares w ts
  started : {more : List Name} → spelled ts ≡ ascii "VA" ∷ w ∷ ascii "=" ∷ more → (z : ℤ) → literal (drop 3 ts) ≡ took z [] → Declares w ts

-- What a place takes.
module _ (ss : List Slot) (p : Parts) where
  fill_is : (w : Name) (t : Token) (ts : List Token) → t.chars ≡ w → fill (Is w ∷ ss) (t ∷ ts) p ≡ fill ss ts p
  unfolding fill takes put word
  fill_is w t ts e = rw (fill, is_true (eq_list t.chars w) (rw e (eq_list_refl w)))

  fill_new : (w : Name) (t : Token) (ts : List Token) → t.chars ≡ w → T (two_characters w) → fill (New ∷ ss) (t ∷ ts) p ≡ fill ss ts (naming p w)
  unfolding fill takes put word
  fill_new w t ts e h = rw (fill, e, is_true (two_characters w) h)

  fill_start : (z : ℤ) (ts us : List Token) → literal ts ≡ took z us → fill (Start ∷ ss) ts p ≡ fill ss us (starting p z)
  unfolding fill takes put
  fill_start z ts us e = rw (fill, takes, put, e)

-- What the tokens say that declare w.
module _ (w : Name) (h : T (two_characters w)) where
  abbrev pub Said : List Token → Type 0
  Said ts = (x : Line) × (statement ts ≡ some x) × (declares x ≡ w ∷ [])

  said_by_lem : (i : ℕ) (t : Token) (ts : List Token) (p : Parts) → i < 21 → Fills i (t ∷ ts) p → declares ((form_at i).says p) ≡ w ∷ [] → Said (t ∷ ts)
  unfolding statement
  said_by_lem i t ts p l e d = ((form_at i).says p, form_says i (t ∷ ts) p l e, d)

  named : Parts
  named = naming no_parts w

  fill_two : (m : Name) (t u : Token) (us : List Token) → t.chars ≡ m → u.chars ≡ w → spelled us ≡ [] → fill (Is m ∷ New ∷ []) (t ∷ u ∷ us) no_parts ≡ some named
  unfolding fill named
  fill_two m t u [] a b c = fill_is (New ∷ []) no_parts m t (u ∷ []) a ∙ fill_new [] no_parts w u [] b h
  fill_two m t u (v ∷ us) a b c = absurd (let n = ap length c in omega arith)

  fill_four : (z : ℤ) (more : List Name) (t u : Token) (us : List Token) → t.chars ≡ ascii "VA" → u.chars ≡ w → spelled us ≡ ascii "=" ∷ more
      → literal (drop 1 us) ≡ took z [] → fill (Is (ascii "VA") ∷ New ∷ Is (ascii "=") ∷ Start ∷ []) (t ∷ u ∷ us) no_parts ≡ some (starting named z)
  unfolding fill named
  fill_four z more t u [] a b c l = absurd (let n = ap length c in omega arith)
  fill_four z more t u (v ∷ us) a b c l =
      fill_is (New ∷ Is (ascii "=") ∷ Start ∷ []) no_parts (ascii "VA") t (u ∷ v ∷ us) a
      ∙ fill_new (Is (ascii "=") ∷ Start ∷ []) no_parts w u (v ∷ us) b h
      ∙ fill_is (Start ∷ []) named (ascii "=") v us (cc)
      ∙ fill_start [] named z us [] l

  pub said : (ts : List Token) → Declares w ts → Said ts
  unfolding forms declares named
  said ts (label e) = opening Said (ascii "LB") w [] (λ t u us a b c. said_by_lem 0 t (u ∷ us) named (omega arith) (fill_two (ascii "LB") t u us a b c) refl) ts e
  said ts (plain e) = opening Said (ascii "VA") w [] (λ t u us a b c. said_by_lem 1 t (u ∷ us) named (omega arith) (fill_two (ascii "VA") t u us a b c) refl) ts e
  said ts (started {more} e z l) =
      opening (λ us. literal (drop 3 us) ≡ took z [] → Said us) (ascii "VA") w (ascii "=" ∷ more)
      (λ t u us a b c k. said_by_lem 2 t (u ∷ us) (starting named z) (omega arith) (fill_four z more t u us a b c k) refl) ts e l

-- A literal that a place takes.
took_literal : {ts us : List Token} → Took Start ts us → (z : ℤ) × (literal ts ≡ took z us)
unfolding literal digits suits ascii eq_list all_of digit
took_literal (one {t = t} {ts = []} h) = (pos (decimal 0 t.chars), rw (is_true (figures t.chars) h))
took_literal (one {t = t} {ts = u ∷ ts} h) = (pos (decimal 0 t.chars), rw (is_true (figures t.chars) h))
took_literal (two {t = t} {u = u} {ts = ts} m h i d) =
    (neg_ℤ (pos (decimal 0 u.chars)), rw (eq_list_eq t.chars (ascii "-") h, is_true t.glued i, is_true (figures u.chars) d))

-- The forms that start with a mnemonic and a name to declare.
pub data Naming (m : Name) (ss : List Slot) : List Token → Type 0 where
  names : {t u : Token} {us : List Token} → t.chars ≡ m → T (two_characters u.chars) → Fits ss us → Naming m ss (t ∷ u ∷ us)

pub fits_named : {m : Name} {ss : List Slot} {ts : List Token} → Fits (Is m ∷ New ∷ ss) ts → Naming m ss ts
unfolding suits signed
fits_named {m} (step (one {t = t} h) (step (one g) f)) = names (eq_list_eq t.chars m h) g f
fits_named (step (one h) (step (two n g i d) f)) = absurd n
fits_named (step (two n h i d) f) = absurd n

-- A name of two characters that the tokens declare.
abbrev pub Declaring : List Token → Type 0
Declaring ts = (w : Name) × T (two_characters w) × Declares w ts

pub declares_label : {ts : List Token} → Naming (ascii "LB") [] ts → Declaring ts
declares_label (names {u = u} e h done) = (u.chars, h, label (rw e refl))

pub declares_plain : {ts : List Token} → Naming (ascii "VA") [] ts → Declaring ts
declares_plain (names {u = u} e h done) = (u.chars, h, plain (rw e refl))

pub declares_started : {ts : List Token} → Naming (ascii "VA") (Is (ascii "=") ∷ Start ∷ []) ts → Declaring ts
unfolding suits signed
declares_started (names {u = u} e h (step (one {t = v} {ts = ds} g) (step k done))) =
    let l = took_literal k in
    (u.chars, h, started {more = spelled ds} (rw (e, eq_list_eq v.chars (ascii "=") g) refl) l.0 l.1)
declares_started (names e h (step (two n g i d) f)) = absurd n
