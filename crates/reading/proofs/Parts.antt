-- What the functions that read the parts of a line need of them.
-- Assumes nothing.
use mathlib.Core.Path.{◌≡◌, refl, sym, ap, ◌∙◌}
use mathlib.Core.Bool.{Bool, true, false, cond}
use mathlib.Core.List.{[]}
use Prim.Native.Nat.{ℕ, zero, suc, ◌+◌, ◌≤◌, ◌<◌}
use native.Mathlib.Omega.{arith}
use borrow.Author.Tests.{eqb-true, eq-eqb, ne_eqb}
use lib.Dec.{eqb}
use Rattle.std.specs.Prelude.{ℤ, Result, Ok, Err}
use Rattle.numbers.specs.Bytes.{number, ascii}
use Rattle.numbers.specs.Tests.{any_of, eq_list}
use Rattle.numbers.proofs.Truth.{if_same, cond_no}
use Rattle.program.specs.DriveWords.{drive_words}
use Rattle.program.specs.Names.{reserved}
use Rattle.program.specs.Code.{key, name_of}
use Rattle.program.proofs.Keys.{key_name}
use Rattle.text.specs.Forms.{Parts}
use Rattle.text.specs.Code.{token_at, spelt}
use Rattle.forms.specs.Code.{no_match, fill_by, slots_of, form_for, parts_of}
use Rattle.reading.specs.Code.{Reading, says_of, any_big, cell_shaped, small_of, declared_by, with_name, says_by, parts_by, read_parts, form_by, form_numbers}
use Rattle.text.specs.declared.tokens.Tokens.{Tokens}
use Rattle.forms.specs.declared.Match.{Match}
use Rattle.program.specs.declared.Cell.{Cell}
use Rattle.reading.specs.declared.Said.TheVariants as S
use Rattle.reading.specs.declared.LineFault.{LineFault}
use Rattle.reading.specs.declared.LineFault.TheVariants as E
use Rattle.reading.specs.declared.Says.TheVariants as F
use Rattle.reading.specs.declared.cells.Shape.{Shape}
use Rattle.forms.proofs.Choosing.{form_below, only_form}

-- The name of a key.
pub key_spelt : (k : ℕ) → key (spelt k) ≡ k
unfolding spelt key number
key_spelt k = pick (eqb k 0) refl
  where
    pick : (t : Bool) → eqb k 0 ≡ t → key (cond t [] (name_of k)) ≡ k
    pick true e = sym (eqb-true k 0 e)
    pick false e = key_name k

reserved_none : reserved (name_of 0) ≡ reserved []
unfolding reserved drive_words any_of eq_list ascii name_of
reserved_none = refl

pub reserved_spelt : (k : ℕ) → reserved (name_of k) ≡ reserved (spelt k)
unfolding spelt
reserved_spelt k = pick (eqb k 0) refl
  where
    pick : (t : Bool) → eqb k 0 ≡ t → reserved (name_of k) ≡ reserved (cond t [] (name_of k))
    pick true e = ap (λ (j : ℕ). reserved (name_of j)) (eqb-true k 0 e) ∙ reserved_none
    pick false e = refl

-- What parts say: a literal that is too big comes first.
module _ (form : ℕ) (p : Parts) where
  pub read_big : any_big p ≡ true → Err E.BigLiteral ≡ read_parts form p
  unfolding read_parts parts_by
  read_big e = rw e

  pub read_acts : {o : ℕ} {h : Shape} {c : Cell} → any_big p ≡ false → says_of form ≡ F.Acts o h → c ≡ cell_shaped o h p → Ok (S.Acts c) ≡ read_parts form p
  unfolding read_parts parts_by says_by
  read_acts e f g = rw (e, f, g)

  -- A name that is declared, or reserved.
  pub read_label : {r : Result ℕ LineFault} → any_big p ≡ false → says_of form ≡ F.Label → r ≡ declared_by p → with_name S.Label r ≡ read_parts form p
  unfolding read_parts parts_by says_by
  read_label e f g = rw (e, f, g)

  pub read_declared : {r : Result ℕ LineFault} {z : ℤ} → any_big p ≡ false → says_of form ≡ F.Declared → r ≡ declared_by p → z ≡ small_of p.start
      → with_name (λ k. S.Declared k z) r ≡ read_parts form p
  unfolding read_parts parts_by says_by
  read_declared e f g h = rw (e, f, g, h)

-- One form after the other: none but the one that is chosen can be filled, so that it decides.
module _ (ts : Tokens) where
  abbrev chosen : ℕ
  chosen = form_for (token_at ts.at 0).key (token_at ts.at 1).key ts.count

  abbrev filled : ℕ → Result Match Match
  filled f = fill_by (slots_of f) ts.at no_match

  abbrev decided : ℕ → Result Match Match → Reading → Reading
  decided f o more = elim o [ Ok m ↦ cond (eqb m.place ts.count) (read_parts f (parts_of m)) more | Err m ↦ more ]

  abbrev by : ℕ → Reading
  by f = decided f (filled f) (Err E.BadForm)

  -- Where another form is chosen, this one decides nothing.
  other : (n : ℕ) → n < 21 → (chosen ≡ n → ⊥) → (o : Result Match Match) → filled n ≡ o → (more : Reading) → decided n o more ≡ more
  other n h g (Err m) f more = refl
  other n h g (Ok m) f more = cond_no (eqb m.place ts.count) _ _ (ne_eqb m.place ts.count (λ e. g (only_form ts n h m (f, e))))

  passed : (n k : ℕ) → n + k ≡ 21 → chosen < n → form_by (form_numbers k n) ts ≡ Err E.BadForm
  unfolding form_by form_numbers
  passed n zero e h = refl
  passed n (suc k) e h = other n (omega arith) (λ g. omega (arith, g)) (filled n) refl _ ∙ passed (suc n) k (omega arith) (omega arith)

  reached : (n k : ℕ) → n + k ≡ 21 → n ≤ chosen → form_by (form_numbers k n) ts ≡ by chosen
  unfolding form_by form_numbers
  reached n zero e h = absurd (omega (arith, form_below (token_at ts.at 0).key (token_at ts.at 1).key ts.count))
  reached n (suc k) e h =
      if_same chosen n
      (λ g. ap (decided n (filled n)) (passed (suc n) k (omega arith) (omega arith)) ∙ ap by (sym g))
      (λ g. other n (omega arith) g (filled n) refl _ ∙ reached (suc n) k (omega arith) (omega (arith, g)))

  form_law : form_by (form_numbers 21 0) ts ≡ by chosen
  form_law = reached 0 21 refl (omega arith)

  pub form_fits : {f : ℕ} {o : Result Match Match} {m : Match} → f ≡ chosen → o ≡ filled f → o ≡ Ok m → m.place ≡ ts.count
      → read_parts f (parts_of m) ≡ form_by (form_numbers 21 0) ts
  form_fits {f} {o} {m} p q r e = rw (form_law, ← p, ← q, r, eq-eqb m.place ts.count e)

  pub form_not : {f : ℕ} {o : Result Match Match} {m : Match} → f ≡ chosen → o ≡ filled f → o ≡ Ok m → (m.place ≡ ts.count → ⊥)
      → Err E.BadForm ≡ form_by (form_numbers 21 0) ts
  form_not {f} {o} {m} p q r e = rw (form_law, ← p, ← q, r, ne_eqb m.place ts.count e)

  pub form_none : {f : ℕ} {o : Result Match Match} {m : Match} → f ≡ chosen → o ≡ filled f → o ≡ Err m → Err E.BadForm ≡ form_by (form_numbers 21 0) ts
  form_none p q r = rw (form_law, ← p, ← q, r)
