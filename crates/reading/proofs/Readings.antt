-- What the code reads of a line is what the paper says of it.
-- Assumes nothing.
use mathlib.Core.Path.{◌≡◌, refl, sym, ap, subst, ◌∙◌}
use mathlib.Core.Bool.{Bool, true, false, cond, ◌||◌}
use mathlib.Core.List.{List, [], ◌∷◌}
use mathlib.Core.Option.{Option, none, some}
use Prim.Native.Nat.{ℕ, ◌≤◌}
use native.Mathlib.Omega.{arith}
use borrow.Author.Tests.{leb-true, leb-false, eq-eqb, ne_eqb}
use lib.Dec.{eqb, leb}
use lib.ListN.{length, take, drop}
use Rattle.std.specs.Prelude.{Result, Ok, Err}
use Rattle.numbers.specs.Tests.{all_of, any_of, eq_list}
use Rattle.numbers.specs.Bytes.{ascii}
use Rattle.numbers.proofs.Truth.{cond_yes, cond_no}
use Rattle.program.specs.Names.{reserved}
use Rattle.program.specs.Code.{name_of}
use Rattle.text.specs.Tokens as Paper
use Rattle.text.specs.Tokens.{printable, uncommented, tokens}
use Rattle.text.specs.Forms as Form
use Rattle.text.specs.Forms.{Line, Blank, Label, Declared, Acts, operator_sign, comparison_sign, meant, operator_meant, comparison_meant, Parts, no_parts, forms, fill, by_form, statement, reading}
use Rattle.text.specs.Faults.{long_line, bad_form, big_literal, reserved_name, big_in, declares, heard}
use Rattle.text.specs.Code.{token_at, pushed_all, spelt, packed}
use Rattle.forms.specs.Code.{value_of, start_of, meaning, no_match, operator_by, comparison_by, parts_of, slots_of, fill_by}
use Rattle.reading.specs.Code.{read_parts, form_by, statement_by, line_by, Reading, said_by, reading_of}
use Rattle.text.specs.declared.tokens.Tokens.{Tokens}
use Rattle.forms.specs.declared.Match.{Match}
use Rattle.reading.specs.declared.LineFault.TheVariants as E
use Rattle.text.proofs.Scanning.{code_part}
use Rattle.text.proofs.Words.{Goods, line_good}
use Rattle.forms.proofs.Filling.{front, finish, fill_law}
use Rattle.text.proofs.Filled.{HoldsAt, Filled, filled}
use Rattle.reading.proofs.Rows.{Rows, last, next, rows, line_reading}
use Rattle.forms.proofs.Packed.{few_count, few_read, many_count, too_many_lem}

-- The steps of `read_line`.
module _ (l : List ℕ) where
  pub line_long : long_line l ≡ true → Err E.LongLine ≡ line_by l
  unfolding line_by
  line_long h = rw h

  pub line_bad : long_line l ≡ false → all_of printable l ≡ false → Err E.BadForm ≡ line_by l
  unfolding line_by
  line_bad h e = rw (h, e)

  pub line_says : {n : ℕ} {ts : Tokens} {r : Reading} → long_line l ≡ false → all_of printable l ≡ true → n ≡ length (uncommented l)
      → ts ≡ packed (tokens (take n l)) → r ≡ statement_by ts → r ≡ line_by l
  unfolding line_by
  line_says h e p q f = rw (f, q, p, h, e, ← (code_part l).0)

  pub code_inside : {n : ℕ} → n ≡ length (uncommented l) → n ≤ length l
  code_inside p = rw p (code_part l).1

-- What is read of a line that has this to say, or no form.
abbrev answer : Option Line → Reading
answer o = elim o [ none ↦ Err E.BadForm | some x ↦ line_reading x ]

start_parts : parts_of no_match ≡ no_parts
unfolding spelt value_of start_of meaning name_of operator_by comparison_by operator_meant comparison_meant meant operator_sign comparison_sign ascii eq_list
start_parts = refl

-- One form after the other.
module _ (ts : List Paper.Token) (g : Goods ts) (us : Tokens) (count : us.count ≡ length ts) (read : (i : ℕ) → token_at us.at i ≡ front (drop i ts)) where
  forms_law : {ns : List ℕ} {fs : List Form.Form} → Rows ns fs → form_by ns us ≡ answer (by_form fs ts)
  unfolding form_by by_form
  forms_law last = refl
  forms_law (next {n} {f} {ns} {fs} r rs) = pick (fill_by (slots_of n) us.at no_match) law (forms_law rs)
    where
      goes : Option Parts → Option Line
      goes o = elim o [ none ↦ by_form fs ts | some p ↦ some (f.says p) ]

      law : fill f.slots ts no_parts ≡ finish ts (fill_by (slots_of n) us.at no_match)
      law = ap (fill f.slots ts) (sym start_parts) ∙ fill_law ts g us.at read r.slots no_match (omega arith)

      -- Where each slot took something: by whether no token is left.
      whole : (m : Match) (b : Bool) → eqb m.place (length ts) ≡ b → fill f.slots ts no_parts ≡ finish ts (Ok m) → form_by ns us ≡ answer (by_form fs ts)
          → cond (eqb m.place us.count) (read_parts n (parts_of m)) (form_by ns us) ≡ answer (goes (fill f.slots ts no_parts))
      whole m true e l ih =
          let found : fill f.slots ts no_parts ≡ some (parts_of m) = l ∙ cond_yes (eqb m.place (length ts)) _ _ e in
          cond_yes (eqb m.place us.count) _ _ (ap (eqb m.place) count ∙ e)
          ∙ r.says (subst (HoldsAt (Filled f.slots no_parts)) found (filled f.slots ts no_parts))
          ∙ sym (ap (λ (o : Option Parts). answer (goes o)) found)
      whole m false e l ih =
          let found : fill f.slots ts no_parts ≡ none = l ∙ cond_no (eqb m.place (length ts)) _ _ e in
          cond_no (eqb m.place us.count) _ _ (ap (eqb m.place) count ∙ e) ∙ ih ∙ sym (ap (λ (o : Option Parts). answer (goes o)) found)

      pick : (o : Result Match Match) → fill f.slots ts no_parts ≡ finish ts o → form_by ns us ≡ answer (by_form fs ts)
          → elim o [ Ok m ↦ cond (eqb m.place us.count) (read_parts n (parts_of m)) (form_by ns us) | Err m ↦ form_by ns us ] ≡ answer (goes (fill f.slots ts no_parts))
      pick (Ok m) l ih = whole m (eqb m.place (length ts)) refl l ih
      pick (Err m) l ih = ih ∙ sym (ap (λ (o : Option Parts). answer (goes o)) l)

-- All tokens of a line.
nothing_says : statement_by (packed []) ≡ answer (statement [])
unfolding statement_by packed pushed_all statement line_reading big_in declares any_of said_by
nothing_says = refl

statement_law : (ts : List Paper.Token) → Goods ts → statement_by (packed ts) ≡ answer (statement ts)
unfolding statement_by statement
statement_law [] g = nothing_says
statement_law (t ∷ ts) g = pick (leb (length (t ∷ ts)) 8) refl
  where
    pick : (b : Bool) → leb (length (t ∷ ts)) 8 ≡ b → statement_by (packed (t ∷ ts)) ≡ answer (by_form forms (t ∷ ts))
    pick true e =
        let h = leb-true (length (t ∷ ts)) 8 e in
        let n : (packed (t ∷ ts)).count ≡ length (t ∷ ts) = few_count (t ∷ ts) (omega arith) in
        rw (ne_eqb (packed (t ∷ ts)).count 0 (λ q. omega arith), ne_eqb (packed (t ∷ ts)).count 9 (λ q. omega arith))
        (forms_law (t ∷ ts) g (packed (t ∷ ts)) n (few_read (t ∷ ts) (omega arith)) rows)
    pick false e =
        let h = leb-false (length (t ∷ ts)) 8 e in
        let n : (packed (t ∷ ts)).count ≡ 9 = many_count (t ∷ ts) (omega arith) in
        rw (ne_eqb (packed (t ∷ ts)).count 0 (λ q. omega arith), eq-eqb (packed (t ∷ ts)).count 9 n)
        (ap answer (sym (too_many_lem (t ∷ ts) (omega arith))))

-- The reading, by its faults and what the line says.
abbrev reading_from : Bool → Bool → Bool → Bool → Line → Reading
reading_from long bad big kept x =
    cond long (Err E.LongLine)
    (cond bad (Err E.BadForm) (cond big (Err E.BigLiteral) (cond kept (Err E.ReservedName) (Ok (said_by (cond (long || (bad || (big || kept))) Blank x))))))

abbrev reading_where : Bool → Option Line → Reading
reading_where long o =
    reading_from long (elim o [ none ↦ true | some x ↦ false ]) (elim o [ none ↦ false | some x ↦ big_in x ])
    (elim o [ none ↦ false | some x ↦ any_of reserved (declares x) ]) (elim o [ none ↦ Blank | some x ↦ x ])

some_reading : (x : Line) (big kept : Bool) → reading_from false false big kept x ≡ cond big (Err E.BigLiteral) (cond kept (Err E.ReservedName) (Ok (said_by x)))
some_reading x true kept = refl
some_reading x false true = refl
some_reading x false false = refl

where_law : (o : Option Line) → answer o ≡ reading_where false o
unfolding line_reading
where_law none = refl
where_law (some x) = sym (some_reading x (big_in x) (any_of reserved (declares x)))

pub line_reads : (l : List ℕ) → line_by l ≡ reading_of l
unfolding line_by reading_of bad_form big_literal reserved_name heard reading
line_reads l = pick (long_line l) refl (all_of printable l) refl
  where
    pick : (x : Bool) → long_line l ≡ x → (y : Bool) → all_of printable l ≡ y → line_by l ≡ reading_where (long_line l) (reading l)
    pick true e y f = rw e
    pick false e true f = rw (e, f) (statement_law (tokens (uncommented l)) (line_good l f) ∙ where_law (statement (tokens (uncommented l))))
    pick false e false f = rw (e, f) (where_law none)
