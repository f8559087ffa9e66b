-- Laws of the lines of a text: the line at a place, and the lines before a place where one starts.
-- Assumes nothing.
use mathlib.Core.Path.{◌≡◌, refl, sym, ap, ◌∙◌}
use mathlib.Core.Bool.{Bool, true, false, cond, ◌&&◌, ◌||◌, true≢false, and-false}
use mathlib.Core.List.{List, [], ◌∷◌, ◌++◌, append_assoc, append-nil, append_cancel_right}
use mathlib.Core.Logic.{⊎_elim, ◌⊎◌, inl, inr}
use Prim.Native.Nat.{ℕ, zero, suc, ◌+◌, ◌-◌, ◌<◌, ◌≤◌, zero-le, suc-le-suc}
use native.Mathlib.Nat.{eq-or-lt_of_le, not-suc-le-zero, le_of_suc-le-suc, le_of_lt}
use native.Mathlib.Omega.{arith}
use borrow.Author.Tests.{eqb-true, ne_eqb, leb-true, leb-false}
use lib.Dec.{eqb, leb}
use lib.ListN.{length, take, drop, get_or, length-drop, drop_of_length-le, take-append-drop}
use lib.Seq.{drop-cons, drop-drop, get_or-drop, take_all, length-take-le}
use Rattle.text.specs.Lines.{lines, onto_first_line}
use Rattle.text.specs.Code.{at_end, line_length, ending_length, Starts, LineAt}
use Rattle.text.specs.declared.Span.{Span}

-- The test for a line's end, by the two bytes at a place.
pub at_end_lem : (s : List ℕ) (at b c : ℕ) → b ≡ get_or s at 0 → c ≡ get_or s (at + 1) 0
    → (eqb b 10 || (eqb b 13 && eqb c 10)) ≡ at_end (drop at s)
unfolding at_end
at_end_lem s at b c p q =
    let e : get_or (drop at s) 0 0 ≡ get_or s at 0 = get_or-drop at s 0 0 ∙ ap (λ (k : ℕ). get_or s k 0) (omega arith) in
    rw (p, q, e, get_or-drop at s 1 0)

-- A byte above CR ends no line.
pub not_at_end : (s : List ℕ) (at : ℕ) → 13 < get_or s at 0 → false ≡ at_end (drop at s)
not_at_end s at h =
    let b = get_or s at 0 in
    let e : (eqb b 10 || (eqb b 13 && eqb (get_or s (at + 1) 0) 10)) ≡ false = rw (ne_eqb b 10 (λ e. omega arith), ne_eqb b 13 (λ e. omega arith)) in
    sym e ∙ at_end_lem s at b (get_or s (at + 1) 0) refl refl

-- One byte more of the line; its end; the text's end.
pub length_more : (s : List ℕ) (i : ℕ) → i < length s → at_end (drop i s) ≡ false → line_length (drop i s) ≡ suc (line_length (drop (suc i) s))
unfolding line_length
length_more s i h e = rw (drop-cons s i 0 h) (rw (rw (drop-cons s i 0 h) at e))

pub length_stop : (s : List ℕ) (i : ℕ) → i < length s → at_end (drop i s) ≡ true → line_length (drop i s) ≡ 0
unfolding line_length
length_stop s i h e = rw (drop-cons s i 0 h) (rw (rw (drop-cons s i 0 h) at e))

pub length_end : (s : List ℕ) (i : ℕ) → length s ≤ i → line_length (drop i s) ≡ 0
unfolding line_length
length_end s i h = rw (drop_of_length-le s h)

-- What ends a line, by the byte at a place.
pub ending : (s : List ℕ) (i : ℕ) (t : Bool) → i < length s → eqb (get_or s i 0) 10 ≡ t → ending_length (drop i s) ≡ cond t 1 2
unfolding ending_length
ending s i t h e = rw (drop-cons s i 0 h, e)

pub ending_none : (s : List ℕ) (i : ℕ) → length s ≤ i → ending_length (drop i s) ≡ 0
unfolding ending_length
ending_none s i h = rw (drop_of_length-le s h)

-- What is left of a text after its first line.
abbrev rest_of : List ℕ → List ℕ
rest_of t = drop (ending_length (drop (line_length t) t)) (drop (line_length t) t)

-- The lines of a text that has any: the first one, and those of what is left.
abbrev Step : List ℕ → Type 0
Step [] = Unit {0}
Step (b ∷ bs) = lines (b ∷ bs) ≡ take (line_length (b ∷ bs)) (b ∷ bs) ∷ lines (rest_of (b ∷ bs))

-- By what the first byte is: an LF; a CR with an LF behind it; another.
step : (b : ℕ) (bs : List ℕ) (x y z : Bool) → eqb b 10 ≡ x → eqb b 13 ≡ y → eqb (get_or bs 0 0) 10 ≡ z → Step bs → Step (b ∷ bs)
unfolding lines onto_first_line line_length ending_length at_end
step b bs true y z e f g ih = simp e
step b [] false true true e f g ih = simp (e, f)
step b (c ∷ cs) false true true e f g ih = simp (e, f, g)
step b [] false true false e f g ih = simp (e, f)
step b (c ∷ cs) false true false e f g ih = simp (e, f, ih) (simp g)
step b [] false false z e f g ih = simp (e, f)
step b (c ∷ cs) false false z e f g ih = simp (e, f, ih)

steps : (t : List ℕ) → Step t
steps [] = tt
steps (b ∷ bs) = step b bs (eqb b 10) (eqb b 13) (eqb (get_or bs 0 0) 10) refl refl refl (steps bs)

lines_step : (s : List ℕ) (at : ℕ) → at < length s → lines (drop at s) ≡ take (line_length (drop at s)) (drop at s) ∷ lines (rest_of (drop at s))
lines_step s at h = rw (drop-cons s at 0 h) (steps (get_or s at 0 ∷ drop (suc at) s))

line_length_le : (t : List ℕ) → line_length t ≤ length t
unfolding line_length
line_length_le [] = zero-le
line_length_le (b ∷ bs) = pick (at_end (b ∷ bs)) (line_length_le bs)
  where
    pick : (t : Bool) → line_length bs ≤ length bs → cond t zero (suc (line_length bs)) ≤ suc (length bs)
    pick true h = zero-le
    pick false h = suc-le-suc h

ending_size : (s : List ℕ) (e : ℕ) → e < length s → (0 < ending_length (drop e s)) × (ending_length (drop e s) ≤ 2)
ending_size s e h = rw (ending s e (eqb (get_or s e 0) 10) h refl) (pick (eqb (get_or s e 0) 10))
  where
    pick : (t : Bool) → (0 < cond t 1 2) × (cond t 1 2 ≤ 2)
    pick true = omega arith
    pick false = omega arith

-- Where a line ends, in the text.
pub end_le : (s : List ℕ) (at e : ℕ) → at ≤ length s → e ≡ at + line_length (drop at s) → e ≤ length s
end_le s at e h p = omega (arith, line_length_le (drop at s), length-drop at s)

-- A line that ends before the text does is one or two bytes shorter than the way to the next one; a last line without an ending is not.
at_most : (s : List ℕ) (at e n : ℕ) → n ≡ e + ending_length (drop e s) → at < length s → at ≤ e → e ≤ length s → (at < n) × (n ≤ length s + 1)
at_most s at e n q h f w =
    ⊎_elim (λ g. omega (arith, ending_none s e (omega arith))) (λ g. omega (arith, ending_size s e g)) (eq-or-lt_of_le w)

-- A line stops where one ends.
stopped : (t : List ℕ) → line_length t < length t → at_end (drop (line_length t) t) ≡ true
unfolding line_length
stopped [] h = absurd (not-suc-le-zero h)
stopped (b ∷ bs) h = pick (at_end (b ∷ bs)) refl h (stopped bs)
  where
    pick : (x : Bool) → at_end (b ∷ bs) ≡ x → cond x zero (suc (line_length bs)) < suc (length bs)
        → (line_length bs < length bs → at_end (drop (line_length bs) bs) ≡ true)
        → at_end (drop (cond x zero (suc (line_length bs))) (b ∷ bs)) ≡ true
    pick true e h ih = e
    pick false e h ih = ih (le_of_suc-le-suc h)

or_else : (x y z : Bool) → (x || (y && z)) ≡ true → x ≡ false → z ≡ true
or_else true y z e f = absurd (let q : ◌≡◌ {A = ℕ} 0 1 = cc in omega arith)
or_else false true z e f = e
or_else false false z e f = absurd (let q : ◌≡◌ {A = ℕ} 0 1 = cc in omega arith)

ten : (s : List ℕ) (i : ℕ) → get_or s i 0 ≡ 10 → get_or s i 10 ≡ 10
ten [] i e = refl
ten (b ∷ bs) zero e = e
ten (b ∷ bs) (suc i) e = ten bs i e

-- Behind what ends a line a line starts.
behind : (s : List ℕ) (e n : ℕ) (x : Bool) → eqb (get_or s e 0) 10 ≡ x → e < length s → at_end (drop e s) ≡ true → n ≡ e + ending_length (drop e s)
    → get_or (10 ∷ s) n 10 ≡ 10
unfolding at_end
behind s e n true f h a q =
    let k : n ≡ suc e = omega (arith, ending s e true h f) in
    rw k (ten s e (eqb-true _ _ f))
behind s e n false f h a q =
    let k : n ≡ suc (suc e) = omega (arith, ending s e false h f) in
    let z : get_or (drop e s) 0 0 ≡ get_or s e 0 = get_or-drop e s 0 0 ∙ ap (λ (k : ℕ). get_or s k 0) (omega arith) in
    let y : get_or (drop e s) 1 0 ≡ get_or s (suc e) 0 = get_or-drop e s 1 0 ∙ ap (λ (k : ℕ). get_or s k 0) (omega arith) in
    let lf : get_or s (suc e) 0 ≡ 10 = eqb-true _ _ (or_else (eqb (get_or s e 0) 10) (eqb (get_or s e 0) 13) (eqb (get_or s (suc e) 0) 10) (rw (z, y) at a) f) in
    rw k (ten s (suc e) lf)

starts_next : (s : List ℕ) (at e n : ℕ) → e ≡ at + line_length (drop at s) → n ≡ e + ending_length (drop e s) → e ≤ length s → Starts s n
unfolding Starts
starts_next s at e n p q w =
    ⊎_elim
    (λ g. inr (omega (arith, g)))
    (λ g.
    let k = length-drop at s in
    let l : line_length (drop at s) < length (drop at s) = omega arith in
    let d : drop (line_length (drop at s)) (drop at s) ≡ drop e s = drop-drop (line_length (drop at s)) at s ∙ ap (λ (z : ℕ). drop z s) (sym p) in
    inl (behind s e n (eqb (get_or s e 0) 10) refl g (rw d at (stopped (drop at s) l)) q))
    (eq-or-lt_of_le w)

pub line_at_lem : (s : List ℕ) (at e n : ℕ) → at < length s → e ≡ at + line_length (drop at s) → n ≡ e + ending_length (drop e s)
    → LineAt s at (record { end = e; next = n })
line_at_lem s at e n h p q =
    let w : e ≤ length s = end_le s at e (omega arith) p in
    let k : e - at ≡ line_length (drop at s) = omega arith in
    let d : drop (line_length (drop at s)) (drop at s) ≡ drop e s = drop-drop (line_length (drop at s)) at s ∙ ap (λ (z : ℕ). drop z s) (sym p) in
    let z : drop (ending_length (drop e s)) (drop e s) ≡ drop n s = drop-drop (ending_length (drop e s)) e s ∙ ap (λ (z : ℕ). drop z s) (sym q) in
    let b = at_most s at e n q h (omega arith) w in
    record {
      cut = rw k (lines_step s at h ∙ rw (d, z));
      from = omega arith;
      within = w;
      moves = b.0;
      fits = b.1;
      starts = starts_next s at e n p q w;
    }

-- Nothing is left at the end of a text.
pub lines_end : (s : List ℕ) (at : ℕ) → length s ≤ at → lines (drop at s) ≡ []
unfolding lines
lines_end s at h = rw (drop_of_length-le s h)

-- A text has no more lines than bytes.
pub lines_fit : (s : List ℕ) → length (lines s) ≤ length s
unfolding lines onto_first_line
lines_fit [] = zero-le
lines_fit (b ∷ bs) = pick (eqb b 10) (eqb b 13 && eqb (get_or bs 0 0) 10) (lines bs) (lines_fit bs)
  where
    pick : (x y : Bool) (more : List (List ℕ)) → length more ≤ length bs → length (cond x ([] ∷ more) (cond y more (onto_first_line b more))) ≤ suc (length bs)
    pick true y more h = suc-le-suc h
    pick false true more h = omega (arith, h)
    pick false false [] h = suc-le-suc zero-le
    pick false false (l ∷ ls) h = omega (arith, h)

-- The lines of whole lines and of what follows them: those of the first, and those of the second.
abbrev Ends : List ℕ → Type 0
Ends xs = get_or (10 ∷ xs) (length xs) 10 ≡ 10

-- Whole lines that have a byte are at least one line.
abbrev Some : List (List ℕ) → Type 0
Some [] = ⊥
Some (l ∷ ls) = Unit {0}

some_cond : (x y : Bool) (ls ms ns : List (List ℕ)) → Some ls → (y ≡ true → Some ms) → Some ns → Some (cond x ls (cond y ms ns))
some_cond true y ls ms ns p q r = p
some_cond false true ls ms ns p q r = q refl
some_cond false false ls ms ns p q r = r

some_before : (b : ℕ) (ls : List (List ℕ)) → Some (onto_first_line b ls)
unfolding onto_first_line
some_before b [] = tt
some_before b (l ∷ ls) = tt

some_lines : (b : ℕ) (bs : List ℕ) → Some (lines (b ∷ bs))
unfolding lines
some_lines b [] =
    some_cond (eqb b 10) (eqb b 13 && eqb 0 10) ([] ∷ []) [] (onto_first_line b []) tt (λ e. absurd (true≢false (sym e ∙ and-false (eqb b 13)))) (some_before b [])
some_lines b (c ∷ cs) =
    some_cond (eqb b 10) (eqb b 13 && eqb c 10) ([] ∷ lines (c ∷ cs)) (lines (c ∷ cs)) (onto_first_line b (lines (c ∷ cs))) tt (λ e. some_lines c cs)
    (some_before b (lines (c ∷ cs)))

before_more : (b : ℕ) (ls ms : List (List ℕ)) → Some ls → onto_first_line b (ls ++ ms) ≡ onto_first_line b ls ++ ms
unfolding onto_first_line
before_more b [] ms s = absurd s
before_more b (l ∷ ls) ms s = refl

cond_append : (x y : Bool) (ks bs cs ms : List (List ℕ)) → cond x (ks ++ ms) (cond y (bs ++ ms) (cs ++ ms)) ≡ cond x ks (cond y bs cs) ++ ms
cond_append true y ks bs cs ms = refl
cond_append false true ks bs cs ms = refl
cond_append false false ks bs cs ms = refl

closed : (xs ys : List ℕ) → Ends xs → lines (xs ++ ys) ≡ lines xs ++ lines ys
unfolding lines
closed [] ys e = refl
closed (b ∷ []) ys e = rw e
closed (b ∷ c ∷ cs) ys e =
    rw (closed (c ∷ cs) ys e, before_more b (lines (c ∷ cs)) (lines ys) (some_lines c cs))
    (cond_append (eqb b 10) (eqb b 13 && eqb c 10) ([] ∷ lines (c ∷ cs)) (lines (c ∷ cs)) (onto_first_line b (lines (c ∷ cs))) (lines ys))

-- The text before a place where a line starts is whole lines.
ends_take : (s : List ℕ) (at : ℕ) → at ≤ length s → get_or (10 ∷ s) at 10 ≡ 10 → Ends (take at s)
ends_take s at h e = rw (length-take-le at s h) (go s at h e)
  where
    go : (s : List ℕ) (at : ℕ) → at ≤ length s → get_or (10 ∷ s) at 10 ≡ 10 → get_or (10 ∷ take at s) at 10 ≡ 10
    go s zero h e = refl
    go [] (suc k) h e = refl
    go (b ∷ bs) (suc zero) h e = e
    go (b ∷ bs) (suc (suc k)) h e = go bs (suc k) (le_of_suc-le-suc h) e

le_or_lt : (a b : ℕ) → (a ≤ b) ⊎ (b < a)
le_or_lt a b = pick (leb a b) refl
  where
    pick : (t : Bool) → leb a b ≡ t → (a ≤ b) ⊎ (b < a)
    pick true e = inl (leb-true a b e)
    pick false e = inr (leb-false a b e)

-- At a place where a line starts, the text's lines are those before it and those behind it.
pub lines_split : (s : List ℕ) (at : ℕ) → Starts s at → lines (take at s) ++ lines (drop at s) ≡ lines s
unfolding Starts lines
lines_split s at (inr h) = rw (take_all at s h, drop_of_length-le s h, append-nil)
lines_split s at (inl e) =
    ⊎_elim
    (λ g. sym (closed (take at s) (drop at s) (ends_take s at g e)) ∙ ap lines (take-append-drop at s))
    (λ g. rw (take_all at s (le_of_lt g), drop_of_length-le s (le_of_lt g), append-nil))
    (le_or_lt at (length s))

-- A text starts with a line.
pub starts_first : (s : List ℕ) → Starts s 0
unfolding Starts
starts_first s = inl refl

-- The lines before the next line are those before this one, and this one.
pub lines_next : (s : List ℕ) (at : ℕ) (r : Span) → Starts s at → LineAt s at r
    → lines (take r.next s) ≡ lines (take at s) ++ (take (r.end - at) (drop at s) ∷ [])
lines_next s at r st l =
    let line : List ℕ = take (r.end - at) (drop at s) in
    let rest : List (List ℕ) = lines (drop r.next s) in
    append_cancel_right (lines (take r.next s)) (lines (take at s) ++ (line ∷ [])) rest
    (lines_split s r.next l.starts
    ∙ sym (lines_split s at st)
    ∙ ap (λ (x : List (List ℕ)). lines (take at s) ++ x) l.cut
    ∙ sym (append_assoc (lines (take at s)) (line ∷ []) rest))

-- The same by the number k of the lines before.
