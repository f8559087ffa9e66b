-- The form that is chosen by the first two tokens and by how many there are is the only one that they may fill.
-- Assumes nothing.
use mathlib.Core.Path.{◌≡◌, refl, sym, ap, subst, ◌∙◌}
use mathlib.Core.Bool.{Bool, true, false, cond, true≢false}
use mathlib.Core.List.{List, [], ◌∷◌}
use Prim.Native.Nat.{ℕ, ◌+◌, ◌≤◌, ◌<◌}
use native.Mathlib.Omega.{arith}
use borrow.Author.Tests.{eqb-true, ne_eqb, lt-ltb, le-ltb}
use lib.Dec.{eqb}
use Rattle.numbers.specs.Bytes.{ascii}
use Rattle.numbers.specs.Tests.{eq_list, numbered}
use Rattle.numbers.proofs.Truth.{eqb_turn, if_below, of_both}
use Rattle.numbers.proofs.Lists.{EachFrom, each_from}
use Rattle.program.specs.Names.{letter, digit, word_character, mnemonics, variable_names, paper_variable, paper_word, two_characters, user_name}
use Rattle.program.specs.Code.{name_of}
use Rattle.text.specs.Forms.{variable_name}
use Rattle.text.specs.Code.{token_at}
use Rattle.std.specs.Prelude.{Result, Ok, Err, IfOk, is_ok}
use Rattle.std.specs.Result.{result_unwrap_or}
use Rattle.std.proofs.lemmas.Result.{IfOk-at_ok}
use Rattle.forms.specs.Code.{no_match, onward, with_name, with_written, word_by, slot_by, is_end, fill_by, slot_table, slots_of, first_form, longer_by, form_for}
use Rattle.text.specs.declared.tokens.Token.{Token}
use Rattle.text.specs.declared.tokens.Tokens.{Tokens}
use Rattle.forms.specs.declared.Match.{Match}
use Rattle.forms.specs.declared.Slot.{Slot}
use Rattle.forms.specs.declared.Slot.TheVariants as S
use Rattle.forms.proofs.Matching.{least, width, Moves, slot_moves, fill_step, then}

-- It is one of the 21.
abbrev IsForm : ℕ → Type 0
IsForm x = x < 21

pub first_below_lem : (first : ℕ) → first_form first < 21
unfolding first_form
first_below_lem first =
    of_both IsForm (eqb first 16972) (omega arith) (of_both IsForm (eqb first 16726) (omega arith) (of_both IsForm (eqb first 17225) (omega arith)
    (of_both IsForm (eqb first 17220) (omega arith) (of_both IsForm (eqb first 21058) (omega arith) (of_both IsForm (eqb first 19523) (omega arith)
    (of_both IsForm (eqb first 21586) (omega arith) (of_both IsForm (eqb first 69) (omega arith) (of_both IsForm (eqb first 72) (omega arith)
    (of_both IsForm (eqb first 17743) (omega arith) (of_both IsForm (eqb first 16717) (omega arith) (of_both IsForm (eqb first 21069) (omega arith)
    (of_both IsForm (eqb first 19539) (omega arith) (of_both IsForm (eqb first 21072) (omega arith) (omega arith))))))))))))))

not_longer : (form second count : ℕ) → 15 < form → longer_by form second count ≡ false
not_longer form second count h =
    rw (
      ne_eqb form 1 (λ e. omega arith),
      ne_eqb form 7 (λ e. omega arith),
      ne_eqb form 9 (λ e. omega arith),
      ne_eqb form 3 (λ e. omega arith),
      ne_eqb form 13 (λ e. omega arith),
      ne_eqb form 15 (λ e. omega arith),
    )

pub form_below : (first second count : ℕ) → form_for first second count < 21
unfolding form_for
form_below first second count = pick (first_form first) (first_below_lem first)
  where
    pick : (form : ℕ) → form < 21 → cond (longer_by form second count) (form + 1) form < 21
    pick form h =
        if_below 15 form (λ l. rw (not_longer form second count l) h)
        (λ l. of_both IsForm (longer_by form second count) (omega arith) h)

-- The fewest and the most tokens of a form.
fewest : List Slot → ℕ
fewest [] = 0
fewest (s ∷ ss) = cond (is_end s) 0 (1 + fewest ss)

most : List Slot → ℕ
most [] = 0
most (s ∷ ss) = cond (is_end s) 0 (width s + most ss)

-- What failed is no match that is filled.
not_filled : (m n : Match) → Err m ≡ Ok n → ⊥
not_filled m n e = true≢false (ap (λ (o : Result Match Match). is_ok o) (sym e))

-- What the first of some slots took, and that the others go on from there.
record Stepped (at : List Token) (m : Match) (s : Slot) (ss : List Slot) (r : Match) : Type 0 where
  n : Match
  took : slot_by m s (token_at at m.place) (token_at at (m.place + 1)) ≡ Ok n
  more : fill_by ss at n ≡ Ok r

stepped : (at : List Token) (s : Slot) (ss : List Slot) (m r : Match) → is_end s ≡ false → fill_by (s ∷ ss) at m ≡ Ok r → Stepped at m s ss r
stepped at s ss m r z e = pick (slot_by m s (token_at at m.place) (token_at at (m.place + 1))) refl (sym (fill_step at m s ss z) ∙ e)
  where
    pick : (o : Result Match Match) → slot_by m s (token_at at m.place) (token_at at (m.place + 1)) ≡ o → then at m ss o ≡ Ok r → Stepped at m s ss r
    pick (Err n) f g = absurd (not_filled n r g)
    pick (Ok n) f g = record { n = n; took = f; more = g }

word_fits : (b : Bool) (m n : Match) → word_by b m ≡ Ok n → (b ≡ true) × (onward m 1 ≡ n)
unfolding word_by
word_fits true m n e = (refl, ap (λ (o : Result Match Match). result_unwrap_or o m) e)
word_fits false m n e = absurd (not_filled (onward m 1) n e)

module _ (at : List Token) where
  fill_moves : (ss : List Slot) (m : Match) → IfOk (fill_by ss at m) (Moves m (fewest ss) (most ss))
  unfolding fill_by fewest most least
  fill_moves [] m = (omega arith, omega arith)
  fill_moves (s ∷ ss) m = pick (is_end s) (slot_by m s (token_at at m.place) (token_at at (m.place + 1))) (slot_moves m s (token_at at m.place) (token_at at (m.place + 1))) (λ n. fill_moves ss n)
    where
      wider : (n : Match) (o : Result Match Match) → Moves m 1 (width s) n → IfOk o (Moves n (fewest ss) (most ss)) → IfOk o (Moves m (1 + fewest ss) (width s + most ss))
      wider n (Err r) h k = tt
      wider n (Ok r) h k = (omega (arith, h.0, k.0), omega (arith, h.1, k.1))

      pick : (z : Bool) (o : Result Match Match) → IfOk o (Moves m (cond z 0 1) (width s)) → ((n : Match) → IfOk (fill_by ss at n) (Moves n (fewest ss) (most ss)))
          → IfOk (cond z (Ok m) (then at m ss o)) (Moves m (cond z 0 (1 + fewest ss)) (cond z 0 (width s + most ss)))
      pick true o h ih = (omega arith, omega arith)
      pick false (Err n) h ih = tt
      pick false (Ok n) h ih = wider n (fill_by ss at n) h (ih n)

module _ (ts : Tokens) where
  abbrev first : ℕ
  first = (token_at ts.at 0).key

  abbrev second : ℕ
  second = (token_at ts.at 1).key

  -- The tokens fill these slots, and none is left.
  abbrev pub Fits : List Slot → Match → Type 0
  Fits ss m = (fill_by ss ts.at no_match ≡ Ok m) × (m.place ≡ ts.count)

  counted : (ss : List Slot) (m : Match) → Fits ss m → (fewest ss ≤ ts.count) × (ts.count ≤ most ss)
  counted ss m h =
      let b = IfOk-at_ok (Moves no_match (fewest ss) (most ss)) h.0 (fill_moves ts.at ss no_match) in
      (omega (arith, h.1, b.0), omega (arith, h.1, b.1))

  -- The first slot takes the very characters of a key; or a variable.
  keyed : (k : ℕ) (ss : List Slot) (m : Match) → Fits (S.Is k ∷ ss) m → first ≡ k
  unfolding slot_by is_end
  keyed k ss m h =
      let s = stepped ts.at (S.Is k) ss no_match m refl h.0 in
      sym (eqb-true k first (word_fits (eqb k first) no_match s.n s.took).0)

  written : (ss : List Slot) (m : Match) → Fits (S.Written ∷ ss) m → variable_name (name_of first) ≡ true
  unfolding slot_by is_end
  written ss m h =
      let s = stepped ts.at S.Written ss no_match m refl h.0 in
      (word_fits (variable_name (name_of first)) (with_written no_match first) s.n s.took).0

  by_key : (k : ℕ) (ss : List Slot) (m : Match) {f : ℕ} → Fits (S.Is k ∷ ss) m → form_for k second ts.count ≡ f → form_for first second ts.count ≡ f
  by_key k ss m {f} h e = subst (λ (x : ℕ). form_for x second ts.count ≡ f) (sym (keyed k ss m h)) e

  -- No mnemonic is a variable, so that an assignment is told from all else.
  unlike : (k : ℕ) → variable_name (name_of k) ≡ false → variable_name (name_of first) ≡ true → eqb first k ≡ false
  unlike k n h = ne_eqb first k (λ e. true≢false (sym h ∙ ap (λ (x : ℕ). variable_name (name_of x)) e ∙ n))

  assigns : variable_name (name_of first) ≡ true → first_form first ≡ 3
  unfolding first_form variable_name paper_variable user_name two_characters paper_word numbered mnemonics variable_names letter digit word_character eq_list ascii name_of
  assigns h =
      rw (
        unlike 16972 refl h,
        unlike 16726 refl h,
        unlike 17225 refl h,
        unlike 17220 refl h,
        unlike 21058 refl h,
        unlike 19523 refl h,
        unlike 21586 refl h,
        unlike 69 refl h,
        unlike 72 refl h,
        unlike 17743 refl h,
        unlike 16717 refl h,
        unlike 21069 refl h,
        unlike 19539 refl h,
        unlike 21072 refl h,
      )

  assigned : (ss : List Slot) (m : Match) {f : ℕ} → Fits (S.Written ∷ ss) m → cond (longer_by 3 second ts.count) 4 3 ≡ f → form_for first second ts.count ≡ f
  unfolding form_for
  assigned ss m h e = rw (assigns (written ss m h)) e

  -- What follows OE: a label, or `0`.
  targeted : (ss : List Slot) (m : Match) → Fits (S.Is 17743 ∷ S.Target ∷ ss) m → eqb second 48 ≡ false
  unfolding slot_by is_end user_name two_characters paper_word numbered letter digit word_character name_of
  targeted ss m h =
      let a = stepped ts.at (S.Is 17743) (S.Target ∷ ss) no_match m refl h.0 in
      let b = stepped ts.at S.Target ss a.n m refl a.more in
      let p = ap (λ (x : Match). x.place) (word_fits (eqb 17743 first) no_match a.n a.took).1 in
      let k = (token_at ts.at a.n.place).key in
      let w = (word_fits (user_name (name_of k)) (with_name a.n k) b.n b.took).0 in
      let u : user_name (name_of second) ≡ true = ap (λ (i : ℕ). user_name (name_of (token_at ts.at i).key)) p ∙ w in
      ne_eqb second 48 (λ e. true≢false (sym u ∙ ap (λ (x : ℕ). user_name (name_of x)) e))

  disarmed : (ss : List Slot) (m : Match) → Fits (S.Is 17743 ∷ S.Is 48 ∷ ss) m → eqb second 48 ≡ true
  unfolding slot_by is_end
  disarmed ss m h =
      let a = stepped ts.at (S.Is 17743) (S.Is 48 ∷ ss) no_match m refl h.0 in
      let b = stepped ts.at (S.Is 48) ss a.n m refl a.more in
      let p = ap (λ (x : Match). x.place) (word_fits (eqb 17743 first) no_match a.n a.took).1 in
      eqb_turn second 48 ∙ ap (λ (i : ℕ). eqb 48 (token_at ts.at i).key) p ∙ (word_fits (eqb 48 (token_at ts.at a.n.place).key) a.n b.n b.took).0

  -- Each form in turn.
  abbrev Only : ℕ → Type 0
  Only f = (m : Match) → Fits (slots_of f) m → form_for first second ts.count ≡ f

  each : EachFrom Only 0 21
  unfolding slots_of slot_table form_for first_form fewest most width is_end
  each = (
    λ m h. by_key 16972 _ m h refl,
    (
      λ m h. by_key 16726 _ m h (rw (le-ltb 2 ts.count (counted _ m h).1)),
      (
        λ m h. by_key 16726 _ m h (rw (lt-ltb 2 ts.count (omega (arith, (counted _ m h).0)))),
        (
          λ m h. assigned _ m h (rw (le-ltb 4 ts.count (counted _ m h).1)),
          (
            λ m h. assigned _ m h (rw (lt-ltb 4 ts.count (omega (arith, (counted _ m h).0)))),
            (
              λ m h. by_key 17225 _ m h refl,
              (
                λ m h. by_key 17220 _ m h refl,
                (
                  λ m h. by_key 21058 _ m h (rw (le-ltb 2 ts.count (counted _ m h).1)),
                  (
                    λ m h. by_key 21058 _ m h (rw (lt-ltb 2 ts.count (omega (arith, (counted _ m h).0)))),
                    (
                      λ m h. by_key 19523 _ m h (rw (le-ltb 2 ts.count (counted _ m h).1)),
                      (
                        λ m h. by_key 19523 _ m h (rw (lt-ltb 2 ts.count (omega (arith, (counted _ m h).0)))),
                        (
                          λ m h. by_key 21586 _ m h refl,
                          (
                            λ m h. by_key 69 _ m h refl,
                            (
                              λ m h. by_key 72 _ m h (rw (le-ltb 1 ts.count (counted _ m h).1)),
                              (
                                λ m h. by_key 72 _ m h (rw (lt-ltb 1 ts.count (omega (arith, (counted _ m h).0)))),
                                (
                                  λ m h. by_key 17743 _ m h (rw (targeted _ m h)),
                                  (
                                    λ m h. by_key 17743 _ m h (rw (disarmed _ m h)),
                                    (
                                      λ m h. by_key 16717 _ m h refl,
                                      (
                                        λ m h. by_key 21069 _ m h refl,
                                        (
                                          λ m h. by_key 19539 _ m h refl,
                                          (λ m h. by_key 21072 _ m h refl, tt),
                                        ),
                                      ),
                                    ),
                                  ),
                                ),
                              ),
                            ),
                          ),
                        ),
                      ),
                    ),
                  ),
                ),
              ),
            ),
          ),
        ),
      ),
    ),
  )

  pub only_form : (f : ℕ) → f < 21 → (m : Match) → Fits (slots_of f) m → form_for first second ts.count ≡ f
  only_form f h = each_from Only 0 21 each f (omega arith) (omega arith)
