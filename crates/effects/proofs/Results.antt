-- 109 exactly below the literal range and 101 exactly above it, for every statement; the two ends of the range, the bit operators, and the numbers of errors.
-- Assumes nothing.
use mathlib.Core.Path.{◌≡◌, refl, ap, ◌∙◌, subst}
use mathlib.Core.Bool.{Bool, true, false, cond, ◌&&◌, ◌||◌, not, or-false}
use mathlib.Core.List.{List, [], ◌∷◌}
use mathlib.Core.Logic.{◌↔◌}
use Prim.Native.Nat.{ℕ, suc, ◌-◌, min, max}
use native.Mathlib.Omega.{arith}
use borrow.Author.Tests.{le-leb, lt-leb, ne_eqb}
use lib.Bits.{differ}
use lib.Dec.{T, T_not, eqb, leb, ltb, le→leb, nleb→lt, lt→ltb, ltb→lt, nltb→le}
use lib.IntN.{ℤ, pos, negsuc, nat_abs, ◌+ℤ◌, ◌-ℤ◌}
use lib.Signed.{le_z, le_z_yes, lt_z_yes, clash_ℤ}
use Rattle.numbers.specs.Bits.{signed32, on32, and32, or32, xor32}
use Rattle.numbers.specs.Tests.{any_of, between, eq_z}
use Rattle.numbers.proofs.Truth.{is_true, both, left_of_lem, not_same, if_same, if_below, chosen, of_both}
use Rattle.program.specs.Variables.{in_range, literals, hold_range, slew_range, range_of}
use Rattle.program.specs.Statements.{Value, Literal, Variable, Operator, Plus, Minus, Times, Divided, BitAnd, BitOr, BitXor, Statement, Set, SetWith, IC, DC, BR, CL, RT, E, H, Hold, OE, Disarm, MA, MR, SL, PR}
use Rattle.effects.specs.declared.Effect.{Effect}
use Rattle.effects.specs.declared.Effect.TheVariants.{Fails, Stores, Passes, Goes, Calls, Returns, Ends, Stays, Holds, Arms, Disarms, Moves, Slews, Prints}
use Rattle.effects.specs.Errors.{is_error, result_error}
use Rattle.effects.specs.Effects.{read, storing, storing_result, operate, zero_divisor, storing_with, calling, returning, waiting, holding, moving, slewing, value, holds, printing, branching, calling_if, effect}
use Rattle.effects.specs.Results.{below, above, bitwise, results, OverOrUnder, Neither}

-- What is in the literal range is not below it and not above it; nothing is both; what is outside it and not below it is above it.
inside_not_below : (z : ℤ) → T (in_range literals z) → T (below z) → ⊥
inside_not_below z i b = clash_ℤ (lt_z_yes {a = z} {b = negsuc 2147483646} b) (le_z_yes (both (le_z (negsuc 2147483646) z) (le_z z (pos 2147483647)) i).0)

inside_not_above : (z : ℤ) → T (in_range literals z) → T (above z) → ⊥
inside_not_above z i a = clash_ℤ (lt_z_yes {a = pos 2147483647} {b = z} a) (le_z_yes (both (le_z (negsuc 2147483646) z) (le_z z (pos 2147483647)) i).1)

never_both : (z : ℤ) → T (below z) → T (above z) → ⊥
never_both (pos n) b a = b
never_both (negsuc n) b a = a

outside_above : (z : ℤ) → T (not (in_range literals z)) → T (not (below z)) → T (above z)
outside_above (pos n) o b = lt→ltb 2147483647 n (nleb→lt n 2147483647 o)
outside_above (negsuc n) o b =
    absurd (subst (λ (t : Bool). T (not (t && true))) (is_true (leb n 2147483646) (le→leb n 2147483646 (nltb→le 2147483646 n b))) o)

-- What 32 digits write is not above the range, and below it only at -2,147,483,648.
written_not_above : (n : ℕ) → T (above (signed32 n)) → ⊥
unfolding signed32
written_not_above n =
    chosen (λ (z : ℤ). T (above z) → ⊥) (ltb n 2147483648)
    (λ l a. let p = ltb→lt 2147483647 n a in let q = ltb→lt n 2147483648 l in omega arith)
    (λ l a. a)

written_lowest : (n : ℕ) → T (below (signed32 n)) → signed32 n ≡ negsuc 2147483647
unfolding signed32
written_lowest n =
    chosen (λ (z : ℤ). T (below z) → z ≡ negsuc 2147483647) (ltb n 2147483648)
    (λ l b. absurd b)
    (λ l b. ap negsuc (let p = ltb→lt 2147483646 (4294967296 - suc n) b in let q = nltb→le n 2147483648 l in omega arith))

-- A bit operator joins the 32 digits, and has no divisor.
by_digits : (o : Operator) → T (bitwise o) → (a b : ℤ) → (f : ℕ → ℕ → ℕ) × (operate o a b ≡ on32 f a b)
unfolding bitwise operate and32 or32 xor32
by_digits Plus t a b = absurd t
by_digits Minus t a b = absurd t
by_digits Times t a b = absurd t
by_digits Divided t a b = absurd t
by_digits BitAnd t a b = (min, refl)
by_digits BitOr t a b = (max, refl)
by_digits BitXor t a b = (differ, refl)

no_divisor : (o : Operator) → T (bitwise o) → (b : ℤ) → zero_divisor o b ≡ false
unfolding bitwise zero_divisor
no_divisor Plus t b = refl
no_divisor Minus t b = refl
no_divisor Times t b = refl
no_divisor Divided t b = absurd t
no_divisor BitAnd t b = refl
no_divisor BitOr t b = refl
no_divisor BitXor t b = refl

-- The number of an error, and 0 for any other effect.
abbrev error_in : Effect → ℕ
error_in (Fails error) = error
error_in (Stores v z) = 0
error_in Passes = 0
error_in (Goes cell) = 0
error_in (Calls cell) = 0
error_in Returns = 0
error_in Ends = 0
error_in Stays = 0
error_in (Holds turns) = 0
error_in (Arms cell) = 0
error_in Disarms = 0
error_in (Moves target kind z) = 0
error_in (Slews z) = 0
error_in (Prints v z) = 0

neither_of : (e : Effect) → T (not (eqb (error_in e) 109)) → T (not (eqb (error_in e) 101)) → Neither e
neither_of e a b = record { not_under = λ q. not_same (error_in e) 109 a (ap error_in q); not_over = λ q. not_same (error_in e) 101 b (ap error_in q) }

-- An effect with no result, with one in the range, with one outside it.
no_result : {e : Effect} → Neither e → OverOrUnder [] e
unfolding any_of
no_result n = record { under = (λ q. n.not_under q, λ t. absurd t); over = (λ q. n.not_over q, λ t. absurd t) }

inside : {e : Effect} (z : ℤ) → T (in_range literals z) → Neither e → OverOrUnder (z ∷ []) e
unfolding any_of
inside z i n =
    record {
      under = (λ q. absurd (n.not_under q), λ t. absurd (inside_not_below z i (subst T (or-false (below z)) t)));
      over = (λ q. absurd (n.not_over q), λ t. absurd (inside_not_above z i (subst T (or-false (above z)) t)));
    }

outside : (z : ℤ) → T (not (in_range literals z)) → OverOrUnder (z ∷ []) (Fails (result_error z))
unfolding any_of result_error
outside z o =
    chosen (λ (n : ℕ). OverOrUnder (z ∷ []) (Fails n)) (below z)
    (λ b. record {
      under = (λ q. left_of_lem (below z) false b, λ t. refl);
      over = (λ q. absurd (let k = ap error_in q in omega arith), λ t. absurd (never_both z b (subst T (or-false (above z)) t)));
    })
    (λ b. record {
      under = (λ q. absurd (let k = ap error_in q in omega arith), λ t. absurd (T_not (below z) b (subst T (or-false (below z)) t)));
      over = (λ q. left_of_lem (above z) false (outside_above z o b), λ t. refl);
    })

-- A result that another effect comes before, where a test says so.
behind : (t : Bool) {z : ℤ} {first e : Effect} → Neither first → OverOrUnder (z ∷ []) e → OverOrUnder (cond t [] (z ∷ [])) (cond t first e)
behind true n o = no_result n
behind false n o = o

-- Either number is one of an error.
pub result_error_lem : (z : ℤ) → T (is_error (pos (result_error z)))
unfolding result_error is_error any_of eq_z
result_error_lem z = of_both (λ (n : ℕ). T (is_error (pos n))) (below z) tt tt

-- Where the result, if there is one, is in the range, an effect is neither error.
pub never_out : (z : ℤ) (t : Bool) {e : Effect} → T (in_range literals z) → OverOrUnder (cond t [] (z ∷ [])) e → Neither e
unfolding any_of
never_out z true i o = record { not_under = λ q. o.under.0 q; not_over = λ q. o.over.0 q }
never_out z false i o =
    record {
      not_under = λ q. inside_not_below z i (subst T (or-false (below z)) (o.under.0 q));
      not_over = λ q. inside_not_above z i (subst T (or-false (above z)) (o.over.0 q));
    }

-- The parts of an effect.
module _ (vars : List ℤ) where
  storing_neither : (v : ℕ) (z : ℤ) → Neither (storing vars v z)
  unfolding storing
  storing_neither v z = of_both Neither (in_range (range_of v (read vars 8) (read vars 9)) z) (neither_of (Stores v z) tt tt) (neither_of (Fails 103) tt tt)

  result_told : (v : ℕ) (z : ℤ) → OverOrUnder (z ∷ []) (storing_result vars v z)
  unfolding storing_result
  result_told v z = chosen (OverOrUnder (z ∷ [])) (in_range literals z) (λ i. inside z i (storing_neither v z)) (λ o. outside z o)

  with_told : (v : ℕ) (o : Operator) (x y : ℤ) → OverOrUnder (cond (zero_divisor o y) [] (operate o x y ∷ [])) (storing_with vars v o x y)
  unfolding storing_with
  with_told v o x y = behind (zero_divisor o y) (neither_of (Fails 102) tt tt) (result_told v (operate o x y))

  moving_told : (target : ℤ) (kind : ℕ) (z : ℤ) → OverOrUnder (cond (eq_z (read vars 14) (pos 1)) [] (target ∷ [])) (moving vars target kind z)
  unfolding moving
  moving_told target kind z =
      behind (eq_z (read vars 14) (pos 1)) (neither_of (Fails 106) tt tt)
      (chosen (OverOrUnder (target ∷ [])) (in_range literals target) (λ i. inside target i (neither_of (Moves target kind z) tt tt)) (λ o. outside target o))

  module _ {R : Type 0} (place number : R → ℕ) (kept hold : ℕ) where
    calling_neither : (n : R) (t : Bool) → Neither (calling_if place number vars kept hold n t)
    unfolding calling_if calling
    calling_neither n true = of_both Neither (ltb kept 8) (neither_of (Calls (place n)) tt tt) (neither_of (Fails 104) tt tt)
    calling_neither n false = neither_of Passes tt tt

    branching_neither : (n : R) (t : Bool) → Neither (branching place number vars kept hold n t)
    unfolding branching
    branching_neither n true = neither_of (Goes (place n)) tt tt
    branching_neither n false = neither_of Passes tt tt

    printing_neither : (x : Value R) → Neither (printing place number vars kept hold x)
    unfolding printing
    printing_neither (Literal z) = neither_of (Prints 0 z) tt tt
    printing_neither (Variable v) = neither_of (Prints (number v) (read vars (number v))) tt tt

    holding_neither : (z : ℤ) → Neither (holding hold z)
    unfolding holding
    holding_neither z =
        of_both Neither (ltb 0 hold) (neither_of (Holds (hold - 1)) tt tt)
        (of_both Neither (in_range hold_range z) (neither_of (Holds (nat_abs z - 1)) tt tt) (neither_of (Fails 103) tt tt))

    -- Q-6 2: the effect of every statement, over the exact result that it comes to.
    pub over_or_under : (s : Statement R) → OverOrUnder (results place number vars kept hold s) (effect place number vars kept hold s)
    unfolding effect results returning waiting slewing
    over_or_under (Set v x) = no_result (storing_neither (number v) (value place number vars kept hold x))
    over_or_under (SetWith v x o y) = with_told (number v) o (value place number vars kept hold x) (value place number vars kept hold y)
    over_or_under (IC v) = result_told (number v) (read vars (number v) +ℤ pos 1)
    over_or_under (DC v) = result_told (number v) (read vars (number v) -ℤ pos 1)
    over_or_under (BR n c) = no_result (branching_neither n (holds place number vars kept hold c))
    over_or_under (CL n c) = no_result (calling_neither n (holds place number vars kept hold c))
    over_or_under RT = no_result (of_both Neither (ltb 0 kept) (neither_of Returns tt tt) (neither_of (Fails 105) tt tt))
    over_or_under E = no_result (neither_of Ends tt tt)
    over_or_under H = no_result (of_both Neither (eq_z (read vars 14) (pos 1)) (neither_of Stays tt tt) (neither_of Passes tt tt))
    over_or_under (Hold x) = no_result (holding_neither (value place number vars kept hold x))
    over_or_under (OE n) = no_result (neither_of (Arms (place n)) tt tt)
    over_or_under Disarm = no_result (neither_of Disarms tt tt)
    over_or_under (MA x) = moving_told (value place number vars kept hold x) 2 (value place number vars kept hold x)
    over_or_under (MR x) = moving_told (read vars 5 +ℤ value place number vars kept hold x) 3 (value place number vars kept hold x)
    over_or_under (SL x) = no_result (of_both Neither (in_range slew_range (value place number vars kept hold x)) (neither_of (Slews _) tt tt) (neither_of (Fails 103) tt tt))
    over_or_under (PR x) = no_result (printing_neither x)

    -- Q-6 2: IC at the top of the range is 101 and DC at its bottom 109.
    pub counted_over : (v : R) → read vars (number v) ≡ pos 2147483647 → effect place number vars kept hold (IC v) ≡ Fails 101
    unfolding results any_of
    counted_over v e = (over_or_under (IC v)).over.1 (rw e tt)

    pub counted_under : (v : R) → read vars (number v) ≡ negsuc 2147483646 → effect place number vars kept hold (DC v) ≡ Fails 109
    unfolding results any_of
    counted_under v e = (over_or_under (DC v)).under.1 (rw e tt)

    -- Q-6 2: where MR aims below the range it is 109, unless the axis moves.
    pub aimed_under : (x : Value R) → eq_z (read vars 14) (pos 1) ≡ false → T (below (read vars 5 +ℤ value place number vars kept hold x))
        → effect place number vars kept hold (MR x) ≡ Fails 109
    unfolding results any_of
    aimed_under x still b = (over_or_under (MR x)).under.1 (rw still (left_of_lem (below (read vars 5 +ℤ value place number vars kept hold x)) false b))

    -- Q-6 2: the bit operators are never 101, and 109 exactly where the 32 digits write -2,147,483,648.
    module _ (o : Operator) (bits : T (bitwise o)) (v : R) (x y : Value R) where
      abbrev pub exact : ℤ
      exact = operate o (value place number vars kept hold x) (value place number vars kept hold y)

      written : (f : ℕ → ℕ → ℕ) × (exact ≡ on32 f (value place number vars kept hold x) (value place number vars kept hold y))
      written = by_digits o bits _ _

      result_comes : OverOrUnder (exact ∷ []) (effect place number vars kept hold (SetWith v x o y))
      unfolding results
      result_comes =
          subst (λ (t : Bool). OverOrUnder (cond t [] (exact ∷ [])) (effect place number vars kept hold (SetWith v x o y)))
          (no_divisor o bits (value place number vars kept hold y)) (over_or_under (SetWith v x o y))

      pub bits_not_over : effect place number vars kept hold (SetWith v x o y) ≡ Fails 101 → ⊥
      unfolding any_of on32
      bits_not_over q = written_not_above _ (subst (λ (z : ℤ). T (above z)) written.1 (subst T (or-false (above exact)) (result_comes.over.0 q)))

      pub bits_under : (effect place number vars kept hold (SetWith v x o y) ≡ Fails 109) ↔ (exact ≡ negsuc 2147483647)
      unfolding any_of on32
      bits_under = (
        λ q. written.1 ∙ written_lowest _ (subst (λ (z : ℤ). T (below z)) written.1 (subst T (or-false (below exact)) (result_comes.under.0 q))),
        λ e. result_comes.under.1 (rw e tt),
      )

-- Q-6, Turn 21: the numbers of errors are 101 to 106 and 109, and no others.
pub error_numbers : (z : ℤ) → is_error z ≡ (between (pos 101) (pos 106) z || eq_z z (pos 109))
unfolding is_error any_of eq_z
error_numbers (negsuc n) = refl
error_numbers (pos n) =
    if_same n 101 (λ e. rw e refl)
    (λ a. if_same n 102 (λ e. rw e refl)
    (λ b. if_same n 103 (λ e. rw e refl)
    (λ c. if_same n 104 (λ e. rw e refl)
    (λ d. if_same n 105 (λ e. rw e refl)
    (λ f. if_same n 106 (λ e. rw e refl)
    (λ g. rw (ne_eqb n 101 a, ne_eqb n 102 b, ne_eqb n 103 c, ne_eqb n 104 d, ne_eqb n 105 f, ne_eqb n 106 g, or-false (eqb n 109))
    (if_below n 101
    (λ h. rw (lt-leb 101 n h) refl)
    (λ h. rw (le-leb 101 n h, lt-leb n 106 (omega arith)) refl))))))))
