-- Demands 1 and 2 leave nothing open: any calls that meet them give what the bench's own calls give, on every input, answer and buffer.
-- Assumes nothing.
use mathlib.Core.Path.{◌≡◌, refl, sym, ap, ap₂, ◌∙◌}
use mathlib.Core.Bool.{Bool, true, false}
use mathlib.Core.List.{List}
use mathlib.Core.Logic.{◌⊎◌, inl, inr}
use Prim.Native.Nat.{ℕ, zero, suc, ◌+◌, ◌*◌, ◌-◌, ◌≤◌, ◌<◌}
use native.Mathlib.Omega.{arith}
use borrow.Author.Tests.{ltb-true, ltb-false, eqb-true, eqb-false}
use lib.Dec.{eqb, ltb}
use lib.ListN.{length}
use Rattle.numbers.specs.Tests.{lowest, NoRow}
use Rattle.text.specs.Faults.{overlong, first_fault}
use Rattle.image.specs.Check.{image_faults, checked}
use Rattle.numbers.proofs.Lowest.{lowest_range, lowest_exactly, lowest_zero}
use Rattle.refusals.proofs.First.{first_none, Given, first_given}
use Rattle.translation.specs.Images.{image}
use Rattle.bench.specs.Translating.{answered}
use Rattle.bench.specs.Answers.{refused_as}
use Rattle.bench.specs.Running.{checked_as, big_budget, small_room, run_faults}
use Rattle.bench.specs.Demands.{Translation, Translate, Check, Outcome, Run, TextRefused, RunRefused, Demand1, Demand2, our_translate, our_check, our_run}
use Rattle.bench.proofs.Demands.{sound_accepted, ours_fits, text_refused, image_refused, image_numbers, run_refused, run_accepted}

module _ (translate : Translate) (check : Check) (run : Run) (one : Demand1 translate check run) (two : Demand2 translate check run) where
  -- Checking.
  check_number : (s : List ℕ) → (check s).number ≡ (our_check s).number
  unfolding checked_as checked
  check_number s = go (eqb (lowest 21 (image_faults s)) 0) refl where
    go : (b : Bool) → eqb (lowest 21 (image_faults s)) 0 ≡ b → (check s).number ≡ lowest 21 (image_faults s)
    go true e =
        let z = eqb-true (lowest 21 (image_faults s)) 0 e in
        (one.checking s).none.1 ((image_refused s).none.0 z) ∙ sym z
    go false e =
        let n = lowest 21 (image_faults s) in
        let r = image_numbers s (eqb-false n 0 e) in
        let low = r.0 in
        let z : lowest 21 (image_faults s) ≡ 21 + (lowest 21 (image_faults s) - 21) = omega arith in
        ((one.checking s).refused (n - 21)).1 (((image_refused s).refused (n - 21)).0 z) ∙ sym z

  pub check_decided : (s : List ℕ) → check s ≡ our_check s
  check_decided s = ap (λ (n : ℕ). record { number = n }) (check_number s)

  -- Translating.
  module _ (text buffer : List ℕ) where
    settled : (t : Translation) → TextRefused text buffer t → (n l : ℕ) → (n ≡ 0 → ⊥) → t.answer.number ≡ n → t.answer.line ≡ l
        → t ≡ record { answer = answered n l 0; image = buffer }
    settled t r n l h e f =
        let k = r.length_refused (λ z. h (sym e ∙ z)) in
        let i = r.buffer_refused (λ z. h (sym e ∙ z)) in
        let a : t.answer ≡ answered n l 0 = rw (← e, ← f, ← k) refl in
        ap₂ (λ a (b : List ℕ). record { answer = a; image = b }) a i

    abbrev theirs : TextRefused text buffer (translate text buffer)
    theirs = one.translating text buffer

    abbrev ours : TextRefused text buffer (our_translate text buffer)
    ours = text_refused text buffer

    both_settled : (n l : ℕ) → (n ≡ 0 → ⊥) → (translate text buffer).answer.number ≡ n → (translate text buffer).answer.line ≡ l
        → (our_translate text buffer).answer.number ≡ n → (our_translate text buffer).answer.line ≡ l → translate text buffer ≡ our_translate text buffer
    both_settled n l h a b c d = settled (translate text buffer) theirs n l h a b ∙ sym (settled (our_translate text buffer) ours n l h c d)

    by_room : (b : Bool) → ltb (length buffer) (length (image text)) ≡ b → overlong text ≡ false → (first_fault text).number ≡ 0
        → translate text buffer ≡ our_translate text buffer
    by_room true e short clean =
        let few = ltb-true (length buffer) (length (image text)) e in
        let a = theirs.number_10.1 (short, (first_none text).0 clean, few) in
        let b = ours.number_10.1 (short, (first_none text).0 clean, few) in
        both_settled 10 0 (λ z. absurd (omega arith)) a (theirs.line_10 a) b (ours.line_10 b)
    by_room false e short clean =
        let ok = sound_accepted text short clean in
        let room = ltb-false (length buffer) (length (image text)) e in
        two.laid_out text buffer ok room ∙ sym (ours_fits text buffer ok room)

    by_fault : ((first_fault text).number ≡ 0) ⊎ Given text (first_fault text) → overlong text ≡ false → translate text buffer ≡ our_translate text buffer
    by_fault (inl e) short = by_room (ltb (length buffer) (length (image text))) refl short e
    by_fault (inr g) short =
        let l = (first_fault text).line in
        let a = (theirs.faulty g.row l g.possible.0).1 (short, g.first) in
        let b = (ours.faulty g.row l g.possible.0).1 (short, g.first) in
        both_settled (2 + g.row) l (λ z. absurd (omega arith)) a.0 a.1 b.0 b.1

    by_size : (b : Bool) → overlong text ≡ b → translate text buffer ≡ our_translate text buffer
    by_size true e =
        let a = theirs.number_1.1 e in
        let b = ours.number_1.1 e in
        both_settled 1 0 (λ z. absurd (omega arith)) a (theirs.line_1 a) b (ours.line_1 b)
    by_size false e = by_fault (first_given text) e

    pub translate_decided : translate text buffer ≡ our_translate text buffer
    translate_decided = by_size (overlong text) refl

  -- Running.
  module _ (s script : List ℕ) (budget : ℕ) (buffer : List ℕ) where
    abbrev rows : List Bool
    rows = run_faults script budget (length buffer)

    abbrev their_run : RunRefused s script budget buffer (run s script budget buffer)
    their_run = one.running s script budget buffer

    abbrev our_run_lem : RunRefused s script budget buffer (our_run s script budget buffer)
    our_run_lem = run_refused s script budget buffer

    halted : (o : Outcome) → RunRefused s script budget buffer o → (n i : ℕ) → (n ≡ 0 → ⊥) → o.answer.number ≡ n → o.answer.index ≡ i
        → o ≡ record { answer = refused_as n i; records = buffer }
    halted o r n i h e f =
        ap₂ (λ a (b : List ℕ). record { answer = a; records = b })
        (r.rest_refused (λ z. h (sym e ∙ z)) ∙ ap₂ refused_as e f)
        (r.buffer_refused (λ z. h (sym e ∙ z)))

    -- Two numbers that are the same have the same index.
    same_index : (n : ℕ) → (run s script budget buffer).answer.number ≡ n → (our_run s script budget buffer).answer.number ≡ n
        → (run s script budget buffer).answer.index ≡ (our_run s script budget buffer).answer.index
    same_index n a b = go (eqb n 33) refl where
      go : (t : Bool) → eqb n 33 ≡ t → (run s script budget buffer).answer.index ≡ (our_run s script budget buffer).answer.index
      go true e =
          let z = eqb-true n 33 e in
          (their_run.event (a ∙ z) (our_run s script budget buffer).answer.index).1 ((our_run_lem.event (b ∙ z) (our_run s script budget buffer).answer.index).0 refl)
      go false e =
          let h = eqb-false n 33 e in
          their_run.no_event (λ z. h (sym a ∙ z)) ∙ sym (our_run_lem.no_event (λ z. h (sym b ∙ z)))

    both_halted : (n : ℕ) → (n ≡ 0 → ⊥) → (run s script budget buffer).answer.number ≡ n → (our_run s script budget buffer).answer.number ≡ n
        → run s script budget buffer ≡ our_run s script budget buffer
    both_halted n h a b =
        halted (run s script budget buffer) their_run n (our_run s script budget buffer).answer.index h a (same_index n a b)
        ∙ sym (halted (our_run s script budget buffer) our_run_lem n (our_run s script budget buffer).answer.index h b refl)

    goes : NoRow (image_faults s) → NoRow rows → run s script budget buffer ≡ our_run s script budget buffer
    unfolding checked run_faults big_budget small_room
    goes f g =
        let low = ltb-false 4096 budget (g 2) in
        let room = ltb-false (length buffer) (12 * budget) (g 3) in
        two.turn_by_turn s script budget buffer ((one.checking s).none.1 f) (g 0) (g 1) low room
        ∙ sym (run_accepted s script budget buffer ((lowest_zero 20 (image_faults s)).1 f) (g 0) (g 1) low room)

    by_rows : (n : ℕ) → lowest 32 rows ≡ n → NoRow (image_faults s) → run s script budget buffer ≡ our_run s script budget buffer
    by_rows zero e f = goes f ((lowest_zero 31 rows).0 e)
    by_rows (suc m) e f = go (lowest_range 31 rows) where
      go : (lowest 32 rows ≡ 0) ⊎ ((32 ≤ lowest 32 rows) × (lowest 32 rows ≤ 31 + length rows)) → run s script budget buffer ≡ our_run s script budget buffer
      go (inl z) = absurd (omega arith)
      go (inr r) =
          let low = r.0 in
          let z : lowest 32 rows ≡ 32 + (lowest 32 rows - 32) = omega arith in
          let c = (lowest_exactly 31 rows (lowest 32 rows - 32)).0 z in
          both_halted (32 + (lowest 32 rows - 32)) (λ q. absurd (omega arith))
          ((their_run.run_refused (lowest 32 rows - 32)).1 (f, c)) ((our_run_lem.run_refused (lowest 32 rows - 32)).1 (f, c))

    by_image : (b : Bool) → eqb (checked s) 0 ≡ b → run s script budget buffer ≡ our_run s script budget buffer
    unfolding checked
    by_image true e = by_rows (lowest 32 rows) refl ((lowest_zero 20 (image_faults s)).0 (eqb-true (lowest 21 (image_faults s)) 0 e))
    by_image false e =
        let r = image_numbers s (eqb-false (lowest 21 (image_faults s)) 0 e) in
        let low = r.0 in
        let high = r.1 in
        let z : lowest 21 (image_faults s) ≡ 21 + (lowest 21 (image_faults s) - 21) = omega arith in
        let c = (lowest_exactly 20 (image_faults s) (lowest 21 (image_faults s) - 21)).0 z in
        let small : lowest 21 (image_faults s) - 21 < 5 = omega arith in
        both_halted (21 + (lowest 21 (image_faults s) - 21)) (λ q. absurd (omega arith))
        ((their_run.image_refused (lowest 21 (image_faults s) - 21) small).1 c) ((our_run_lem.image_refused (lowest 21 (image_faults s) - 21) small).1 c)

    pub run_decided : run s script budget buffer ≡ our_run s script budget buffer
    run_decided = by_image (eqb (checked s) 0) refl
