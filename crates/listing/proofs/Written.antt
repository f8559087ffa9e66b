-- What the code writes for an accepted image is its listing: labels by a cursor are the labels of each target, since their targets do not fall.
-- Assumes nothing.
use mathlib.Core.Path.{◌≡◌, refl, sym, ap, ap₂, ◌∙◌}
use mathlib.Core.Bool.{Bool, true, false, cond}
use mathlib.Core.List.{List, [], ◌∷◌, ◌++◌, flat_map, append_assoc, append-nil}
use Prim.Native.Nat.{ℕ, zero, suc, ◌+◌, ◌-◌, ◌≤◌, ◌<◌}
use native.Mathlib.Decide.{dec_lt}
use native.Mathlib.Nat.{sub-zero}
use native.Mathlib.Omega.{arith}
use borrow.Author.Tests.{lt-ltb, le-ltb}
use lib.Dec.{eqb}
use Rattle.numbers.specs.Bytes.{ascii}
use Rattle.numbers.specs.Tests.{listed}
use Rattle.numbers.proofs.Truth.{if_below}
use Rattle.program.specs.Names.{Name}
use Rattle.program.specs.Cells.{statement_of}
use Rattle.text.specs.Forms.{Line, Blank, Label, Declared, Acts}
use Rattle.image.specs.Layout.{cell_count, label_count, variable_count, cell_at, label_target}
use Rattle.image.specs.Check.{checked}
use Rattle.printing.specs.Listing.{statement_text, line, variable_line, label_line, label_lines, cell_lines, listing}
use Rattle.printing.specs.Code.{firsts_of, cell_text, label_text, label_texts, record_text, variable_texts, past_from, cell_texts, image_text}
use Rattle.listing.specs.Listed.{label_says, labels_say}
use Rattle.listing.proofs.Lists.{numbers, flat_flat, flat_same}
use Rattle.listing.proofs.Accepted.{Accepted, accepted}
use Rattle.listing.proofs.Recorded.{Recorded, recorded, name_of_label}
use Rattle.listing.proofs.Order.{start, start_most, start_rise, earlier, later, start_first, start_last, of_run}
use Rattle.listing.proofs.Texts.{cell_line_lem, label_line_lem, variable_line_lem}

-- The bytes of a label's line.
unfoldable label_bytes : Line → List ℕ
label_bytes Blank = []
label_bytes (Label w) = line (ascii "LB " ++ w)
label_bytes (Declared w z) = []
label_bytes (Acts st) = []

module _ (s : List ℕ) (a : Accepted s) (r : Recorded s) where
  -- ---- the labels of a target

  labels_said : (t : ℕ) → label_lines s t ≡ flat_map label_bytes (labels_say s t)
  unfolding label_lines label_line labels_say label_says label_bytes flat_map
  labels_said t =
      flat_same (label_line s t) (λ k. flat_map label_bytes (label_says s t k)) 0 (label_count s) (λ k l m. go (eqb (label_target s k) t) (name_of_label s k))
      ∙ sym (flat_flat label_bytes (label_says s t) (numbers 0 (label_count s)))
    where
      go : (b : Bool) (w : Name) → cond b (line (ascii "LB " ++ w)) [] ≡ flat_map label_bytes (cond b (Label w ∷ []) [])
      go true w = sym (append-nil (line (ascii "LB " ++ w)))
      go false w = refl

  labels_of : (t : ℕ) → label_texts s (start s t) (start s (suc t)) ≡ label_lines s t
  unfolding label_texts label_bytes
  labels_of t =
      let m = start_most s r (suc t) in
      flat_same (label_text s) (λ k. label_bytes (Label (name_of_label s k))) (start s t) (start s (suc t) - start s t) (λ k l h. label_line_lem s a r k (omega arith))
      ∙ sym (of_run s r label_bytes (λ st. refl) t)
      ∙ sym (labels_said t)

  -- The first label past a cell, sought from a label that is not behind it.
  past_start : (t n k : ℕ) → k + n ≡ label_count s → k ≤ start s (suc t) → past_from s t n k ≡ start s (suc t)
  unfolding past_from
  past_start t zero k e h = let m = start_most s r (suc t) in omega arith
  past_start t (suc n) k e h =
      if_below t (label_target s k)
      (λ l. rw (lt-ltb t (label_target s k) l) (here l (dec_lt k (start s (suc t)))))
      (λ l. rw (le-ltb t (label_target s k) l) (past_start t n (suc k) (omega arith) (further l (dec_lt k (start s (suc t))))))
    where
      here : t < label_target s k → Dec (k < start s (suc t)) → k ≡ start s (suc t)
      here l (yes i) = let c = earlier s r (suc t) k i in absurd (omega arith)
      here l (no i) = omega arith

      further : label_target s k ≤ t → Dec (k < start s (suc t)) → suc k ≤ start s (suc t)
      further l (yes i) = omega arith
      further l (no i) = let c = later s r (suc t) k (omega arith) (omega arith) in absurd (omega arith)

  -- ---- the cells

  cells_of : (n k : ℕ) → k + n ≡ cell_count s → cell_texts s n k (start s k) ≡ flat_map (cell_lines s) (numbers k n) ++ label_lines s (cell_count s)
  unfolding cell_texts flat_map listed cell_lines
  cells_of zero k e =
      let c : k ≡ cell_count s = omega arith in
      sym (ap (label_texts s (start s k)) (ap (λ (i : ℕ). start s (suc i)) c ∙ start_last s r)) ∙ labels_of k ∙ ap (label_lines s) c
  cells_of (suc n) k e =
      let m = start_most s r k in
      let next = past_start k (label_count s - start s k) (start s k) (omega arith) (start_rise s r k (suc k) (omega arith)) in
      let said = line (statement_text s (statement_of (cell_at s k))) in
      let more = flat_map (cell_lines s) (numbers (suc k) n) in
      ap (λ (i : ℕ). label_texts s (start s k) i ++ (cell_text s (firsts_of s) (cell_at s k) ++ cell_texts s n (suc k) i)) next
      ∙ ap₂ (λ (x y : List ℕ). x ++ y) (labels_of k) (ap₂ (λ (x y : List ℕ). x ++ y) (cell_line_lem s a r k (omega arith)) (cells_of n (suc k) (omega arith)))
      ∙ sym (ap (λ (l : List ℕ). l ++ label_lines s (cell_count s)) (append_assoc (label_lines s k) said more)
      ∙ append_assoc (label_lines s k) (said ++ more) (label_lines s (cell_count s))
      ∙ ap (λ (l : List ℕ). label_lines s k ++ l) (append_assoc said more (label_lines s (cell_count s))))

-- What is written for an accepted image is its listing.
pub written : (s : List ℕ) → checked s ≡ 0 → image_text s ≡ listing s
unfolding image_text listing variable_texts
written s e =
    let a = accepted s e in
    let r = recorded s e in
    ap₂ (λ (x y : List ℕ). x ++ y)
    (ap (λ (n : ℕ). flat_map (record_text s) (numbers 0 n)) (sub-zero (variable_count s))
    ∙ flat_same (record_text s) (variable_line s) 0 (variable_count s) (λ k l h. variable_line_lem s a r k (omega arith)))
    (ap (cell_texts s (cell_count s) 0) (sym (start_first s r)) ∙ cells_of s a r (cell_count s) 0 (omega arith))
