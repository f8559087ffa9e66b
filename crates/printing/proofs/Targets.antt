-- The labels of an image as the code goes over them: the first of each target, and whether a label or a cell comes next.
-- Assumes nothing.
use mathlib.Core.Path.{◌≡◌, refl, sym, ap, ◌∙◌}
use mathlib.Core.Bool.{true, false, ◌||◌, true≢false}
use mathlib.Core.List.{List, [], ◌++◌, append_assoc}
use Prim.Native.Nat.{ℕ, zero, suc, ◌+◌, ◌*◌, ◌-◌, ◌≤◌, ◌<◌}
use native.Mathlib.Omega.{arith}
use borrow.Author.Tests.{ltb-false, lt-ltb, le-ltb, lt-leb, le-leb}
use lib.Dec.{ltb}
use lib.ListN.{length, set, length-set, replicate, length-replicate}
use lib.Seq.{set_out}
use Rattle.numbers.specs.Bytes.{field}
use Rattle.numbers.proofs.Truth.{neither, if_below, of_both}
use Rattle.image.specs.Layout.{cell_count, label_count, cell_at, label_place, label_target}
use Rattle.image.specs.Code.{label_place_of, target_of}
use Rattle.printing.specs.Code.{cell_text, opening_text, operands_text, label_text, label_texts, label_next, firsts_from, firsts_of, past_from, cell_texts}
use Rattle.printing.proofs.Pages.{pieces_left, pieces_over}

-- Places by the count of cells.
place_known : (s : List ℕ) (k : ℕ) {cells place : ℕ} → cells ≡ cell_count s → place ≡ label_place_of cells k → place ≡ label_place s k
unfolding label_place
place_known s k {cells} e p = p ∙ ap (λ (n : ℕ). 16 * n + 4 * k) e

pub target_known : (s : List ℕ) (k : ℕ) {cells target : ℕ} → cells ≡ cell_count s → target ≡ target_of cells s k → target ≡ label_target s k
unfolding target_of label_target label_place
target_known s k {cells} e p = p ∙ ap (λ (n : ℕ). field 2 (16 * n + 4 * k + 2) s) e

pub name_known : (s : List ℕ) (k : ℕ) {cells place name : ℕ} → cells ≡ cell_count s → place ≡ label_place_of cells k → name ≡ field 2 place s → name ≡ field 2 (label_place s k) s
name_known s k e p n = n ∙ ap (λ (i : ℕ). field 2 i s) (place_known s k e p)

-- ---- the first label of each target

pub record Entering (s firsts : List ℕ) (k : ℕ) : Type 0 where
  pub size : length firsts ≡ 257
  pub whole : firsts_from s k firsts ≡ firsts_of s

pub entering : {s : List ℕ} {k : ℕ} → k ≡ label_count s → Entering s (replicate 257 0) k
unfolding firsts_of
entering {s} {k} e = record { size = length-replicate {A = ℕ} 257 0; whole = ap (λ (n : ℕ). firsts_from s n (replicate 257 0)) e }

module _ {s firsts : List ℕ} {k target : ℕ} where
  entered : Entering s firsts k → 0 < k → target ≡ label_target s (k - 1) → {name : ℕ} → name ≡ field 2 (label_place s (k - 1)) s → firsts_from s (k - 1) (set firsts target name) ≡ firsts_of s
  unfolding firsts_from
  entered n h t {name} m =
      let e : k ≡ suc (k - 1) = omega arith in
      ap (λ (i : ℕ). firsts_from s (k - 1) (set firsts i name)) t
      ∙ ap (λ (i : ℕ). firsts_from s (k - 1) (set firsts (label_target s (k - 1)) i)) m
      ∙ sym (ap (λ (i : ℕ). firsts_from s i firsts) e)
      ∙ n.whole

  pub entering_more : Entering s firsts k → 0 < k → target ≡ label_target s (k - 1) → {name : ℕ} → name ≡ field 2 (label_place s (k - 1)) s → Entering s (set firsts target name) (k - 1)
  entering_more n h t {name} m = record { size = length-set firsts target name ∙ n.size; whole = entered n h t m }

  pub entering_past : Entering s firsts k → 0 < k → target ≡ label_target s (k - 1) → 257 ≤ target → Entering s firsts (k - 1)
  entering_past n h t l = record {
    size = n.size;
    whole = ap (firsts_from s (k - 1)) (sym (set_out firsts target (field 2 (label_place s (k - 1)) s) (omega (arith, n.size)))) ∙ entered n h t refl;
  }

pub entered_all : {s firsts : List ℕ} {k : ℕ} → Entering s firsts k → k ≤ 0 → firsts ≡ firsts_of s
unfolding firsts_from
entered_all {s} {firsts} {k} n h = let e : k ≡ 0 = omega arith in sym (ap (λ (i : ℕ). firsts_from s i firsts) e) ∙ n.whole

-- ---- what comes next: a label or a cell

module _ (s : List ℕ) (label cell : ℕ) where
  -- A label that comes next is there, and leads to this cell or to one before it, or stands behind the last cell.
  pub next_there : label_next s label cell ≡ true → label < label_count s
  unfolding label_next
  next_there e = if_below label (label_count s) (λ h. h) (λ h. absurd (true≢false (sym e ∙ rw (le-ltb label (label_count s) h) refl)))

  next_here : label_next s label cell ≡ true → cell < cell_count s → label_target s label ≤ cell
  unfolding label_next
  next_here e c =
      if_below cell (label_target s label)
      (λ h. absurd (true≢false (sym e ∙ rw (lt-ltb label (label_count s) (next_there e), lt-leb (cell_count s) cell c, lt-leb (label_target s label) cell h) refl)))
      (λ h. h)

  -- Where no label comes next, and there is a cell or a label, there is a cell.
  pub cell_there : label_next s label cell ≡ false → (ltb cell (cell_count s) || ltb label (label_count s)) ≡ true → cell < cell_count s
  unfolding label_next
  cell_there e t =
      if_below cell (cell_count s) (λ l. l)
      (λ l. if_below label (label_count s)
      (λ g. absurd (true≢false (sym (rw (lt-ltb label (label_count s) g, le-leb (cell_count s) cell l) refl) ∙ e)))
      (λ g. absurd (true≢false (sym t ∙ rw (le-ltb cell (cell_count s) l, le-ltb label (label_count s) g) refl))))

  past_none : label_next s label cell ≡ false → cell < cell_count s → past_from s cell (label_count s - label) label ≡ label
  unfolding label_next past_from
  past_none e c =
      if_below label (label_count s)
      (λ h. let n : label_count s - label ≡ suc (label_count s - suc label) = omega arith in
      if_below cell (label_target s label)
      (λ g. rw (n, lt-ltb cell (label_target s label) g) refl)
      (λ g. absurd (true≢false (sym (rw (lt-ltb label (label_count s) h, lt-leb (cell_count s) cell c, le-leb (label_target s label) cell g) refl) ∙ e))))
      (λ h. let n : label_count s - label ≡ 0 = omega arith in rw n refl)

  past_one : label_next s label cell ≡ true → cell < cell_count s
      → past_from s cell (label_count s - label) label ≡ past_from s cell (label_count s - suc label) (suc label)
  unfolding past_from
  past_one e c =
      let h = next_there e in
      let n : label_count s - label ≡ suc (label_count s - suc label) = omega arith in
      rw (n, le-ltb cell (label_target s label) (next_here e c)) refl

past_from_lem : (s : List ℕ) (cell n k : ℕ) → k ≤ past_from s cell n k
unfolding past_from
past_from_lem s cell zero k = omega arith
past_from_lem s cell (suc n) k = let h = past_from_lem s cell n (suc k) in of_both (λ (i : ℕ). k ≤ i) (ltb cell (label_target s k)) (omega arith) (omega arith)

labels_none : (s : List ℕ) (label : ℕ) → label_texts s label label ≡ []
unfolding label_texts
labels_none s label = pieces_over (label_text s) label label (omega arith)

module _ (s : List ℕ) (label cell : ℕ) where
  -- The line of a label comes first; that of a cell; nothing is left.
  pub label_first : label_next s label cell ≡ true
      → cell_texts s (cell_count s - cell) cell label ≡ label_text s label ++ cell_texts s (cell_count s - cell) cell (label + 1)
  unfolding cell_texts label_texts
  label_first e =
      let one : label + 1 ≡ suc label = omega arith in
      let l = next_there s label cell e in
      if_below cell (cell_count s)
      (λ c. let n : cell_count s - cell ≡ suc (cell_count s - suc cell) = omega arith in
      let next = past_from s cell (label_count s - suc label) (suc label) in
      let h = past_from_lem s cell (label_count s - suc label) (suc label) in
      let rest = cell_text s (firsts_of s) (cell_at s cell) ++ cell_texts s (cell_count s - suc cell) (suc cell) next in
      let first : label_texts s label next ≡ label_text s label ++ label_texts s (label + 1) next = pieces_left (label_text s) label next (omega arith) in
      rw (n, one, past_one s label cell e c)
      (ap (λ (xs : List ℕ). xs ++ rest) (rw one at first) ∙ append_assoc (label_text s label) (label_texts s (suc label) next) rest))
      (λ c. let n : cell_count s - cell ≡ 0 = omega arith in rw n (pieces_left (label_text s) label (label_count s) l))

  pub cell_first : label_next s label cell ≡ false → cell < cell_count s
      → cell_texts s (cell_count s - cell) cell label ≡ opening_text s (firsts_of s) (cell_at s cell) ++ (operands_text s (cell_at s cell) ++ cell_texts s (cell_count s - (cell + 1)) (cell + 1) label)
  unfolding cell_texts cell_text
  cell_first e c =
      let one : cell + 1 ≡ suc cell = omega arith in
      let n : cell_count s - cell ≡ suc (cell_count s - suc cell) = omega arith in
      let rest = cell_texts s (cell_count s - suc cell) (suc cell) label in
      let o = opening_text s (firsts_of s) (cell_at s cell) in
      let p = operands_text s (cell_at s cell) in
      rw (n, one, past_none s label cell e c)
      (ap (λ (xs : List ℕ). xs ++ ((o ++ p) ++ rest)) (labels_none s label) ∙ append_assoc o p rest)

pub none_left : (s : List ℕ) (label cell : ℕ) → (ltb cell (cell_count s) || ltb label (label_count s)) ≡ false → cell_texts s (cell_count s - cell) cell label ≡ []
unfolding cell_texts label_texts
none_left s label cell t =
    let both = neither (ltb cell (cell_count s)) (ltb label (label_count s)) t in
    let c = ltb-false cell (cell_count s) both.0 in
    let n : cell_count s - cell ≡ 0 = omega arith in
    rw n (pieces_over (label_text s) label (label_count s) (ltb-false label (label_count s) both.1))
