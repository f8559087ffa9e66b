-- The code's table of first labels has for each target the key of the label that the listing names.
-- Assumes nothing.
use mathlib.Core.Path.{◌≡◌, refl, sym, ap, ◌∙◌}
use mathlib.Core.Bool.{Bool, cond}
use mathlib.Core.List.{List}
use Prim.Native.Nat.{ℕ, zero, suc, ◌<◌}
use native.Mathlib.Omega.{arith}
use borrow.Author.Tests.{lt-ltb, le-ltb, eq-eqb, ne_eqb}
use lib.Dec.{eqb, ltb}
use lib.ListN.{length, get_or, set, length-set, replicate, length-replicate}
use lib.Seq.{get_or-set_same, get_or-set_other}
use Rattle.numbers.specs.Bytes.{field}
use Rattle.numbers.specs.Tests.{first_below}
use Rattle.numbers.proofs.Tests.{first_most, first_found}
use Rattle.numbers.proofs.Truth.{if_below, if_same}
use Rattle.program.specs.Code.{key}
use Rattle.image.specs.Layout.{label_count, label_place, label_target, name_at}
use Rattle.printing.specs.Listing.{label_name}
use Rattle.printing.specs.Code.{firsts_from, firsts_of}
use Rattle.listing.proofs.Resolved.{Aimed}

module _ (s : List ℕ) (target : ℕ) where
  abbrev leads : ℕ → Bool
  leads k = eqb (label_target s k) target

  abbrev key_of : ℕ → ℕ
  key_of k = field 2 (label_place s k) s

  -- What stands at the target once the first k labels are entered, the last of them first.
  entered : (k : ℕ) (keys : List ℕ) → target < length keys
      → get_or (firsts_from s k keys) target 0 ≡ cond (ltb (first_below k leads) k) (key_of (first_below k leads)) (get_or keys target 0)
  unfolding firsts_from first_below
  entered zero keys h = refl
  entered (suc k) keys h =
      let r = first_below k leads in
      let m = first_most leads k in
      let more = set keys (label_target s k) (key_of k) in
      let size = length-set keys (label_target s k) (key_of k) in
      entered k more (omega arith)
      ∙ if_below r k
      (λ l. rw (lt-ltb r k l, lt-ltb r (suc k) (omega arith)) refl)
      (λ l. let e : r ≡ k = omega arith in
      if_same (label_target s k) target
      (λ t. rw (le-ltb r k l, eq-eqb (label_target s k) target t, lt-ltb r (suc k) (omega arith))
      (ap (λ (i : ℕ). get_or (set keys i (key_of k)) target 0) t ∙ get_or-set_same keys target (key_of k) 0 h ∙ ap key_of (sym e)))
      (λ t. rw (le-ltb r k l, ne_eqb (label_target s k) target t, le-ltb (suc k) (suc k) (omega arith))
      (get_or-set_other keys (label_target s k) target (key_of k) 0 (λ q. t (sym q)))))

  -- The key of the first label of a target that has one.
  pub first_key : target < 257 → Aimed s target → get_or (firsts_of s) target 0 ≡ key (label_name s target)
  unfolding firsts_of label_name key name_at field
  first_key h t =
      let n = length-replicate {A = ℕ} 257 0 in
      entered (label_count s) (replicate 257 0) (omega arith)
      ∙ rw (lt-ltb (first_below (label_count s) leads) (label_count s) (first_found leads (label_count s) t)) refl
