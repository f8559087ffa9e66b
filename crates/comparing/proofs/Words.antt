-- Q-4 2 to 4 leave nothing open: any two comparisons of the same buffers that keep them have the same entries and leave the same list.
-- Assumes nothing.
use mathlib.Core.Path.{◌≡◌, refl, sym, ap, subst, ◌∙◌}
use mathlib.Core.List.{List}
use mathlib.Core.Logic.{◌↔◌}
use Prim.Native.Nat.{ℕ, zero, suc, ◌+◌, ◌*◌, ◌/◌, ◌%◌, ◌-◌, ◌≤◌, ◌<◌}
use native.Mathlib.Omega.{arith}
use lib.ListN.{length, get_or, take, drop}
use lib.Seq.{ext_get_or, get_or-take, get_or-drop}
use Rattle.numbers.specs.Bytes.{Bytes, field}
use Rattle.numbers.proofs.Laws.{same_field_bytes}
use Rattle.numbers.proofs.Truth.{if_same, if_below}
use Rattle.comparing.specs.Requests.{Comparison, entry_number, entry_sum, Tells, CompareListed}

-- The first n numbers of a sequence rise strictly; a number is one of them; each of them is one of the first m of another sequence.
abbrev Rising : ℕ → (ℕ → ℕ) → Type 0
Rising n f = (i j : ℕ) → i < j → j < n → f i < f j

abbrev OneOf : ℕ → (ℕ → ℕ) → ℕ → Type 0
OneOf n f k = (i : ℕ) × (i < n) × (f i ≡ k)

abbrev AllIn : ℕ → (ℕ → ℕ) → ℕ → (ℕ → ℕ) → Type 0
AllIn n f m g = (i : ℕ) → i < n → OneOf m g (f i)

-- Two sequences that rise strictly and have the same numbers are the same. Where they are the same up to a place, neither has the lower number there.
not_above : (n m : ℕ) (f g : ℕ → ℕ) → Rising n f → Rising m g → AllIn n f m g → (i : ℕ) → i < n → ((j : ℕ) → j < i → f j ≡ g j) → g i ≤ f i
not_above n m f g rf rg all i h before =
    let c = all i h in
    if_below c.0 i
    (λ l. absurd (omega (arith, before c.0 l, c.2, rf c.0 i l h)))
    (λ l. if_same i c.0
    (λ e. omega (arith, ap g e, c.2))
    (λ o. omega (arith, rg i c.0 (omega arith) c.1, c.2)))

same_up_to : (n m : ℕ) (f g : ℕ → ℕ) → Rising n f → Rising m g → AllIn n f m g → AllIn m g n f → (b i : ℕ) → i < b → i < n → i < m → f i ≡ g i
same_up_to n m f g rf rg fg gf zero i h hn hm = absurd (omega arith)
same_up_to n m f g rf rg fg gf (suc b) i h hn hm =
    let before : (j : ℕ) → j < i → f j ≡ g j = λ j l. same_up_to n m f g rf rg fg gf b j (omega arith) (omega arith) (omega arith) in
    omega (arith, not_above n m f g rf rg fg i hn before, not_above m n g f rg rf gf i hm (λ j l. sym (before j l)))

same_numbers : (n m : ℕ) (f g : ℕ → ℕ) → Rising n f → Rising m g → AllIn n f m g → AllIn m g n f → (i : ℕ) → i < n → i < m → f i ≡ g i
same_numbers n m f g rf rg fg gf i = same_up_to n m f g rf rg fg gf (suc i) i (omega arith)

-- And neither is longer.
not_longer : (n m : ℕ) (f g : ℕ → ℕ) → Rising n f → Rising m g → AllIn n f m g → AllIn m g n f → m ≤ n
not_longer n m f g rf rg fg gf =
    if_below n m
    (λ l.
    let c = gf n l in
    absurd (omega (arith, same_numbers n m f g rf rg fg gf c.0 c.1 (omega (arith, c.1)), c.2, rg c.0 n c.1 l)))
    (λ l. l)

-- Two binary digits that are 1 in the same case are the same.
digit : (a b : ℕ) {P : Type 0} → a < 2 → b < 2 → (a ≡ 1) ↔ P → (b ≡ 1) ↔ P → a ≡ b
digit a b ha hb p q =
    if_same a 1
    (λ e. e ∙ sym (q.1 (p.0 e)))
    (λ o. if_same b 1 (λ e. absurd (o (p.1 (q.0 e)))) (λ u. omega (arith, o, u)))

-- Four binary digits are a number below 16.
four_digits : (s : ℕ) → s < 16 → s ≡ s % 2 + 2 * (s / 2 % 2) + 4 * (s / 4 % 2) + 8 * (s / 8 % 2)
four_digits s h =
    let a : s ≡ s % 2 + 2 * (s / 2) = omega arith in
    let b : s / 2 ≡ s / 2 % 2 + 2 * (s / 4) = omega arith in
    let c : s / 4 ≡ s / 4 % 2 + 2 * (s / 8) = omega arith in
    let d : s / 8 ≡ s / 8 % 2 = omega arith in
    omega (arith, a, b, c, d)

-- What the words say of a record's sum decides it.
sum_decided : (first second : List ℕ) (k s t : ℕ) → Tells first second k s → Tells first second k t → s ≡ t
sum_decided first second k s t a b =
    if_below (12 * k) (length second)
    (λ l. if_below (12 * k) (length first)
    (λ h.
    let d0 = digit (s % 2) (t % 2) (omega arith) (omega arith) (a.turn h l) (b.turn h l) in
    let d1 = digit (s / 2 % 2) (t / 2 % 2) (omega arith) (omega arith) (a.kind h l) (b.kind h l) in
    let d2 = digit (s / 4 % 2) (t / 4 % 2) (omega arith) (omega arith) (a.number h l) (b.number h l) in
    let d3 = digit (s / 8 % 2) (t / 8 % 2) (omega arith) (omega arith) (a.value h l) (b.value h l) in
    four_digits s (a.no_more h l) ∙ rw (d0, d1, d2, d3) (sym (four_digits t (b.no_more h l))))
    (λ h. a.second_only.1 h ∙ sym (b.second_only.1 h)))
    (λ l. a.first_only.1 l ∙ sym (b.first_only.1 l))

-- Two lists have the same byte at a place.
abbrev SameAt : List ℕ → List ℕ → ℕ → Type 0
SameAt xs ys p = get_or xs p 0 ≡ get_or ys p 0

-- A field that is the same number in two lists has the same bytes in both.
field_same : (w from : ℕ) (xs ys : List ℕ) → Bytes xs → Bytes ys → from + w ≤ length xs → from + w ≤ length ys → field w from xs ≡ field w from ys
    → (r : ℕ) → r < w → SameAt xs ys (from + r)
field_same w from xs ys bx by hx hy e r h = sym (byte xs) ∙ ap (λ (l : List ℕ). get_or l r 0) (same_field_bytes w from xs ys bx by hx hy e) ∙ byte ys where
  byte : (l : List ℕ) → get_or (take w (drop from l)) r 0 ≡ get_or l (from + r) 0
  byte l = get_or-take w (drop from l) r 0 h ∙ get_or-drop from l r 0

-- Lists with the same n entries, and the same bytes behind them, are the same.
entries_same : (n : ℕ) (xs ys : List ℕ) → Bytes xs → Bytes ys → length xs ≡ length ys → 8 * n ≤ length xs
    → ((i : ℕ) → i < n → (entry_number xs i ≡ entry_number ys i) × (entry_sum xs i ≡ entry_sum ys i)) → drop (8 * n) xs ≡ drop (8 * n) ys → xs ≡ ys
entries_same n xs ys bx by e room each rest = ext_get_or 0 xs ys e (λ p h. at p h) where
  in_entry : (i : ℕ) → i < n → (r : ℕ) → r < 8 → SameAt xs ys (8 * i + r)
  in_entry i h r l =
      if_below r 4
      (λ f. field_same 4 (8 * i) xs ys bx by (omega arith) (omega (arith, e)) (each i h).0 r f)
      (λ f.
      let q : 8 * i + 4 + (r - 4) ≡ 8 * i + r = omega arith in
      subst (SameAt xs ys) q (field_same 4 (8 * i + 4) xs ys bx by (omega arith) (omega (arith, e)) (each i h).1 (r - 4) (omega arith)))

  behind : (r : ℕ) → SameAt xs ys (8 * n + r)
  behind r = sym (get_or-drop (8 * n) xs r 0) ∙ ap (λ (l : List ℕ). get_or l r 0) rest ∙ get_or-drop (8 * n) ys r 0

  at : (p : ℕ) → p < length xs → SameAt xs ys p
  at p h =
      if_below p (8 * n)
      (λ l.
      let q : 8 * (p / 8) + p % 8 ≡ p = omega arith in
      subst (SameAt xs ys) q (in_entry (p / 8) (omega arith) (p % 8) (omega arith)))
      (λ l.
      let q : 8 * n + (p - 8 * n) ≡ p = omega arith in
      subst (SameAt xs ys) q (behind (p - 8 * n)))

-- Two comparisons that keep the words: each number that one lists the other lists.
all_listed : (first second old : List ℕ) (c d : Comparison) → CompareListed first second old c → CompareListed first second old d
    → AllIn c.answer.entries (entry_number c.list) d.answer.entries (entry_number d.list)
all_listed first second old c d p q i h = (q.exactly (entry_number c.list i)).1 ((p.exactly (entry_number c.list i)).0 (i, h, refl))

-- So they have the same entries, and the same list.
pub words_decide : (first second old : List ℕ) (c d : Comparison) → Bytes c.list → Bytes d.list
    → CompareListed first second old c → CompareListed first second old d
    → (c.answer.entries ≡ d.answer.entries) × (c.list ≡ d.list)
words_decide first second old c d bc bd p q = (
  count,
  entries_same c.answer.entries c.list d.list bc bd (p.long ∙ sym q.long) (omega (arith, p.room, p.long)) each
      (p.behind ∙ sym (subst (λ (n : ℕ). drop (8 * n) d.list ≡ drop (8 * n) old) (sym count) q.behind)),
) where
  there : AllIn c.answer.entries (entry_number c.list) d.answer.entries (entry_number d.list)
  there = all_listed first second old c d p q

  back : AllIn d.answer.entries (entry_number d.list) c.answer.entries (entry_number c.list)
  back = all_listed first second old d c q p

  count : c.answer.entries ≡ d.answer.entries
  count =
      omega (
        arith,
        not_longer c.answer.entries d.answer.entries (entry_number c.list) (entry_number d.list) p.rising q.rising there back,
        not_longer d.answer.entries c.answer.entries (entry_number d.list) (entry_number c.list) q.rising p.rising back there,
      )

  number : (i : ℕ) → i < c.answer.entries → entry_number c.list i ≡ entry_number d.list i
  number i h =
      same_numbers c.answer.entries d.answer.entries (entry_number c.list) (entry_number d.list) p.rising q.rising there back i h (omega (arith, count))

  each : (i : ℕ) → i < c.answer.entries → (entry_number c.list i ≡ entry_number d.list i) × (entry_sum c.list i ≡ entry_sum d.list i)
  each i h = (
    number i h,
    sum_decided first second (entry_number c.list i) (entry_sum c.list i) (entry_sum d.list i) (p.tells i h)
        (subst (λ (k : ℕ). Tells first second k (entry_sum d.list i)) (sym (number i h)) (q.tells i (omega (arith, count)))),
  )
