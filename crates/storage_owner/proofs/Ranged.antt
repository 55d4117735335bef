-- Ranges in a row share no cell.
use Rattle.std.proofs.Common.{◌≡◌, refl, sym, ap, ◌∙◌, subst, ℕ, zero, suc, ◌+◌, ◌*◌, ◌<◌, ◌≤◌, List, [], ◌∷◌, ◌++◌, length, replicate, drop, get_or, append_assoc, arith}
use Rattle.std.specs.List.{sum, sum_by}
use Rattle.std.proofs.lemmas.List.{get_or_default}
use Rattle.std.proofs.lemmas.List.Sums.{sum_by-append}
use Rattle.std.proofs.lemmas.List.Folds.{sum_by-replicate}
use Rattle.phase_ops.specs.declared.phase.Range.{Range}
use Rattle.phase_ops.specs.declared.phase.Layout.{Layout}
use Rattle.rule_tests.proofs.Appended.{front}
use Rattle.storage_owner.specs.declared.needs.Needs.{Needs}
use Rattle.storage_owner.specs.Ranges.{no_cells, range_at, HasCell, in_a_row, ranges_of, cells_of, IsApart}
use Rattle.storage_owner.specs.Layouts.{most_cells, mark_cells, rows}

-- ---- sums

sum_cons : (n : ℕ) (ns : List ℕ) → sum (n ∷ ns) ≡ n + sum ns
sum_cons n ns = sum_by-append (λ x. x) (n ∷ []) ns ∙ (let e : (0 + n) + sum ns ≡ n + sum ns = omega arith in e)

-- ---- the cells of a row

pub row_from : (f : ℕ) (ns : List ℕ) (i c : ℕ) → HasCell (range_at (in_a_row f ns) i) c → f ≤ c
row_from f [] i c h = let a = h.1 in absurd (omega (arith, a))
row_from f (n ∷ ns) zero c h = h.0
row_from f (n ∷ ns) (suc i) c h = let r = row_from (f + n) ns i c h in omega (arith, r)

pub row_within : (f : ℕ) (ns : List ℕ) (i c : ℕ) → HasCell (range_at (in_a_row f ns) i) c → c < f + sum ns
row_within f [] i c h = let a = h.1 in absurd (omega (arith, a))
row_within f (n ∷ ns) zero c h = let a = h.1 in let e = sum_cons n ns in omega (arith, a, e)
row_within f (n ∷ ns) (suc i) c h = let r = row_within (f + n) ns i c h in let e = sum_cons n ns in omega (arith, r, e)

pub row_own : (f : ℕ) (ns : List ℕ) (i j c : ℕ) → HasCell (range_at (in_a_row f ns) i) c → HasCell (range_at (in_a_row f ns) j) c → i ≡ j
row_own f [] i j c h g = let a = h.1 in absurd (omega (arith, a))
row_own f (n ∷ ns) zero zero c h g = refl
row_own f (n ∷ ns) zero (suc j) c h g = let a = h.1 in let r = row_from (f + n) ns j c g in absurd (omega (arith, a, r))
row_own f (n ∷ ns) (suc i) zero c h g = let a = g.1 in let r = row_from (f + n) ns i c h in absurd (omega (arith, a, r))
row_own f (n ∷ ns) (suc i) (suc j) c h g = ap suc (row_own (f + n) ns i j c h g)

-- ---- two rows are one

pub sum_append : (xs ys : List ℕ) → sum (xs ++ ys) ≡ sum xs + sum ys
sum_append xs ys = sum_by-append (λ x. x) xs ys

pub row_append : (f : ℕ) (xs ys : List ℕ) → in_a_row f (xs ++ ys) ≡ in_a_row f xs ++ in_a_row (f + sum xs) ys
row_append f [] ys = let e : f ≡ f + 0 = omega arith in ap (λ k. in_a_row k ys) e
row_append f (x ∷ xs) ys =
    let c = sum_cons x xs in
    let e : (f + x) + sum xs ≡ f + sum (x ∷ xs) = omega (arith, c) in
    ap (λ l. record { first = f; cells = x } ∷ l) (row_append (f + x) xs ys ∙ ap (λ k. in_a_row (f + x) xs ++ in_a_row k ys) e)

pub row_cells : (f : ℕ) (ns : List ℕ) → sum_by (λ (r : Range). r.cells) (in_a_row f ns) ≡ sum ns
row_cells f [] = refl
row_cells f (n ∷ ns) =
    sum_by-append (λ (r : Range). r.cells) (record { first = f; cells = n } ∷ []) (in_a_row (f + n) ns) ∙ ap (λ k. (0 + n) + k) (row_cells (f + n) ns) ∙ sym (sum_cons n ns ∙ (let e : n + sum ns ≡ (0 + n) + sum ns = omega arith in e))

pub sum_replicate : (n x : ℕ) → sum (replicate n x) ≡ n * x
sum_replicate n x = sum_by-replicate (λ y. y) n x

-- ---- a layout

module _ (vs bs : List ℕ) (needs : Needs) where
  abbrev l : Layout
  l = rows vs bs needs

  abbrev temps : List ℕ
  temps = replicate needs.temps most_cells

  abbrev sizes : List ℕ
  sizes = vs ++ (bs ++ (needs.slots ∷ (temps ++ mark_cells needs.marks ∷ [])))

  pub all_in_a_row : ranges_of l ≡ in_a_row 0 sizes
  all_in_a_row =
      let s = sum_replicate needs.temps most_cells in
      let marks : (sum vs + sum bs + needs.slots) + sum temps ≡ sum vs + sum bs + needs.slots + needs.temps * most_cells = omega (arith, s) in
      let e : 0 + sum vs ≡ sum vs = omega arith in
      sym (row_append 0 vs (bs ++ (needs.slots ∷ (temps ++ mark_cells needs.marks ∷ [])))
      ∙ ap (λ k. in_a_row 0 vs ++ in_a_row k (bs ++ (needs.slots ∷ (temps ++ mark_cells needs.marks ∷ [])))) e
      ∙ ap (λ r. in_a_row 0 vs ++ r) (row_append (sum vs) bs (needs.slots ∷ (temps ++ mark_cells needs.marks ∷ [])))
      ∙ ap (λ r. in_a_row 0 vs ++ (in_a_row (sum vs) bs ++ (l.slots ∷ r))) (row_append (sum vs + sum bs + needs.slots) temps (mark_cells needs.marks ∷ [])
      ∙ ap (λ k. in_a_row (sum vs + sum bs + needs.slots) temps ++ in_a_row k (mark_cells needs.marks ∷ [])) marks))

  pub all_cells : cells_of l ≡ sum sizes
  all_cells = ap (λ rs. sum_by (λ (r : Range). r.cells) rs) all_in_a_row ∙ row_cells 0 sizes

  pub last_cell : sum sizes ≡ l.marks.first + l.marks.cells
  last_cell =
      let a = sum_append vs (bs ++ (needs.slots ∷ (temps ++ mark_cells needs.marks ∷ []))) in
      let b = sum_append bs (needs.slots ∷ (temps ++ mark_cells needs.marks ∷ [])) in
      let c = sum_append temps (mark_cells needs.marks ∷ []) in
      let d = sum_cons needs.slots (temps ++ mark_cells needs.marks ∷ []) in
      let s = sum_replicate needs.temps most_cells in
      omega (arith, a, b, c, d, s)

  pub IsApart-rows : l.marks.first + l.marks.cells < 4294967296 → IsApart l
  IsApart-rows few = record {
    own = λ i j c h g. row_own 0 sizes i j c (subst (λ rs. HasCell (range_at rs i) c) all_in_a_row h) (subst (λ rs. HasCell (range_at rs j) c) all_in_a_row g);
    there = λ i c h. let w = row_within 0 sizes i c (subst (λ rs. HasCell (range_at rs i) c) all_in_a_row h) in let e = all_cells in omega (arith, w, e);
    few = let e = all_cells in let d = last_cell in omega (arith, e, d, few);
  }

pub rows_apart : (l : Layout) (vs bs : List ℕ) (needs : Needs) → l ≡ rows vs bs needs → l.marks.first + l.marks.cells < 4294967296 → IsApart l
rows_apart l vs bs needs e few = subst IsApart (sym e) (IsApart-rows vs bs needs (subst (λ (k : Layout). k.marks.first + k.marks.cells < 4294967296) e few))

-- ---- a loop that adds a range for each size

abbrev size_at : List ℕ → ℕ → ℕ
size_at sizes i = get_or sizes i 0

is_front : (sizes : List ℕ) (i : ℕ) → i < length sizes → drop i sizes ≡ size_at sizes i ∷ drop (i + 1) sizes
is_front sizes i within = front sizes i (size_at sizes i) within (get_or_default sizes i 0 (size_at sizes i) within)

pub next_range : (sizes : List ℕ) (i next after : ℕ) (old now : List Range) → i < length sizes → now ≡ old ++ record { first = next; cells = size_at sizes i } ∷ [] → after ≡ next + size_at sizes i
    → old ++ in_a_row next (drop i sizes) ≡ now ++ in_a_row after (drop (i + 1) sizes)
next_range sizes i next after old now within more then_at =
    let cells = size_at sizes i in
    ap (λ ns. old ++ in_a_row next ns) (is_front sizes i within)
    ∙ sym (append_assoc old (record { first = next; cells = cells } ∷ []) (in_a_row (next + cells) (drop (i + 1) sizes)))
    ∙ ap (λ rs. rs ++ in_a_row (next + cells) (drop (i + 1) sizes)) (sym more)
    ∙ ap (λ k. now ++ in_a_row k (drop (i + 1) sizes)) (sym then_at)

pub next_cell : (sizes : List ℕ) (i next after : ℕ) → i < length sizes → after ≡ next + size_at sizes i → next + sum (drop i sizes) ≡ after + sum (drop (i + 1) sizes)
next_cell sizes i next after within then_at =
    ap (λ ns. next + sum ns) (is_front sizes i within) ∙ (let c = sum_cons (size_at sizes i) (drop (i + 1) sizes) in omega (arith, c, then_at))
