-- A layout has room for the variables for which it was made, and what else it has is none of theirs.
use Rattle.std.proofs.Common.{◌≡◌, ◌↔◌, ◌⊎◌, inl, inr, refl, sym, ap, ◌∙◌, subst, ℕ, zero, suc, ◌+◌, ◌*◌, ◌<◌, ◌≤◌, Bool, true, false, List, [], ◌∷◌, ◌++◌, map, length, get_or, replicate, Option, Some, None, arith}
use Rattle.std.specs.List.{sum}
use Rattle.phase_ops.specs.declared.phase.Range.{Range}
use Rattle.phase_ops.specs.declared.phase.Layout.{Layout}
use Rattle.phase_ops.specs.Free.{In}
use Rattle.hlfir_ops.specs.declared.kinds.Elem.TheVariants.{I32}
use Rattle.hlfir_ops.specs.declared.kinds.ValueKind.{ValueKind}
use Rattle.hlfir_ops.specs.declared.kinds.ValueKind.TheVariants.{Scalar}
use Rattle.storage_owner.specs.declared.needs.Needs.{Needs}
use Rattle.storage_owner.specs.Ranges.{no_cells, range_at, HasCell, in_a_row, ranges_of, cells_of, IsApart}
use Rattle.storage_owner.specs.Layouts.{most_cells, mark_cells, var_cells, box_cells, if_matters, only, cells_by, var_sizes, box_sizes, rows, layout_of}
use Rattle.storage_owner.specs.Standing.{kind_of, numbers_from, Owner, of_var, of_box, number_of, owned, HasRoom, IsUnowned}
use Rattle.storage_owner.specs.Laws.{unowned_ranges}
use Rattle.storage_owner.proofs.Ranged.{row_from, row_within, row_own, sum_append, all_cells}

-- ---- how many cells each has

row_size : (f : ℕ) (ns : List ℕ) (n : ℕ) → (range_at (in_a_row f ns) n).cells ≡ get_or ns n 0
row_size f [] n = refl
row_size f (s ∷ ns) zero = refl
row_size f (s ∷ ns) (suc n) = row_size (f + s) ns n

numbers_above : (k n : ℕ) (xs : List (Option ValueKind)) → In n (numbers_from k xs) → k ≤ n
numbers_above k n [] h = absurd h
numbers_above k n (Some x ∷ xs) (inl e) = omega (arith, e)
numbers_above k n (Some x ∷ xs) (inr h) = let r = numbers_above (suc k) n xs h in omega (arith, r)
numbers_above k n (None ∷ xs) h = let r = numbers_above (suc k) n xs h in omega (arith, r)

later : (b : Bool) (k n : ℕ) (x : ValueKind) (rest : List (Option ValueKind)) → In (k + suc n) (numbers_from k (if_matters b x ∷ rest)) → In (suc k + n) (numbers_from (suc k) rest)
later true k n x rest (inl e) = absurd (omega (arith, e))
later true k n x rest (inr h) = subst (λ j. In j (numbers_from (suc k) rest)) (let e : k + suc n ≡ suc k + n = omega arith in e) h
later false k n x rest h = subst (λ j. In j (numbers_from (suc k) rest)) (let e : k + suc n ≡ suc k + n = omega arith in e) h

abbrev sizes_by : (ValueKind → ℕ) → List (Option ValueKind) → List ℕ
sizes_by g = map (cells_by g)

module _ (g : ValueKind → ℕ) (matters : ℕ → Bool) where
  first_size : (b : Bool) (k : ℕ) (x : ValueKind) (rest : List (Option ValueKind)) → In k (numbers_from k (if_matters b x ∷ rest)) → cells_by g (if_matters b x) ≡ g x
  first_size true k x rest h = refl
  first_size false k x rest h = let r = numbers_above (suc k) k rest h in absurd (omega (arith, r))

  size_there : (k n : ℕ) (kinds : List ValueKind) → In (k + n) (numbers_from k (only matters k kinds)) → get_or (sizes_by g (only matters k kinds)) n 0 ≡ g (get_or kinds n (Scalar I32))
  size_there k n [] h = absurd h
  size_there k zero (x ∷ kinds) h = first_size (matters k) k x (only matters (suc k) kinds) (subst (λ j. In j (numbers_from k (only matters k (x ∷ kinds)))) (let e : k + 0 ≡ k = omega arith in e) h)
  size_there k (suc n) (x ∷ kinds) h = size_there (suc k) n kinds (later (matters k) k n x (only matters (suc k) kinds) h)

-- ---- which variables matter

module _ (matters : ℕ → Bool) where
  first_in : (b : Bool) (k : ℕ) (x : ValueKind) (rest : List (Option ValueKind)) → b ≡ true → In k (numbers_from k (if_matters b x ∷ rest))
  first_in true k x rest e = inl refl
  first_in false k x rest e = let f : ⊥ = cc in absurd f

  later_in : (b : Bool) (k n : ℕ) (x : ValueKind) (rest : List (Option ValueKind)) → In (suc k + n) (numbers_from (suc k) rest) → In (k + suc n) (numbers_from k (if_matters b x ∷ rest))
  later_in true k n x rest h = inr (subst (λ j. In j (numbers_from (suc k) rest)) (let e : suc k + n ≡ k + suc n = omega arith in e) h)
  later_in false k n x rest h = subst (λ j. In j (numbers_from (suc k) rest)) (let e : suc k + n ≡ k + suc n = omega arith in e) h

  numbers_have : (k n : ℕ) (kinds : List ValueKind) → n < length kinds → matters (k + n) ≡ true → In (k + n) (numbers_from k (only matters k kinds))
  numbers_have k n [] l e = absurd (omega (arith, l))
  numbers_have k zero (x ∷ kinds) l e =
      let same : k + 0 ≡ k = omega arith in
      subst (λ j. In j (numbers_from k (only matters k (x ∷ kinds)))) (sym same) (first_in (matters k) k x (only matters (suc k) kinds) (ap matters (sym same) ∙ e))
  numbers_have k (suc n) (x ∷ kinds) l e =
      let same : suc k + n ≡ k + suc n = omega arith in
      later_in (matters k) k n x (only matters (suc k) kinds) (numbers_have (suc k) n kinds (omega (arith, l)) (ap matters same ∙ e))

  first_matters : (b : Bool) (k : ℕ) (x : ValueKind) (rest : List (Option ValueKind)) → matters k ≡ b → In k (numbers_from k (if_matters b x ∷ rest)) → matters k ≡ true
  first_matters true k x rest e h = e
  first_matters false k x rest e h = let r = numbers_above (suc k) k rest h in absurd (omega (arith, r))

  numbers_matter : (k n : ℕ) (kinds : List ValueKind) → In (k + n) (numbers_from k (only matters k kinds)) → (n < length kinds) × (matters (k + n) ≡ true)
  numbers_matter k n [] h = absurd h
  numbers_matter k zero (x ∷ kinds) h =
      let same : k + 0 ≡ k = omega arith in
      (omega arith, ap matters same ∙ first_matters (matters k) k x (only matters (suc k) kinds) refl (subst (λ j. In j (numbers_from k (only matters k (x ∷ kinds)))) same h))
  numbers_matter k (suc n) (x ∷ kinds) h =
      let same : k + suc n ≡ suc k + n = omega arith in
      let r = numbers_matter (suc k) n kinds (later (matters k) k n x (only matters (suc k) kinds) h) in
      (let l = r.0 in omega (arith, l), ap matters same ∙ r.1)

  pub matter : (kinds : List ValueKind) (n : ℕ) → In n (numbers_from 0 (only matters 0 kinds)) ↔ ((n < length kinds) × (matters n ≡ true))
  matter kinds n =
      let same : n ≡ 0 + n = omega arith in (
        (λ h. let r = numbers_matter 0 n kinds (subst (λ j. In j (numbers_from 0 (only matters 0 kinds))) same h) in (r.0, ap matters same ∙ r.1)),
        (λ h. subst (λ j. In j (numbers_from 0 (only matters 0 kinds))) (sym same) (numbers_have 0 n kinds h.0 (ap matters (sym same) ∙ h.1))),
      )

-- ---- the room

module _ (matters : ℕ → Bool) (kinds : List ValueKind) (needs : Needs) where
  abbrev xs : List (Option ValueKind)
  xs = only matters 0 kinds

  abbrev l : Layout
  l = layout_of xs needs

  abbrev vs : List ℕ
  vs = var_sizes xs

  abbrev bs : List ℕ
  bs = box_sizes xs

  at_zero : (n : ℕ) → In n (numbers_from 0 xs) → In (0 + n) (numbers_from 0 xs)
  at_zero n h = subst (λ j. In j (numbers_from 0 xs)) (let e : n ≡ 0 + n = omega arith in e) h

  var_room : (n : ℕ) → In n (numbers_from 0 xs) → (range_at l.vars n).cells ≡ var_cells (kind_of kinds n)
  var_room n h = row_size 0 vs n ∙ size_there var_cells matters 0 n kinds (at_zero n h)

  box_room : (n : ℕ) → In n (numbers_from 0 xs) → (range_at l.boxes n).cells ≡ box_cells (kind_of kinds n)
  box_room n h = row_size (sum vs) bs n ∙ size_there box_cells matters 0 n kinds (at_zero n h)

  abbrev rest : List ℕ
  rest = needs.slots ∷ (replicate needs.temps most_cells ++ mark_cells needs.marks ∷ [])

  in_all : (c : ℕ) → c < sum vs + sum bs → c < cells_of l
  in_all c h = let e = all_cells vs bs needs in let a = sum_append vs (bs ++ rest) in let b = sum_append bs rest in omega (arith, h, e, a, b)

  below : (o : Owner) (c : ℕ) → HasCell (owned l o) c → c < sum vs + sum bs
  below (of_var n) c h = let w = row_within 0 vs n c h in omega (arith, w)
  below (of_box n) c h = row_within (sum vs) bs n c h

  own : (o p : Owner) (c : ℕ) → HasCell (owned l o) c → HasCell (owned l p) c → o ≡ p
  own (of_var n) (of_var k) c h g = ap of_var (row_own 0 vs n k c h g)
  own (of_var n) (of_box k) c h g = let w = row_within 0 vs n c h in let f = row_from (sum vs) bs k c g in absurd (omega (arith, w, f))
  own (of_box n) (of_var k) c h g = let w = row_within 0 vs k c g in let f = row_from (sum vs) bs n c h in absurd (omega (arith, w, f))
  own (of_box n) (of_box k) c h g = ap of_box (row_own (sum vs) bs n k c h g)

  pub HasRoom-layout : HasRoom l (kind_of kinds) (numbers_from 0 xs) (cells_of l)
  HasRoom-layout = record {
    vars = λ n i. let e = var_room n i in omega (arith, e);
    boxes = λ n i. let e = box_room n i in omega (arith, e);
    there = λ o c i h. in_all c (below o c h);
    apart = λ o p c i j h g. own o p c h g;
  }

-- ---- all other ranges

cell_in : (rs : List Range) (n c : ℕ) → HasCell (range_at rs n) c → n < length rs
cell_in [] n c h = let a = h.1 in absurd (omega (arith, a))
cell_in (r ∷ rs) zero c h = omega arith
cell_in (r ∷ rs) (suc n) c h = let i = cell_in rs n c h in omega (arith, i)

in_left : (rs ss : List Range) (n c : ℕ) → HasCell (range_at rs n) c → HasCell (range_at (rs ++ ss) n) c
in_left [] ss n c h = let a = h.1 in absurd (omega (arith, a))
in_left (r ∷ rs) ss zero c h = h
in_left (r ∷ rs) ss (suc n) c h = in_left rs ss n c h

in_right : (rs ss : List Range) (n c : ℕ) → HasCell (range_at ss n) c → HasCell (range_at (rs ++ ss) (length rs + n)) c
in_right [] ss n c h = subst (λ k. HasCell (range_at ss k) c) (let e : n ≡ 0 + n = omega arith in e) h
in_right (r ∷ rs) ss n c h = subst (λ k. HasCell (range_at (r ∷ rs ++ ss) k) c) (let e : suc (length rs + n) ≡ length (r ∷ rs) + n = omega arith in e) (in_right rs ss n c h)

place_of : (r : Range) (rs : List Range) → In r rs → (n : ℕ) × (range_at rs n ≡ r)
place_of r [] h = absurd h
place_of r (s ∷ rs) (inl e) = (0, sym e)
place_of r (s ∷ rs) (inr h) = let p = place_of r rs h in (suc p.0, p.1)

module _ (l : Layout) (vs : List ℕ) (r : Range) (c : ℕ) (apart : IsApart l) (i : In r (unowned_ranges l)) (h : HasCell r c) where
  abbrev at : ℕ
  at = (place_of r (unowned_ranges l) i).0

  stands_there : HasCell (range_at (ranges_of l) (length l.vars + (length l.boxes + at))) c
  stands_there = in_right l.vars (l.boxes ++ unowned_ranges l) (length l.boxes + at) c
      (in_right l.boxes (unowned_ranges l) at c (subst (λ s. HasCell s c) (sym (place_of r (unowned_ranges l) i).1) h))

  pub unowned : IsUnowned l vs c
  unowned (of_var n) j g =
      let e = apart.own n (length l.vars + (length l.boxes + at)) c (in_left l.vars (l.boxes ++ unowned_ranges l) n c g) stands_there in
      let w = cell_in l.vars n c g in omega (arith, e, w)
  unowned (of_box n) j g =
      let e = apart.own (length l.vars + n) (length l.vars + (length l.boxes + at)) c (in_right l.vars (l.boxes ++ unowned_ranges l) n c (in_left l.boxes (unowned_ranges l) n c g)) stands_there in
      let w = cell_in l.boxes n c g in omega (arith, e, w)
