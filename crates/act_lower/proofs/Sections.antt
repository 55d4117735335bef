-- The ops of a section load its elements.
use Rattle.std.proofs.Common.{◌≡◌, arith, inl, inr, refl, sym, ap, ◌∙◌, subst, ℕ, zero, suc, ◌+◌, ◌*◌, ◌/◌, ◌%◌, Bool, true, false, List, [], ◌∷◌, ◌++◌, map, length, Result, Ok, Err, ℤ, pos, ◌+ℤ◌, ◌-ℤ◌, ◌*ℤ◌, ◌≤ℤ◌}
use Rattle.std.specs.Prelude.{neg_ℤ, if◌then◌else◌}
use Rattle.std.proofs.lemmas.Int.{ints}
use Rattle.std.proofs.Math.IntN.{zero-*ℤ, suc_ℤ-*ℤ}
use Rattle.std.proofs.Math.Nat.{mul-add, mul_assoc}
use Rattle.ws_base.specs.declared.fault.FaultName.{FaultName}
use Rattle.ws_base.specs.declared.fault.FaultName.TheVariants.{Bounds}
use Rattle.ws_base.specs.Numbers.{Exact}
use Rattle.ws_base.specs.Outcomes.{Staged, each, rows, pair_up, ◌>>=◌}
use Rattle.ws_space.specs.declared.shape.Dim.{Dim}
use Rattle.ws_space.specs.declared.state.ArrayValue.{ArrayValue}
use Rattle.ws_space.specs.Shapes.{count, place, dims, within, distance}
use Rattle.ws_space.proofs.Distances.{sum_of_distance, within_bounds}
use Rattle.ws_space.specs.Sections.{triplet_column, elements_at}
use Rattle.ws_space.specs.Subscripts.{stepped}
use Rattle.ws_space.specs.Values.{value_at, element}
use Rattle.ws_space.specs.Maps.{everywhere_same}
use Rattle.phase_ops.specs.declared.phase.Source.{Source}
use Rattle.phase_ops.specs.declared.phase.Source.TheVariants.{Fixed, Cell}
use Rattle.phase_ops.specs.declared.phase.Term.{Term}
use Rattle.phase_ops.specs.declared.phase.Micro.{Micro}
use Rattle.phase_ops.specs.declared.phase.Micro.TheVariants as micro
use Rattle.phase_ops.specs.Phases.{Cells, cell_value, cell_of, source, source_cells, terms, term_cells, address, looks}
use Rattle.phase_ops.specs.Phases as phase
use Rattle.phase_ops.specs.Free.{In}
use Rattle.phase_ops.proofs.Members.{in_either, in_left, in_right}
use Rattle.hlfir_meaning.specs.Environments.{Selection, complete, one, range, listed, through, elements_of, Environment}
use Rattle.hlfir_meaning.specs.Selections.{columns, extents}
use Rattle.hlfir_meaning.specs.Stage2.{done}
use Rattle.act_laws.specs.Together.{Files, Scene, gives_at, with_ops, Level, Follows, well}
use Rattle.act_laws.specs.Seats.{Has, StandIn}
use Rattle.act_laws.specs.Digits.{HaveDigits}
use Rattle.act_laws.proofs.Columns.{paired, each_map, map_map, map_itself, each_in}
use Rattle.act_laws.proofs.Following.{Level-with_op, Level-with_ops, then_follows, follows_nothing, weaker, follows_one, IsLast}
use Rattle.act_laws.proofs.Sure.{has_later, sure}
use Rattle.act_laws.proofs.Digiting.{digits_later}
use Rattle.act_lower.specs.declared.section.Pick.{Pick}
use Rattle.act_lower.specs.declared.section.Pick.TheVariants.{Single as single, Steps as steps}
use Rattle.act_lower.specs.Sections.{Offset, no_offset, scaled, offset, element_address, section_code, PicksAre, subscripts_at, CellStands}

-- ---- products

mul_sum : (m : ℕ) (a b : ℤ) → pos m *ℤ (a +ℤ b) ≡ pos m *ℤ a +ℤ pos m *ℤ b
mul_sum zero a b = rw (zero-*ℤ (a +ℤ b), zero-*ℤ a, zero-*ℤ b) refl
mul_sum (suc m) a b =
    let x : pos (suc m) *ℤ (a +ℤ b) ≡ pos m *ℤ (a +ℤ b) +ℤ (a +ℤ b) = suc_ℤ-*ℤ (pos m) (a +ℤ b) in
    let y : pos (suc m) *ℤ a ≡ pos m *ℤ a +ℤ a = suc_ℤ-*ℤ (pos m) a in
    let z : pos (suc m) *ℤ b ≡ pos m *ℤ b +ℤ b = suc_ℤ-*ℤ (pos m) b in
    let more = mul_sum m a b in
    rw (x, y, z, more) (let e : pos m *ℤ a +ℤ pos m *ℤ b +ℤ (a +ℤ b) ≡ pos m *ℤ a +ℤ a +ℤ (pos m *ℤ b +ℤ b) = omega (arith, ints) in e)

mul_swap : (j m : ℕ) (z : ℤ) → pos j *ℤ (pos m *ℤ z) ≡ pos m *ℤ (pos j *ℤ z)
mul_swap zero m z = rw (zero-*ℤ (pos m *ℤ z), zero-*ℤ z) (let e : pos 0 ≡ pos (m * 0) = ap pos (omega arith) in e)
mul_swap (suc j) m z =
    let x : pos (suc j) *ℤ (pos m *ℤ z) ≡ pos j *ℤ (pos m *ℤ z) +ℤ pos m *ℤ z = suc_ℤ-*ℤ (pos j) (pos m *ℤ z) in
    let y : pos (suc j) *ℤ z ≡ pos j *ℤ z +ℤ z = suc_ℤ-*ℤ (pos j) z in
    x ∙ (ap (λ q. q +ℤ pos m *ℤ z) (mul_swap j m z) ∙ (sym (mul_sum m (pos j *ℤ z) z) ∙ ap (λ q. pos m *ℤ q) (sym y)))

-- ---- places

pub place_parts : (d : Dim) (ds : List Dim) (i : ℤ) (is : List ℤ) (q : ℕ) (b : Bool) (r : Result ℕ FaultName) → within d i ≡ b → place ds is ≡ r →
    (if b then r >>= (λ p. Ok (distance d.lower i + d.extent * p)) else Err Bounds) ≡ Ok q → (within d i ≡ true) × ((n : ℕ) × (place ds is ≡ Ok n) × (q ≡ distance d.lower i + d.extent * n))
place_parts d ds i is q true (Ok n) w e h = (w, (n, e, let f : q ≡ distance d.lower i + d.extent * n = cc in f))
place_parts d ds i is q true (Err n) w e h = let f : ⊥ = cc in absurd f
place_parts d ds i is q false r w e h = let f : ⊥ = cc in absurd f

-- one dimension more: its own cells and those of the rest
dimension_is : (m e n : ℕ) (l i base more first : ℤ) → l ≤ℤ i → first ≡ pos m *ℤ i → base +ℤ more ≡ pos (m * e * n) →
    neg_ℤ (pos m *ℤ l) +ℤ base +ℤ (first +ℤ more) ≡ pos (m * (distance l i + e * n))
dimension_is m e n l i base more first h f rest =
    let r = distance l i in
    let is : l +ℤ pos r ≡ i = sum_of_distance l i h in
    let x : first ≡ pos m *ℤ l +ℤ pos (m * r) = f ∙ (ap (λ z. pos m *ℤ z) (sym is) ∙ mul_sum m l (pos r)) in
    let y : m * (r + e * n) ≡ m * r + m * e * n = mul-add m r (e * n) ∙ ap (λ z. m * r + z) (sym (mul_assoc m e n)) in
    rw y (let z : neg_ℤ (pos m *ℤ l) +ℤ base +ℤ (first +ℤ more) ≡ pos (m * r + m * e * n) = omega (arith, ints, x, rest) in z)

-- ---- offsets

terms-append : (m : Cells) (regs : List ℤ) (xs ys : List Term) → terms m regs (xs ++ ys) ≡ terms m regs xs +ℤ terms m regs ys
terms-append m regs [] ys = let e : terms m regs ys ≡ pos 0 +ℤ terms m regs ys = omega (arith, ints) in e
terms-append m regs (x ∷ xs) ys =
    let more = terms-append m regs xs ys in
    let e : phase.register regs x.reg *ℤ source m x.step +ℤ terms m regs (xs ++ ys) ≡ phase.register regs x.reg *ℤ source m x.step +ℤ terms m regs xs +ℤ terms m regs ys = omega (arith, ints, more) in e

-- the sum that the ops leave is that of the cells in front of the element
abbrev OffsetIs : Scene → List ℕ → List Dim → Selection → (ℕ → ℕ) → ℕ → Offset → Files → Type 0
OffsetIs s at ds sel g m o after = (p : ℕ) → In p at → (q : ℕ) → place ds (subscripts_at sel (g p)) ≡ Ok q → o.base +ℤ terms s.cells (after p) o.terms ≡ pos (m * q)

-- the product of a source is there
abbrev ScaledIs : List ℕ → ℕ → Source → ℕ → Files → Type 0
ScaledIs at m (Fixed z) k after = Unit {0}
ScaledIs at m (Cell c) k after = Has at k (λ p. pos m) after

is_zero : (q : ℕ) → (let r : Result ℕ FaultName = Ok 0 in r) ≡ Ok q → q ≡ 0
is_zero q h = cc

module _ (s : Scene) (at : List ℕ) where
  scaled_later : (m : ℕ) (f : Source) (k : ℕ) (files : Files) (ops : List Micro) → ScaledIs at m f k files → ScaledIs at m f k (with_ops s ops files)
  scaled_later m (Fixed z) k files ops h = tt
  scaled_later m (Cell c) k files ops h = has_later s at k (λ p. pos m) files ops h

  scaled_is : (m : ℕ) (f : Source) (k : ℕ) (after : Files) → ScaledIs at m f k after → (p : ℕ) → In p at → (scaled m f k).base +ℤ terms s.cells (after p) (scaled m f k).terms ≡ pos m *ℤ source s.cells f
  scaled_is m (Fixed z) k after h p i = let e : pos m *ℤ z +ℤ pos 0 ≡ pos m *ℤ z = omega (arith, ints) in e
  scaled_is m (Cell c) k after h p i =
      ap (λ y. pos 0 +ℤ (y *ℤ cell_value s.cells c +ℤ pos 0)) (h p i).0
      ∙ (let e : pos 0 +ℤ (pos m *ℤ cell_value s.cells c +ℤ pos 0) ≡ pos m *ℤ cell_value s.cells c = omega (arith, ints) in e)

  scaled_stands : (m : ℕ) (f : Source) (k : ℕ) (files : Files) → Level k files → Follows s at k files (scaled m f k).ops well (λ n after. ScaledIs at m f k after)
  scaled_stands m (Fixed z) k files level = follows_nothing s at k files tt (λ n after. ScaledIs at m (Fixed z) k after) tt
  scaled_stands m (Cell c) k files level = sure s at k files level (micro.Fixed (pos m)) (λ p. pos m) (λ p j. refl) (λ p j. (λ c l. elim l [ ], λ z l. elim l [ ]))

  nothing_left : (sel : Selection) (g : ℕ → ℕ) (m k : ℕ) (files : Files) → Follows s at k files [] well (λ n after. OffsetIs s at [] sel g m no_offset after)
  nothing_left sel g m k files = follows_nothing s at k files tt (λ n after. OffsetIs s at [] sel g m no_offset after)
      (λ p i q e. ap pos (let z = is_zero q e in rw z (let f : 0 ≡ m * 0 = omega arith in f)))

  single_sum : (xb l ob xt ot : ℤ) → xb -ℤ l +ℤ ob +ℤ (xt +ℤ ot) ≡ neg_ℤ l +ℤ ob +ℤ (xb +ℤ xt +ℤ ot)
  single_sum xb l ob xt ot = omega (arith, ints)

  steps_sum : (xb l ob dt xt ot : ℤ) → xb -ℤ l +ℤ ob +ℤ (dt +ℤ (xt +ℤ ot)) ≡ neg_ℤ l +ℤ ob +ℤ (xb +ℤ xt +ℤ dt +ℤ ot)
  steps_sum xb l ob dt xt ot = omega (arith, ints)

  offset_stands : (ds : List Dim) (ps : List Pick) (sel : Selection) (regs : List ℕ) → PicksAre s ps sel → (g : ℕ → ℕ) (m k : ℕ) (files : Files) → Level k files → HaveDigits at g regs (extents sel) files
      → Follows s at k files (offset ds ps regs m k).ops well (λ n after. OffsetIs s at ds sel g m (offset ds ps regs m k) after)
  offset_stands [] ps sel regs are g m k files level have = nothing_left sel g m k files
  offset_stands (d ∷ ds) [] complete regs are g m k files level have = follows_nothing s at k files tt (λ n after. OffsetIs s at (d ∷ ds) complete g m no_offset after)
      (λ p i q e. let f : ⊥ = cc in absurd f)
  offset_stands (d ∷ ds) (single f ∷ ps) (one i sel) regs are g m k files level have =
      let x = scaled m f k in
      let o = offset ds ps regs (m * d.extent) (k + length x.ops) in
      let next : Files = with_ops s x.ops files in
      then_follows s at k files x.ops o.ops well (λ z. well) (λ z after. ScaledIs at m f k after) (λ z after. OffsetIs s at (d ∷ ds) (one i sel) g m (offset (d ∷ ds) (single f ∷ ps) regs m k) after)
      (scaled_stands m f k files level)
      (λ z is. weaker s at (k + length x.ops) next o.ops well (λ y after. OffsetIs s at ds sel g (m * d.extent) o after) (λ y after. OffsetIs s at (d ∷ ds) (one i sel) g m (offset (d ∷ ds) (single f ∷ ps) regs m k) after)
      (λ y more p j q e.
      let parts = place_parts d ds i (subscripts_at sel (g p)) q (within d i) (place ds (subscripts_at sel (g p))) refl refl e in
      let after : Files = with_ops s o.ops next in
      let xt = terms s.cells (after p) x.terms in
      let ot = terms s.cells (after p) o.terms in
      let first : x.base +ℤ xt ≡ pos m *ℤ i = scaled_is m f k after (scaled_later m f k next o.ops is) p j ∙ ap (λ v. pos m *ℤ v) are.0 in
      ap (λ v. x.base -ℤ pos m *ℤ d.lower +ℤ o.base +ℤ v) (terms-append s.cells (after p) x.terms o.terms)
      ∙ (single_sum x.base (pos m *ℤ d.lower) o.base xt ot
      ∙ (dimension_is m d.extent parts.1.0 d.lower i o.base ot (x.base +ℤ xt) (within_bounds d i parts.0).0 first (more p j parts.1.0 parts.1.1)
      ∙ ap (λ n. pos (m * n)) (sym parts.1.2))))
      (offset_stands ds ps sel regs are.2 g (m * d.extent) (k + length x.ops) next (Level-with_ops s k files x.ops level) (digits_later s at files x.ops g regs (extents sel) have)))
  offset_stands (d ∷ ds) (steps f z ∷ ps) (range t sel) (r ∷ regs) are g m k files level have =
      let x = scaled m f k in
      let o = offset ds ps regs (m * d.extent) (k + length x.ops) in
      let next : Files = with_ops s x.ops files in
      then_follows s at k files x.ops o.ops well (λ y. well) (λ y after. ScaledIs at m f k after) (λ y after. OffsetIs s at (d ∷ ds) (range t sel) g m (offset (d ∷ ds) (steps f z ∷ ps) (r ∷ regs) m k) after)
      (scaled_stands m f k files level)
      (λ y is. weaker s at (k + length x.ops) next o.ops well (λ v after. OffsetIs s at ds sel (λ p. g p / count t) (m * d.extent) o after) (λ v after. OffsetIs s at (d ∷ ds) (range t sel) g m (offset (d ∷ ds) (steps f z ∷ ps) (r ∷ regs) m k) after)
      (λ v more p j q e.
      let i = stepped t (g p % count t) in
      let parts = place_parts d ds i (subscripts_at sel (g p / count t)) q (within d i) (place ds (subscripts_at sel (g p / count t))) refl refl e in
      let after : Files = with_ops s o.ops next in
      let has_digit = has_later s at r (λ p'. pos (g p' % count t)) next o.ops (has_later s at r (λ p'. pos (g p' % count t)) files x.ops have.0) p j in
      let xt = terms s.cells (after p) x.terms in
      let ot = terms s.cells (after p) o.terms in
      let dt = phase.register (after p) r *ℤ (pos m *ℤ z) in
      let start : x.base +ℤ xt ≡ pos m *ℤ t.l = scaled_is m f k after (scaled_later m f k next o.ops is) p j ∙ ap (λ v'. pos m *ℤ v') are.0 in
      let digit : dt ≡ pos m *ℤ (pos (g p % count t) *ℤ t.s) = (λ n. has_digit.0 n *ℤ (pos m *ℤ are.1 n)) ∙ mul_swap (g p % count t) m t.s in
      let both : x.base +ℤ xt +ℤ dt ≡ pos m *ℤ i = (λ n. start n +ℤ digit n) ∙ sym (mul_sum m t.l (pos (g p % count t) *ℤ t.s)) in
      ap (λ v'. x.base -ℤ pos m *ℤ d.lower +ℤ o.base +ℤ (dt +ℤ v')) (terms-append s.cells (after p) x.terms o.terms)
      ∙ (steps_sum x.base (pos m *ℤ d.lower) o.base dt xt ot
      ∙ (dimension_is m d.extent parts.1.0 d.lower i o.base ot (x.base +ℤ xt +ℤ dt) (within_bounds d i parts.0).0 both (more p j parts.1.0 parts.1.1)
      ∙ ap (λ n. pos (m * n)) (sym parts.1.2))))
      (offset_stands ds ps sel regs are.3 (λ p. g p / count t) (m * d.extent) (k + length x.ops) next (Level-with_ops s k files x.ops level) (digits_later s at files x.ops (λ p. g p / count t) regs (extents sel) have.1)))
  offset_stands (d ∷ ds) (steps f z ∷ ps) (range t sel) [] are g m k files level have = absurd have
  offset_stands (d ∷ ds) [] (one i sel) regs are g m k files level have = absurd are
  offset_stands (d ∷ ds) [] (range t sel) regs are g m k files level have = absurd are
  offset_stands (d ∷ ds) [] (listed j xs sel) regs are g m k files level have = absurd are
  offset_stands (d ∷ ds) [] (through a inner sel) regs are g m k files level have = absurd are
  offset_stands (d ∷ ds) (p ∷ ps) sel regs are g m k files level have = absurd are

-- ---- columns of subscripts

-- the columns, as rows of subscripts
abbrev AreColumns : Selection → (ℕ → ℕ) → List ℕ → Type 0
AreColumns sel g at = (cs : List (List ℤ)) × (columns sel (map g at) ≡ Ok cs) × (rows at cs ≡ map (λ p. subscripts_at sel (g p)) at)

columns_are : (s : Scene) (ps : List Pick) (sel : Selection) → PicksAre s ps sel → (g : ℕ → ℕ) (at : List ℕ) → AreColumns sel g at
columns_are s [] complete are g at = ([], refl, refl)
columns_are s (single f ∷ ps) (one i sel) are g at =
    let x = columns_are s ps sel are.2 g at in (
      everywhere_same i (map g at) ∷ x.0,
      ap (λ r. r >>= (λ rest. let q : Staged (List (List ℤ)) = Ok (everywhere_same i (map g at) ∷ rest) in q)) x.1,
      (λ j. pair_up (map_map (λ p. i) g at j) (x.2 j)) ∙ paired (λ p. i) (λ p. subscripts_at sel (g p)) at,
    )
columns_are s (steps f z ∷ ps) (range t sel) are g at =
    let x = columns_are s ps sel are.3 (λ p. g p / count t) at in (
      triplet_column t (map g at) ∷ x.0,
      ap (λ ps. columns sel ps >>= (λ rest. let q : Staged (List (List ℤ)) = Ok (triplet_column t (map g at) ∷ rest) in q)) (map_map (λ p. p / count t) g at)
          ∙ ap (λ r. r >>= (λ rest. let q : Staged (List (List ℤ)) = Ok (triplet_column t (map g at) ∷ rest) in q)) x.1,
      (λ j. pair_up (map_map (λ p. stepped t (p % count t)) g at j) (x.2 j)) ∙ paired (λ p. stepped t (g p % count t)) (λ p. subscripts_at sel (g p / count t)) at,
    )
columns_are s [] (one i sel) are g at = absurd are
columns_are s [] (range t sel) are g at = absurd are
columns_are s [] (listed j xs sel) are g at = absurd are
columns_are s [] (through a inner sel) are g at = absurd are
columns_are s (p ∷ ps) sel are g at = absurd are

done_is : (s : Scene) (ps : List Pick) (sel : Selection) → PicksAre s ps sel → (at : List ℕ) (env : Environment) (n : ℕ) (a : ArrayValue) → done at env n (elements_of a sel) ≡ each (λ p. element a (subscripts_at sel p)) at
done_is s ps sel are at env n a =
    let x = columns_are s ps sel are (λ p. p) at in
    ap (λ ps. columns sel ps >>= (λ cs. elements_at a at cs)) (sym (map_itself at))
    ∙ (ap (λ r. r >>= (λ cs. elements_at a at cs)) x.1 ∙ (ap (each (element a)) x.2 ∙ each_map (element a) (subscripts_at sel) at))

-- ---- the whole section

scaled_cells : (s : Scene) (m : ℕ) (f : Source) (k : ℕ) → ((c : ℕ) → In c (source_cells f) → In c s.may) → (c : ℕ) → In c (term_cells (scaled m f k).terms) → In c s.may
scaled_cells s m (Fixed z) k may c i = elim i [ ]
scaled_cells s m (Cell d) k may c i = may c i

term_cells-append : (xs ys : List Term) (c : ℕ) (X : Type 0) → (In c (term_cells xs) → X) → (In c (term_cells ys) → X) → In c (term_cells (xs ++ ys)) → X
term_cells-append [] ys c X f g i = g i
term_cells-append (x ∷ xs) ys c X f g i = elim (in_either c (source_cells x.step) (term_cells (xs ++ ys)) i) as (λ v. X) [
  | inl l ↦ f (in_left c (source_cells x.step) (term_cells xs) l)
  | inr l ↦ term_cells-append xs ys c X (λ l'. f (in_right c (source_cells x.step) (term_cells xs) l')) g l
]

offset_cells : (s : Scene) (ds : List Dim) (ps : List Pick) (sel : Selection) (regs : List ℕ) → PicksAre s ps sel → (m k c : ℕ) → In c (term_cells (offset ds ps regs m k).terms) → In c s.may
offset_cells s [] ps sel regs are m k c i = elim i [ ]
offset_cells s (d ∷ ds) [] sel regs are m k c i = elim i [ ]
offset_cells s (d ∷ ds) (single f ∷ ps) (one j sel) regs are m k c i =
    term_cells-append (scaled m f k).terms (offset ds ps regs (m * d.extent) (k + length (scaled m f k).ops)).terms c (In c s.may) (scaled_cells s m f k are.1 c)
    (offset_cells s ds ps sel regs are.2 (m * d.extent) (k + length (scaled m f k).ops) c) i
offset_cells s (d ∷ ds) (steps f z ∷ ps) (range t sel) (r ∷ regs) are m k c i =
    term_cells-append (scaled m f k).terms (offset ds ps regs (m * d.extent) (k + length (scaled m f k).ops)).terms c (In c s.may) (scaled_cells s m f k are.2 c)
    (offset_cells s ds ps sel regs are.3 (m * d.extent) (k + length (scaled m f k).ops) c) i
offset_cells s (d ∷ ds) (steps f z ∷ ps) (range t sel) [] are m k c i = elim i [ ]
offset_cells s (d ∷ ds) (p ∷ ps) sel regs are m k c i = absurd are

module _ (s : Scene) (at : List ℕ) (first : ℕ) (a : ArrayValue) (ps : List Pick) (sel : Selection) (regs : List ℕ) (are : PicksAre s ps sel) (cells : (p : ℕ) → In p at → CellStands s first a sel p) where
  abbrev code : ℕ → Offset
  code k = offset (dims a.shape) ps regs 1 k

  abbrev load : ℕ → Micro
  load k = micro.Load (element_address first (code k))

  address_is : (k : ℕ) (files : Files) → OffsetIs s at (dims a.shape) sel (λ p. p) 1 (code k) files → (p : ℕ) → (i : In p at)
      → address s.cells (files p) (element_address first (code k)) ≡ first + (cells p i).at
  address_is k files is p i =
      let c = cells p i in
      let x : (code k).base +ℤ terms s.cells (files p) (code k).terms ≡ pos (1 * c.at) = is p i c.at c.inside in
      ap cell_of (let e : pos first +ℤ (code k).base +ℤ terms s.cells (files p) (code k).terms ≡ pos (first + c.at) = omega (arith, ints, x) in e)

  may_load : (k : ℕ) (after : Files) → OffsetIs s at (dims a.shape) sel (λ p. p) 1 (code k) after → (p : ℕ) → In p at → (c : ℕ) → In c (looks s.cells (after p) (load k)) → In c s.may
  may_load k after is p i c l = elim (in_either c (term_cells (code k).terms) (address s.cells (after p) (element_address first (code k)) ∷ []) l) as (λ v. In c s.may) [
    | inl j ↦ offset_cells s (dims a.shape) ps sel regs are 1 k c j
    | inr j ↦ elim j as (λ v. In c s.may) [
      | inl e ↦ subst (λ x. In x s.may) (sym (e ∙ address_is k after is p i)) (cells p i).may
      | inr f ↦ elim f [ ]
    ]
  ]

  pub section_stands : (env : Environment) (n k : ℕ) (files : Files) → Level k files → HaveDigits at (λ p. p) regs (extents sel) files
      → Follows s at k files (section_code first (dims a.shape) ps regs k).ops (done at env n (elements_of a sel)) (StandIn at (section_code first (dims a.shape) ps regs k).reg)
  section_stands env n k files level have =
      let o = code k in
      let next : Files = with_ops s o.ops files in
      let level_next = Level-with_ops s k files o.ops level in
      subst (λ r. Follows s at k files (o.ops ++ load k ∷ []) r (StandIn at (k + length o.ops))) (sym (done_is s ps sel are at env n a))
      (then_follows s at k files o.ops (load k ∷ []) well (λ y. each (λ p. element a (subscripts_at sel p)) at) (λ y after. OffsetIs s at (dims a.shape) sel (λ p. p) 1 o after) (StandIn at (k + length o.ops))
      (offset_stands s at (dims a.shape) ps sel regs are (λ p. p) 1 k files level have)
      (λ y is.
      subst (λ r. Follows s at (k + length o.ops) next (load k ∷ []) r (StandIn at (k + length o.ops)))
      (each_in (gives_at s next (load k)) (λ p. element a (subscripts_at sel p)) at (λ p i.
      let c = cells p i in
      ap (λ x. let e : Exact = Ok (cell_value s.cells x) in e) (address_is k next is p i) ∙ (ap (λ x. let e : Exact = Ok x in e) c.holds ∙ sym (ap (λ r. r >>= (λ q. let e : Exact = Ok (value_at a.values q) in e)) c.inside))))
      (weaker s at (k + length o.ops) next (load k ∷ []) (each (gives_at s next (load k)) at) (IsLast at (k + length o.ops)) (StandIn at (k + length o.ops))
      (λ xs l. (l, λ p i. let e = Level-with_op s (k + length o.ops) next (load k) level_next p in omega (arith, e)))
      (follows_one s at (k + length o.ops) next (load k) level_next (λ p e. (λ c l. may_load k next is p (subst (λ ps. In p ps) (sym e) (inl refl)) c l, λ z l. elim l [ ]))))))
