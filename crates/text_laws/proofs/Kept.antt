-- What the rules say of an op, so that its line stands for it.
use Rattle.std.proofs.Common.{◌≡◌, refl, sym, ap, ◌∙◌, subst, ℕ, suc, ◌+◌, Bool, true, false, ◌&&◌, List, [], ◌∷◌, ◌++◌, length, drop, Option, Some, None, ℤ, true≢false, ltb-true}
use Rattle.std.specs.Prelude.{nat_lt}
use Rattle.std.specs.List.{list_all}
use Rattle.std.proofs.lemmas.Bool.{and_parts}
use Rattle.std.proofs.lemmas.List.Folds.{list_all-append}
use mathlib.Core.Former.{Count}
use Rattle.hlfir_ops.specs.declared.kinds.Elem.{Elem}
use Rattle.hlfir_ops.specs.declared.kinds.Elem.TheVariants.{I32, I1}
use Rattle.hlfir_ops.specs.declared.kinds.ValueKind.{ValueKind}
use Rattle.hlfir_ops.specs.declared.kinds.ValueKind.TheVariants as kind
use Rattle.hlfir_ops.specs.declared.what.What.{What}
use Rattle.hlfir_ops.specs.declared.what.What.TheVariants as what
use Rattle.hlfir_ops.specs.declared.what.SubKind.{SubKind}
use Rattle.hlfir_ops.specs.declared.what.BoundWord.{BoundWord}
use Rattle.hlfir_ops.specs.declared.op.ValueId.{ValueId}
use Rattle.hlfir_ops.specs.declared.op.Op.{Op, Op', out-Op, roll-Op, roll-out-Op}
use Rattle.hlfir_ops.specs.declared.op.Region.{Region, Region', out-Region, roll-Region, roll-out-Region}
use Rattle.hlfir_ops.specs.declared.op.Op.TheBlock.{hidden-the_row-Region-0, hidden-the_row-Op-1}
use Rattle.hlfir_ops.specs.Opened.{trees_open}
use Rattle.hlfir_ops.specs.Numbers.{names_in, own_numbers, op_numbers, ops_numbers, op_order, regions_order, ops_order}
use Rattle.hlfir_ops.specs.Trees.{Ops, end_ops, more_ops, Regions, end_regions, more_regions}
use Rattle.hlfir_ops.specs.RulesValues.{Value, is_scalar, kind_at, is_reference, has_rank}
use Rattle.hlfir_ops.specs.RulesRegions.{first_kind, parts_in, ops_in}
use Rattle.hlfir_ops.specs.RulesForms.{has_regions, has_constant, is_filled_where, takes, gives, is_variable, is_none, is_scalar_of, second_kind, is_boxed, is_part_of, section_rank, is_array_of, rank_of_kind, is_elemental_of, take_subscripts, unary_elem, result_elem, total_elem}
use Rattle.hlfir_ops.specs.RulesPlaces.{Around, Place, around_in, from_number, own_defined, op_sites, regions_sites, ops_sites}
use Rattle.hlfir_ops.specs.Rules.{Facts, kept, keeps, are_defined, operands_fit, result_fits}
use Rattle.hlfir_text.specs.ModuleText.{count}
use Rattle.text_laws.specs.Writable.{has_names, fits, fits_32, fits_dimension, fits_kind}
use Rattle.text_laws.proofs.Operands.{all_fit}
use Rattle.text_laws.proofs.Subscripts.{Fills-from_take}
use Rattle.text_laws.proofs.Heads.{is_box, IsToldBy, HasOperands, HasValue, IsPlain}
use Rattle.text_laws.proofs.Goods.{IsSome, IsFilled, IsGood, AreGood, EachGood}

no : {A : Type 0} → false ≡ true → A
no h = absurd (true≢false (sym h))

-- ---- results

told_none : (k : Option ValueKind) → is_none k ≡ true → IsToldBy false k
told_none None h = tt
told_none (Some k) h = no h

told_scalar : (e : Elem) (k : Option ValueKind) → is_scalar e k ≡ true → IsToldBy false k
told_scalar e (Some (kind.Scalar f)) h = tt
told_scalar e _ h = no h

told_scalar_of : (o k : Option ValueKind) → is_scalar_of o k ≡ true → IsToldBy false k
told_scalar_of None k h = no h
told_scalar_of (Some o) (Some (kind.Scalar f)) h = tt
told_scalar_of (Some o) _ h = no h

told_variable : (k : Option ValueKind) → is_variable k ≡ true → IsToldBy false k
told_variable (Some (kind.Place e)) h = tt
told_variable (Some (kind.Declared e shape)) h = ltb-true 0 shape.rank h
told_variable (Some (kind.Allocatable e rank)) h = ltb-true 0 rank h
told_variable _ h = no h

told_value : (c : ℤ) (k : Option ValueKind) → has_constant c k ≡ true → IsToldBy false k
told_value c (Some (kind.Scalar e)) h = tt
told_value c _ h = no h

told_box : (o k : Option ValueKind) → is_boxed o k ≡ true → IsToldBy true k
told_box None k h = no h
told_box (Some o) (Some (kind.Allocatable e rank)) h = tt
told_box (Some o) _ h = no h

told_part : (o : Option ValueKind) (n : ℕ) (k : Option ValueKind) → is_part_of o n k ≡ true → IsToldBy false k
told_part None n k h = no h
told_part (Some o) n (Some (kind.Place e)) h = tt
told_part (Some o) n (Some (kind.Section e rank)) h = tt
told_part (Some o) n _ h = no h

told_array : (o : Option ValueKind) (n : ℕ) (k : Option ValueKind) → is_array_of o n k ≡ true → IsToldBy false k
told_array None n k h = no h
told_array (Some o) n (Some (kind.Array e rank)) h = tt
told_array (Some o) n _ h = no h

told_elemental : (vs : List Value) (ops : List Op) (o k : Option ValueKind) → is_elemental_of vs ops o k ≡ true → IsToldBy false k
told_elemental vs ops (Some o) (Some (kind.Array e rank)) h = tt
told_elemental vs ops _ _ h = no h

told : (vs : List Value) (w : What) (os : List ValueId) (k : Option ValueKind) (rs : List Region) → gives vs w os k rs ≡ true → IsToldBy (is_box w) k
told vs (what.Declare name) os k rs h = told_variable k h
told vs (what.Constant c) os k rs h = told_value c k h
told vs (what.Unary op) os k rs h = told_scalar (unary_elem op) k h
told vs (what.Binary op) os k rs h = told_scalar (result_elem op) k h
told vs what.Select os k rs h = told_scalar_of (second_kind vs os) k h
told vs what.Load os k rs h = told_scalar_of (first_kind vs os) k h
told vs what.Boxed os k rs h = told_box (first_kind vs os) k h
told vs (what.Bound word dim) os k rs h = told_scalar I32 k h
told vs what.Size os k rs h = told_scalar I32 k h
told vs what.Allocated os k rs h = told_scalar I1 k h
told vs (what.Designate subs) os k rs h = told_part (first_kind vs os) (section_rank subs) k h
told vs what.Vector os k rs h = told_array (first_kind vs os) 1 k h
told vs what.AsExpr os k rs h = told_array (first_kind vs os) (rank_of_kind (first_kind vs os)) k h
told vs what.Elemental os k rs h = told_elemental vs (ops_in rs 0) (first_kind vs (parts_in rs 0)) k h
told vs what.Apply os k rs h = told_scalar_of (first_kind vs os) k h
told vs (what.Reduce r) os k rs h = told_scalar (total_elem r) k h
told vs w os k rs h = told_none k h

valued : (vs : List Value) (w : What) (os : List ValueId) (k : Option ValueKind) (rs : List Region) → gives vs w os k rs ≡ true → HasValue w k
valued vs (what.Constant c) os k rs h = h
valued vs w os k rs h = tt

-- ---- operands

operands_bound : (e : Bool) (vs : List Value) (w : BoundWord) (dim : ℕ) (os : List ValueId) (rs : List Region) → takes e vs (what.Bound w dim) os rs ≡ true → HasOperands (what.Bound w dim) os
operands_bound e vs w dim [] rs h = no h
operands_bound e vs w dim (v ∷ []) rs h = tt
operands_bound e vs w dim (v ∷ u ∷ os) rs h = no h

operands_designate : (e : Bool) (vs : List Value) (subs : List SubKind) (os : List ValueId) (rs : List Region) → takes e vs (what.Designate subs) os rs ≡ true → HasOperands (what.Designate subs) os
operands_designate e vs subs [] rs h = no h
operands_designate e vs subs (r ∷ os) rs h = Fills-from_take vs subs os (and_parts (is_reference (kind_at vs r) && has_rank (length subs) (kind_at vs r)) (take_subscripts vs subs os) h).1

operands : (e : Bool) (vs : List Value) (w : What) (os : List ValueId) (rs : List Region) → takes e vs w os rs ≡ true → HasOperands w os
operands e vs (what.Bound w dim) os rs h = operands_bound e vs w dim os rs h
operands e vs (what.Designate subs) os rs h = operands_designate e vs subs os rs h
operands e vs w os rs h = tt

-- ---- regions

count-list : (rs : List Region) → count (hidden-the_row-Region-0 rs) ≡ length rs
unfolding trees_open
count-list [] = refl
count-list (r ∷ rs) = ap suc (count-list rs)

some-list : (ops : List Op) → nat_lt 0 (length ops) ≡ true → IsSome (hidden-the_row-Op-1 ops)
unfolding trees_open
some-list [] h = no h
some-list (op ∷ ops) h = tt

filled_third : (a b c : Region) → is_filled_where what.Masked (a ∷ b ∷ c ∷ []) ≡ true → IsFilled what.Masked (hidden-the_row-Region-0 (a ∷ b ∷ roll-Region (out-Region c) ∷ []))
unfolding trees_open
filled_third a b c h = some-list (out-Region c).ops h

filled_four : {m : Count} (a b c d : Region) (rs : Regions m) → IsFilled what.Masked (more_regions a (more_regions b (more_regions c (more_regions d rs))))
filled_four a b (Region' h ops) d rs = tt

filled_where : (rs : List Region) → is_filled_where what.Masked rs ≡ true → IsFilled what.Masked (hidden-the_row-Region-0 rs)
unfolding trees_open
filled_where [] h = tt
filled_where (a ∷ []) h = tt
filled_where (a ∷ b ∷ []) h = tt
filled_where (a ∷ b ∷ c ∷ []) h = subst (λ r. IsFilled what.Masked (hidden-the_row-Region-0 (a ∷ b ∷ r ∷ []))) (roll-out-Region c) (filled_third a b c h)
filled_where (a ∷ b ∷ c ∷ d ∷ rs) h = filled_four a b c d (hidden-the_row-Region-0 rs)

filled : (w : What) (rs : List Region) → is_filled_where w rs ≡ true → IsFilled w (hidden-the_row-Region-0 rs)
filled what.Masked rs h = filled_where rs h
filled w rs h = tt

-- ---- an op

abbrev IsSound : Op → Type 0
IsSound (Op' w line os k _ regions) = IsPlain w line os k × (has_regions w (count regions) ≡ true) × IsFilled w regions

sound_by_fields : (op : Op) → IsPlain (out-Op op).what (out-Op op).line (out-Op op).operands (out-Op op).kind → has_regions (out-Op op).what (count (hidden-the_row-Region-0 (out-Op op).regions)) ≡ true → IsFilled (out-Op op).what (hidden-the_row-Region-0 (out-Op op).regions) →
    IsSound (roll-Op (out-Op op))
unfolding trees_open
sound_by_fields op p h f = (p, h, f)

second_third : (a b c : Bool) (more : List Bool) → list_all (λ x. x) (a ∷ b ∷ c ∷ more) ≡ true → (b ≡ true) × (c ≡ true)
second_third a b c more h =
    let rest = (and_parts a (b && (c && list_all (λ x. x) more)) h).1 in
    let both = and_parts b (c && list_all (λ x. x) more) rest in
    (both.0, (and_parts c (list_all (λ x. x) more) both.1).0)

sound : (f : Facts) (p : Place) (op : Op) → keeps f (record { place = p; op = op }) ≡ true → has_names (out-Op op).what ≡ true → fits op ≡ true → IsSound op
unfolding operands_fit result_fits
sound f p op h n fit =
    let o = out-Op op in
    let both = second_third (are_defined p.defined o.operands) (operands_fit p.around.elemental f.values op) (result_fits f.values op) (drop 3 (kept f p op)) h in
    let form = and_parts (has_regions o.what (length o.regions) && is_filled_where o.what o.regions) (takes p.around.elemental f.values o.what o.operands o.regions) both.0 in
    let regions = and_parts (has_regions o.what (length o.regions)) (is_filled_where o.what o.regions) form.0 in
    let fit_kind = and_parts (fits_32 o.line && all_fit o.operands && fits_dimension o.what) (fits_kind o.kind) fit in
    let fit_dim = and_parts (fits_32 o.line && all_fit o.operands) (fits_dimension o.what) fit_kind.0 in
    let fit_line = and_parts (fits_32 o.line) (all_fit o.operands) fit_dim.0 in
    let plain : IsPlain o.what o.line o.operands o.kind = record {
      told = told f.values o.what o.operands o.kind o.regions both.1;
      operands = operands p.around.elemental f.values o.what o.operands o.regions form.1;
      value = valued f.values o.what o.operands o.kind o.regions both.1;
      names = n;
      line_fits = fit_line.0;
      operands_fit = fit_line.1;
      dimension_fits = fit_dim.1;
      kind_fits = fit_kind.1;
    } in
    subst IsSound (roll-out-Op op) (sound_by_fields op plain (ap (has_regions o.what) (count-list o.regions) ∙ regions.0) (filled o.what o.regions regions.1))

-- ---- trees

abbrev named_all : List Op → Bool
named_all = list_all (λ op. has_names (out-Op op).what)

abbrev fits_all : List Op → Bool
fits_all = list_all fits

both_parts : {A : Type 0} (p : A → Bool) (xs ys : List A) → list_all p (xs ++ ys) ≡ true → (list_all p xs ≡ true) × (list_all p ys ≡ true)
both_parts p xs ys h = and_parts (list_all p xs) (list_all p ys) (sym (list_all-append p xs ys) ∙ h)

mutual
  op_good : (f : Facts) (p : Place) (op : Op) → list_all (keeps f) (op_sites p op) ≡ true → named_all (op_order op) ≡ true → fits_all (op_order op) ≡ true → IsGood op
  op_good f p (Op' w line os k g regions) h n fit =
      let op : Op = Op' w line os k g regions in
      let inner = regions_sites p.around w 0 (own_numbers k + p.number) p.defined regions in
      let keep = and_parts (keeps f (record { place = p; op = op })) (list_all (keeps f) inner) h in
      let name = and_parts (has_names (out-Op op).what) (named_all (regions_order regions)) n in
      let fit_both = and_parts (fits op) (fits_all (regions_order regions)) fit in
      let here = sound f p op keep.0 name.0 fit_both.0 in
      (here.0, here.1, here.2, regions_good f p.around w 0 (own_numbers k + p.number) p.defined regions keep.1 name.1 fit_both.1)

  regions_good : {m : Count} (f : Facts) (a : Around) (w : What) (k n : ℕ) (defined : List ℕ) (regions : Regions m) → list_all (keeps f) (regions_sites a w k n defined regions) ≡ true → named_all (regions_order regions) ≡ true → fits_all (regions_order regions) ≡ true → AreGood regions
  regions_good f a w k n defined end_regions h x y = tt
  regions_good f a w k n defined (more_regions (Region' g ops) regions) h x y =
      let keep = both_parts (keeps f) (ops_sites (around_in a w k) [] (length (names_in w k) + n) (defined ++ from_number n (names_in w k)) ops) (regions_sites a w (suc k) ((length (names_in w k) + ops_numbers ops) + n) defined regions) h in
      let name = both_parts (λ op. has_names (out-Op op).what) (ops_order ops) (regions_order regions) x in
      let fit = both_parts fits (ops_order ops) (regions_order regions) y in (
        each_good f (around_in a w k) [] (length (names_in w k) + n) (defined ++ from_number n (names_in w k)) ops keep.0 name.0 fit.0,
        regions_good f a w (suc k) ((length (names_in w k) + ops_numbers ops) + n) defined regions keep.1 name.1 fit.1,
      )

  pub each_good : {m : Count} (f : Facts) (a : Around) (before : List Op) (n : ℕ) (defined : List ℕ) (ops : Ops m) → list_all (keeps f) (ops_sites a before n defined ops) ≡ true → named_all (ops_order ops) ≡ true → fits_all (ops_order ops) ≡ true → EachGood ops
  each_good f a before n defined end_ops h x y = tt
  each_good f a before n defined (more_ops op ops) h x y =
      let place : Place = record { around = a; before = before; number = n; defined = defined } in
      let keep = both_parts (keeps f) (op_sites place op) (ops_sites a (before ++ op ∷ []) (op_numbers op + n) (defined ++ own_defined n (out-Op op).kind) ops) h in
      let name = both_parts (λ o. has_names (out-Op o).what) (op_order op) (ops_order ops) x in
      let fit = both_parts fits (op_order op) (ops_order ops) y in
      (op_good f place op keep.0 name.0 fit.0, each_good f a (before ++ op ∷ []) (op_numbers op + n) (defined ++ own_defined n (out-Op op).kind) ops keep.1 name.1 fit.1)
