-- The kinds of an op's values, by its fields: as many as it takes numbers.
use Rattle.std.proofs.Common.{◌≡◌, refl, sym, ap, ◌∙◌, ℕ, suc, ◌+◌, List, [], ◌∷◌, ◌++◌, map, length, append_assoc}
use Rattle.std.proofs.lemmas.List.{length-append, length-map}
use Rattle.hlfir_ops.specs.declared.what.What.{What}
use Rattle.hlfir_ops.specs.declared.op.Op.{Op, Op', out-Op, roll-Op, roll-out-Op}
use Rattle.hlfir_ops.specs.declared.op.Region.{Region, Region', out-Region, roll-Region, roll-out-Region}
use Rattle.hlfir_ops.specs.declared.op.Op.TheBlock.{hidden-the_row-Region-0, hidden-the_row-Op-1}
use mathlib.Core.Former.{Count}
use Rattle.hlfir_ops.specs.Opened.{trees_open}
use Rattle.hlfir_ops.specs.Trees.{Ops, end_ops, more_ops, Regions, end_regions, more_regions}
use Rattle.hlfir_ops.specs.Numbers.{names_in, own_kinds, own_numbers, op_numbers, regions_numbers, ops_numbers, kind_of_name, op_kinds, regions_kinds, ops_kinds, kinds_of, kinds_in}

-- ---- by fields

ops_kinds-list : (ops : List Op) → ops_kinds (hidden-the_row-Op-1 ops) ≡ kinds_of ops
unfolding trees_open
ops_kinds-list [] = refl
ops_kinds-list (op ∷ ops) = ap (λ l. op_kinds op ++ l) (ops_kinds-list ops)

regions_front : (what : What) (k : ℕ) (region : Region) (regions : List Region) → regions_kinds what k (hidden-the_row-Region-0 (roll-Region (out-Region region) ∷ regions)) ≡
    (map kind_of_name (names_in what k) ++ ops_kinds (hidden-the_row-Op-1 (out-Region region).ops)) ++ regions_kinds what (suc k) (hidden-the_row-Region-0 regions)
unfolding trees_open
regions_front what k region regions = refl

regions_kinds-list : (what : What) (k : ℕ) (regions : List Region) → regions_kinds what k (hidden-the_row-Region-0 regions) ≡ kinds_in what k regions
unfolding trees_open
regions_kinds-list what k [] = refl
regions_kinds-list what k (region ∷ regions) =
    ap (λ r. regions_kinds what k (hidden-the_row-Region-0 (r ∷ regions))) (sym (roll-out-Region region)) ∙ (regions_front what k region regions ∙
    (ap (λ l. (map kind_of_name (names_in what k) ++ l) ++ regions_kinds what (suc k) (hidden-the_row-Region-0 regions)) (ops_kinds-list (out-Region region).ops) ∙
    ap (λ l. (map kind_of_name (names_in what k) ++ kinds_of (out-Region region).ops) ++ l) (regions_kinds-list what (suc k) regions)))

op_front : (op : Op) → op_kinds (roll-Op (out-Op op)) ≡ own_kinds (out-Op op).kind ++ regions_kinds (out-Op op).what 0 (hidden-the_row-Region-0 (out-Op op).regions)
unfolding trees_open
op_front op = refl

pub op_kinds-parts : (op : Op) → op_kinds op ≡ own_kinds (out-Op op).kind ++ kinds_in (out-Op op).what 0 (out-Op op).regions
op_kinds-parts op = ap op_kinds (sym (roll-out-Op op)) ∙ (op_front op ∙ ap (λ l. own_kinds (out-Op op).kind ++ l) (regions_kinds-list (out-Op op).what 0 (out-Op op).regions))

pub kinds_of-append : (a b : List Op) → kinds_of (a ++ b) ≡ kinds_of a ++ kinds_of b
kinds_of-append [] b = refl
kinds_of-append (op ∷ a) b = ap (λ l. op_kinds op ++ l) (kinds_of-append a b) ∙ sym (append_assoc (op_kinds op) (kinds_of a) (kinds_of b))

-- ---- as many as numbers

mutual
  pub op_kinds-length : (op : Op) → length (op_kinds op) ≡ op_numbers op
  op_kinds-length (Op' what line operands kind _ regions) = length-append (own_kinds kind) (regions_kinds what 0 regions) ∙ ap (λ n. own_numbers kind + n) (regions_kinds-length what 0 regions)

  regions_kinds-length : {m : Count} (what : What) (k : ℕ) (regions : Regions m) → length (regions_kinds what k regions) ≡ regions_numbers what k regions
  regions_kinds-length what k end_regions = refl
  regions_kinds-length what k (more_regions (Region' _ ops) regions) =
      length-append (map kind_of_name (names_in what k) ++ ops_kinds ops) (regions_kinds what (suc k) regions) ∙
      (ap (λ n. n + length (regions_kinds what (suc k) regions)) (length-append (map kind_of_name (names_in what k)) (ops_kinds ops) ∙
      (ap (λ n. n + length (ops_kinds ops)) (length-map (names_in what k) kind_of_name) ∙ ap (λ n. length (names_in what k) + n) (ops_kinds-length ops))) ∙
      ap (λ n. (length (names_in what k) + ops_numbers ops) + n) (regions_kinds-length what (suc k) regions))

  ops_kinds-length : {m : Count} (ops : Ops m) → length (ops_kinds ops) ≡ ops_numbers ops
  ops_kinds-length end_ops = refl
  ops_kinds-length (more_ops op ops) = length-append (op_kinds op) (ops_kinds ops) ∙ (ap (λ n. n + length (ops_kinds ops)) (op_kinds-length op) ∙ ap (λ n. op_numbers op + n) (ops_kinds-length ops))
