-- The groups of a plan are those that own cells.
use Rattle.std.proofs.Common.{◌≡◌, refl, ap, ◌∙◌, ℕ, suc, ◌+◌, List, [], ◌∷◌, ◌++◌, map, length}
use mathlib.Core.Former.{Count}
use Rattle.hlfir_ops.specs.declared.what.What.{What}
use Rattle.hlfir_ops.specs.declared.what.What.TheVariants as what
use Rattle.hlfir_ops.specs.declared.op.Op.{Op, Op'}
use Rattle.hlfir_ops.specs.declared.op.Region.{Region'}
use Rattle.hlfir_ops.specs.Trees.{Ops, end_ops, more_ops, Regions, end_regions, more_regions}
use Rattle.hlfir_ops.specs.Numbers.{names_in, own_numbers, op_numbers, ops_numbers, op_order, ops_order}
use Rattle.rule_tests.proofs.Appended.{map_append}
use Rattle.storage_owner.specs.Groups.{own_group, op_groups, regions_groups, ops_groups, groups_of}
use Rattle.phase_plan.specs.Begun.{Begun, own_begins, op_begins, regions_begins, ops_begins, begins_of}

own_begins-ops : (w : What) (b : Begun) (inside : List Begun) → map (λ x. x.op) (own_begins w b inside) ≡ own_group w b.op (map (λ x. x.op) inside)
own_begins-ops (what.Declare name) b inside = refl
own_begins-ops (what.Assign realloc) b inside = refl
own_begins-ops what.Masked b inside = refl
own_begins-ops what.Elsewhere b inside = refl
own_begins-ops (what.Forall names) b inside = refl
own_begins-ops what.ForallMask b inside = refl
own_begins-ops what.Workshare b inside = refl
own_begins-ops what.DoLoop b inside = refl
own_begins-ops (what.Allocmem also) b inside = refl
own_begins-ops (what.Freemem also) b inside = refl
own_begins-ops (what.Read also) b inside = refl
own_begins-ops what.Yield b inside = refl
own_begins-ops what.YieldElement b inside = refl
own_begins-ops (what.Constant c) b inside = refl
own_begins-ops (what.Unary op) b inside = refl
own_begins-ops (what.Binary op) b inside = refl
own_begins-ops what.Select b inside = refl
own_begins-ops what.Load b inside = refl
own_begins-ops what.Boxed b inside = refl
own_begins-ops (what.Bound word dim) b inside = refl
own_begins-ops what.Size b inside = refl
own_begins-ops what.Allocated b inside = refl
own_begins-ops (what.Designate subs) b inside = refl
own_begins-ops what.Vector b inside = refl
own_begins-ops what.AsExpr b inside = refl
own_begins-ops what.Elemental b inside = refl
own_begins-ops what.Apply b inside = refl
own_begins-ops (what.Reduce reduction) b inside = refl

-- two lists of groups after one another
both : (xs ys : List Begun) (ops more : List Op) → map (λ x. x.op) xs ≡ ops → map (λ x. x.op) ys ≡ more → map (λ x. x.op) (xs ++ ys) ≡ ops ++ more
both xs ys ops more a b = map_append (λ x. x.op) xs ys ∙ (ap (λ l. l ++ map (λ x. x.op) ys) a ∙ ap (λ l. ops ++ l) b)

mutual
  op_begins-ops : (p n : ℕ) (op : Op) → map (λ x. x.op) (op_begins p n op) ≡ op_groups op
  op_begins-ops p n (Op' w line os k h regions) =
      own_begins-ops w (record { op = Op' w line os k h regions; place = p; number = n }) (regions_begins w 0 (suc p) (own_numbers k + n) regions)
      ∙ ap (own_group w (Op' w line os k h regions)) (regions_begins-ops w 0 (suc p) (own_numbers k + n) regions)

  regions_begins-ops : {m : Count} (w : What) (k p n : ℕ) (regions : Regions m) → map (λ x. x.op) (regions_begins w k p n regions) ≡ regions_groups regions
  regions_begins-ops w k p n end_regions = refl
  regions_begins-ops w k p n (more_regions (Region' h ops) regions) =
      both (ops_begins p (length (names_in w k) + n) ops) (regions_begins w (suc k) (length (ops_order ops) + p) ((length (names_in w k) + ops_numbers ops) + n) regions)
      (ops_groups ops) (regions_groups regions) (ops_begins-ops p (length (names_in w k) + n) ops)
      (regions_begins-ops w (suc k) (length (ops_order ops) + p) ((length (names_in w k) + ops_numbers ops) + n) regions)

  ops_begins-ops : {m : Count} (p n : ℕ) (ops : Ops m) → map (λ x. x.op) (ops_begins p n ops) ≡ ops_groups ops
  ops_begins-ops p n end_ops = refl
  ops_begins-ops p n (more_ops op ops) =
      both (op_begins p n op) (ops_begins (length (op_order op) + p) (op_numbers op + n) ops) (op_groups op) (ops_groups ops) (op_begins-ops p n op)
      (ops_begins-ops (length (op_order op) + p) (op_numbers op + n) ops)

pub begins_of-ops : (p n : ℕ) (ops : List Op) → map (λ x. x.op) (begins_of p n ops) ≡ groups_of ops
begins_of-ops p n [] = refl
begins_of-ops p n (op ∷ ops) =
    both (op_begins p n op) (begins_of (length (op_order op) + p) (op_numbers op + n) ops) (op_groups op) (groups_of ops) (op_begins-ops p n op)
    (begins_of-ops (length (op_order op) + p) (op_numbers op + n) ops)
