-- Groups of statements: each region, and each outermost assignment, WHERE or FORALL outside regions, in printed order.
use Rattle.std.specs.Prelude.{◌≡◌, ℕ, Bool, true, false, List, [], ◌∷◌, ◌++◌, Option, Some, None, slice_get}
use mathlib.Core.Former.{Count}
use Rattle.hlfir_ops.specs.declared.what.What.{What}
use Rattle.hlfir_ops.specs.declared.what.What.TheVariants as what
use Rattle.hlfir_ops.specs.declared.op.Op.{Op, Op', out-Op}
use Rattle.hlfir_ops.specs.declared.op.Region.{Region, Region', out-Region}
use Rattle.hlfir_ops.specs.declared.op.Module.{Module}
use Rattle.hlfir_ops.specs.Trees.{Ops, end_ops, more_ops, Regions, end_regions, more_regions}
use Rattle.hlfir_ops.specs.Numbers.{order_in}
use Rattle.hlfir_ops.specs.RulesPlaces.{shares}

-- The op is a group, or holds those inside it. A DO is no group, and what stands in it is as if it stood outside.
abbrev pub own_group : What → Op → List Op → List Op
own_group what.Workshare op inside = op ∷ []
own_group (what.Assign realloc) op inside = op ∷ []
own_group what.Masked op inside = op ∷ []
own_group (what.Forall names) op inside = op ∷ []
own_group what.DoLoop op inside = inside
own_group w op inside = []

abbrev mutual
  pub op_groups : Op → List Op
  op_groups (Op' w line os kind h regions) = own_group w (Op' w line os kind h regions) (regions_groups regions)

  pub regions_groups : {m : Count} → Regions m → List Op
  regions_groups end_regions = []
  regions_groups (more_regions (Region' _ ops) regions) = ops_groups ops ++ regions_groups regions

  pub ops_groups : {m : Count} → Ops m → List Op
  ops_groups end_ops = []
  ops_groups (more_ops op ops) = op_groups op ++ ops_groups ops

-- the same over lists
abbrev pub groups_of : List Op → List Op
groups_of [] = []
groups_of (op ∷ ops) = op_groups op ++ groups_of ops

abbrev pub groups_in : List Region → List Op
groups_in [] = []
groups_in (region ∷ regions) = groups_of (out-Region region).ops ++ groups_in regions

-- the group of this number, counted from 0
abbrev pub group_at : Module → ℕ → Option Op
group_at m n = slice_get (groups_of m.ops) n

abbrev pub is_region_op : Option Op → Bool
is_region_op (Some op) = shares (out-Op op).what
is_region_op None = false

-- The group of this number is a region.
abbrev pub IsRegion : Module → ℕ → Type 0
IsRegion m n = is_region_op (group_at m n) ≡ true

abbrev pub inside_of : Option Op → List Op
inside_of (Some op) = order_in (out-Op op).regions
inside_of None = []

-- the ops inside the group of this number, in printed order
abbrev pub ops_inside : Module → ℕ → List Op
ops_inside m n = inside_of (group_at m n)
