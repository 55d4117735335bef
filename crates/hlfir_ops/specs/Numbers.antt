-- The numbers of values. They count from 0 in printed order: an op before the ops of its regions, and these before the op that follows it.
use Rattle.std.specs.Prelude.{ℕ, zero, suc, ◌+◌, List, [], ◌∷◌, ◌++◌, map, length, Option, Some, None, slice_get}
use mathlib.Core.Former.{Count}
use Rattle.ws_base.specs.declared.name.Name.{Name}
use Rattle.hlfir_ops.specs.declared.kinds.Elem.TheVariants.{I32}
use Rattle.hlfir_ops.specs.declared.kinds.ValueKind.{ValueKind}
use Rattle.hlfir_ops.specs.declared.kinds.ValueKind.TheVariants.{Scalar}
use Rattle.hlfir_ops.specs.declared.what.What.{What}
use Rattle.hlfir_ops.specs.declared.what.What.TheVariants.{Forall}
use Rattle.hlfir_ops.specs.declared.op.Op.{Op, Op'}
use Rattle.hlfir_ops.specs.declared.op.Region.{Region, Region', out-Region}
use Rattle.hlfir_ops.specs.declared.op.Module.{Module}
use Rattle.hlfir_ops.specs.Trees.{Ops, end_ops, more_ops, Regions, end_regions, more_regions}

-- the index names that the region of this number, counted from 0, brings: those of a FORALL stand in its second region
abbrev pub names_in : What → ℕ → List Name
names_in (Forall names) (suc zero) = names
names_in what k = []

-- an op gives a value where it has a kind
abbrev pub own_kinds : Option ValueKind → List ValueKind
own_kinds (Some kind) = kind ∷ []
own_kinds None = []

abbrev pub own_numbers : Option ValueKind → ℕ
own_numbers kind = length (own_kinds kind)

-- ---- how many numbers they take

abbrev mutual
  pub op_numbers : Op → ℕ
  op_numbers (Op' what line operands kind _ regions) = own_numbers kind + regions_numbers what 0 regions

  -- the regions of an op, from the one of this number on
  pub regions_numbers : {m : Count} → What → ℕ → Regions m → ℕ
  regions_numbers what k end_regions = 0
  regions_numbers what k (more_regions (Region' _ ops) regions) = (length (names_in what k) + ops_numbers ops) + regions_numbers what (suc k) regions

  pub ops_numbers : {m : Count} → Ops m → ℕ
  ops_numbers end_ops = 0
  ops_numbers (more_ops op ops) = op_numbers op + ops_numbers ops

abbrev pub numbers_of : List Op → ℕ
numbers_of [] = 0
numbers_of (op ∷ ops) = op_numbers op + numbers_of ops

-- the same over the list of an op's regions
abbrev pub numbers_in : What → ℕ → List Region → ℕ
numbers_in what k [] = 0
numbers_in what k (region ∷ regions) = (length (names_in what k) + numbers_of (out-Region region).ops) + numbers_in what (suc k) regions

-- ---- the kinds of the values, in the order of their numbers; an index name is an INTEGER scalar

abbrev pub kind_of_name : Name → ValueKind
kind_of_name name = Scalar I32

abbrev mutual
  pub op_kinds : Op → List ValueKind
  op_kinds (Op' what line operands kind _ regions) = own_kinds kind ++ regions_kinds what 0 regions

  pub regions_kinds : {m : Count} → What → ℕ → Regions m → List ValueKind
  regions_kinds what k end_regions = []
  regions_kinds what k (more_regions (Region' _ ops) regions) = (map kind_of_name (names_in what k) ++ ops_kinds ops) ++ regions_kinds what (suc k) regions

  pub ops_kinds : {m : Count} → Ops m → List ValueKind
  ops_kinds end_ops = []
  ops_kinds (more_ops op ops) = op_kinds op ++ ops_kinds ops

abbrev pub kinds_of : List Op → List ValueKind
kinds_of [] = []
kinds_of (op ∷ ops) = op_kinds op ++ kinds_of ops

-- the same over the list of an op's regions
abbrev pub kinds_in : What → ℕ → List Region → List ValueKind
kinds_in what k [] = []
kinds_in what k (region ∷ regions) = (map kind_of_name (names_in what k) ++ kinds_of (out-Region region).ops) ++ kinds_in what (suc k) regions

-- the kind of a value of the module, and None where it has no value of this number
abbrev pub kind_at : Module → ℕ → Option ValueKind
kind_at m number = slice_get (kinds_of m.ops) number

-- ---- the ops in printed order

abbrev mutual
  pub op_order : Op → List Op
  op_order (Op' what line operands kind shape regions) = Op' what line operands kind shape regions ∷ regions_order regions

  pub regions_order : {m : Count} → Regions m → List Op
  regions_order end_regions = []
  regions_order (more_regions (Region' _ ops) regions) = ops_order ops ++ regions_order regions

  pub ops_order : {m : Count} → Ops m → List Op
  ops_order end_ops = []
  ops_order (more_ops op ops) = op_order op ++ ops_order ops

abbrev pub order_of : List Op → List Op
order_of [] = []
order_of (op ∷ ops) = op_order op ++ order_of ops

-- the same over the list of an op's regions
abbrev pub order_in : List Region → List Op
order_in [] = []
order_in (region ∷ regions) = order_of (out-Region region).ops ++ order_in regions

-- the op at this place of the printed order, counted from 0
abbrev pub op_at : Module → ℕ → Option Op
op_at m place = slice_get (order_of m.ops) place
