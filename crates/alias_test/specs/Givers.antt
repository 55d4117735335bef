-- The op that gives each value of a module, in the order of the values' numbers. An index name is given by its forall.
use Rattle.std.specs.Prelude.{ℕ, suc, nat_lt, if◌then◌else◌, List, [], ◌∷◌, ◌++◌, map, Option, Some, None, slice_get, slice_index_or}
use Rattle.std.specs.Borrow.{Bor}
use mathlib.Core.Former.{Count}
use Rattle.hlfir_ops.specs.declared.kinds.ValueKind.{ValueKind}
use Rattle.hlfir_ops.specs.declared.what.What.{What}
use Rattle.hlfir_ops.specs.declared.what.What.TheVariants as what
use Rattle.hlfir_ops.specs.declared.op.ValueId.{ValueId}
use Rattle.hlfir_ops.specs.declared.op.Op.{Op, Op', out-Op}
use Rattle.hlfir_ops.specs.declared.op.Region.{Region, Region', out-Region}
use Rattle.hlfir_ops.specs.Trees.{Ops, end_ops, more_ops, Regions, end_regions, more_regions}
use Rattle.hlfir_ops.specs.Numbers.{names_in}
use Rattle.alias_test.specs.Tables.{entry_at}

abbrev pub own_givers : Op → Option ValueKind → List Op
own_givers op (Some kind) = op ∷ []
own_givers op None = []

abbrev mutual
  pub op_givers : Op → List Op
  op_givers (Op' w line operands kind h regions) = own_givers (Op' w line operands kind h regions) kind ++ regions_givers (Op' w line operands kind h regions) w 0 regions

  -- the regions of this op, from the one of this number on
  pub regions_givers : {m : Count} → Op → What → ℕ → Regions m → List Op
  regions_givers op w k end_regions = []
  regions_givers op w k (more_regions (Region' _ ops) regions) = (map (λ name. op) (names_in w k) ++ ops_givers ops) ++ regions_givers op w (suc k) regions

  pub ops_givers : {m : Count} → Ops m → List Op
  ops_givers end_ops = []
  ops_givers (more_ops op ops) = op_givers op ++ ops_givers ops

abbrev pub givers_of : List Op → List Op
givers_of [] = []
givers_of (op ∷ ops) = op_givers op ++ givers_of ops

-- the same over the list of an op's regions
abbrev pub givers_in : Op → What → ℕ → List Region → List Op
givers_in op w k [] = []
givers_in op w k (region ∷ regions) = (map (λ name. op) (names_in w k) ++ givers_of (out-Region region).ops) ++ givers_in op w (suc k) regions

-- ---- as the code has them

-- the ops that these refer to
abbrev pub ops_at : List (Bor Op) → List Op
ops_at = map (λ r. r.now)

abbrev pub op_at : Option (Bor Op) → Option Op
op_at (Some r) = Some r.now
op_at None = None

-- ---- variables

abbrev pub kind_given : Option Op → Option ValueKind
kind_given (Some op) = (out-Op op).kind
kind_given None = None

-- what this box holds, where that is an earlier value; in a module that keeps the rules it always is
abbrev pub held_by : What → List ValueId → ℕ → Option ValueId
held_by what.Boxed (v ∷ more) n = if nat_lt v.number n then Some v else None
held_by w os n = None

abbrev pub held_given : Option Op → ℕ → Option ValueId
held_given (Some op) n = held_by (out-Op op).what (out-Op op).operands n
held_given None n = None

abbrev pub held_at : List Op → ℕ → Option ValueId
held_at gs n = held_given (slice_get gs n) n

-- the variable of what the value holds, among those of the earlier values; a value that holds nothing is a variable of its own
abbrev pub variable_under : Option ValueId → ℕ → List ℕ → ℕ
variable_under (Some v) n variables = slice_index_or variables v.number n
variable_under None n variables = n

abbrev pub variable_after : List Op → ℕ → List ℕ → ℕ
variable_after gs n variables = variable_under (held_at gs n) n variables

-- the declare of the variable to which this value refers: that under all boxes, however many, or the value itself
unfoldable pub variable_of : List Op → ℕ → ℕ
variable_of gs = entry_at (variable_after gs)
