-- Ops and regions, and the lists inside them, under one name each. The type of such a list counts its items.
use Rattle.std.specs.Prelude.{ℕ, List, [], ◌∷◌, ◌++◌, Option}
use mathlib.Core.Former.{Count, none_left, one_more}
use Rattle.hlfir_ops.specs.declared.kinds.ValueKind.{ValueKind}
use Rattle.hlfir_ops.specs.declared.what.What.{What}
use Rattle.hlfir_ops.specs.declared.op.ValueId.{ValueId}
use Rattle.hlfir_ops.specs.declared.op.Op.{Op, out-Op, roll-Op}
use Rattle.hlfir_ops.specs.declared.op.Region.{Region, roll-Region}
use Rattle.hlfir_ops.specs.declared.op.Op.TheBlock as block

abbrev pub Ops : Count → Type 0
Ops = block.Row_of-Op

pattern abbrev pub end_ops : Ops none_left
end_ops = block.end_of-Op

pattern abbrev pub more_ops : {m : Count} → Op → Ops m → Ops (one_more m)
more_ops op ops = block.more_of-Op op ops

abbrev pub Regions : Count → Type 0
Regions = block.Row_of-Region

pattern abbrev pub end_regions : Regions none_left
end_regions = block.end_of-Region

pattern abbrev pub more_regions : {m : Count} → Region → Regions m → Regions (one_more m)
more_regions r rs = block.more_of-Region r rs

-- an op, and a region, by its parts
abbrev pub op_of : What → ℕ → List ValueId → Option ValueKind → List Region → Op
op_of what line operands kind regions = roll-Op (record { what = what; line = line; operands = operands; kind = kind; regions = regions })

abbrev pub region_of : List Op → Region
region_of ops = roll-Region (record { ops = ops })

-- an op with one more region
abbrev pub with_region : Op → Region → Op
with_region op region = op_of (out-Op op).what (out-Op op).line (out-Op op).operands (out-Op op).kind ((out-Op op).regions ++ region ∷ [])
