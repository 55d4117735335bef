-- What the text of a module shows of it: all but the lines of ops that have none of their own, and the dimensions of a shape past its rank.
use Rattle.std.specs.Prelude.{ℕ, List, [], ◌∷◌, Option, Some, None, if◌then◌else◌}
use mathlib.Core.Former.{Count}
use Rattle.ws_space.specs.Shapes.{dims, shape_of}
use Rattle.hlfir_ops.specs.declared.kinds.ValueKind.{ValueKind}
use Rattle.hlfir_ops.specs.declared.kinds.ValueKind.TheVariants as kind
use Rattle.hlfir_ops.specs.declared.what.What.{What}
use Rattle.hlfir_ops.specs.declared.op.Op.{Op, Op'}
use Rattle.hlfir_ops.specs.declared.op.Region.{Region, Region'}
use Rattle.hlfir_ops.specs.declared.op.Module.{Module}
use Rattle.hlfir_ops.specs.Lines.{has_line}
use Rattle.hlfir_ops.specs.Trees.{Ops, end_ops, more_ops, Regions, end_regions, more_regions, op_of, region_of}

-- 0 where the op has no line of its own
abbrev pub shown_line : What → ℕ → ℕ
shown_line w line = if has_line w then line else 0

-- with lower bound 1 and extent 1 in each dimension past the rank
abbrev pub shown_kind : ValueKind → ValueKind
shown_kind (kind.Declared e shape) = kind.Declared e (shape_of (dims shape))
shown_kind k = k

abbrev pub shown_result : Option ValueKind → Option ValueKind
shown_result (Some k) = Some (shown_kind k)
shown_result None = None

abbrev mutual
  pub shown_op : Op → Op
  shown_op (Op' w line operands k _ regions) = op_of w (shown_line w line) operands (shown_result k) (shown_regions regions)

  pub shown_regions : {m : Count} → Regions m → List Region
  shown_regions end_regions = []
  shown_regions (more_regions (Region' _ ops) regions) = region_of (shown_ops ops) ∷ shown_regions regions

  pub shown_ops : {m : Count} → Ops m → List Op
  shown_ops end_ops = []
  shown_ops (more_ops op ops) = shown_op op ∷ shown_ops ops

-- the same over lists
abbrev pub shown_in : List Op → List Op
shown_in [] = []
shown_in (op ∷ ops) = shown_op op ∷ shown_in ops

abbrev pub shown : Module → Module
shown m = record { name = m.name; ops = shown_in m.ops }
