-- What ops cost: how many of them do not keep the limits by themselves, their size, their reductions, and their vector subscripts that are evaluated whole.
use Rattle.std.specs.Prelude.{ℕ, suc, ◌+◌, ◌≤◌, ◌<◌, nat_le, Bool, true, false, if◌then◌else◌, List, [], ◌∷◌, length}
use Rattle.hlfir_ops.specs.declared.kinds.ValueKind.{ValueKind}
use Rattle.hlfir_ops.specs.declared.kinds.ValueKind.TheVariants as kind
use Rattle.hlfir_ops.specs.declared.what.What.{What}
use Rattle.hlfir_ops.specs.declared.what.What.TheVariants as what
use Rattle.hlfir_ops.specs.declared.op.ValueId.{ValueId}
use Rattle.hlfir_ops.specs.declared.op.Op.{Op, out-Op}
use Rattle.hlfir_ops.specs.declared.op.Region.{Region}
use Rattle.hlfir_ops.specs.Numbers.{order_of, order_in}
use Rattle.hlfir_ops.specs.RulesValues.{Value, value_at, is_whole}
use Rattle.hlfir_ops.specs.RulesLimits.{item_limit}
use Rattle.lower_values.specs.declared.operand.Operand.{Operand}
use Rattle.lower_values.specs.Lowerings.{Lowered}

-- ---- totals over ops in printed order, regions included

-- what one op adds
abbrev pub Weight : Type 0
Weight = What → List ValueId → ℕ

abbrev pub weight : Weight → Op → ℕ
weight g op = g (out-Op op).what (out-Op op).operands

abbrev pub sum_of : Weight → List Op → ℕ
sum_of g [] = 0
sum_of g (op ∷ ops) = weight g op + sum_of g ops

abbrev pub total : Weight → List Op → ℕ
total g ops = sum_of g (order_of ops)

abbrev pub total_in : Weight → List Region → ℕ
total_in g rs = sum_of g (order_in rs)

-- ---- weights

abbrev pub one_if : Bool → ℕ
one_if b = if b then 1 else 0

-- An op of an expression, which keeps the limits wherever it stands. A vector does so by its items.
abbrev pub is_light : What → List ValueId → Bool
is_light (what.Declare name) os = false
is_light (what.Assign realloc) os = false
is_light what.Masked os = false
is_light what.Elsewhere os = false
is_light (what.Forall names) os = false
is_light what.ForallMask os = false
is_light what.Workshare os = false
is_light what.DoLoop os = false
is_light (what.Allocmem also) os = false
is_light (what.Freemem also) os = false
is_light (what.Read also) os = false
is_light what.Vector os = nat_le (length os) item_limit
is_light _ os = true

abbrev pub heavy : Weight
heavy w os = if is_light w os then 0 else 1

abbrev pub size : Weight
size w os = suc (length os)

abbrev pub reduces : Weight
reduces (what.Reduce r) os = 1
reduces _ os = 0

abbrev pub wholes_among : List Value → List ValueId → ℕ
wholes_among vs [] = 0
wholes_among vs (v ∷ more) = one_if (is_whole (value_at vs v)) + wholes_among vs more

abbrev pub wholes : List Value → Weight
wholes vs (what.Designate subs) os = wholes_among vs os
wholes vs _ os = 0

-- ---- ops of an expression, at most of this size, with at most so many reductions and vector subscripts evaluated whole

pub record Costs (vs : List Value) (ops : List Op) (z r w : ℕ) : Type 0 where
  pub light : total heavy ops ≤ 0
  pub size : total size ops ≤ z
  pub reductions : total reduces ops ≤ r
  pub wholes : total (wholes vs) ops ≤ w

-- The value of a whole array may still get an op of its own, in parentheses.
abbrev pub slack : ValueKind → ℕ
slack (kind.Declared e shape) = 2
slack (kind.Allocatable e rank) = 2
slack _ = 0

-- An array has a rank above 0.
abbrev pub IsProper : ValueKind → Type 0
IsProper (kind.Declared e shape) = 0 < shape.rank
IsProper (kind.Allocatable e rank) = 0 < rank
IsProper (kind.Array e rank) = 0 < rank
IsProper _ = Unit {0}

-- an operand, with what is still left to be added to it
pub record Priced (vs : List Value) (p : Lowered Operand) (z r w : ℕ) : Type 0 where
  pub light : total heavy p.ops ≤ 0
  pub size : total size p.ops + slack p.made.kind ≤ z
  pub reductions : total reduces p.ops ≤ r
  pub wholes : total (wholes vs) p.ops ≤ w
  pub proper : IsProper p.made.kind
