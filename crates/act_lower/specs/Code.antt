-- The ops of an act that evaluate a value at a place.
use Rattle.std.specs.Prelude.{ℕ, suc, ◌+◌, if◌then◌else◌, List, [], ◌∷◌, ◌++◌, length, pos}
use Rattle.phase_ops.specs.declared.phase.OneOp.{OneOp}
use Rattle.phase_ops.specs.declared.phase.OneOp.TheVariants as one
use Rattle.phase_ops.specs.declared.phase.ScalarOp.{ScalarOp}
use Rattle.phase_ops.specs.declared.phase.ScalarOp.TheVariants as scalar
use Rattle.phase_ops.specs.declared.phase.Source.{Source}
use Rattle.phase_ops.specs.declared.phase.Micro.{Micro}
use Rattle.phase_ops.specs.declared.phase.Micro.TheVariants as micro
use Rattle.ws_space.specs.declared.shape.Dim.{Dim}
use Rattle.hlfir_ops.specs.declared.what.ValueUnary.{ValueUnary}
use Rattle.hlfir_ops.specs.declared.what.ValueUnary.TheVariants as unary
use Rattle.hlfir_ops.specs.declared.what.ValueBinary.{ValueBinary}
use Rattle.hlfir_ops.specs.declared.what.ValueBinary.TheVariants as binary
use Rattle.hlfir_ops.specs.declared.what.What.{What}
use Rattle.hlfir_ops.specs.declared.what.What.TheVariants as what
use Rattle.hlfir_ops.specs.declared.op.ValueId.{ValueId}
use Rattle.hlfir_ops.specs.declared.op.Op.{Op, out-Op}
use Rattle.hlfir_ops.specs.Numbers.{op_numbers}
use Rattle.hlfir_meaning.specs.Environments.{number_of}
use Rattle.hlfir_meaning.specs.Order.{ends}
use Rattle.act_laws.specs.declared.seat.Seat.{Seat}
use Rattle.act_laws.specs.declared.seat.Seat.TheVariants.{Fixed as fixed, Register as register}
use Rattle.act_laws.specs.Seats.{Table, with_seat, seat_or}
use Rattle.act_laws.specs.Fetches.{Fetched, fetched}
use Rattle.act_laws.specs.Digits.{digits}
use Rattle.act_lower.specs.declared.section.Pick.{Pick}
use Rattle.act_lower.specs.Sections.{section_code}

-- ---- operands in registers

abbrev pub seat_of : Table → ValueId → Seat
seat_of table v = seat_or (table v.number)

-- of several operands, one after another
pub record Operands : Type 0 where
  pub ops : List Micro
  pub regs : List ℕ

abbrev pub operands : ℕ → ℕ → Table → List ValueId → Operands
operands place k table [] = record { ops = []; regs = [] }
operands place k table (v ∷ vs) =
    let x = fetched place k (seat_of table v) in
    let rest = operands place (k + length x.ops) table vs in
    record { ops = x.ops ++ rest.ops; regs = x.reg ∷ rest.regs }

-- ---- one op of a body

abbrev pub one_op : ValueUnary → OneOp
one_op unary.Neg = one.Minus
one_op unary.Abs = one.Abs
one_op unary.Not = one.Not

abbrev pub scalar_op : ValueBinary → ScalarOp
scalar_op binary.Add = scalar.Add
scalar_op binary.Sub = scalar.Sub
scalar_op binary.Mul = scalar.Mul
scalar_op binary.Div = scalar.Div
scalar_op binary.Min = scalar.Min
scalar_op binary.Max = scalar.Max
scalar_op binary.Pow = scalar.Pow
scalar_op binary.Mod = scalar.Mod
scalar_op binary.Modulo = scalar.Modulo
scalar_op binary.Eq = scalar.Eq
scalar_op binary.Ne = scalar.Ne
scalar_op binary.Lt = scalar.Lt
scalar_op binary.Le = scalar.Le
scalar_op binary.Gt = scalar.Gt
scalar_op binary.Ge = scalar.Ge
scalar_op binary.And = scalar.And
scalar_op binary.Or = scalar.Or
scalar_op binary.Eqv = scalar.Eqv
scalar_op binary.Neqv = scalar.Neqv

-- the op of an act on the registers of the operands
abbrev pub micro_of : What → List ℕ → Micro
micro_of (what.Unary o) (r ∷ []) = micro.Unary (one_op o) r
micro_of (what.Binary o) (r ∷ s ∷ []) = micro.Binary (scalar_op o) r s
micro_of what.Select (m ∷ t ∷ f ∷ []) = micro.Select m t f
micro_of w rs = micro.Fixed (pos 0)

-- ops, and where their value stands
pub record Made : Type 0 where
  pub ops : List Micro
  pub seat : Seat

abbrev pub operated : ℕ → ℕ → Table → What → List ValueId → Made
operated place k table w os = let x = operands place k table os in record { ops = x.ops ++ micro_of w x.regs ∷ []; seat = register (k + length x.ops) }

-- A constant is known, and an apply takes what stands for its operand.
abbrev pub op_code : ℕ → ℕ → Table → What → List ValueId → Made
op_code place k table (what.Constant c) os = record { ops = []; seat = fixed c }
op_code place k table what.Apply os = record { ops = []; seat = seat_or (table (number_of os)) }
op_code place k table w os = operated place k table w os

-- ---- bodies and what else was left for stage 2

abbrev pub body_code : ℕ → ℕ → Table → ℕ → List Op → Made
body_code place k table n [] = record { ops = []; seat = seat_or (table 0) }
body_code place k table n (op ∷ ops) =
    if ends (out-Op op).what then record { ops = []; seat = seat_or (table (number_of (out-Op op).operands)) }
    else (let x = op_code place k table (out-Op op).what (out-Op op).operands in
    let rest = body_code place (k + length x.ops) (with_seat n x.seat table) (op_numbers op + n) ops in
    record { ops = x.ops ++ rest.ops; seat = rest.seat })

-- the elements of a section of the array with these dimensions that begins in this cell, or the body of an elemental
pub data Todo : Type 0 where
  elements : ℕ → List Dim → List Pick → Todo
  body : List Op → Todo

-- with the number of its value
pub record Task : Type 0 where
  pub number : ℕ
  pub todo : Todo

-- The registers `digits` have where the place stands in each dimension of the sections.
abbrev pub todo_code : List ℕ → ℕ → ℕ → Table → ℕ → Todo → Made
todo_code digits place k table n (elements first ds ps) = let x = section_code first ds ps digits k in record { ops = x.ops; seat = register x.reg }
todo_code digits place k table n (body ops) = body_code place k table (suc n) ops

pub record Coded : Type 0 where
  pub ops : List Micro
  pub table : Table

-- one after another, in printed order
abbrev pub tasks_code : List ℕ → ℕ → ℕ → Table → List Task → Coded
tasks_code digits place k table [] = record { ops = []; table = table }
tasks_code digits place k table (t ∷ ts) =
    let x = todo_code digits place k table t.number t.todo in
    let rest = tasks_code digits place (k + length x.ops) (with_seat t.number x.seat table) ts in
    record { ops = x.ops ++ rest.ops; table = rest.table }

-- all that a value is computed from, and then the value in a register
abbrev pub element_code : List ℕ → ℕ → ℕ → Table → ℕ → List Task → Fetched
element_code digits place k table v ts =
    let x = tasks_code digits place k table ts in
    let y = fetched place (k + length x.ops) (seat_or (x.table v)) in
    record { ops = x.ops ++ y.ops; reg = y.reg }

-- The digits come first, once for all sections. These sources have the extents of the sections.
abbrev pub value_code : List Source → ℕ → ℕ → Table → ℕ → List Task → Fetched
value_code counts place k table v ts =
    let x = digits counts place k in
    let y = element_code x.regs place (k + length x.ops) table v ts in
    record { ops = x.ops ++ y.ops; reg = y.reg }
