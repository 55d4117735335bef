-- The forms of the ops: their regions, operands and results.
use Rattle.std.specs.Prelude.{ℕ, suc, ◌*◌, ◌%◌, ◌==◌, nat_lt, nat_le, Bool, true, false, not, ◌&&◌, ◌||◌, List, [], ◌∷◌, length, Option, Some, None, ℤ, pos}
use Rattle.std.specs.List.{list_all}
use Rattle.ws_base.specs.Numbers.{in_range, default_half, int_eq}
use Rattle.hlfir_ops.specs.declared.kinds.Elem.{Elem}
use Rattle.hlfir_ops.specs.declared.kinds.Elem.TheVariants.{I32, I1}
use Rattle.hlfir_ops.specs.declared.kinds.ValueKind.{ValueKind}
use Rattle.hlfir_ops.specs.declared.kinds.ValueKind.TheVariants.{Scalar, Place, Declared, Allocatable, Section, Array}
use Rattle.hlfir_ops.specs.declared.what.SubKind.{SubKind}
use Rattle.hlfir_ops.specs.declared.what.SubKind.TheVariants as sub
use Rattle.hlfir_ops.specs.declared.what.ValueUnary.{ValueUnary}
use Rattle.hlfir_ops.specs.declared.what.ValueUnary.TheVariants as unary
use Rattle.hlfir_ops.specs.declared.what.ValueBinary.{ValueBinary}
use Rattle.hlfir_ops.specs.declared.what.ValueBinary.TheVariants as binary
use Rattle.hlfir_ops.specs.declared.what.Reduction.{Reduction}
use Rattle.hlfir_ops.specs.declared.what.Reduction.TheVariants as reduction
use Rattle.hlfir_ops.specs.declared.what.What.{What}
use Rattle.hlfir_ops.specs.declared.what.What.TheVariants as what
use Rattle.hlfir_ops.specs.declared.op.ValueId.{ValueId}
use Rattle.hlfir_ops.specs.declared.op.Op.{Op, out-Op}
use Rattle.hlfir_ops.specs.declared.op.Region.{Region}
use Rattle.hlfir_ops.specs.RulesValues.{Value, value_at, kind_at, same_elem, elem_of, rank_of, is_scalar, is_place, is_allocatable, is_reference, is_array, has_elem, has_rank, is_index_vector, is_integer_declare, is_allocatable_declare}
use Rattle.hlfir_ops.specs.RulesRegions.{ops_in, parts_in, first_kind, is_apply}

-- ---- regions

-- An op of this sort has so many regions. The third one of a where holds its elsewheres; the first one of two of an elsewhere is its mask.
abbrev pub has_regions : What → ℕ → Bool
has_regions (what.Declare name) n = n == 0
has_regions (what.Assign realloc) n = n == 2
has_regions what.Masked n = n == 2 || n == 3
has_regions what.Elsewhere n = n == 1 || n == 2
has_regions (what.Forall names) n = n == 2
has_regions what.ForallMask n = n == 1
has_regions what.Workshare n = n == 1
has_regions what.DoLoop n = n == 2
has_regions (what.Allocmem also) n = n == 1
has_regions (what.Freemem also) n = n == 0
has_regions (what.Read also) n = n == 1
has_regions what.Yield n = n == 0
has_regions what.YieldElement n = n == 0
has_regions (what.Constant c) n = n == 0
has_regions (what.Unary op) n = n == 0
has_regions (what.Binary op) n = n == 0
has_regions what.Select n = n == 0
has_regions what.Load n = n == 0
has_regions what.Boxed n = n == 0
has_regions (what.Bound word dim) n = n == 0
has_regions what.Size n = n == 0
has_regions what.Allocated n = n == 0
has_regions (what.Designate subs) n = n == 0
has_regions what.Vector n = n == 0
has_regions what.AsExpr n = n == 0
has_regions what.Elemental n = n == 1
has_regions what.Apply n = n == 0
has_regions (what.Reduce r) n = n == 0

-- ---- operands

-- the kind of the only operand
abbrev pub only_kind : List Value → List ValueId → Option ValueKind
only_kind vs (v ∷ []) = kind_at vs v
only_kind vs _ = None

abbrev pub only_value : List Value → List ValueId → Option Value
only_value vs (v ∷ []) = value_at vs v
only_value vs _ = None

abbrev pub are_two : Elem → List Value → List ValueId → Bool
are_two e vs (a ∷ b ∷ []) = is_scalar e (kind_at vs a) && is_scalar e (kind_at vs b)
are_two e vs _ = false

abbrev pub same_scalars : Option ValueKind → Option ValueKind → Bool
same_scalars (Some (Scalar e)) (Some (Scalar f)) = same_elem e f
same_scalars _ _ = false

-- a truth value, and two scalars of one kind
abbrev pub are_choices : List Value → List ValueId → Bool
are_choices vs (m ∷ t ∷ f ∷ []) = is_scalar I1 (kind_at vs m) && same_scalars (kind_at vs t) (kind_at vs f)
are_choices vs _ = false

-- one or more scalars of one kind
abbrev pub are_items : List Value → List ValueId → Bool
are_items vs [] = false
are_items vs (v ∷ more) = list_all (λ w. same_scalars (kind_at vs v) (kind_at vs w)) (v ∷ more)

-- these subscripts take these operands
abbrev pub take_subscripts : List Value → List SubKind → List ValueId → Bool
take_subscripts vs [] [] = true
take_subscripts vs (sub.One ∷ subs) (i ∷ more) = is_scalar I32 (kind_at vs i) && take_subscripts vs subs more
take_subscripts vs (sub.Range ∷ subs) (l ∷ u ∷ s ∷ more) = is_scalar I32 (kind_at vs l) && is_scalar I32 (kind_at vs u) && is_scalar I32 (kind_at vs s) && take_subscripts vs subs more
take_subscripts vs (sub.Vector ∷ subs) (v ∷ more) = is_index_vector (kind_at vs v) && take_subscripts vs subs more
take_subscripts vs _ _ = false

-- a reference, and subscripts for each of its dimensions
abbrev pub are_designator : List Value → List SubKind → List ValueId → Bool
are_designator vs subs (r ∷ more) = is_reference (kind_at vs r) && has_rank (length subs) (kind_at vs r) && take_subscripts vs subs more
are_designator vs subs [] = false

abbrev pub has_dimension : ℕ → Option ValueKind → Bool
has_dimension dim (Some k) = nat_lt 0 dim && nat_le dim (rank_of k)
has_dimension dim None = false

abbrev pub unary_elem : ValueUnary → Elem
unary_elem unary.Neg = I32
unary_elem unary.Abs = I32
unary_elem unary.Not = I1

abbrev pub operand_elem : ValueBinary → Elem
operand_elem binary.Add = I32
operand_elem binary.Sub = I32
operand_elem binary.Mul = I32
operand_elem binary.Div = I32
operand_elem binary.Min = I32
operand_elem binary.Max = I32
operand_elem binary.Pow = I32
operand_elem binary.Mod = I32
operand_elem binary.Modulo = I32
operand_elem binary.Eq = I32
operand_elem binary.Ne = I32
operand_elem binary.Lt = I32
operand_elem binary.Le = I32
operand_elem binary.Gt = I32
operand_elem binary.Ge = I32
operand_elem binary.And = I1
operand_elem binary.Or = I1
operand_elem binary.Eqv = I1
operand_elem binary.Neqv = I1

-- SUM, PRODUCT, MINVAL and MAXVAL take integers, COUNT, ANY and ALL truth values.
abbrev pub reduced_elem : Reduction → Elem
reduced_elem reduction.Sum = I32
reduced_elem reduction.Product = I32
reduced_elem reduction.Minval = I32
reduced_elem reduction.Maxval = I32
reduced_elem reduction.Count = I1
reduced_elem reduction.Any = I1
reduced_elem reduction.All = I1

abbrev pub is_reduced : Reduction → Option ValueKind → Bool
is_reduced r k = is_array k && has_elem (reduced_elem r) k

abbrev pub rank_of_value : Option Value → ℕ
rank_of_value (Some v) = rank_of v.kind
rank_of_value None = 0

-- A pair of bounds for each dimension of the allocatable. An odd number of them is no fault of the operands.
abbrev pub has_pairs : Option Value → ℕ → Bool
has_pairs v n = not (n % 2 == 0) || n == rank_of_value v * 2

-- an allocatable's declare, and its bounds
abbrev pub takes_bounds : List Value → List ValueId → List Region → Bool
takes_bounds vs os rs = is_allocatable_declare (only_value vs os) && has_pairs (only_value vs os) (length (parts_in rs 0))

-- a reference that has this dimension
abbrev pub takes_dimension : List Value → ℕ → List ValueId → Bool
takes_dimension vs dim os = is_reference (only_kind vs os) && has_dimension dim (only_kind vs os)

-- The operands of an op, of which this is said whether it stands in an elemental. Those of a yield are judged with its region.
abbrev pub takes : Bool → List Value → What → List ValueId → List Region → Bool
takes elemental vs (what.Declare name) os rs = length os == 0
takes elemental vs (what.Assign realloc) os rs = length os == 0
takes elemental vs what.Masked os rs = length os == 0
takes elemental vs what.Elsewhere os rs = length os == 0
takes elemental vs (what.Forall names) os rs = length os == 0
takes elemental vs what.ForallMask os rs = length os == 0
takes elemental vs what.Workshare os rs = length os == 0
takes elemental vs what.DoLoop os rs = is_integer_declare (only_value vs os)
takes elemental vs (what.Allocmem also) os rs = takes_bounds vs os rs
takes elemental vs (what.Freemem also) os rs = is_allocatable_declare (only_value vs os)
takes elemental vs (what.Read also) os rs = length os == 0
takes elemental vs what.Yield os rs = true
takes elemental vs what.YieldElement os rs = length os == 1
takes elemental vs (what.Constant c) os rs = length os == 0
takes elemental vs (what.Unary op) os rs = is_scalar (unary_elem op) (only_kind vs os)
takes elemental vs (what.Binary op) os rs = are_two (operand_elem op) vs os
takes elemental vs what.Select os rs = are_choices vs os
takes elemental vs what.Load os rs = is_place (only_kind vs os)
takes elemental vs what.Boxed os rs = is_allocatable (only_kind vs os)
takes elemental vs (what.Bound word dim) os rs = takes_dimension vs dim os
takes elemental vs what.Size os rs = is_reference (only_kind vs os)
takes elemental vs what.Allocated os rs = is_allocatable (only_kind vs os)
takes elemental vs (what.Designate subs) os rs = are_designator vs subs os
takes elemental vs what.Vector os rs = are_items vs os
takes elemental vs what.AsExpr os rs = is_reference (only_kind vs os)
takes elemental vs what.Elemental os rs = length os == 0
takes elemental vs what.Apply os rs = elemental && is_array (only_kind vs os)
takes elemental vs (what.Reduce r) os rs = is_reduced r (only_kind vs os)

-- A where has no third region without an elsewhere.
abbrev pub is_filled_where : What → List Region → Bool
is_filled_where what.Masked rs = not (length rs == 3) || nat_lt 0 (length (ops_in rs 2))
is_filled_where _ rs = true

-- ---- results

-- what a declare gives: a scalar's place, an array or an allocatable
abbrev pub is_variable : Option ValueKind → Bool
is_variable (Some (Place e)) = true
is_variable (Some (Declared e shape)) = nat_lt 0 shape.rank
is_variable (Some (Allocatable e rank)) = nat_lt 0 rank
is_variable _ = false

abbrev pub is_none : Option ValueKind → Bool
is_none None = true
is_none (Some k) = false

-- the kind has this value
abbrev pub has_constant : ℤ → Option ValueKind → Bool
has_constant c (Some (Scalar I32)) = in_range default_half c
has_constant c (Some (Scalar I1)) = int_eq c (pos 0) || int_eq c (pos 1)
has_constant c _ = false

abbrev pub result_elem : ValueBinary → Elem
result_elem binary.Add = I32
result_elem binary.Sub = I32
result_elem binary.Mul = I32
result_elem binary.Div = I32
result_elem binary.Min = I32
result_elem binary.Max = I32
result_elem binary.Pow = I32
result_elem binary.Mod = I32
result_elem binary.Modulo = I32
result_elem binary.Eq = I1
result_elem binary.Ne = I1
result_elem binary.Lt = I1
result_elem binary.Le = I1
result_elem binary.Gt = I1
result_elem binary.Ge = I1
result_elem binary.And = I1
result_elem binary.Or = I1
result_elem binary.Eqv = I1
result_elem binary.Neqv = I1

abbrev pub total_elem : Reduction → Elem
total_elem reduction.Sum = I32
total_elem reduction.Product = I32
total_elem reduction.Minval = I32
total_elem reduction.Maxval = I32
total_elem reduction.Count = I32
total_elem reduction.Any = I1
total_elem reduction.All = I1

-- a scalar of the type of this operand
abbrev pub is_scalar_of : Option ValueKind → Option ValueKind → Bool
is_scalar_of (Some o) k = is_scalar (elem_of o) k
is_scalar_of None k = false

abbrev pub second_kind : List Value → List ValueId → Option ValueKind
second_kind vs (a ∷ b ∷ more) = kind_at vs b
second_kind vs _ = None

-- an allocatable of the operand's type and rank
abbrev pub is_boxed : Option ValueKind → Option ValueKind → Bool
is_boxed (Some o) (Some (Allocatable e rank)) = same_elem (elem_of o) e && rank == rank_of o
is_boxed _ _ = false

-- an array value of the operand's type and of this rank
abbrev pub is_array_of : Option ValueKind → ℕ → Option ValueKind → Bool
is_array_of (Some o) n (Some (Array e rank)) = same_elem (elem_of o) e && rank == n
is_array_of _ n _ = false

abbrev pub rank_of_kind : Option ValueKind → ℕ
rank_of_kind (Some k) = rank_of k
rank_of_kind None = 0

-- how many subscripts are no scalar
abbrev pub section_rank : List SubKind → ℕ
section_rank [] = 0
section_rank (sub.One ∷ subs) = section_rank subs
section_rank (sub.Range ∷ subs) = suc (section_rank subs)
section_rank (sub.Vector ∷ subs) = suc (section_rank subs)

-- the part of this array that a designator of this rank gives: an element's place, or a section
abbrev pub is_part_of : Option ValueKind → ℕ → Option ValueKind → Bool
is_part_of (Some o) n (Some (Place e)) = same_elem (elem_of o) e && n == 0
is_part_of (Some o) n (Some (Section e rank)) = same_elem (elem_of o) e && nat_lt 0 n && rank == n
is_part_of _ n _ = false

-- An apply takes arrays of this rank.
abbrev pub applies_rank : List Value → ℕ → Op → Bool
applies_rank vs n op = not (is_apply (out-Op op).what) || list_all (λ v. has_rank n (kind_at vs v)) (out-Op op).operands

-- what an elemental with this body gives
abbrev pub is_elemental_of : List Value → List Op → Option ValueKind → Option ValueKind → Bool
is_elemental_of vs ops (Some o) (Some (Array e rank)) = same_elem (elem_of o) e && nat_lt 0 rank && list_all (applies_rank vs rank) ops
is_elemental_of vs ops _ _ = false

-- The result of an op is the one that its form gives.
abbrev pub gives : List Value → What → List ValueId → Option ValueKind → List Region → Bool
gives vs (what.Declare name) os k rs = is_variable k
gives vs (what.Assign realloc) os k rs = is_none k
gives vs what.Masked os k rs = is_none k
gives vs what.Elsewhere os k rs = is_none k
gives vs (what.Forall names) os k rs = is_none k
gives vs what.ForallMask os k rs = is_none k
gives vs what.Workshare os k rs = is_none k
gives vs what.DoLoop os k rs = is_none k
gives vs (what.Allocmem also) os k rs = is_none k
gives vs (what.Freemem also) os k rs = is_none k
gives vs (what.Read also) os k rs = is_none k
gives vs what.Yield os k rs = is_none k
gives vs what.YieldElement os k rs = is_none k
gives vs (what.Constant c) os k rs = has_constant c k
gives vs (what.Unary op) os k rs = is_scalar (unary_elem op) k
gives vs (what.Binary op) os k rs = is_scalar (result_elem op) k
gives vs what.Select os k rs = is_scalar_of (second_kind vs os) k
gives vs what.Load os k rs = is_scalar_of (first_kind vs os) k
gives vs what.Boxed os k rs = is_boxed (first_kind vs os) k
gives vs (what.Bound word dim) os k rs = is_scalar I32 k
gives vs what.Size os k rs = is_scalar I32 k
gives vs what.Allocated os k rs = is_scalar I1 k
gives vs (what.Designate subs) os k rs = is_part_of (first_kind vs os) (section_rank subs) k
gives vs what.Vector os k rs = is_array_of (first_kind vs os) 1 k
gives vs what.AsExpr os k rs = is_array_of (first_kind vs os) (rank_of_kind (first_kind vs os)) k
gives vs what.Elemental os k rs = is_elemental_of vs (ops_in rs 0) (first_kind vs (parts_in rs 0)) k
gives vs what.Apply os k rs = is_scalar_of (first_kind vs os) k
gives vs (what.Reduce r) os k rs = is_scalar (total_elem r) k
