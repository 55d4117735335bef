-- Stage 1: what has one value for the whole step, op by op in printed order.
use Rattle.std.specs.Prelude.{ℕ, Bool, true, false, if◌then◌else◌, List, [], ◌∷◌, ◌++◌, map, length, Ok, ℤ}
use Rattle.std.specs.List.{flat_map}
use Rattle.ws_base.specs.Numbers.{default_half, reduction}
use Rattle.ws_base.specs.Outcomes.{Staged, scalar_of, ◌>>=◌}
use Rattle.ws_space.specs.declared.shape.Triplet.{Triplet}
use Rattle.ws_space.specs.Shapes.{Extents, dims}
use Rattle.ws_space.specs.Values.{element, is_among}
use Rattle.ws_space.specs.Sections.{limited}
use Rattle.hlfir_ops.specs.declared.what.SubKind.{SubKind}
use Rattle.hlfir_ops.specs.declared.what.SubKind.TheVariants as sub
use Rattle.hlfir_ops.specs.declared.what.Reduction.{Reduction}
use Rattle.hlfir_ops.specs.declared.what.What.{What}
use Rattle.hlfir_ops.specs.declared.what.What.TheVariants as what
use Rattle.hlfir_ops.specs.declared.op.ValueId.{ValueId}
use Rattle.hlfir_ops.specs.declared.op.Op.{Op, out-Op}
use Rattle.hlfir_ops.specs.declared.op.Region.{Region}
use Rattle.hlfir_ops.specs.Sorts.{Settles, SettlesNothing, SettlesCopy, SettlesElements, sort_of}
use Rattle.hlfir_ops.specs.RulesRegions.{ops_in, is_apply}
use Rattle.hlfir_meaning.specs.Environments.{Selection, complete, one, range, listed, through, Deferred, body_of, Value, scalar, array, part, computed, Environment, with_value, standing, OpRegion, Yielded, yielding, result, operand, scalar_in, variable_in, state_in}
use Rattle.hlfir_meaning.specs.Operators.{Operation, unary_operation, binary_operation, select_operation, mask_last, reduction_word, operation_value}
use Rattle.hlfir_meaning.specs.References.{allocated, held_extents, held_scalar, held_values, inquired}
use Rattle.hlfir_meaning.specs.Selections.{first_extent, extents, checked, only}
use Rattle.hlfir_meaning.specs.Places.{rest_of}
use Rattle.hlfir_meaning.specs.Order.{in_order}
use Rattle.hlfir_meaning.specs.Stage2.{operands, deferred_by, together, whole}

-- ---- scalars

abbrev pub scalars : Environment → List ValueId → List ℤ
scalars env = map (λ v. scalar_in (standing env v))

abbrev pub as_scalar : Staged ℤ → Staged Value
as_scalar z = z >>= (λ v. Ok (scalar v))

abbrev pub operated : Operation → List ℤ → Staged Value
operated o vs = as_scalar (scalar_of (operation_value o vs))

-- of an element, or of a scalar variable
abbrev pub loaded : Value → Staged ℤ
loaded (part v a s) = scalar_of (element a (only s))
loaded x = Ok (held_scalar (state_in x))

-- all of the argument's own conformance and stage 2, and then the exact total
abbrev pub reduced : Reduction → Yielded → Staged Value
reduced r y = do
  xs ← whole y
  as_scalar (scalar_of (reduction default_half (reduction_word r) xs))

-- ---- references, arrays and designators

abbrev pub boxed : Value → Staged Value
boxed r = do
  a ← allocated (state_in r)
  Ok r

-- a constructor
abbrev pub vector : List ℤ → Value
vector xs = array (length xs ∷ []) xs

abbrev pub copied : Value → Value
copied r = array (held_extents (state_in r)) (held_values (state_in r))

-- a vector subscript: the elements of a section, or listed subscripts
abbrev pub with_vector : Value → Selection → Selection
with_vector (part v a s) rest = through a s rest
with_vector (array e xs) rest = listed (first_extent e) xs rest
with_vector x rest = listed (first_extent (held_extents (state_in x))) (held_values (state_in x)) rest

abbrev pub selection : Environment → List SubKind → List ValueId → Selection
selection env (sub.One ∷ ks) (i ∷ vs) = one (scalar_in (standing env i)) (selection env ks vs)
selection env (sub.Range ∷ ks) (l ∷ u ∷ s ∷ vs) = range (triplet env l u s) (selection env ks vs)
  where
    triplet : Environment → ValueId → ValueId → ValueId → Triplet
    triplet rho l u s = record { l = scalar_in (standing rho l); u = scalar_in (standing rho u); s = scalar_in (standing rho s) }
selection env (sub.Vector ∷ ks) (v ∷ vs) = with_vector (standing env v) (selection env ks vs)
selection env _ _ = complete

-- Bounds come dimension by dimension, and then the number of elements.
abbrev pub designator : Value → Selection → Staged Value
designator r selected = do
  a ← allocated (state_in r)
  s ← checked (dims a.shape) selected
  limited (extents s) (part (variable_in r) a s)

-- ---- elementals

abbrev pub applied : List Op → List ValueId
applied [] = []
applied (op ∷ ops) = if is_apply (out-Op op).what then (out-Op op).operands ++ applied ops else applied ops

abbrev pub operands_of : Environment → List ValueId → List Extents
operands_of env [] = []
operands_of env (v ∷ vs) = operands (standing env v) ++ operands_of env vs

abbrev pub deferred_in : Environment → List ValueId → List Deferred
deferred_in env [] = []
deferred_in env (v ∷ vs) = together (deferred_by v.number (standing env v)) (deferred_in env vs)

-- Its body is left for stage 2, after what is left of all that it applies.
abbrev pub elemental : ℕ → Environment → List Op → Value
elemental n env ops = computed (operands_of env (applied ops)) (deferred_in env (applied ops) ++ record { number = n; work = body_of ops } ∷ [])

-- ---- the walk

-- what an op gives, whose value has this number
abbrev pub made : ℕ → Environment → What → List ValueId → List Region → Staged Value
made n env (what.Constant c) os rs = Ok (scalar c)
made n env (what.Unary o) os rs = operated (unary_operation o) (scalars env os)
made n env (what.Binary o) os rs = operated (binary_operation o) (scalars env os)
made n env what.Select os rs = operated select_operation (mask_last (scalars env os))
made n env what.Load os rs = as_scalar (loaded (operand env os))
made n env what.Boxed os rs = boxed (operand env os)
made n env (what.Designate subs) os rs = designator (operand env os) (selection env subs (rest_of os))
made n env what.Vector os rs = Ok (vector (scalars env os))
made n env what.AsExpr os rs = Ok (copied (operand env os))
made n env what.Elemental os rs = Ok (elemental n env (ops_in rs 0))
made n env (what.Reduce r) os rs = reduced r (yielding env os)
made n env w os rs = as_scalar (inquired w (state_in (operand env os)))

-- the vector subscripts among the operands of a designator, by their numbers
abbrev pub vector_subscripts : List SubKind → List ValueId → List ℕ
vector_subscripts (sub.One ∷ ks) (i ∷ vs) = vector_subscripts ks vs
vector_subscripts (sub.Range ∷ ks) (l ∷ u ∷ s ∷ vs) = vector_subscripts ks vs
vector_subscripts (sub.Vector ∷ ks) (v ∷ vs) = v.number ∷ vector_subscripts ks vs
vector_subscripts _ _ = []

abbrev pub subscripts_in : What → List ValueId → List ℕ
subscripts_in (what.Designate subs) os = vector_subscripts subs (rest_of os)
subscripts_in _ os = []

abbrev pub subscript_numbers : List Op → List ℕ
subscript_numbers = flat_map (λ op. subscripts_in (out-Op op).what (out-Op op).operands)

-- An elemental or the copy of an array, as a vector subscript, is evaluated whole where it stands.
abbrev pub is_whole_as : Settles → Bool → Bool
is_whole_as SettlesNothing is_subscript = false
is_whole_as SettlesCopy is_subscript = is_subscript
is_whole_as SettlesElements is_subscript = is_subscript

abbrev pub is_whole : What → Bool → Bool
is_whole w is_subscript = is_whole_as (sort_of w).settles is_subscript

abbrev pub settled : Bool → Yielded → Staged Value
settled true y = whole y >>= (λ xs. Ok (vector xs))
settled false y = Ok (result y)

-- an op of a region in which the values with these numbers are vector subscripts
abbrev pub once : List ℕ → ℕ → Environment → Op → Staged Value
once vectors n env op = do
  x ← made n env (out-Op op).what (out-Op op).operands (out-Op op).regions
  settled (is_whole (out-Op op).what (is_among n vectors)) (yielding (with_value n x env) (record { number = n } ∷ []))

abbrev pub stage1 : List ℕ → ℕ → Environment → List Op → Staged Yielded
stage1 vectors = in_order (once vectors)

-- a region that is evaluated once
abbrev pub walk : Environment → OpRegion → Staged Yielded
walk env r = stage1 (subscript_numbers r.ops) r.first env r.ops
