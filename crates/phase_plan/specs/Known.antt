-- What constants alone say of the values of a module: their shapes, and which of them are static.
use Rattle.std.specs.Prelude.{ℕ, nat_le, Bool, true, false, not, ◌&&◌, if◌then◌else◌, List, [], ◌∷◌, ◌++◌, map, length, Option, Some, None, ℤ, slice_get, slice_index_or}
use Rattle.std.specs.Option.{is_some}
use Rattle.std.specs.List.{list_all, flat_map}
use Rattle.ws_space.specs.declared.shape.Dim.{Dim}
use Rattle.ws_space.specs.declared.shape.Triplet.{Triplet}
use Rattle.ws_space.specs.declared.shape.TheConstants.{ELEMENT_LIMIT}
use Rattle.ws_space.specs.Shapes.{Extents, dims, extents_of, size, same_extents, count, within}
use Rattle.ws_space.specs.Sections.{ends_within}
use Rattle.hlfir_ops.specs.declared.kinds.ValueKind.{ValueKind}
use Rattle.hlfir_ops.specs.declared.kinds.ValueKind.TheVariants as kind
use Rattle.hlfir_ops.specs.declared.what.SubKind.{SubKind}
use Rattle.hlfir_ops.specs.declared.what.SubKind.TheVariants as sub
use Rattle.hlfir_ops.specs.declared.what.What.{What}
use Rattle.hlfir_ops.specs.declared.what.What.TheVariants as what
use Rattle.hlfir_ops.specs.declared.op.ValueId.{ValueId}
use Rattle.hlfir_ops.specs.declared.op.Op.{Op, out-Op}
use Rattle.hlfir_ops.specs.declared.op.Region.{Region}
use Rattle.hlfir_ops.specs.declared.op.Module.{Module}
use Rattle.hlfir_ops.specs.RulesValues.{is_section}
use Rattle.hlfir_ops.specs.RulesRegions.{ops_in}
use Rattle.hlfir_ops.specs.RulesPlaces.{module_sites}
use Rattle.alias_test.specs.Tables.{entries_before}
use Rattle.alias_test.specs.Givers.{givers_of, kind_given}
use Rattle.alias_test.specs.Laws.{is_declared}
use Rattle.alias_test.specs.Normal.{constant_at, fixed_by, fixed_at, constant_triplet}
use Rattle.hlfir_meaning.specs.Stage1.{subscript_numbers, is_whole}
use Rattle.assign_schedule.specs.Reads.{applied}

-- ---- shapes that constants give: [] of a scalar, and None where they give none

abbrev pub Shapes : Type 0
Shapes = List (Option Extents)

abbrev pub shape_in : Shapes → ValueId → Option Extents
shape_in before v = slice_index_or before v.number None

-- one shape of two operands; a scalar has any
abbrev pub agreeing : Option Extents → Option Extents → Option Extents
agreeing (Some []) f = f
agreeing e (Some []) = e
agreeing (Some e) (Some f) = if same_extents e f then Some e else None
agreeing _ _ = None

-- the one known shape of these operands
abbrev pub one_shape : Shapes → List ValueId → Option Extents
one_shape before [] = Some []
one_shape before (v ∷ vs) = agreeing (shape_in before v) (one_shape before vs)

abbrev pub beside : Option Extents → Option Extents → Option Extents
beside (Some e) (Some f) = Some (e ++ f)
beside _ _ = None

abbrev pub counted : Option Triplet → Option Extents
counted (Some t) = Some (count t ∷ [])
counted None = None

abbrev pub triplet_of : List Op → ValueId → ValueId → ValueId → Option Triplet
triplet_of gs l u s = constant_triplet (fixed_at gs l) (fixed_at gs u) (fixed_at gs s)

-- what these subscripts select
abbrev pub section_shape : List Op → Shapes → List SubKind → List ValueId → Option Extents
section_shape gs before (sub.One ∷ subs) (i ∷ more) = section_shape gs before subs more
section_shape gs before (sub.Range ∷ subs) (l ∷ u ∷ s ∷ more) = beside (counted (triplet_of gs l u s)) (section_shape gs before subs more)
section_shape gs before (sub.Vector ∷ subs) (v ∷ more) = beside (shape_in before v) (section_shape gs before subs more)
section_shape gs before subs os = Some []

-- The shape of a computed array is the one of the arrays from which it is computed. All values but arrays are scalars.
abbrev pub shape_by : List Op → Shapes → What → List ValueId → List Region → Option Extents
shape_by gs before (what.Declare name) os rs = Some []
shape_by gs before (what.Assign realloc) os rs = Some []
shape_by gs before what.Masked os rs = Some []
shape_by gs before what.Elsewhere os rs = Some []
shape_by gs before (what.Forall names) os rs = Some []
shape_by gs before what.ForallMask os rs = Some []
shape_by gs before what.Workshare os rs = Some []
shape_by gs before what.DoLoop os rs = Some []
shape_by gs before (what.Allocmem also) os rs = Some []
shape_by gs before (what.Freemem also) os rs = Some []
shape_by gs before (what.Read also) os rs = Some []
shape_by gs before what.Yield os rs = Some []
shape_by gs before what.YieldElement os rs = Some []
shape_by gs before (what.Constant c) os rs = Some []
shape_by gs before (what.Unary op) os rs = Some []
shape_by gs before (what.Binary op) os rs = Some []
shape_by gs before what.Select os rs = Some []
shape_by gs before what.Load os rs = Some []
shape_by gs before what.Boxed os rs = Some []
shape_by gs before (what.Bound word dim) os rs = Some []
shape_by gs before what.Size os rs = Some []
shape_by gs before what.Allocated os rs = Some []
shape_by gs before (what.Designate subs) (r ∷ more) rs = section_shape gs before subs more
shape_by gs before (what.Designate subs) [] rs = None
shape_by gs before what.Vector os rs = Some (length os ∷ [])
shape_by gs before what.AsExpr os rs = one_shape before os
shape_by gs before what.Elemental os rs = one_shape before (flat_map applied (ops_in rs 0))
shape_by gs before what.Apply os rs = Some []
shape_by gs before (what.Reduce reduction) os rs = Some []

abbrev pub shape_of : List Op → Shapes → Option ValueKind → Op → Option Extents
shape_of gs before (Some (kind.Declared e shape)) op = Some (extents_of (dims shape))
shape_of gs before (Some (kind.Allocatable e rank)) op = None
shape_of gs before k op = shape_by gs before (out-Op op).what (out-Op op).operands (out-Op op).regions

abbrev pub shape_given : List Op → Shapes → Option Op → Option Extents
shape_given gs before (Some op) = shape_of gs before (out-Op op).kind op
shape_given gs before None = None

abbrev pub shapes_of : List Op → Shapes
shapes_of gs = entries_before (λ n before. shape_given gs before (slice_get gs n)) (length gs)

-- ---- static values: items of stage 1 that cannot fail and are the same whenever they are evaluated, and array values of which all items are such

abbrev pub holds : Dim → Option ℤ → Bool
holds d (Some i) = within d i
holds d None = false

abbrev pub holds_ends : Dim → Option Triplet → Bool
holds_ends d (Some t) = ends_within d t
holds_ends d None = false

-- A computed array is evaluated whole where it is a subscript.
abbrev pub is_computed : Option Op → Bool
is_computed (Some op) = is_whole (out-Op op).what true
is_computed None = false

-- Inside an elemental its own values are no items, and not among those before it.
abbrev pub is_static_in : List Bool → ValueId → Bool
is_static_in before v = slice_index_or before v.number true

abbrev pub are_static_subscripts : List Op → List Bool → List Dim → List SubKind → List ValueId → Bool
are_static_subscripts gs before (d ∷ ds) (sub.One ∷ subs) (i ∷ more) = holds d (constant_at gs i) && are_static_subscripts gs before ds subs more
are_static_subscripts gs before (d ∷ ds) (sub.Range ∷ subs) (l ∷ u ∷ s ∷ more) = holds_ends d (triplet_of gs l u s) && are_static_subscripts gs before ds subs more
are_static_subscripts gs before (d ∷ ds) (sub.Vector ∷ subs) (v ∷ more) =
    is_static_in before v && not (is_computed (slice_get gs v.number)) && are_static_subscripts gs before ds subs more
are_static_subscripts gs before ds subs os = true

abbrev pub is_limited : Option Extents → Bool
is_limited (Some e) = nat_le (size e) ELEMENT_LIMIT
is_limited None = false

-- a section of a variable of this kind
abbrev pub is_static_section : List Op → Shapes → List Bool → Option ValueKind → List SubKind → List ValueId → Bool
is_static_section gs shapes before (Some (kind.Declared e shape)) subs os =
    are_static_subscripts gs before (dims shape) subs os && is_limited (section_shape gs shapes subs os)
is_static_section gs shapes before k subs os = false

abbrev pub has_declared_bounds : Option ValueKind → Bool
has_declared_bounds (Some (kind.Declared e shape)) = true
has_declared_bounds k = false

abbrev pub operands_inside : List Region → List ValueId
operands_inside rs = flat_map (λ op. (out-Op op).operands) (ops_in rs 0)

-- Constants are static, and so are the omitted bounds of arrays with declared bounds.
abbrev pub static_by : List Op → Shapes → List Bool → What → List ValueId → Option ValueKind → List Region → Bool
static_by gs shapes before (what.Declare name) os k rs = has_declared_bounds k
static_by gs shapes before (what.Assign realloc) os k rs = false
static_by gs shapes before what.Masked os k rs = false
static_by gs shapes before what.Elsewhere os k rs = false
static_by gs shapes before (what.Forall names) os k rs = false
static_by gs shapes before what.ForallMask os k rs = false
static_by gs shapes before what.Workshare os k rs = false
static_by gs shapes before what.DoLoop os k rs = false
static_by gs shapes before (what.Allocmem also) os k rs = false
static_by gs shapes before (what.Freemem also) os k rs = false
static_by gs shapes before (what.Read also) os k rs = false
static_by gs shapes before what.Yield os k rs = false
static_by gs shapes before what.YieldElement os k rs = false
static_by gs shapes before (what.Constant c) os k rs = true
static_by gs shapes before (what.Unary op) os k rs = false
static_by gs shapes before (what.Binary op) os k rs = false
static_by gs shapes before what.Select os k rs = false
static_by gs shapes before what.Load os k rs = list_all (λ r. is_declared (slice_get gs r.number)) os
static_by gs shapes before what.Boxed os k rs = false
static_by gs shapes before (what.Bound word dim) os k rs = is_some (fixed_by gs (what.Bound word dim) os)
static_by gs shapes before what.Size os k rs = false
static_by gs shapes before what.Allocated os k rs = false
static_by gs shapes before (what.Designate subs) (r ∷ more) k rs =
    is_section k && is_static_section gs shapes before (kind_given (slice_get gs r.number)) subs more
static_by gs shapes before (what.Designate subs) [] k rs = false
static_by gs shapes before what.Vector os k rs = list_all (λ v. is_some (constant_at gs v)) os
static_by gs shapes before what.AsExpr os k rs = list_all (is_static_in before) os
static_by gs shapes before what.Elemental os k rs = list_all (is_static_in before) (operands_inside rs)
static_by gs shapes before what.Apply os k rs = false
static_by gs shapes before (what.Reduce reduction) os k rs = list_all (is_static_in before) os && is_some (one_shape shapes os)

abbrev pub static_given : List Op → Shapes → List Bool → Option Op → Bool
static_given gs shapes before (Some op) = static_by gs shapes before (out-Op op).what (out-Op op).operands (out-Op op).kind (out-Op op).regions
static_given gs shapes before None = false

abbrev pub statics_of : List Op → Shapes → List Bool
statics_of gs shapes = entries_before (λ n before. static_given gs shapes before (slice_get gs n)) (length gs)

-- ---- a module

-- What is known of its values, by their numbers, and of the ops in printed order the number of the next value. `subscripts` are the vector subscripts of
-- designators.
pub record Known : Type 0 where
  pub givers : List Op
  pub shapes : Shapes
  pub statics : List Bool
  pub subscripts : List ℕ
  pub next : List ℕ

abbrev pub known_by : Module → List Op → Shapes → Known
known_by m gs shapes = record {
  givers = gs;
  shapes = shapes;
  statics = statics_of gs shapes;
  subscripts = subscript_numbers gs;
  next = map (λ s. s.place.number) (module_sites m);
}

abbrev pub known_of : Module → Known
known_of m = known_by m (givers_of m.ops) (shapes_of (givers_of m.ops))
