-- The normal form of designators: a form for each dimension.
use Rattle.std.specs.Prelude.{ℕ, zero, suc, true, false, if◌then◌else◌, List, [], ◌∷◌, map, Option, Some, None, ℤ, pos, slice_get}
use Rattle.ws_base.specs.Numbers.{int_eq, in_range, default_half}
use Rattle.ws_space.specs.declared.shape.Dim.{Dim}
use Rattle.ws_space.specs.declared.shape.Triplet.{Triplet}
use Rattle.ws_space.specs.Shapes.{dims, upper, places_from}
use Rattle.hlfir_ops.specs.declared.kinds.ValueKind.{ValueKind}
use Rattle.hlfir_ops.specs.declared.kinds.ValueKind.TheVariants as kind
use Rattle.hlfir_ops.specs.declared.what.BoundWord.{BoundWord}
use Rattle.hlfir_ops.specs.declared.what.BoundWord.TheVariants.{Lower, Upper}
use Rattle.hlfir_ops.specs.declared.what.SubKind.{SubKind}
use Rattle.hlfir_ops.specs.declared.what.SubKind.TheVariants as sub
use Rattle.hlfir_ops.specs.declared.what.What.{What}
use Rattle.hlfir_ops.specs.declared.what.What.TheVariants as what
use Rattle.hlfir_ops.specs.declared.op.ValueId.{ValueId}
use Rattle.hlfir_ops.specs.declared.op.Op.{Op, out-Op}
use Rattle.alias_test.specs.declared.designator.Sym.TheVariants.{Number, Kept}
use Rattle.alias_test.specs.declared.designator.Form.{Form}
use Rattle.alias_test.specs.declared.designator.Form.TheVariants.{Index, Range, OpaqueIndex, OpaqueRange, Vector}
use Rattle.alias_test.specs.declared.designator.Designator.{Designator}
use Rattle.alias_test.specs.Givers.{kind_given, variable_of}
use Rattle.alias_test.specs.Symbols.{Tree, trees_at}

-- ---- constants

-- a number that INTEGER has
abbrev pub integer : ℤ → Option ℤ
integer c = if in_range default_half c then Some c else None

-- the dimension of this number, counted from 1
abbrev pub dim_at : List Dim → ℕ → Option Dim
dim_at ds zero = None
dim_at ds (suc k) = slice_get ds k

abbrev pub lower_of : Option Dim → Option ℤ
lower_of (Some d) = Some d.lower
lower_of None = None

abbrev pub upper_of : Option Dim → Option ℤ
upper_of (Some d) = integer (upper d)
upper_of None = None

-- a bound of an array with declared bounds
abbrev pub declared_bound : BoundWord → ℕ → Option ValueKind → Option ℤ
declared_bound Lower dim (Some (kind.Declared e shape)) = lower_of (dim_at (dims shape) dim)
declared_bound Upper dim (Some (kind.Declared e shape)) = upper_of (dim_at (dims shape) dim)
declared_bound word dim k = None

-- a scalar subscript that is a constant
abbrev pub constant_by : What → Option ℤ
constant_by (what.Constant c) = integer c
constant_by w = None

-- In a triplet an omitted bound of an array with declared bounds is one too.
abbrev pub fixed_by : List Op → What → List ValueId → Option ℤ
fixed_by gs (what.Bound word dim) (r ∷ more) = declared_bound word dim (kind_given (slice_get gs r.number))
fixed_by gs w os = constant_by w

abbrev pub constant_given : Option Op → Option ℤ
constant_given (Some op) = constant_by (out-Op op).what
constant_given None = None

abbrev pub fixed_given : List Op → Option Op → Option ℤ
fixed_given gs (Some op) = fixed_by gs (out-Op op).what (out-Op op).operands
fixed_given gs None = None

abbrev pub constant_at : List Op → ValueId → Option ℤ
constant_at gs v = constant_given (slice_get gs v.number)

abbrev pub fixed_at : List Op → ValueId → Option ℤ
fixed_at gs v = fixed_given gs (slice_get gs v.number)

-- a triplet of constants whose stride is not 0
abbrev pub constant_triplet : Option ℤ → Option ℤ → Option ℤ → Option Triplet
constant_triplet (Some l) (Some u) (Some s) = if int_eq s (pos 0) then None else Some (record { l = l; u = u; s = s })
constant_triplet l u s = None

-- ---- the form of one dimension

abbrev pub index_form : Option ℤ → Tree → Form
index_form (Some c) tree = Index c
index_form None tree = OpaqueIndex tree

abbrev pub range_form : Option Triplet → Tree → Form
range_form (Some t) trees = Range t
range_form None trees = OpaqueRange trees

-- ---- designators with subscripts

-- the forms of these subscripts, which take these operands
abbrev pub forms_of : List Op → List SubKind → List ValueId → List Form
forms_of gs (sub.One ∷ subs) (i ∷ more) = index_form (constant_at gs i) (trees_at gs (i ∷ [])) ∷ forms_of gs subs more
forms_of gs (sub.Range ∷ subs) (l ∷ u ∷ s ∷ more) = range_form (constant_triplet (fixed_at gs l) (fixed_at gs u) (fixed_at gs s)) (trees_at gs (l ∷ u ∷ s ∷ [])) ∷ forms_of gs subs more
forms_of gs (sub.Vector ∷ subs) (v ∷ more) = Vector ∷ forms_of gs subs more
forms_of gs subs os = []

-- ---- whole variables, which are `:` in each dimension

-- from the kept lower bound of a dimension to its kept upper bound
abbrev pub kept_bounds : ℕ → ℕ → Tree
kept_bounds var dim = Kept var dim false ∷ Kept var dim true ∷ Number (pos 1) ∷ []

-- a whole dimension, of which these bounds are known
abbrev pub whole_form : ℕ → ℕ → Option ℤ → Option ℤ → Form
whole_form var dim l u = range_form (constant_triplet l u (Some (pos 1))) (kept_bounds var dim)

-- the dimensions from the one of this number on
abbrev pub declared_forms : ℕ → ℕ → List Dim → List Form
declared_forms var dim [] = []
declared_forms var dim (d ∷ ds) = whole_form var dim (Some d.lower) (integer (upper d)) ∷ declared_forms var (suc dim) ds

abbrev pub kept_forms : ℕ → ℕ → List Form
kept_forms var rank = map (λ dim. whole_form var dim None None) (places_from 1 rank)

-- A scalar has no dimension.
abbrev pub whole_forms : ℕ → Option ValueKind → List Form
whole_forms var (Some (kind.Declared e shape)) = declared_forms var 1 (dims shape)
whole_forms var (Some (kind.Allocatable e rank)) = kept_forms var rank
whole_forms var k = []

-- ---- the designator that a value is

abbrev pub whole_given : List Op → ℕ → Option ValueKind → Designator
whole_given gs n k = record { var = variable_of gs n; forms = whole_forms (variable_of gs n) k }

abbrev pub designator_by : List Op → ℕ → What → List ValueId → Option ValueKind → Designator
designator_by gs n (what.Designate subs) (r ∷ more) k = record { var = variable_of gs r.number; forms = forms_of gs subs more }
designator_by gs n w os k = whole_given gs n k

abbrev pub designator_given : List Op → ℕ → Option Op → Designator
designator_given gs n (Some op) = designator_by gs n (out-Op op).what (out-Op op).operands (out-Op op).kind
designator_given gs n None = record { var = n; forms = [] }

-- the value of this number, which one of these ops gives
unfoldable pub designator_at : List Op → ℕ → Designator
designator_at gs n = designator_given gs n (slice_get gs n)
