-- What the rules ask of the values of a module: the kind of each, and what sort of op gives it.
use Rattle.std.specs.Prelude.{ℕ, suc, ◌==◌, ◌&&◌, nat_lt, Bool, true, false, not, List, [], ◌∷◌, ◌++◌, map, Option, Some, None, slice_get}
use mathlib.Core.Former.{Count}
use Rattle.ws_base.specs.declared.name.Name.{Name}
use Rattle.hlfir_ops.specs.declared.kinds.Elem.{Elem}
use Rattle.hlfir_ops.specs.declared.kinds.Elem.TheVariants.{I32, I1}
use Rattle.hlfir_ops.specs.declared.kinds.ValueKind.{ValueKind}
use Rattle.hlfir_ops.specs.declared.kinds.ValueKind.TheVariants.{Scalar, Place, Declared, Allocatable, Section, Array}
use Rattle.hlfir_ops.specs.declared.what.What.{What}
use Rattle.hlfir_ops.specs.declared.op.ValueId.{ValueId}
use Rattle.hlfir_ops.specs.declared.op.Op.{Op, Op'}
use Rattle.hlfir_ops.specs.declared.op.Region.{Region, Region', out-Region}
pub use Rattle.hlfir_ops.specs.Sorts.{Source, Declares, Designates, Lists, Other, is_vector, has_vector}
use Rattle.hlfir_ops.specs.Sorts.{sort_of}
use Rattle.hlfir_ops.specs.Trees.{Ops, end_ops, more_ops, Regions, end_regions, more_regions}
use Rattle.hlfir_ops.specs.Numbers.{names_in, kind_of_name}

-- ---- what gives a value

pub record Value : Type 0 where
  pub kind : ValueKind
  pub source : Source

abbrev pub source_of : What → Source
source_of w = (sort_of w).source

abbrev pub is_declares : Source → Bool
is_declares Declares = true
is_declares (Designates vector) = false
is_declares Lists = false
is_declares Other = false

abbrev pub is_designates : Source → Bool
is_designates Declares = false
is_designates (Designates vector) = true
is_designates Lists = false
is_designates Other = false

abbrev pub has_vector_source : Source → Bool
has_vector_source Declares = false
has_vector_source (Designates vector) = vector
has_vector_source Lists = false
has_vector_source Other = false

abbrev pub is_lists : Source → Bool
is_lists Declares = false
is_lists (Designates vector) = false
is_lists Lists = true
is_lists Other = false

-- ---- the values in the order of their numbers

abbrev pub own_values : What → Option ValueKind → List Value
own_values w (Some kind) = (record { kind = kind; source = source_of w }) ∷ []
own_values w None = []

abbrev pub value_of_name : Name → Value
value_of_name name = record { kind = kind_of_name name; source = Other }

abbrev mutual
  pub op_values : Op → List Value
  op_values (Op' w line operands kind _ regions) = own_values w kind ++ regions_values w 0 regions

  pub regions_values : {m : Count} → What → ℕ → Regions m → List Value
  regions_values w k end_regions = []
  regions_values w k (more_regions (Region' _ ops) regions) = (map value_of_name (names_in w k) ++ ops_values ops) ++ regions_values w (suc k) regions

  pub ops_values : {m : Count} → Ops m → List Value
  ops_values end_ops = []
  ops_values (more_ops op ops) = op_values op ++ ops_values ops

abbrev pub values_of : List Op → List Value
values_of [] = []
values_of (op ∷ ops) = op_values op ++ values_of ops

-- the same over the list of an op's regions
abbrev pub values_in : What → ℕ → List Region → List Value
values_in w k [] = []
values_in w k (region ∷ regions) = (map value_of_name (names_in w k) ++ values_of (out-Region region).ops) ++ values_in w (suc k) regions

-- ---- the value of a number, wherever it stands in the module

abbrev pub value_at : List Value → ValueId → Option Value
value_at vs v = slice_get vs v.number

abbrev pub kind_of : Option Value → Option ValueKind
kind_of (Some v) = Some v.kind
kind_of None = None

abbrev pub kind_at : List Value → ValueId → Option ValueKind
kind_at vs v = kind_of (value_at vs v)

-- ---- kinds

abbrev pub same_elem : Elem → Elem → Bool
same_elem I32 I32 = true
same_elem I32 I1 = false
same_elem I1 I32 = false
same_elem I1 I1 = true

abbrev pub elem_of : ValueKind → Elem
elem_of (Scalar e) = e
elem_of (Place e) = e
elem_of (Declared e shape) = e
elem_of (Allocatable e rank) = e
elem_of (Section e rank) = e
elem_of (Array e rank) = e

abbrev pub rank_of : ValueKind → ℕ
rank_of (Scalar e) = 0
rank_of (Place e) = 0
rank_of (Declared e shape) = shape.rank
rank_of (Allocatable e rank) = rank
rank_of (Section e rank) = rank
rank_of (Array e rank) = rank

-- a scalar value of this type
abbrev pub is_scalar : Elem → Option ValueKind → Bool
is_scalar e (Some (Scalar f)) = same_elem e f
is_scalar e _ = false

abbrev pub is_place_of : Elem → ValueKind → Bool
is_place_of e (Place f) = same_elem e f
is_place_of e _ = false

abbrev pub is_place : Option ValueKind → Bool
is_place (Some (Place e)) = true
is_place _ = false

abbrev pub is_allocatable : Option ValueKind → Bool
is_allocatable (Some (Allocatable e rank)) = true
is_allocatable _ = false

-- a reference to an array
abbrev pub is_reference : Option ValueKind → Bool
is_reference (Some (Declared e shape)) = true
is_reference (Some (Allocatable e rank)) = true
is_reference _ = false

-- a reference to an array, a section or an array value
abbrev pub is_array : Option ValueKind → Bool
is_array (Some (Scalar e)) = false
is_array (Some (Place e)) = false
is_array (Some _) = true
is_array None = false

-- what an assignment or a read may fill: a reference or a section
abbrev pub is_target : Option ValueKind → Bool
is_target (Some (Scalar e)) = false
is_target (Some (Array e rank)) = false
is_target (Some _) = true
is_target None = false

-- the value of an array expression
abbrev pub is_expression : Option ValueKind → Bool
is_expression (Some (Array e rank)) = true
is_expression _ = false

abbrev pub is_section : Option ValueKind → Bool
is_section (Some (Section e rank)) = true
is_section _ = false

abbrev pub has_elem : Elem → Option ValueKind → Bool
has_elem e (Some k) = same_elem e (elem_of k)
has_elem e None = false

abbrev pub has_rank : ℕ → Option ValueKind → Bool
has_rank n (Some k) = rank_of k == n
has_rank n None = false

-- a vector of subscripts
abbrev pub is_index_vector : Option ValueKind → Bool
is_index_vector k = is_array k && has_elem I32 k && has_rank 1 k

-- what the mask of a WHERE gives: truth values of a rank above 0
abbrev pub is_mask : Option ValueKind → Bool
is_mask (Some k) = same_elem I1 (elem_of k) && nat_lt 0 (rank_of k)
is_mask None = false

-- ---- what gives the value

-- the declare of an INTEGER scalar
abbrev pub is_integer_declare : Option Value → Bool
is_integer_declare (Some v) = is_declares v.source && is_place_of I32 v.kind
is_integer_declare None = false

-- the declare of an allocatable
abbrev pub is_allocatable_declare : Option Value → Bool
is_allocatable_declare (Some v) = is_declares v.source && is_allocatable (Some v.kind)
is_allocatable_declare None = false

abbrev pub is_designate : Option Value → Bool
is_designate (Some v) = is_designates v.source
is_designate None = false

-- a designator with a vector subscript
abbrev pub is_vector_designate : Option Value → Bool
is_vector_designate (Some v) = has_vector_source v.source
is_vector_designate None = false

-- As a vector subscript this array is evaluated whole: it is neither a designator nor a constructor.
abbrev pub is_whole : Option Value → Bool
is_whole (Some v) = is_expression (Some v.kind) && not (is_lists v.source)
is_whole None = false
