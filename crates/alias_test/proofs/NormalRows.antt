-- Values of small modules and their normal forms.
use Rattle.std.proofs.Common.{◌≡◌, refl, ℕ, true, false, List, [], ◌∷◌, map, Some, None, ℤ, pos, negsuc}
use Rattle.ws_base.specs.declared.op.UnOp.TheVariants as sign
use Rattle.ws_base.specs.declared.op.BinOp.TheVariants as operator
use Rattle.ws_space.specs.declared.shape.Dim.{Dim}
use Rattle.ws_space.specs.Shapes.{shape_of}
use Rattle.hlfir_ops.specs.declared.kinds.Elem.TheVariants.{I32, I1}
use Rattle.hlfir_ops.specs.declared.kinds.ValueKind.{ValueKind}
use Rattle.hlfir_ops.specs.declared.kinds.ValueKind.TheVariants as kind
use Rattle.hlfir_ops.specs.declared.what.BoundWord.TheVariants as bound
use Rattle.hlfir_ops.specs.declared.what.ValueUnary.TheVariants as unary
use Rattle.hlfir_ops.specs.declared.what.ValueBinary.TheVariants as binary
use Rattle.hlfir_ops.specs.declared.what.SubKind.TheVariants as sub
use Rattle.hlfir_ops.specs.declared.what.What.{What}
use Rattle.hlfir_ops.specs.declared.what.What.TheVariants as what
use Rattle.hlfir_ops.specs.declared.op.Op.{Op}
use Rattle.hlfir_ops.specs.Trees.{op_of, region_of}
use Rattle.hlfir_ops.specs.Opened.{trees_open}
use Rattle.alias_test.specs.declared.designator.Sym.TheVariants as sym
use Rattle.alias_test.specs.declared.designator.Form.{Form}
use Rattle.alias_test.specs.declared.designator.Form.TheVariants.{Index, Range, OpaqueIndex, OpaqueRange, Vector}
use Rattle.alias_test.specs.Givers.{variable_of, givers_of}
use Rattle.alias_test.specs.Symbols.{symbol_of, symbol_at, parts_at, tree_at, trees_at}
use Rattle.alias_test.specs.Normal.{designator_at}

-- what lets the normal form compute on ops that are written out
unfoldable pub ops_open : Unit {0}
unfolding trees_open designator_at variable_of trees_at tree_at parts_at symbol_at symbol_of
    Rattle.hlfir_ops.specs.declared.op.Op.TheViews.out-Op Rattle.hlfir_ops.specs.declared.op.Op.TheViews.out-Region
    Rattle.hlfir_ops.specs.declared.op.Op.TheBlock.shown-the_row-Op-1 denote.Hole.Carrier.out denote.Hole.Carrier.shown
ops_open = tt

-- ---- short words for ops

abbrev pub gives : What → List ℕ → ValueKind → Op
gives w os k = op_of w 0 (map (λ n. record { number = n }) os) (Some k) []

abbrev i32 : ValueKind
i32 = kind.Scalar I32

abbrev i1 : ValueKind
i1 = kind.Scalar I1

abbrev pub number : ℕ → Op
number n = gives (what.Constant (pos n)) [] i32

abbrev dim : ℕ → ℕ → Dim
dim lower extent = record { lower = pos lower; extent = extent }

abbrev pub declares : ValueKind → Op
declares k = gives (what.Declare (97 ∷ [])) [] k

abbrev vector_kind : ValueKind
vector_kind = kind.Declared I32 (shape_of (dim 1 5 ∷ []))

abbrev section : ValueKind
section = kind.Section I32 1

abbrev pub range : List ℕ → Op
range os = gives (what.Designate (sub.Range ∷ [])) os section

abbrev pub element : List ℕ → Op
element os = gives (what.Designate (sub.One ∷ [])) os (kind.Place I32)

abbrev pub lower : ℕ → Op
lower n = gives (what.Bound bound.Lower 1) (n ∷ []) i32

abbrev pub upper : ℕ → Op
upper n = gives (what.Bound bound.Upper 1) (n ∷ []) i32

abbrev binary_op : ℕ → ℕ → Op
binary_op m n = gives (what.Binary binary.Add) (m ∷ n ∷ []) i32

abbrev triplet : ℤ → ℤ → ℤ → Form
triplet l u s = Range (record { l = l; u = u; s = s })

abbrev form_of : List Op → ℕ → List Form
form_of ops n = (designator_at (givers_of ops) n).forms

-- ---- whole variables

a_scalar : designator_at (givers_of (declares (kind.Place I32) ∷ [])) 0 ≡ record { var = 0; forms = [] }
unfolding ops_open
a_scalar = refl

a_declared_array : designator_at (givers_of (declares i32 ∷ declares (kind.Declared I32 (shape_of (dim 0 3 ∷ dim 1 4 ∷ []))) ∷ [])) 1 ≡ record { var = 1; forms = triplet (pos 0) (pos 2) (pos 1) ∷ triplet (pos 1) (pos 4) (pos 1) ∷ [] }
unfolding ops_open
a_declared_array = refl

-- a(-2147483648:-2147483649) has no last subscript that INTEGER has
past_integer : form_of (declares (kind.Declared I32 (shape_of (record { lower = negsuc 2147483647; extent = 0 } ∷ []))) ∷ []) 0 ≡ OpaqueRange (sym.Kept 0 1 false ∷ sym.Kept 0 1 true ∷ sym.Number (pos 1) ∷ []) ∷ []
unfolding ops_open
past_integer = refl

abbrev boxed : List Op
boxed = declares (kind.Allocatable I32 2) ∷ gives what.Boxed (0 ∷ []) (kind.Allocatable I32 2) ∷ []

an_allocatable : designator_at (givers_of boxed) 1 ≡
    record { var = 0; forms = OpaqueRange (sym.Kept 0 1 false ∷ sym.Kept 0 1 true ∷ sym.Number (pos 1) ∷ []) ∷ OpaqueRange (sym.Kept 0 2 false ∷ sym.Kept 0 2 true ∷ sym.Number (pos 1) ∷ []) ∷ [] }
unfolding ops_open
an_allocatable = refl

its_declare : form_of boxed 0 ≡ form_of boxed 1
unfolding ops_open
its_declare = refl

-- ---- constant subscripts of an array of five elements

an_element : form_of (declares vector_kind ∷ number 3 ∷ element (0 ∷ 1 ∷ []) ∷ []) 2 ≡ Index (pos 3) ∷ []
unfolding ops_open
an_element = refl

a_triplet : form_of (declares vector_kind ∷ number 2 ∷ number 5 ∷ number 1 ∷ range (0 ∷ 1 ∷ 2 ∷ 3 ∷ []) ∷ []) 4 ≡ triplet (pos 2) (pos 5) (pos 1) ∷ []
unfolding ops_open
a_triplet = refl

omitted_bounds : form_of (declares vector_kind ∷ lower 0 ∷ upper 0 ∷ number 2 ∷ range (0 ∷ 1 ∷ 2 ∷ 3 ∷ []) ∷ []) 4 ≡ triplet (pos 1) (pos 5) (pos 2) ∷ []
unfolding ops_open
omitted_bounds = refl

-- A stride of zero is no constant triplet.
no_stride : form_of (declares vector_kind ∷ number 2 ∷ number 5 ∷ number 0 ∷ range (0 ∷ 1 ∷ 2 ∷ 3 ∷ []) ∷ []) 4 ≡ OpaqueRange (sym.Number (pos 2) ∷ sym.Number (pos 5) ∷ sym.Number (pos 0) ∷ []) ∷ []
unfolding ops_open
no_stride = refl

-- A bound is a constant only as a part of a triplet.
a_bound_as_subscript : form_of (declares vector_kind ∷ upper 0 ∷ element (0 ∷ 1 ∷ []) ∷ []) 2 ≡ OpaqueIndex (sym.Kept 0 1 true ∷ []) ∷ []
unfolding ops_open
a_bound_as_subscript = refl

a_vector : form_of (declares vector_kind ∷ number 2 ∷ gives what.Vector (1 ∷ []) (kind.Array I32 1) ∷ gives (what.Designate (sub.Vector ∷ [])) (0 ∷ 2 ∷ []) section ∷ []) 3 ≡ Vector ∷ []
unfolding ops_open
a_vector = refl

-- ---- opaque subscripts

-- n, a, and a(n:) beside a(n:5)
abbrev from_n : List Op
from_n = declares (kind.Place I32) ∷ declares vector_kind ∷ gives what.Load (0 ∷ []) i32 ∷ upper 1 ∷ number 1 ∷ range (1 ∷ 2 ∷ 3 ∷ 4 ∷ []) ∷ number 5 ∷ range (1 ∷ 2 ∷ 6 ∷ 4 ∷ []) ∷ []

an_omitted_bound_is_kept : form_of from_n 5 ≡ OpaqueRange (sym.Scalar 0 ∷ sym.Kept 1 1 true ∷ sym.Number (pos 1) ∷ []) ∷ []
unfolding ops_open
an_omitted_bound_is_kept = refl

a_bound_that_stands_is_none : form_of from_n 7 ≡ OpaqueRange (sym.Scalar 0 ∷ sym.Number (pos 5) ∷ sym.Number (pos 1) ∷ []) ∷ []
unfolding ops_open
a_bound_that_stands_is_none = refl

-- a(:) of an allocatable
whole_by_triplet : form_of (declares (kind.Allocatable I32 1) ∷ gives what.Boxed (0 ∷ []) (kind.Allocatable I32 1) ∷ lower 1 ∷ upper 1 ∷ number 1 ∷ range (1 ∷ 2 ∷ 3 ∷ 4 ∷ []) ∷ []) 5 ≡
    OpaqueRange (sym.Kept 0 1 false ∷ sym.Kept 0 1 true ∷ sym.Number (pos 1) ∷ []) ∷ []
unfolding ops_open
whole_by_triplet = refl

-- a(-(n + 1))
an_expression : form_of (declares (kind.Place I32) ∷ declares vector_kind ∷ gives what.Load (0 ∷ []) i32 ∷ number 1 ∷ binary_op 2 3 ∷ gives (what.Unary unary.Neg) (4 ∷ []) i32 ∷ element (1 ∷ 5 ∷ []) ∷ []) 6 ≡
    OpaqueIndex (sym.Scalar 0 ∷ sym.Number (pos 1) ∷ sym.Binary operator.Add ∷ sym.Unary sign.Minus ∷ []) ∷ []
unfolding ops_open
an_expression = refl

-- a(abs(n) + a(1))
other_parts :
    form_of
    (declares (kind.Place I32) ∷ declares vector_kind ∷ gives what.Load (0 ∷ []) i32 ∷ gives (what.Unary unary.Abs) (2 ∷ []) i32 ∷ number 1 ∷ element (1 ∷ 4 ∷ []) ∷ gives what.Load (5 ∷ []) i32 ∷ binary_op 3 6
    ∷ element (1 ∷ 7 ∷ []) ∷ [])
    8 ≡ OpaqueIndex (sym.Other ∷ sym.Other ∷ sym.Binary operator.Add ∷ []) ∷ []
unfolding ops_open
other_parts = refl

-- A value that is used twice stands twice.
a_shared_value : form_of (declares (kind.Place I32) ∷ declares vector_kind ∷ gives what.Load (0 ∷ []) i32 ∷ binary_op 2 2 ∷ binary_op 3 3 ∷ element (1 ∷ 4 ∷ []) ∷ []) 5 ≡
    OpaqueIndex (sym.Scalar 0 ∷ sym.Scalar 0 ∷ sym.Binary operator.Add ∷ sym.Scalar 0 ∷ sym.Scalar 0 ∷ sym.Binary operator.Add ∷ sym.Binary operator.Add ∷ []) ∷ []
unfolding ops_open
a_shared_value = refl

-- size(a), size(a, 1), ubound(a, 1) and lbound(a, 1)
abbrev inquiry : What → List Form
inquiry w = form_of (declares vector_kind ∷ gives w (0 ∷ []) i32 ∷ element (0 ∷ 1 ∷ []) ∷ []) 2

inquiries : map inquiry (what.Size ∷ what.Bound bound.Extent 1 ∷ what.Bound bound.Ubound 1 ∷ what.Bound bound.Lbound 1 ∷ []) ≡
    (OpaqueIndex (sym.Size 0 0 ∷ []) ∷ []) ∷ (OpaqueIndex (sym.Size 0 1 ∷ []) ∷ []) ∷ (OpaqueIndex (sym.Bound 0 1 true ∷ []) ∷ []) ∷ (OpaqueIndex (sym.Bound 0 1 false ∷ []) ∷ []) ∷ []
unfolding ops_open
inquiries = refl

-- forall (i = 1:5) a(i) = 0, whose index name has the number 4
abbrev in_forall : List Op
in_forall = declares vector_kind
    ∷ op_of (what.Forall ((105 ∷ []) ∷ [])) 0 [] None
    (region_of (number 1 ∷ number 5 ∷ number 1 ∷ [])
    ∷ region_of (op_of (what.Assign false) 0 [] None (region_of (number 0 ∷ []) ∷ region_of (element (0 ∷ 4 ∷ []) ∷ []) ∷ []) ∷ [])
    ∷ [])
    ∷ []

an_index_name : form_of in_forall 6 ≡ OpaqueIndex (sym.Index 4 ∷ []) ∷ []
unfolding ops_open
an_index_name = refl

-- a(3, 1:2) of an array of rank 2
two_dimensions : form_of (declares (kind.Declared I32 (shape_of (dim 1 3 ∷ dim 1 4 ∷ []))) ∷ number 3 ∷ number 1 ∷ number 2 ∷ gives (what.Designate (sub.One ∷ sub.Range ∷ [])) (0 ∷ 1 ∷ 2 ∷ 3 ∷ 2 ∷ []) section ∷ []) 4 ≡
    Index (pos 3) ∷ triplet (pos 1) (pos 2) (pos 1) ∷ []
unfolding ops_open
two_dimensions = refl
