-- Short words for modules that are written out, and for what is decided for them.
use Rattle.std.proofs.Common.{ℕ, Bool, true, false, List, [], ◌∷◌, ◌++◌, map, Some, None, ℤ, pos}
use Rattle.ws_base.specs.declared.name.Name.{Name}
use Rattle.ws_space.specs.Shapes.{shape_of}
use Rattle.hlfir_ops.specs.declared.kinds.Elem.{Elem}
use Rattle.hlfir_ops.specs.declared.kinds.Elem.TheVariants.{I32, I1}
use Rattle.hlfir_ops.specs.declared.kinds.ValueKind.{ValueKind}
use Rattle.hlfir_ops.specs.declared.kinds.ValueKind.TheVariants as kind
use Rattle.hlfir_ops.specs.declared.what.SubKind.{SubKind}
use Rattle.hlfir_ops.specs.declared.what.SubKind.TheVariants as sub
use Rattle.hlfir_ops.specs.declared.what.ValueBinary.{ValueBinary}
use Rattle.hlfir_ops.specs.declared.what.ValueUnary.TheVariants as unary
use Rattle.hlfir_ops.specs.declared.what.What.{What}
use Rattle.hlfir_ops.specs.declared.what.What.TheVariants as what
use Rattle.hlfir_ops.specs.declared.op.ValueId.{ValueId}
use Rattle.hlfir_ops.specs.declared.op.Op.{Op}
use Rattle.hlfir_ops.specs.Trees.{op_of, region_of}
use Rattle.hlfir_ops.specs.Opened.{trees_open}
use Rattle.assign_schedule.specs.declared.entry.Planned.{Planned}
use Rattle.assign_schedule.specs.Saved.{saved}

-- what lets the decisions compute on a module that is written out
unfoldable pub ops_open : Unit {0}
unfolding trees_open Rattle.alias_test.specs.Relations.constants_of Rattle.alias_test.specs.Relations.same_range Rattle.alias_test.specs.Relations.relation Rattle.alias_test.specs.Normal.designator_at Rattle.alias_test.specs.Givers.variable_of
    Rattle.alias_test.specs.Symbols.trees_at Rattle.alias_test.specs.Symbols.tree_at Rattle.alias_test.specs.Symbols.parts_at Rattle.alias_test.specs.Symbols.symbol_of Rattle.alias_test.specs.Symbols.symbol_at
    Rattle.hlfir_ops.specs.declared.op.Op.TheViews.out-Op Rattle.hlfir_ops.specs.declared.op.Op.TheViews.out-Region
    Rattle.hlfir_ops.specs.declared.op.Op.TheBlock.shown-the_row-Op-1 denote.Hole.Carrier.out denote.Hole.Carrier.shown
ops_open = tt

-- ---- values

abbrev pub numbers : List ℕ → List ValueId
numbers = map (λ n. record { number = n })

abbrev pub gives : What → List ℕ → ValueKind → Op
gives w os k = op_of w 0 (numbers os) (Some k) []

abbrev pub i32 : ValueKind
i32 = kind.Scalar I32

abbrev pub i1 : ValueKind
i1 = kind.Scalar I1

abbrev pub integer : ℤ → Op
integer c = gives (what.Constant c) [] i32

abbrev pub number : ℕ → Op
number n = integer (pos n)

abbrev pub integers : List ℕ → List Op
integers = map number

-- an array constructor
abbrev pub vector : List ℕ → Op
vector os = gives what.Vector os (kind.Array I32 1)

abbrev pub load : ℕ → Op
load r = gives what.Load (r ∷ []) i32

abbrev pub section : List SubKind → List ℕ → Op
section subs os = gives (what.Designate subs) os (kind.Section I32 1)

abbrev pub triplet : List ℕ → Op
triplet = section (sub.Range ∷ [])

abbrev pub by_vector : ℕ → ℕ → Op
by_vector r v = section (sub.Vector ∷ []) (r ∷ v ∷ [])

abbrev pub element : ℕ → ℕ → Op
element r i = gives (what.Designate (sub.One ∷ [])) (r ∷ i ∷ []) (kind.Place I32)

abbrev pub operation : ValueBinary → ℕ → ℕ → Op
operation b x y = gives (what.Binary b) (x ∷ y ∷ []) i32

abbrev pub comparison : ValueBinary → ℕ → ℕ → Op
comparison b x y = gives (what.Binary b) (x ∷ y ∷ []) i1

abbrev pub apply : ℕ → Op
apply x = gives what.Apply (x ∷ []) i32

abbrev pub neg : ℕ → Op
neg x = gives (what.Unary unary.Neg) (x ∷ []) i32

-- the body of an elemental, and the value that it yields
abbrev pub elemental : Elem → List Op → ℕ → Op
elemental e ops x = op_of what.Elemental 0 [] (Some (kind.Array e 1)) (region_of (ops ++ op_of what.YieldElement 0 (numbers (x ∷ [])) None [] ∷ []) ∷ [])

-- ---- statements

abbrev pub yields : List Op → List ℕ → List Op
yields ops os = ops ++ op_of what.Yield 0 (numbers os) None [] ∷ []

abbrev pub declares : Name → ValueKind → Op
declares name k = gives (what.Declare name) [] k

abbrev pub array_kind : ℕ → ValueKind
array_kind n = kind.Declared I32 (shape_of (record { lower = pos 1; extent = n } ∷ []))

-- An array of so many elements, or a scalar.
abbrev pub array : ℕ → ℕ → Op
array name n = declares (name ∷ []) (array_kind n)

abbrev pub scalar : ℕ → Op
scalar name = declares (name ∷ []) (kind.Place I32)

abbrev pub assign : ℕ → List Op → List Op → Op
assign line right left = op_of (what.Assign false) line [] None (region_of right ∷ region_of left ∷ [])

-- without elsewhere, and with these
abbrev pub masked : ℕ → List Op → List Op → Op
masked line mask body = op_of what.Masked line [] None (region_of mask ∷ region_of body ∷ [])

abbrev pub masked_else : ℕ → List Op → List Op → List Op → Op
masked_else line mask body elses = op_of what.Masked line [] None (region_of mask ∷ region_of body ∷ region_of elses ∷ [])

abbrev pub elsewhere_masked : ℕ → List Op → List Op → Op
elsewhere_masked line mask body = op_of what.Elsewhere line [] None (region_of mask ∷ region_of body ∷ [])

abbrev pub elsewhere : ℕ → List Op → Op
elsewhere line body = op_of what.Elsewhere line [] None (region_of body ∷ [])

abbrev pub forall : ℕ → List Name → List Op → List Op → Op
forall line names header body = op_of (what.Forall names) line [] None (region_of header ∷ region_of body ∷ [])

abbrev pub forall_mask : ℕ → List Op → Op
forall_mask line mask = op_of what.ForallMask line [] None (region_of mask ∷ [])

abbrev pub workshare : ℕ → List Op → Op
workshare line body = op_of what.Workshare line [] None (region_of body ∷ [])

-- ---- decisions

abbrev pub decided : List Op → List Planned
decided ops = (saved (record { name = 109 ∷ 97 ∷ 105 ∷ 110 ∷ []; ops = ops })).steps

abbrev pub mask : ℕ → ℕ → Bool → Planned
mask line place saved = record { line = line; mask = true; saved = saved; addresses = false; dup = false; first_op = place }

abbrev pub right_side : ℕ → ℕ → Bool → Planned
right_side line place saved = record { line = line; mask = false; saved = saved; addresses = false; dup = false; first_op = place }

abbrev pub checked : ℕ → ℕ → Planned
checked line place = record { line = line; mask = false; saved = true; addresses = true; dup = true; first_op = place }
