-- Short words for small sources and their modules.
use Rattle.std.proofs.Common.{◌≡◌, ℕ, Bool, true, false, List, [], ◌∷◌, map, Option, Some, None, ℤ, pos, negsuc, ◌-◌}
use Rattle.std.specs.Prelude.{codes}
use Rattle.ws_space.specs.declared.shape.Dim.{Dim}
use Rattle.ws_space.specs.Shapes.{shape_of}
use Rattle.ws_tree.specs.declared.expr.Expr.{Expr}
use Rattle.ws_tree.specs.declared.expr.Expr.TheVariants.{Number, Named}
use Rattle.ws_tree.specs.declared.expr.Sub.{Sub}
use Rattle.ws_tree.specs.declared.expr.Sub.TheVariants as sub
use Rattle.ws_tree.specs.declared.stmt.Bound.{Bound}
use Rattle.ws_tree.specs.declared.stmt.Bound.TheVariants as bound
use Rattle.ws_tree.specs.declared.stmt.Decl.{Decl}
use Rattle.ws_tree.specs.declared.stmt.Stmt.{Stmt}
use Rattle.ws_tree.specs.declared.stmt.Body.{Body}
use Rattle.ws_tree.specs.declared.stmt.Tree.{Tree}
use Rattle.hlfir_ops.specs.declared.kinds.Elem.{Elem}
use Rattle.hlfir_ops.specs.declared.kinds.Elem.TheVariants.{I32, I1}
use Rattle.hlfir_ops.specs.declared.kinds.ValueKind.{ValueKind}
use Rattle.hlfir_ops.specs.declared.kinds.ValueKind.TheVariants as kind
use Rattle.hlfir_ops.specs.declared.what.What.{What}
use Rattle.hlfir_ops.specs.declared.what.What.TheVariants as what
use Rattle.hlfir_ops.specs.declared.what.ValueUnary.TheVariants as unary
use Rattle.hlfir_ops.specs.declared.what.ValueBinary.{ValueBinary}
use Rattle.hlfir_ops.specs.declared.op.ValueId.{ValueId}
use Rattle.hlfir_ops.specs.declared.op.Op.{Op}
use Rattle.hlfir_ops.specs.declared.what.SubKind.{SubKind}
use Rattle.hlfir_ops.specs.Trees.{op_of, region_of}
use Rattle.lower_constructs.specs.Modules.{lowered}

-- ---- sources

abbrev pub Name : Type 0
Name = List ℕ

abbrev pub declared : Bool → Option Expr → Bool → Name → List Bound → Decl
declared truth constant allocatable x shape = record { line = 1; truth = truth; constant = constant; allocatable = allocatable; name = x; shape = shape }

abbrev pub integer : Name → List Bound → Decl
integer = declared false None false

abbrev pub logical : Name → List Bound → Decl
logical = declared true None false

abbrev pub allocatable : Name → List Bound → Decl
allocatable = declared false None true

abbrev pub constant : Bool → Name → Expr → Decl
constant truth x e = declared truth (Some e) false x []

abbrev pub upto : ℕ → Bound
upto n = bound.Upper (Number n)

abbrev pub a : Name
a = codes "a"

abbrev pub b : Name
b = codes "b"

abbrev pub v : Name
v = codes "v"

abbrev pub p : Name
p = codes "p"

abbrev pub n : Name
n = codes "n"

abbrev pub k : Name
k = codes "k"

abbrev pub i : Name
i = codes "i"

abbrev pub name : Name → Expr
name = Named

abbrev pub j : Name
j = codes "j"

abbrev pub m : Name
m = codes "m"

abbrev pub c : Name
c = codes "c"

abbrev pub d : Name
d = codes "d"

abbrev pub t : Name
t = codes "t"

-- `l:u`
abbrev pub range : Expr → Expr → Sub
range l u = sub.Range (Some l) (Some u) None

abbrev pub line : ℕ → Body → Stmt
line l body = record { line = l; body = body }

abbrev pub source : List Decl → List Stmt → Tree
source ds ss = record { name = codes "main"; decls = ds; body = ss }

-- ---- modules

abbrev pub id : ℕ → ValueId
id m = record { number = m }

abbrev pub ids : List ℕ → List ValueId
ids = map id

abbrev pub i32 : ValueKind
i32 = kind.Scalar I32

abbrev pub i1 : ValueKind
i1 = kind.Scalar I1

abbrev pub dim : ℤ → ℕ → Dim
dim l extent = record { lower = l; extent = extent }

-- a declared INTEGER array of rank 1
abbrev pub array : ℤ → ℕ → ValueKind
array l extent = kind.Declared I32 (shape_of (dim l extent ∷ []))

-- its bounds are 1 and 3
abbrev pub three : ValueKind
three = array (pos 1) 3

abbrev pub three_truths : ValueKind
three_truths = kind.Declared I1 (shape_of (dim (pos 1) 3 ∷ []))

abbrev pub scalar : ValueKind
scalar = kind.Place I32

abbrev pub deferred : ValueKind
deferred = kind.Allocatable I32 1

abbrev pub declare : Name → ValueKind → Op
declare x k = op_of (what.Declare x) 0 [] (Some k) []

-- an op of a value on this line
abbrev pub gives : ℕ → What → List ℕ → ValueKind → Op
gives l w os k = op_of w l (ids os) (Some k) []

abbrev pub number : ℕ → ℕ → Op
number l x = gives l (what.Constant (pos x)) [] i32

abbrev pub below_zero : ℕ → ℕ → Op
below_zero l x = gives l (what.Constant (negsuc (x - 1))) [] i32

abbrev pub neg : ℕ → ℕ → Op
neg l x = gives l (what.Unary unary.Neg) (x ∷ []) i32

abbrev pub compare : ℕ → ValueBinary → ℕ → ℕ → Op
compare l op x y = gives l (what.Binary op) (x ∷ y ∷ []) i1

abbrev pub vector : ℕ → List ℕ → Op
vector l os = gives l what.Vector os (kind.Array I32 1)

abbrev pub element_of : ℕ → List SubKind → List ℕ → Op
element_of l subs os = gives l (what.Designate subs) os (kind.Place I32)

abbrev pub binary : ℕ → ValueBinary → ℕ → ℕ → Op
binary l op x y = gives l (what.Binary op) (x ∷ y ∷ []) i32

abbrev pub load : ℕ → ℕ → Op
load l x = gives l what.Load (x ∷ []) i32

abbrev pub box : ℕ → ℕ → Op
box l x = gives l what.Boxed (x ∷ []) (kind.Allocatable I32 1)

abbrev pub apply : ℕ → ℕ → Op
apply l x = gives l what.Apply (x ∷ []) i32

abbrev pub elemental : ℕ → Elem → List Op → Op
elemental l e body = op_of what.Elemental l [] (Some (kind.Array e 1)) (region_of body ∷ [])

abbrev pub yields_element : ℕ → ℕ → Op
yields_element l x = op_of what.YieldElement l (ids (x ∷ [])) None []

abbrev pub yields : ℕ → List ℕ → Op
yields l os = op_of what.Yield l (ids os) None []

abbrev pub holds : ℕ → What → List ℕ → List (List Op) → Op
holds l w os rs = op_of w l (ids os) None (map region_of rs)

abbrev pub assign : ℕ → List Op → List Op → Op
assign l right left = holds l (what.Assign false) [] (right ∷ left ∷ [])

abbrev pub section : ℕ → List SubKind → List ℕ → Op
section l subs os = gives l (what.Designate subs) os (kind.Section I32 1)

-- the source has this module
abbrev pub Becomes : Tree → List Op → Type 0
Becomes t ops = lowered t ≡ record { name = codes "main"; ops = ops }
