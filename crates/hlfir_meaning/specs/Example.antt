-- Words for modules that are written out, in the order of their text: one for each op, and some for the ops of a common part. Values are named by their numbers.
use Rattle.std.specs.Prelude.{◌≡◌, ℕ, ◌+◌, Bool, true, false, List, [], ◌∷◌, ◌++◌, map, length, Some, None, pos, neg_ℤ, codes}
use Rattle.std.specs.List.{list_all}
use Rattle.ws_base.specs.declared.name.Name.{Name}
use Rattle.ws_base.specs.Numbers.{truth}
use Rattle.ws_space.specs.declared.shape.Dim.{Dim}
use Rattle.ws_space.specs.Shapes.{shape_of}
use Rattle.ws_space.specs.Runs.{ended}
use Rattle.list_io.specs.ReportText.{report_text}
use Rattle.hlfir_ops.specs.declared.kinds.Elem.{Elem}
use Rattle.hlfir_ops.specs.declared.kinds.Elem.TheVariants.{I32, I1}
use Rattle.hlfir_ops.specs.declared.kinds.ValueKind.{ValueKind}
use Rattle.hlfir_ops.specs.declared.kinds.ValueKind.TheVariants as kind
use Rattle.hlfir_ops.specs.declared.what.SubKind.{SubKind}
use Rattle.hlfir_ops.specs.declared.what.SubKind.TheVariants as sub
use Rattle.hlfir_ops.specs.declared.what.ValueUnary.{ValueUnary}
use Rattle.hlfir_ops.specs.declared.what.ValueBinary.{ValueBinary}
use Rattle.hlfir_ops.specs.declared.what.BoundWord.{BoundWord}
use Rattle.hlfir_ops.specs.declared.what.Reduction.{Reduction}
use Rattle.hlfir_ops.specs.declared.what.What.{What}
use Rattle.hlfir_ops.specs.declared.what.What.TheVariants as what
use Rattle.hlfir_ops.specs.declared.op.ValueId.{ValueId}
use Rattle.hlfir_ops.specs.declared.op.Op.{Op, out-Op}
use Rattle.hlfir_ops.specs.declared.op.Region.{Region, out-Region}
use Rattle.hlfir_ops.specs.declared.op.Module.{Module}
use Rattle.hlfir_ops.specs.Trees.{op_of, region_of}
use Rattle.hlfir_ops.specs.Rules.{facts_of, keeps}
use Rattle.hlfir_ops.specs.RulesPlaces.{from_number, module_sites}
use Rattle.hlfir_ops.specs.RulesForms.{unary_elem, result_elem, total_elem}
use Rattle.hlfir_meaning.specs.Meaning.{meaning}

-- ---- an example: a module, the lines of its data, and the lines of its report, each of which ends with LF

abbrev pub Text : Type 0
Text = List ℕ

pub record Example : Type 0 where
  pub main : Module
  pub input : List Text
  pub report : List Text

abbrev pub text_of : List Text → Text
text_of [] = []
text_of (l ∷ ls) = l ++ 10 ∷ text_of ls

-- the run of the module over the data has this report
abbrev pub Reports : Example → Type 0
Reports x = report_text (ended (meaning x.main (text_of x.input)).end) ≡ text_of x.report

-- the modules of these break no rule
abbrev pub KeepRules : List Example → Type 0
KeepRules xs = list_all (λ x. list_all (keeps (facts_of x.main)) (module_sites x.main)) xs ≡ true

-- declares, statements, and the lines of both texts
abbrev pub example : List Op → List Op → List Text → List Text → Example
example declares statements input report = record { main = record { name = codes "main"; ops = declares ++ statements }; input = input; report = report }

-- ---- values

abbrev pub value : ℕ → ValueId
value n = record { number = n }

abbrev pub gives : What → List ℕ → ValueKind → Op
gives w os k = op_of w 0 (map value os) (Some k) []

abbrev pub upto : ℕ → Dim
upto n = record { lower = pos 1; extent = n }

abbrev pub variable : Name → Elem → Op
variable x e = gives (what.Declare x) [] (kind.Place e)

abbrev pub declared : Name → Elem → List Dim → Op
declared x e ds = gives (what.Declare x) [] (kind.Declared e (shape_of ds))

abbrev pub allocatable : Name → Elem → ℕ → Op
allocatable x e rank = gives (what.Declare x) [] (kind.Allocatable e rank)

-- INTEGER variables: scalars, and arrays of one dimension from 1 to this bound
abbrev pub scalars : List Name → List Op
scalars = map (λ x. variable x I32)

abbrev pub arrays : List Name → ℕ → List Op
arrays xs n = map (λ x. declared x I32 (upto n ∷ [])) xs

abbrev pub constant : ℕ → Op
constant n = gives (what.Constant (pos n)) [] (kind.Scalar I32)

abbrev pub constants : List ℕ → List Op
constants = map constant

abbrev pub minus : ℕ → Op
minus n = gives (what.Constant (neg_ℤ (pos n))) [] (kind.Scalar I32)

abbrev pub truth_constant : Bool → Op
truth_constant b = gives (what.Constant (truth b)) [] (kind.Scalar I1)

abbrev pub unary : ValueUnary → ℕ → Op
unary o a = gives (what.Unary o) (a ∷ []) (kind.Scalar (unary_elem o))

abbrev pub binary : ValueBinary → ℕ → ℕ → Op
binary o a b = gives (what.Binary o) (a ∷ b ∷ []) (kind.Scalar (result_elem o))

abbrev pub select : Elem → ℕ → ℕ → ℕ → Op
select e m t f = gives what.Select (m ∷ t ∷ f ∷ []) (kind.Scalar e)

abbrev pub load : Elem → ℕ → Op
load e r = gives what.Load (r ∷ []) (kind.Scalar e)

abbrev pub box : Elem → ℕ → ℕ → Op
box e rank p = gives what.Boxed (p ∷ []) (kind.Allocatable e rank)

abbrev pub bound : BoundWord → ℕ → ℕ → Op
bound word r dim = gives (what.Bound word dim) (r ∷ []) (kind.Scalar I32)

abbrev pub size : ℕ → Op
size r = gives what.Size (r ∷ []) (kind.Scalar I32)

abbrev pub allocated : ℕ → Op
allocated p = gives what.Allocated (p ∷ []) (kind.Scalar I1)

abbrev pub element : Elem → ℕ → List ℕ → Op
element e r is = gives (what.Designate (map (λ i. sub.One) is)) (r ∷ is) (kind.Place e)

abbrev pub section : Elem → ℕ → ℕ → List SubKind → List ℕ → Op
section e rank r subs os = gives (what.Designate subs) (r ∷ os) (kind.Section e rank)

abbrev pub vector : Elem → List ℕ → Op
vector e os = gives what.Vector os (kind.Array e 1)

abbrev pub copy : Elem → ℕ → ℕ → Op
copy e rank r = gives what.AsExpr (r ∷ []) (kind.Array e rank)

abbrev pub apply : Elem → ℕ → Op
apply e x = gives what.Apply (x ∷ []) (kind.Scalar e)

abbrev pub elemental : Elem → ℕ → List Op → Op
elemental e rank ops = op_of what.Elemental 0 [] (Some (kind.Array e rank)) (region_of ops ∷ [])

abbrev pub reduce : Reduction → ℕ → Op
reduce r x = gives (what.Reduce r) (x ∷ []) (kind.Scalar (total_elem r))

abbrev pub yields : List ℕ → Op
yields os = op_of what.Yield 0 (map value os) None []

abbrev pub yields_element : ℕ → Op
yields_element v = op_of what.YieldElement 0 (value v ∷ []) None []

-- ---- ends of regions

abbrev pub yield : ℕ → List Op
yield v = yields (v ∷ []) ∷ []

-- these ops, whose values have the numbers from the first one on, and a yield of them all
abbrev pub yield_all : ℕ → List Op → List Op
yield_all first ops = ops ++ yields (from_number first ops) ∷ []

-- a part of this array of one dimension, whose triplet these three ops give
abbrev pub part : ℕ → ℕ → List Op → List Op
part r first triplet = triplet ++ section I32 1 r (sub.Range ∷ []) (from_number first triplet) ∷ yield (first + 3)

-- ---- statements, with their lines. The ops inside them have their line too.

abbrev pub with_line : ℕ → Op → Op
with_line line op = op_of (out-Op op).what line (out-Op op).operands (out-Op op).kind (out-Op op).regions

abbrev pub body_on : ℕ → Region → Region
body_on line r = region_of (map (with_line line) (out-Region r).ops)

abbrev pub all_on : ℕ → Op → Op
all_on line op = op_of (out-Op op).what line (out-Op op).operands (out-Op op).kind (map (body_on line) (out-Op op).regions)

abbrev pub region_on : ℕ → List Op → Region
region_on line ops = region_of (map (all_on line) ops)

abbrev pub does : What → ℕ → List ℕ → List Region → Op
does w line os rs = op_of w line (map value os) None rs

abbrev pub assign : ℕ → List Op → List Op → Op
assign line right left = does (what.Assign false) line [] (region_on line right ∷ region_on line left ∷ [])

-- this variable gets the constructor of the scalars that these ops give
abbrev pub fill : ℕ → ℕ → List Op → ℕ → Op
fill line first items x = assign line (items ++ vector I32 (from_number first items) ∷ yield (first + length items)) (yield x)

abbrev pub reallocate : ℕ → List Op → List Op → Op
reallocate line right left = does (what.Assign true) line [] (region_on line right ∷ region_on line left ∷ [])

abbrev pub masked : ℕ → List Op → List Op → Op
masked line mask block = does what.Masked line [] (region_on line mask ∷ region_of block ∷ [])

abbrev pub masked_else : ℕ → List Op → List Op → List Op → Op
masked_else line mask block rest = does what.Masked line [] (region_on line mask ∷ region_of block ∷ region_of rest ∷ [])

abbrev pub elsewhere : ℕ → List Op → List Op → Op
elsewhere line mask block = does what.Elsewhere line [] (region_on line mask ∷ region_of block ∷ [])

abbrev pub otherwise : ℕ → List Op → Op
otherwise line block = does what.Elsewhere line [] (region_of block ∷ [])

abbrev pub forall_of : ℕ → List Name → List Op → List Op → Op
forall_of line names header block = does (what.Forall names) line [] (region_on line header ∷ region_of block ∷ [])

abbrev pub forall_mask : ℕ → List Op → Op
forall_mask line mask = does what.ForallMask line [] (region_on line mask ∷ [])

abbrev pub workshare : ℕ → List Op → Op
workshare line block = does what.Workshare line [] (region_of block ∷ [])

abbrev pub loop : ℕ → ℕ → List Op → List Op → Op
loop line var header block = does what.DoLoop line (var ∷ []) (region_on line header ∷ region_of block ∷ [])

abbrev pub allocate : ℕ → Bool → ℕ → List Op → Op
allocate line also p bounds = does (what.Allocmem also) line (p ∷ []) (region_on line bounds ∷ [])

abbrev pub free : ℕ → Bool → ℕ → Op
free line also p = does (what.Freemem also) line (p ∷ []) []

abbrev pub read : ℕ → Bool → List Op → Op
read line also item = does (what.Read also) line [] (region_on line item ∷ [])
