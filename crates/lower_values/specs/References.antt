-- References: what names stand for, parts of arrays, and inquiries.
use Rattle.std.specs.Prelude.{ℕ, ◌==◌, Bool, false, if◌then◌else◌, List, [], ◌∷◌, map, Option, Some, None, bytes_eq}
use Rattle.std.specs.List.{flat_map}
use Rattle.ws_base.specs.declared.name.Name.{Name}
use Rattle.ws_base.specs.Numbers.{truth}
use Rattle.ws_base.specs.declared.op.CallWord.{CallWord}
use Rattle.ws_base.specs.declared.op.CallWord.TheVariants as word
use Rattle.ws_tree.specs.declared.expr.Expr.{Expr}
use Rattle.ws_tree.specs.declared.expr.Expr.TheVariants.{Number, Named}
use Rattle.ws_types.specs.Operations.{is_allocated_word}
use Rattle.hlfir_ops.specs.declared.kinds.Elem.{Elem}
use Rattle.hlfir_ops.specs.declared.kinds.Elem.TheVariants.{I32, I1}
use Rattle.hlfir_ops.specs.declared.kinds.ValueKind.{ValueKind}
use Rattle.hlfir_ops.specs.declared.kinds.ValueKind.TheVariants.{Scalar, Place, Allocatable, Section}
use Rattle.hlfir_ops.specs.declared.what.BoundWord.{BoundWord}
use Rattle.hlfir_ops.specs.declared.what.BoundWord.TheVariants.{Lbound, Ubound, Extent}
use Rattle.hlfir_ops.specs.declared.what.SubKind.{SubKind}
use Rattle.hlfir_ops.specs.declared.what.SubKind.TheVariants as sub
use Rattle.hlfir_ops.specs.declared.what.What.TheVariants as what
use Rattle.hlfir_ops.specs.declared.op.ValueId.{ValueId}
use Rattle.hlfir_ops.specs.RulesValues.{elem_of, rank_of}
use Rattle.hlfir_ops.specs.RulesForms.{section_rank}
use Rattle.lower_values.specs.declared.names.NamedTruth.{NamedTruth}
use Rattle.lower_values.specs.declared.names.Names.{Names}
use Rattle.lower_values.specs.declared.names.Variable.{Variable}
use Rattle.lower_values.specs.declared.operand.Operand.{Operand}
use Rattle.lower_values.specs.declared.operand.Subscript.{Subscript}
use Rattle.lower_values.specs.declared.operand.Subscript.TheVariants.{One, Range, Vector}
use Rattle.lower_values.specs.Scopes.{Scope, index_of}
use Rattle.lower_values.specs.Lowerings.{Lowering, done, ◌>>=◌, scoped, giving}
use Rattle.lower_values.specs.Operations.{constant}

-- ---- variables

-- what stands for a part that has no value; an accepted source has none
abbrev pub nothing : Operand
nothing = record { value = record { number = 0 }; kind = Scalar I32 }

abbrev pub variable_of : List Variable → Name → Option Operand
variable_of [] x = None
variable_of (v ∷ vs) x = if bytes_eq v.name x then Some v.declare else variable_of vs x

abbrev pub or_nothing : Option Operand → Operand
or_nothing (Some x) = x
or_nothing None = nothing

-- the declare of a variable
abbrev pub declare_of : Names → Name → Operand
declare_of names x = or_nothing (variable_of names.variables x)

-- the box of an allocatable; any other variable is its declare
abbrev pub box_of : ValueKind → Operand → Lowering Operand
box_of (Allocatable e rank) d = giving what.Boxed (d.value ∷ []) (Allocatable e rank)
box_of _ d = done d

unfoldable pub boxed : Operand → Lowering Operand
boxed d = box_of d.kind d

-- the variable of this name, to read it or to take a part of it
unfoldable pub reference : Name → Lowering Operand
reference x = scoped (λ s. boxed (declare_of s.names x))

-- the value at a place; any other operand as it is
abbrev pub load_of : ValueKind → Operand → Lowering Operand
load_of (Place e) r = giving what.Load (r.value ∷ []) (Scalar e)
load_of _ r = done r

unfoldable pub loaded : Operand → Lowering Operand
loaded r = load_of r.kind r

-- ---- names in a value place

abbrev pub truth_of : List NamedTruth → Name → Bool
truth_of [] x = false
truth_of (t ∷ ts) x = if bytes_eq t.name x then t.value else truth_of ts x

-- a variable, or a LOGICAL constant
abbrev pub variable_or_truth : Names → Name → Option Operand → Lowering Operand
variable_or_truth names x (Some d) = do
  r ← boxed d
  loaded r
variable_or_truth names x None = constant I1 (truth (truth_of names.truths x))

abbrev pub index_or_other : Scope → Name → Option ValueId → Lowering Operand
index_or_other s x (Some v) = done (record { value = v; kind = Scalar I32 })
index_or_other s x None = variable_or_truth s.names x (variable_of s.names.variables x)

-- a name that is no INTEGER constant; an index name hides the variable
unfoldable pub named : Name → Lowering Operand
named x = scoped (λ s. index_or_other s x (index_of s.indexes x))

-- ---- parts of arrays

-- one subscript: a scalar or a vector
abbrev pub subscript_of : Operand → Subscript
subscript_of x = if rank_of x.kind == 0 then One x.value else Vector x.value

abbrev pub sub_kind : Subscript → SubKind
sub_kind (One i) = sub.One
sub_kind (Range l u s) = sub.Range
sub_kind (Vector v) = sub.Vector

abbrev pub sub_values : Subscript → List ValueId
sub_values (One i) = i ∷ []
sub_values (Range l u s) = l ∷ u ∷ s ∷ []
sub_values (Vector v) = v ∷ []

-- a kept bound of this dimension, counted from 1; or its extent, LBOUND or UBOUND
unfoldable pub bound : BoundWord → ℕ → Operand → Lowering Operand
bound w dim r = giving (what.Bound w dim) (r.value ∷ []) (Scalar I32)

-- an element, or a section
abbrev pub part_kind : Elem → ℕ → ValueKind
part_kind e rank = if rank == 0 then Place e else Section e rank

-- how much a subscript adds to the rank
abbrev pub added_rank : SubKind → ℕ
added_rank sub.One = 0
added_rank sub.Range = 1
added_rank sub.Vector = 1

unfoldable pub designated : Operand → List Subscript → Lowering Operand
designated r ss = giving (what.Designate (map sub_kind ss)) (r.value ∷ flat_map sub_values ss) (part_kind (elem_of r.kind) (section_rank (map sub_kind ss)))

-- ---- SIZE, LBOUND, UBOUND and ALLOCATED

abbrev pub first_name : List Expr → Option Name
first_name (Named x ∷ es) = Some x
first_name es = None

abbrev pub dimension_in : List Expr → Option ℕ
dimension_in (e ∷ Number k ∷ es) = Some k
dimension_in _ = None

abbrev pub size : Option ℕ → Operand → Lowering Operand
size None r = giving what.Size (r.value ∷ []) (Scalar I32)
size (Some dim) r = bound Extent dim r

abbrev pub dimension : Option ℕ → ℕ
dimension None = 1
dimension (Some dim) = dim

abbrev pub bound_word : CallWord → Option BoundWord
bound_word word.Lbound = Some Lbound
bound_word word.Ubound = Some Ubound
bound_word word.Abs = None
bound_word word.Mod = None
bound_word word.Modulo = None
bound_word word.Min = None
bound_word word.Max = None
bound_word word.Merge = None
bound_word word.Sum = None
bound_word word.Product = None
bound_word word.Minval = None
bound_word word.Maxval = None
bound_word word.Count = None
bound_word word.Any = None
bound_word word.All = None
bound_word word.Size = None
bound_word word.Allocated = None

-- LBOUND or UBOUND, or SIZE
abbrev pub bound_or_size : Option BoundWord → Option ℕ → Operand → Lowering Operand
bound_or_size (Some w) dim r = bound w (dimension dim) r
bound_or_size None dim r = size dim r

-- of an allocatable's declare
abbrev pub is_allocated : Operand → Lowering Operand
is_allocated d = giving what.Allocated (d.value ∷ []) (Scalar I1)

abbrev pub inquiry_of : CallWord → Name → Option ℕ → Lowering Operand
inquiry_of w x dim = if is_allocated_word w then scoped (λ s. is_allocated (declare_of s.names x)) else (reference x >>= bound_or_size (bound_word w) dim)

abbrev pub inquiry_or_nothing : Option Name → CallWord → Option ℕ → Lowering Operand
inquiry_or_nothing (Some x) w dim = inquiry_of w x dim
inquiry_or_nothing None w dim = done nothing

-- The first argument is the name of a variable, and the second one a dimension.
unfoldable pub inquiry : CallWord → List Expr → Lowering Operand
inquiry w es = inquiry_or_nothing (first_name es) w (dimension_in es)
