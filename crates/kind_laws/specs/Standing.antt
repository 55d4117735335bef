-- What the names of a table of declarations stand for where a part of the source is lowered.
use Rattle.std.specs.Prelude.{◌≡◌, ◌<◌, Bool, true, false, List, Option, Some, None, ℤ}
use Rattle.ws_types.specs.declared.constant.Constancy.TheVariants.{Value, NotConstant}
use Rattle.ws_types.specs.declared.types.Entry.{Entry}
use Rattle.ws_types.specs.declared.types.Row.{Row}
use Rattle.ws_types.specs.declared.types.Standing.{Standing}
use Rattle.ws_types.specs.declared.types.Standing.TheVariants.{Declared, Active, Index, Barred}
use Rattle.ws_types.specs.Names.{Name, standing_of}
use Rattle.ws_types.specs.Constants.{constant_of}
use Rattle.hlfir_ops.specs.declared.kinds.ValueKind.{ValueKind}
use Rattle.hlfir_ops.specs.declared.kinds.ValueKind.TheVariants as kind
use Rattle.hlfir_ops.specs.declared.op.ValueId.{ValueId}
use Rattle.lower_values.specs.declared.names.Names.{Names}
use Rattle.lower_values.specs.declared.operand.Operand.{Operand}
use Rattle.lower_assign.specs.Known.{elem}
use Rattle.lower_values.specs.References.{variable_of}
use Rattle.lower_values.specs.Scopes.{Scope, index_of}

-- the kind of a declare is that of the declaration
abbrev pub FitsEntry : Entry → ValueKind → Type 0
FitsEntry e (kind.Place f) = (f ≡ elem e.truth) × (e.rank ≡ 0) × (e.allocatable ≡ false)
FitsEntry e (kind.Declared f shape) = (f ≡ elem e.truth) × (shape.rank ≡ e.rank) × (0 < e.rank) × (e.allocatable ≡ false)
FitsEntry e (kind.Allocatable f rank) = (f ≡ elem e.truth) × (rank ≡ e.rank) × (0 < e.rank) × (e.allocatable ≡ true)
FitsEntry e _ = ⊥

-- a LOGICAL constant has no value among the INTEGER ones, and an INTEGER constant has one
abbrev pub ConstantIsKnown : Names → Name → Bool → Type 0
ConstantIsKnown names x true = constant_of names.constants x ≡ NotConstant
ConstantIsKnown names x false = (z : ℤ) × (constant_of names.constants x ≡ Value z)

-- a named constant, or a variable
abbrev pub EntryIsKnown : Bool → Names → Name → Entry → Type 0
EntryIsKnown true names x e = (variable_of names.variables x ≡ None) × (e.rank ≡ 0) × (e.allocatable ≡ false) × ConstantIsKnown names x e.truth
EntryIsKnown false names x e = (d : Operand) × (variable_of names.variables x ≡ Some d) × FitsEntry e d.kind × (constant_of names.constants x ≡ NotConstant)

-- An index name hides the variable of its name.
abbrev pub NameIsKnown : Scope → Name → Option Standing → Type 0
NameIsKnown s x (Some (Declared e)) = (index_of s.indexes x ≡ None) × EntryIsKnown e.constant s.names x e
NameIsKnown s x (Some (Active e)) = (index_of s.indexes x ≡ None) × (e.constant ≡ false) × EntryIsKnown false s.names x e
NameIsKnown s x (Some Index) = (v : ValueId) × (index_of s.indexes x ≡ Some v) × (constant_of s.names.constants x ≡ NotConstant)
NameIsKnown s x (Some Barred) = Unit {0}
NameIsKnown s x None = Unit {0}

-- the scope knows each name of the table as what it stands for
abbrev pub Knows : List Row → Scope → Type 0
Knows t s = (x : Name) → NameIsKnown s x (standing_of t x)
