-- What is found of an operand among the values of a whole module.
use Rattle.std.specs.Prelude.{◌≡◌, ⊤, ℕ, suc, ◌+◌, Bool, true, false, ◌&&◌, List, [], ◌∷◌, ◌++◌, map, length, Some, if◌then◌else◌}
use Rattle.std.specs.List.{All}
use Rattle.ws_base.specs.declared.name.Name.{Name}
use Rattle.ws_tree.specs.declared.expr.Expr.{Expr}
use Rattle.ws_tree.specs.declared.expr.Expr.TheVariants.{Named, Part'}
use Rattle.ws_types.specs.declared.types.Entry.{Entry}
use Rattle.ws_types.specs.declared.types.Typed.{Typed}
use Rattle.hlfir_ops.specs.declared.kinds.Elem.TheVariants.{I32}
use Rattle.hlfir_ops.specs.declared.kinds.ValueKind.{ValueKind}
use Rattle.hlfir_ops.specs.declared.kinds.ValueKind.TheVariants.{Scalar}
use Rattle.hlfir_ops.specs.declared.what.What.{What}
use Rattle.hlfir_ops.specs.declared.op.Op.{Op}
use Rattle.hlfir_ops.specs.Numbers.{names_in, numbers_of}
use Rattle.hlfir_ops.specs.RulesValues.{Value, Source, Declares, Other, values_of, value_at, value_of_name, elem_of, rank_of, is_target, is_designates, is_allocatable, is_allocatable_declare}
use Rattle.lower_values.specs.declared.names.Variable.{Variable}
use Rattle.lower_values.specs.declared.operand.Operand.{Operand}
use Rattle.lower_assign.specs.Known.{elem}
use Rattle.lower_values.specs.Scopes.{Scope, Indexed, inside}
use Rattle.lower_values.specs.Lowerings.{Lowering}
use Rattle.kind_laws.specs.Standing.{FitsEntry}

-- the values of these ops stand among all values from this number on
pub record Holds (vs : List Value) (n : ℕ) (ops : List Op) : Type 0 where
  pub before : List Value
  pub after : List Value
  pub whole : vs ≡ before ++ (values_of ops ++ after)
  pub count : length before ≡ n

-- the same of index names
pub record HoldsNames (vs : List Value) (n : ℕ) (names : List Name) : Type 0 where
  pub before : List Value
  pub after : List Value
  pub whole : vs ≡ before ++ (map value_of_name names ++ after)
  pub count : length before ≡ n

-- the same of the regions of an op, from the one of this number on
abbrev pub RegionsHeld : List Value → What → ℕ → ℕ → ℕ → List (Lowering ⊤) → Scope → Type 0
RegionsHeld vs w line k n [] s = Unit {0}
RegionsHeld vs w line k n (p ∷ ps) s =
    let ops = (p (inside w line k n s) (n + length (names_in w k))).ops in
    HoldsNames vs n (names_in w k) × Holds vs (n + length (names_in w k)) ops × RegionsHeld vs w line (suc k) (n + (length (names_in w k) + numbers_of ops)) ps s

-- a value of the operand's kind, which is no declare of an allocatable
pub record Found (vs : List Value) (x : Operand) : Type 0 where
  pub value : Value
  pub found : value_at vs x.value ≡ Some value
  pub kind : value.kind ≡ x.kind
  pub reached : is_allocatable_declare (Some value) ≡ false

-- the declares and the index names of the scope
abbrev pub DeclareIsFound : List Value → Variable → Type 0
DeclareIsFound vs v = value_at vs v.declare.value ≡ Some (record { kind = v.declare.kind; source = Declares })

abbrev pub IndexIsFound : List Value → Indexed → Type 0
IndexIsFound vs i = value_at vs i.value ≡ Some (record { kind = Scalar I32; source = Other })

pub record ScopeIsFound (vs : List Value) (s : Scope) : Type 0 where
  pub variables : All (DeclareIsFound vs) s.names.variables
  pub indexes : All (IndexIsFound vs) s.indexes

-- the declare of what this entry says
pub record IsDeclareOf (vs : List Value) (e : Entry) (d : Operand) : Type 0 where
  pub found : value_at vs d.value ≡ Some (record { kind = d.kind; source = Declares })
  pub fits : FitsEntry e d.kind

-- What gives the left side: a whole variable is its declare, but in a WHERE an allocatable is its box; a part is a designate.
abbrev pub IsLeftSource : Bool → Expr → ValueKind → Source → Type 0
IsLeftSource by_box (Named x) k source = source ≡ (if by_box && is_allocatable (Some k) then Other else Declares)
IsLeftSource by_box (Part' x _ subs) k source = is_designates source ≡ true
IsLeftSource by_box e k source = ⊥

-- a place, a reference or a section of this type and rank
pub record IsLeftOf (vs : List Value) (by_box : Bool) (e : Expr) (ty : Typed) (x : Operand) : Type 0 where
  pub value : Value
  pub found : value_at vs x.value ≡ Some value
  pub kind : value.kind ≡ x.kind
  pub elem : elem_of x.kind ≡ elem ty.truth
  pub rank : rank_of x.kind ≡ ty.rank
  pub target : is_target (Some x.kind) ≡ true
  pub source : IsLeftSource by_box e x.kind value.source
