-- A lowered expression has the kind of its type, and is found among the values of its module.
use Rattle.std.specs.Prelude.{◌≡◌, ⊤, ℕ, ◌+◌, Bool, true, false, List, [], ◌∷◌, map, Option, Some}
use Rattle.ws_tree.specs.declared.expr.Expr.{Expr}
use Rattle.ws_tree.specs.declared.stmt.Index.{Index}
use Rattle.ws_tree.specs.declared.stmt.Tree.{Tree}
use Rattle.ws_tree.specs.Grammatical.{IsExpr, IsSide, IsDesignator}
use Rattle.ws_types.specs.declared.types.Typed.{Typed}
use Rattle.ws_types.specs.declared.types.Row.{Row}
use Rattle.ws_types.specs.declared.types.Entry.{Entry}
use Rattle.ws_types.specs.declared.types.Standing.{Standing}
use Rattle.ws_types.specs.declared.types.Standing.TheVariants.{Declared, Active}
use Rattle.ws_types.specs.Names.{Name, standing_of, name_type, entry_type}
use Rattle.ws_types.specs.Tables.{barred, inner}
use Rattle.ws_types.specs.Expressions.{typed, faults}
use Rattle.ws_sema.specs.declared.within.Within.{Within}
use Rattle.ws_sema.specs.Checks.{IsAccepted}
use Rattle.ws_sema.specs.Declarations.{table_of}
use Rattle.ws_sema.specs.Statements.{left_faults, left_type, header_faults, loop_faults, with_active, allocatable_faults}
use Rattle.hlfir_ops.specs.declared.kinds.Elem.TheVariants.{I32}
use Rattle.hlfir_ops.specs.declared.kinds.ValueKind.{ValueKind}
use Rattle.hlfir_ops.specs.declared.kinds.ValueKind.TheVariants.{Place}
use Rattle.hlfir_ops.specs.declared.what.What.{What}
use Rattle.hlfir_ops.specs.declared.what.What.TheVariants.{Forall}
use Rattle.hlfir_ops.specs.declared.op.ValueId.{ValueId}
use Rattle.hlfir_ops.specs.declared.op.Op.{Op}
use Rattle.hlfir_ops.specs.Numbers.{names_in, own_numbers}
use Rattle.hlfir_ops.specs.RulesValues.{Value, Declares, value_at, elem_of, rank_of, is_place}
use Rattle.lower_assign.specs.Known.{elem, names_of}
use Rattle.lower_values.specs.Scopes.{Scope, inside, scope_at}
use Rattle.lower_values.specs.Lowerings.{Lowering, holding}
use Rattle.lower_values.specs.References.{declare_of}
use Rattle.lower_values.specs.Values.{value}
use Rattle.lower_assign.specs.Statements.{left_of}
use Rattle.kind_laws.specs.Standing.{Knows}
use Rattle.kind_laws.specs.Found.{Holds, HoldsNames, RegionsHeld, Found, ScopeIsFound, IsDeclareOf, IsLeftOf}

-- a value, and no place, of this type and rank
pub record HasType (ty : Typed) (k : ValueKind) : Type 0 where
  pub elem : elem_of k ≡ elem ty.truth
  pub rank : rank_of k ≡ ty.rank
  pub value : is_place (Some k) ≡ false

abbrev pub TypeIsKnown : Option Typed → Type 0
TypeIsKnown ty = (known : Typed) × (ty ≡ Some known)

-- ---- expressions

-- an expression in which no rule is broken has a type
abbrev pub TypesAreKnown : Type 0
TypesAreKnown = (t : List Row) (inside : Bool) (line : ℕ) (e : Expr) → faults t inside line e ≡ [] → TypeIsKnown (typed t inside e)

-- and what is lowered from it has this type
abbrev pub KindsAreTypes : Type 0
KindsAreTypes = (t : List Row) (inside : Bool) (line : ℕ) (e : Expr) (s : Scope) (n : ℕ) (ty : Typed) → IsExpr e → Knows t s → faults t inside line e ≡ [] → typed t inside e ≡ Some ty →
    HasType ty (value e s n).made.kind

abbrev pub ValuesAreFound : Type 0
ValuesAreFound = (t : List Row) (inside : Bool) (line : ℕ) (e : Expr) (s : Scope) (n : ℕ) (vs : List Value) → Knows t s → faults t inside line e ≡ [] → ScopeIsFound vs s → Holds vs n (value e s n).ops →
    Found vs (value e s n).made

-- an expression as it stands in a statement, in which no rule is broken
abbrev pub SidesAreExpressions : Type 0
SidesAreExpressions = (t : List Row) (inside : Bool) (line : ℕ) (e : Expr) → IsSide e → faults t inside line e ≡ [] → IsExpr e

-- ---- names

-- in an accepted source, outside all statements
abbrev pub NamesAreKnown : Type 0
NamesAreKnown = (t : Tree) → IsAccepted t → Knows (table_of t.decls) (scope_at (names_of t) [])

-- in a region that brings no index names
abbrev pub InsideIsKnown : Type 0
InsideIsKnown = (t : List Row) (s : Scope) (w : What) (line k n : ℕ) → names_in w k ≡ [] → Knows t s → Knows t (inside w line k n s)

abbrev pub InsideIsFound : Type 0
InsideIsFound = (vs : List Value) (s : Scope) (w : What) (line k n : ℕ) → HoldsNames vs n (names_in w k) → ScopeIsFound vs s → ScopeIsFound vs (inside w line k n s)

abbrev pub index_names : List Index → List Name
index_names = map (λ i. i.name)

-- in the header of a FORALL
abbrev pub HeaderIsKnown : Type 0
HeaderIsKnown = (t : List Row) (s : Scope) (is : List Index) (line n : ℕ) → Knows t s → Knows (barred t is) (inside (Forall (index_names is)) line 0 n s)

-- in its body, where no rule is broken in its header
abbrev pub ForallIsKnown : Type 0
ForallIsKnown = (t : List Row) (s : Scope) (is : List Index) (at line n : ℕ) → header_faults t (barred t is) at [] is ≡ [] → Knows t s → Knows (inner t is) (inside (Forall (index_names is)) line 1 n s)

-- in the block of a DO
abbrev pub LoopIsKnown : Type 0
LoopIsKnown = (t : List Row) (s : Scope) (w : Within) (line : ℕ) (x : Name) → loop_faults w line (standing_of t x) ≡ [] → Knows t s → Knows (with_active t x) s

-- this stands for a variable of this entry
abbrev pub IsVariable : Entry → Option Standing → Type 0
IsVariable e (Some (Declared d)) = (d ≡ e) × (d.constant ≡ false)
IsVariable e (Some (Active d)) = d ≡ e
IsVariable e _ = ⊥

-- the declare of a variable, where no index name hides it
abbrev pub DeclaresAreFound : Type 0
DeclaresAreFound = (t : List Row) (s : Scope) (vs : List Value) (x : Name) (e : Entry) → Knows t s → ScopeIsFound vs s → IsVariable e (standing_of t x) → IsDeclareOf vs e (declare_of s.names x)

-- the declare of a variable of ALLOCATE or DEALLOCATE
abbrev pub AllocatablesAreFound : Type 0
AllocatablesAreFound = (t : List Row) (s : Scope) (vs : List Value) (line : ℕ) (x : Name) → Knows t s → ScopeIsFound vs s → allocatable_faults line (standing_of t x) ≡ [] →
    (e : Entry) × (name_type (standing_of t x) ≡ Some (entry_type e)) × (e.allocatable ≡ true) × IsDeclareOf vs e (declare_of s.names x)

-- that of a DO
abbrev pub LoopVariablesAreFound : Type 0
LoopVariablesAreFound = (t : List Row) (s : Scope) (vs : List Value) (w : Within) (line : ℕ) (x : Name) → Knows t s → ScopeIsFound vs s → loop_faults w line (standing_of t x) ≡ [] →
    value_at vs (declare_of s.names x).value ≡ Some (record { kind = Place I32; source = Declares })

-- ---- regions

-- the regions of an op stand among the values where the op does
abbrev pub RegionsAreHeld : Type 0
RegionsAreHeld = (vs : List Value) (w : What) (line : ℕ) (operands : List ValueId) (kind : Option ValueKind) (ps : List (Lowering ⊤)) (s : Scope) (n : ℕ) (ops : List Op) → Holds vs n (holding w line operands kind ps s n ∷ ops) →
    RegionsHeld vs w line 0 (n + own_numbers kind) ps s

-- ---- left sides and items of READ

abbrev pub LeftsAreFound : Type 0
LeftsAreFound = (t : List Row) (inside : Bool) (line : ℕ) (by_box : Bool) (e : Expr) (s : Scope) (n : ℕ) (vs : List Value) → IsDesignator e → Knows t s → left_faults t inside line e ≡ [] → ScopeIsFound vs s →
    Holds vs n (left_of by_box e s n).ops → (ty : Typed) × (left_type t inside e ≡ Some ty) × IsLeftOf vs by_box e ty (left_of by_box e s n).made
