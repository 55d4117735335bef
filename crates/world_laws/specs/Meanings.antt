-- That lowered parts mean what their sources mean: expressions, left sides, statements, programs.
use Rattle.std.specs.Prelude.{◌≡◌, ℕ, ◌<◌, ◌≤◌, Bool, false, not, ◌&&◌, List, [], ◌∷◌, length, map, Result, Ok, Err}
use Rattle.std.specs.List.{All}
use Rattle.ws_base.specs.declared.fault.Fault.{Fault}
use Rattle.ws_space.specs.declared.state.Var.{Var}
use Rattle.ws_tree.specs.declared.expr.Expr.{Expr}
use Rattle.ws_tree.specs.declared.stmt.Body.{Body}
use Rattle.ws_tree.specs.declared.stmt.Body.TheVariants.{Assign, Masked', Forall'}
use Rattle.ws_tree.specs.declared.stmt.Tree.{Tree}
use Rattle.ws_tree.specs.Grammatical.{IsExpr, IsDesignator, IsBody}
use Rattle.ws_tree.specs.Grammatical as grammar
use Rattle.ws_types.specs.declared.types.Row.{Row}
use Rattle.ws_types.specs.Expressions.{typed, faults}
use Rattle.ws_types.specs.Operations.{scalar_faults}
use Rattle.ws_sema.specs.declared.within.Within.{Within}
use Rattle.ws_sema.specs.Statements.{left_faults, body_faults, is_masked}
use Rattle.ws_sema.specs.Checks.{IsAccepted}
use Rattle.array_meaning.specs.declared.world.World.{World}
use Rattle.array_meaning.specs.Stage1 as source
use Rattle.array_meaning.specs.Assign as assigned
use Rattle.array_meaning.specs.Program as program
use Rattle.hlfir_ops.specs.declared.op.Op.{Op, out-Op}
use Rattle.hlfir_meaning.specs.Environments.{scalar, Environment, of_variables}
use Rattle.hlfir_meaning.specs.Statements.{simple}
use Rattle.hlfir_meaning.specs.Meaning.{meaning}
use Rattle.lower_values.specs.declared.names.Names.{Names}
use Rattle.lower_values.specs.Scopes.{Scope}
use Rattle.lower_values.specs.Values.{value}
use Rattle.lower_values.specs.Lists.{values}
use Rattle.lower_assign.specs.Statements.{yielded, left_of, is_whole_allocatable}
use Rattle.lower_constructs.specs.Modules.{statement, lowered}
use Rattle.kind_laws.specs.Standing.{Knows}
use Rattle.world_laws.specs.Worlds.{FitsNames}
use Rattle.value_laws.specs.Standing.{Does}
use Rattle.value_laws.specs.Vectors.{VectorsAre}
use Rattle.world_laws.specs.Yields.{Yields, scalars_of, Reaches}

-- outside FORALL, in a world that fits the names; all variables have numbers below this one
pub record StandsOutside (t : List Row) (s : Scope) (w : World) (n : ℕ) : Type 0 where
  pub knows : Knows t s
  pub no_index : s.indexes ≡ []
  pub world : FitsNames s.names w
  pub declared : length w.vars ≤ n

-- ---- expressions and left sides

abbrev pub ValuesMean : Type 0
ValuesMean = (t : List Row) (line : ℕ) (e : Expr) (s : Scope) (n : ℕ) (w : World) → StandsOutside t s w n → IsExpr e → faults t false line e ≡ [] → Yields w e n (yielded (value e) s n).ops (source.walk w e)

-- The ops of several scalars, one after another, fault as the source's walks do in order, or leave operands that are their values.
abbrev pub IsIntegerScalar : List Row → ℕ → Expr → Type 0
IsIntegerScalar t line e = IsExpr e × (faults t false line e ≡ []) × (scalar_faults line (typed t false e) ≡ [])

abbrev pub ListsMean : Type 0
ListsMean = (t : List Row) (line : ℕ) (es : List Expr) (s : Scope) (n : ℕ) (w : World) (vectors : List ℕ) (env : Environment) → StandsOutside t s w n → ((k : ℕ) → k < length w.vars → env k ≡ of_variables w.vars k) →
    All (IsIntegerScalar t line) es → VectorsAre vectors n (values es s n).ops → Does vectors s n env (values es) (scalars_of w es) (λ xs zs after rho. map (λ x. rho x.value.number) xs ≡ map scalar zs)

-- The Bool says that a whole allocatable is its box, as in a WHERE and in READ.
abbrev pub LeftsMean : Type 0
LeftsMean = (t : List Row) (line : ℕ) (by_box : Bool) (e : Expr) (s : Scope) (n : ℕ) (w : World) → StandsOutside t s w n → IsDesignator e → left_faults t false line e ≡ [] →
    Reaches w e (not by_box && is_whole_allocatable s.names e) n (yielded (left_of by_box e) s n).ops (assigned.target by_box w e)

-- ---- statements

abbrev pub IsSimple : Body → Type 0
IsSimple (Assign left right) = Unit {0}
IsSimple (Masked' test h stmts k elses) = Unit {0}
IsSimple (Forall' indexes test h stmts) = Unit {0}
IsSimple body = ⊥

-- the op leaves the variables of the world that its source leaves, which fits the names again, or faults alike
abbrev pub LeavesWorld : Names → Result (List Var) Fault → Result World Fault → Type 0
LeavesWorld names r (Ok w) = (r ≡ Ok w.vars) × FitsNames names w
LeavesWorld names r (Err f) = r ≡ Err f

-- one op that means the statement
pub record MeansStatement (s : Scope) (n : ℕ) (w : World) (ops : List Op) (r : Result World Fault) : Type 0 where
  pub op : Op
  pub alone : ops ≡ op ∷ []
  pub same : LeavesWorld s.names (simple n op (out-Op op).what w.vars) r

-- an assignment, a WHERE or a FORALL that stands in none of these
abbrev pub SimpleMeans : Body → Type 0
SimpleMeans body = (t : List Row) (within : Within) (line : ℕ) (s : Scope) (n : ℕ) (w : World) (place : grammar.Within) (room : ℕ) → StandsOutside t s w n → s.masked ≡ false → is_masked within ≡ false →
    IsBody place room line body → body_faults t within line body ≡ [] → MeansStatement s n w (statement line body s n).ops (program.simple w line body)

abbrev pub SimplesMean : Type 0
SimplesMean = (body : Body) → IsSimple body → SimpleMeans body

-- ---- programs

abbrev pub ProgramsMean : Type 0
ProgramsMean = (t : Tree) → IsAccepted t → (bytes : List ℕ) → meaning (lowered t) bytes ≡ program.run t bytes
