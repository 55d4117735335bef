-- That assignments and WHERE mean what their sources mean.
use Rattle.std.specs.Prelude.{◌≡◌, ℕ, ◌<◌, false, List, [], length, Some, Ok}
use Rattle.std.specs.List.{All}
use Rattle.ws_space.specs.Shapes.{Extents}
use Rattle.ws_tree.specs.declared.expr.Expr.{Expr}
use Rattle.ws_tree.specs.declared.stmt.Body.{Body}
use Rattle.ws_tree.specs.declared.stmt.Body.TheVariants.{Assign, Masked'}
use Rattle.ws_types.specs.declared.types.Row.{Row}
use Rattle.ws_types.specs.declared.types.Typed.{Typed}
use Rattle.ws_types.specs.Expressions.{typed, faults}
use Rattle.array_meaning.specs.declared.world.World.{World}
use Rattle.array_meaning.specs.declared.term.Term.{Term}
use Rattle.array_meaning.specs.Stage1.{walk}
use Rattle.array_meaning.specs.Stage2.{operands}
use Rattle.lower_values.specs.Scopes.{Scope}
use Rattle.kind_laws.specs.Standing.{Knows}
use Rattle.world_laws.specs.Worlds.{FitsNames}
use Rattle.world_laws.specs.Meanings.{ValuesMean, LeftsMean, SimpleMeans}

-- each array operand has this rank, which is not 0
abbrev pub HaveRank : ℕ → List Extents → Type 0
HaveRank rank = All (λ e. (length e ≡ rank) × (0 < rank))

-- the array operands of a term have the rank of its expression, and an expression of rank 0 has none
abbrev pub TermsHaveRanks : Type 0
TermsHaveRanks = (t : List Row) (line : ℕ) (e : Expr) (s : Scope) (w : World) (ty : Typed) (r : Term) → Knows t s → s.indexes ≡ [] → FitsNames s.names w →
    faults t false line e ≡ [] → typed t false e ≡ Some ty → walk w e ≡ Ok r → HaveRank ty.rank (operands r)

abbrev pub IsAssignmentOrWhere : Body → Type 0
IsAssignmentOrWhere (Assign left right) = Unit {0}
IsAssignmentOrWhere (Masked' test h stmts k elses) = Unit {0}
IsAssignmentOrWhere body = ⊥

abbrev pub AssignmentsAndWheresMean : Type 0
AssignmentsAndWheresMean = ValuesMean → LeftsMean → (body : Body) → IsAssignmentOrWhere body → SimpleMeans body
