-- The arguments of MIN or MAX, which are lowered and joined one after another, and the subscripts of a designator.
use Rattle.std.specs.Prelude.{◌≡◌, ℕ, suc, ◌+◌, ◌==◌, Bool, true, false, not, ◌&&◌, List, Option, Some, None}
use Rattle.ws_base.specs.Outcomes.{◌>>=◌}
use Rattle.ws_space.specs.Values.{is_among}
use Rattle.ws_tree.specs.declared.expr.Expr.{Expr}
use Rattle.ws_tree.specs.declared.expr.Sub.{Sub}
use Rattle.ws_tree.specs.declared.expr.Sub.TheVariants as sub
use Rattle.ws_tree.specs.Trees.{Exprs, end_exprs, more_exprs, Subs, end_subs, more_subs, Given, absent, given}
use Rattle.ws_types.specs.Sections.{is_designator}
use Rattle.array_meaning.specs.declared.world.World.{World}
use Rattle.array_meaning.specs.Stage1 as source
use Rattle.hlfir_ops.specs.declared.kinds.ValueKind.{ValueKind}
use Rattle.hlfir_ops.specs.declared.what.BoundWord.TheVariants.{Lower, Upper}
use Rattle.hlfir_ops.specs.declared.what.ValueBinary.{ValueBinary}
use Rattle.hlfir_ops.specs.Numbers.{numbers_of}
use Rattle.hlfir_ops.specs.RulesValues.{rank_of}
use Rattle.hlfir_meaning.specs.Environments.{Environment}
use Rattle.lower_values.specs.declared.operand.Operand.{Operand}
use Rattle.lower_values.specs.Scopes.{Scope}
use Rattle.lower_values.specs.Operations.{joined}
use Rattle.lower_values.specs.References.{bound}
use Rattle.lower_values.specs.Values.{value, subscript, given_or}
use Rattle.value_laws.specs.Standing.{Kept, Does, Stands, settled, StandsSettled}

-- whether this is so of the op after the last argument; of no op before it
abbrev pub where_last : {k : _} → Exprs k → Bool → Bool
where_last end_exprs b = b
where_last (more_exprs e es) b = false

-- The first argument has no op of its own.
abbrev pub IsTaken : List ℕ → Option Operand → ℕ → Bool → Type 0
IsTaken vectors None m b = Unit {0}
IsTaken vectors (Some x) m b = is_among m vectors ≡ b

-- Where it is lowered, after what has kept the declares of this environment, each argument leaves what stands for its term; whether the op that joins the last one is a vector subscript is given, and no other one is.
abbrev pub ArgumentsStand : {k : _} → List ℕ → ℕ → Environment → Scope → World → ValueBinary → Bool → Option Operand → ℕ → Exprs k → Type 0
ArgumentsStand vectors base start s w op b before n end_exprs = Unit {0}
ArgumentsStand vectors base start s w op b before n (more_exprs e es) =
    let y = (value e s n).made in
    let m = n + numbers_of (value e s n).ops in
    let z = joined op before y s m in
    ((env : Environment) → Kept base start env → Does vectors s n env (value e) (source.walk w e) (λ x t after rho. Stands base n after rho x t))
    × IsTaken vectors before m (where_last es b)
    × ArgumentsStand vectors base start s w op b (Some z.made) (m + numbers_of z.ops) es

-- ---- subscripts

-- a vector subscript that is evaluated whole where it stands
abbrev pub is_settled : Expr → ValueKind → Bool
is_settled e k = not (is_designator e) && not (rank_of k == 0)

-- it leaves its values, listed; any other part of a designator leaves what stands for its term
abbrev pub LeavesAs : Bool → List ℕ → ℕ → Scope → World → ℕ → Environment → Expr → Type 0
LeavesAs true vectors base s w n env e = Does vectors s n env (value e) (source.walk w e >>= settled) (λ x t after rho. StandsSettled base n after rho x t)
LeavesAs false vectors base s w n env e = Does vectors s n env (value e) (source.walk w e) (λ x t after rho. Stands base n after rho x t)

-- after what has kept the declares of this environment
abbrev pub PartStands : Bool → List ℕ → ℕ → Environment → Scope → World → ℕ → Expr → Type 0
PartStands b vectors base start s w n e = (env : Environment) → Kept base start env → LeavesAs b vectors base s w n env e

abbrev pub GivenStands : List ℕ → ℕ → Environment → Scope → World → ℕ → Given → Type 0
GivenStands vectors base start s w n absent = Unit {0}
GivenStands vectors base start s w n (given e) = PartStands false vectors base start s w n e

abbrev pub SubscriptStands : List ℕ → ℕ → Environment → Scope → World → Operand → ℕ → ℕ → Sub → Type 0
SubscriptStands vectors base start s w r dim n (sub.One e) = PartStands (is_settled e (value e s n).made.kind) vectors base start s w n e
SubscriptStands vectors base start s w r dim n (sub.Range' l u st) =
    let m = n + numbers_of (given_or (bound Lower dim r) l s n).ops in
    let k = m + numbers_of (given_or (bound Upper dim r) u s m).ops in
    GivenStands vectors base start s w n l × GivenStands vectors base start s w m u × GivenStands vectors base start s w k st

-- the subscripts from the dimension of this number on
abbrev pub SubscriptsStand : {k : _} → List ℕ → ℕ → Environment → Scope → World → Operand → ℕ → ℕ → Subs k → Type 0
SubscriptsStand vectors base start s w r dim n end_subs = Unit {0}
SubscriptsStand vectors base start s w r dim n (more_subs x xs) =
    SubscriptStands vectors base start s w r dim n x × SubscriptsStand vectors base start s w r (suc dim) (n + numbers_of (subscript r dim x s n).ops) xs
