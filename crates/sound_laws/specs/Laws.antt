-- What the rules on expressions give to their lowering.
use Rattle.std.specs.Prelude.{◌≡◌, ℕ, true, false, List, []}
use Rattle.ws_tree.specs.declared.expr.Expr.{Expr}
use Rattle.ws_tree.specs.Grammatical.{IsExpr}
use Rattle.ws_types.specs.declared.types.Row.{Row}
use Rattle.ws_types.specs.Expressions.{faults}
use Rattle.lower_values.specs.Scopes.{Scope}
use Rattle.kind_laws.specs.Standing.{Knows}
use Rattle.value_laws.specs.Sound.{IsSound}

-- outside FORALL
abbrev pub AcceptedIsSound : Type 0
AcceptedIsSound = (t : List Row) (line : ℕ) (s : Scope) → Knows t s → s.indexes ≡ [] → (e : Expr) → IsExpr e → faults t false line e ≡ [] → IsSound true s e
