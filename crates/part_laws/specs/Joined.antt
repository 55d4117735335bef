-- Expressions and left sides in which designators stand.
use Rattle.std.specs.Prelude.{◌≡◌, ℕ, ◌+◌, ◌≤◌, true, false, List, Some}
use mathlib.Core.Former.{Count}
use Rattle.ws_base.specs.declared.name.Name.{Name}
use Rattle.ws_space.specs.Values.{state_of}
use Rattle.ws_tree.specs.declared.expr.Expr.{Expr}
use Rattle.ws_tree.specs.Trees.{Subs}
use Rattle.ws_types.specs.Expressions.{how_many}
use Rattle.array_meaning.specs.declared.world.World.{World}
use Rattle.array_meaning.specs.Stage1 as source
use Rattle.hlfir_ops.specs.Numbers.{numbers_of}
use Rattle.hlfir_ops.specs.RulesValues.{rank_of}
use Rattle.hlfir_meaning.specs.Environments.{Environment}
use Rattle.lower_values.specs.declared.names.Names.{Names}
use Rattle.lower_values.specs.declared.operand.Operand.{Operand}
use Rattle.lower_values.specs.Scopes.{Scope}
use Rattle.lower_values.specs.References.{variable_of, reference}
use Rattle.lower_values.specs.Values.{value, part_of, subscripts}
use Rattle.value_laws.specs.Standing.{Does}
use Rattle.value_laws.specs.Laws as values
use Rattle.value_laws.specs.Names.{DeclareStands, Agrees}
use Rattle.value_laws.specs.Sound.{IsSound, AreSoundSubs, IsClear, AreClearSubs}
use Rattle.value_laws.specs.Variables.{IsNamed}
use Rattle.part_laws.specs.Parts.{IsPart}
use Rattle.part_laws.specs.Laws.{part_selected}

-- no variable has more than three dimensions
abbrev pub HasSmallRanks : Names → Type 0
HasSmallRanks names = (x : Name) (d : Operand) → variable_of names.variables x ≡ Some d → rank_of d.kind ≤ 3

-- a designator in an expression, where each of its subscripts stands for its source
abbrev pub PartsOfExpressionsStand : Type 0
PartsOfExpressionsStand = (vectors : List ℕ) (base : ℕ) (s : Scope) (w : World) → HasSmallRanks s.names → values.PartsStand vectors base s w

-- any expression outside FORALL
abbrev pub ExpressionsStand : Type 0
ExpressionsStand = (vectors : List ℕ) (base : ℕ) (s : Scope) (w : World) → HasSmallRanks s.names → (n : ℕ) (env : Environment) → base ≤ n → Agrees s.names base w env →
    (e : Expr) → IsSound true s e → IsClear vectors s false n e → values.Leaves vectors base n s n env (value e) (source.walk w e)

-- a part of an array, as a left side
abbrev pub LeftPartsSelect : Type 0
LeftPartsSelect = (k : Count) (vectors : List ℕ) (base : ℕ) (s : Scope) (w : World) → HasSmallRanks s.names → (n : ℕ) (env : Environment) → base ≤ n → Agrees s.names base w env →
    (x : Name) (d : Operand) → variable_of s.names.variables x ≡ Some d → IsNamed d.kind → (stands : DeclareStands base env d (state_of w.vars x)) →
    (subs : Subs k) → rank_of d.kind ≡ how_many subs → AreSoundSubs true s subs → AreClearSubs vectors s (reference x s n).made 1 (n + numbers_of (reference x s n).ops) subs →
    Does vectors s n env (part_of x (λ r. subscripts r 1 subs)) (part_selected w x subs) (λ y b m after. IsPart n m after y stands.var b.0 b.1)
