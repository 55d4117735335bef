-- Expressions as regions: what they yield has the values of their sources.
use Rattle.std.specs.Prelude.{◌≡◌, ℕ, ◌≤◌, true, false, List}
use Rattle.ws_tree.specs.declared.expr.Expr.{Expr}
use Rattle.ws_tree.specs.declared.expr.Expr.TheVariants.{Named}
use Rattle.array_meaning.specs.declared.world.World.{World}
use Rattle.array_meaning.specs.declared.term.Term.{Term}
use Rattle.array_meaning.specs.Stage1 as source
use Rattle.array_meaning.specs.Stage2 as later
use Rattle.hlfir_meaning.specs.Environments.{Value, variable, scalar, Environment, Yielded, result}
use Rattle.hlfir_meaning.specs.Stage1.{subscript_numbers}
use Rattle.hlfir_meaning.specs.Stage2.{operands, values}
use Rattle.lower_values.specs.Scopes.{Scope}
use Rattle.lower_values.specs.Values.{value}
use Rattle.value_laws.specs.Standing.{AreIn}
use Rattle.value_laws.specs.Names.{Agrees}
use Rattle.value_laws.specs.Sound.{IsSound, IsClear}
use Rattle.value_laws.specs.Regions.{IsScalarOf}
use Rattle.part_laws.specs.Joined.{HasSmallRanks}
use Rattle.part_laws.specs.Lefts.{region_of, Ends}

-- what is yielded has the term's array operands, and at any places of their shape the term's values or its fault
pub record HasValues (y : Yielded) (t : Term) : Type 0 where
  pub scalar : IsScalarOf (result y) t
  pub operands_are : operands (result y) ≡ later.operands t
  pub values_are : (at : List ℕ) → AreIn at (later.operands t) → values y at ≡ later.values t at

abbrev pub RegionsYield : Type 0
RegionsYield = (base : ℕ) (s : Scope) (w : World) → HasSmallRanks s.names → (n : ℕ) (env : Environment) → base ≤ n → Agrees s.names base w env → (e : Expr) → IsSound true s e →
    IsClear (subscript_numbers (region_of (value e) s n).ops) s false n e → Ends env (region_of (value e) s n) (source.walk w e) HasValues

-- ---- whole variables

abbrev pub IsNoVariable : Value → Type 0
IsNoVariable (variable v) = ⊥
IsNoVariable v = Unit {0}

abbrev pub IsName : Expr → Type 0
IsName (Named x) = Unit {0}
IsName e = ⊥

-- No region of an expression but a name yields a whole variable, whose bounds an assignment could hand on.
abbrev pub OnlyNamesAreVariables : Type 0
OnlyNamesAreVariables = (base : ℕ) (s : Scope) (w : World) → HasSmallRanks s.names → (n : ℕ) (env : Environment) → base ≤ n → Agrees s.names base w env → (e : Expr) → (IsName e → ⊥) → IsSound true s e →
    IsClear (subscript_numbers (region_of (value e) s n).ops) s false n e → Ends env (region_of (value e) s n) (source.walk w e) (λ y t. IsNoVariable (result y))
