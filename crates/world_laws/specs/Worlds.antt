-- When the variables of a run fit the declares of a module.
use Rattle.std.specs.Prelude.{◌≡◌, ◌≤◌, ℕ, suc, Bool, false, List, [], ◌∷◌, Option, Some, None, ℤ}
use Rattle.ws_base.specs.Numbers.{truth}
use Rattle.ws_space.specs.declared.state.Var.{Var}
use Rattle.ws_space.specs.Values.{Name}
use Rattle.ws_types.specs.Constants as constants
use Rattle.ws_types.specs.declared.constant.Constancy.{Constancy}
use Rattle.ws_types.specs.declared.constant.Constancy.TheVariants.{Value}
use Rattle.ws_tree.specs.declared.expr.Expr.TheVariants.{Named}
use Rattle.array_meaning.specs.declared.world.World.{World}
use Rattle.array_meaning.specs.Stage1.{constant_of}
use Rattle.array_meaning.specs.Assign.{is_name_in}
use Rattle.hlfir_ops.specs.RulesValues.{elem_of, rank_of}
use Rattle.hlfir_meaning.specs.Meaning.{is_truth}
use Rattle.lower_values.specs.declared.names.Names.{Names}
use Rattle.lower_values.specs.declared.names.Variable.{Variable}
use Rattle.lower_values.specs.declared.operand.Operand.{Operand}
use Rattle.lower_values.specs.References.{variable_of, truth_of}
use Rattle.lower_assign.specs.Statements.{is_whole_allocatable}
use Rattle.value_laws.specs.Variables.{Fits}
use Rattle.value_laws.specs.Names.{ConstantsAgree}

-- a variable, and what it holds
pub record FitsDeclare (d : Variable) (v : Var) : Type 0 where
  pub name : v.name ≡ d.name
  pub truth : v.truth ≡ is_truth (elem_of d.declare.kind)
  pub narrow : rank_of d.declare.kind ≤ 3
  pub state : Fits d.declare.kind v.state

-- one after another, the declares numbered from this number on
abbrev pub FitDeclares : ℕ → List Variable → List Var → Type 0
FitDeclares n [] [] = Unit {0}
FitDeclares n (d ∷ ds) (v ∷ vs) = (d.declare.value.number ≡ n) × FitsDeclare d v × FitDeclares (suc n) ds vs
FitDeclares n _ _ = ⊥

-- what a name that is no variable stands for among the constants: an INTEGER with a value, or else a LOGICAL
abbrev pub constant_value : Constancy → Bool → ℤ
constant_value (Value z) b = z
constant_value _ b = truth b

abbrev pub ConstantFits : Names → World → Name → Option Operand → Type 0
ConstantFits names w x (Some d) = constant_of w.constants x ≡ None
ConstantFits names w x None = (z : ℤ) → constant_of w.constants x ≡ Some z → z ≡ constant_value (constants.constant_of names.constants x) (truth_of names.truths x)

-- the world of a run of a source with these names
pub record FitsNames (names : Names) (w : World) : Type 0 where
  pub variables : FitDeclares 0 names.variables w.vars
  pub constants : (x : Name) → ConstantFits names w x (variable_of names.variables x)
  pub integers : ConstantsAgree names.constants w.constants
  pub truths : (x : Name) → constant_of w.constants x ≡ None → truth_of names.truths x ≡ false
  pub allocatables : (x : Name) → is_name_in w.allocatables x ≡ is_whole_allocatable names (Named x)
