-- What the lowering knows of the names of a source, and what the source's world holds under them.
use Rattle.std.specs.Prelude.{◌≡◌, ℕ, ◌<◌, List, Some, None, Ok, ℤ}
use Rattle.ws_base.specs.declared.name.Name.{Name}
use Rattle.ws_base.specs.Numbers.{truth}
use Rattle.ws_space.specs.declared.state.VarState.{VarState}
use Rattle.ws_space.specs.declared.state.Var.{Var}
use Rattle.ws_space.specs.Values.{state_of}
use Rattle.ws_types.specs.declared.constant.Constant as types
use Rattle.ws_types.specs.declared.constant.Constancy.{Constancy}
use Rattle.ws_types.specs.declared.constant.Constancy.TheVariants.{Value, NotConstant}
use Rattle.ws_types.specs.Constants as known
use Rattle.array_meaning.specs.declared.world.Constant.{Constant}
use Rattle.array_meaning.specs.declared.world.World.{World}
use Rattle.array_meaning.specs.declared.term.Term.TheVariants.{Scalar}
use Rattle.array_meaning.specs.Stage1 as source
use Rattle.hlfir_meaning.specs.Environments.{variable, Environment}
use Rattle.lower_values.specs.declared.names.Names.{Names}
use Rattle.lower_values.specs.declared.operand.Operand.{Operand}
use Rattle.lower_values.specs.References.{variable_of, truth_of}
use Rattle.value_laws.specs.Variables.{Fits}

-- where it is a value, this holds of it
abbrev pub IfValue : Constancy → (ℤ → Type 0) → Type 0
IfValue (Value z) P = P z
IfValue _ P = Unit {0}

-- each INTEGER constant that has a value has it in the source
abbrev pub ConstantsAgree : List types.Constant → List Constant → Type 0
ConstantsAgree cs ks = (x : Name) → IfValue (known.constant_of cs x) (λ z. source.constant_of ks x ≡ Some z)

-- the declare, whose number is below `base`, stands for a variable that holds this
pub record DeclareStands (base : ℕ) (env : Environment) (d : Operand) (held : VarState) : Type 0 where
  pub below : d.value.number < base
  pub var : Var
  pub found : env d.value.number ≡ variable var
  pub holds : var.state ≡ held
  pub fits : Fits d.kind held

-- The names stand for what the world holds: variables, INTEGER constants, and LOGICAL constants, of which one that is not listed is false. Index names are apart.
pub record Agrees (names : Names) (base : ℕ) (w : World) (env : Environment) : Type 0 where
  pub variables : (x : Name) (d : Operand) → variable_of names.variables x ≡ Some d → (source.constant_of w.constants x ≡ None) × DeclareStands base env d (state_of w.vars x)
  pub integers : ConstantsAgree names.constants w.constants
  pub truths : (x : Name) → variable_of names.variables x ≡ None → known.constant_of names.constants x ≡ NotConstant →
      source.named (source.constant_of w.constants x) (state_of w.vars x) ≡ Ok (Scalar (truth (truth_of names.truths x)))
