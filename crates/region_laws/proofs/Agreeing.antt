-- The names of a source agree with a world that they fit.
use Rattle.std.proofs.Common.{◌≡◌, refl, sym, ap, ◌∙◌, subst, ℕ, ◌<◌, length, Option, Some, None, Ok, ℤ, pos}
use Rattle.ws_base.specs.declared.name.Name.{Name}
use Rattle.ws_base.specs.Numbers.{truth}
use Rattle.ws_base.specs.Outcomes.{Staged}
use Rattle.ws_space.specs.declared.state.VarState.TheVariants as state
use Rattle.ws_space.specs.Values.{state_of}
use Rattle.ws_types.specs.declared.constant.Constancy.TheVariants.{NotConstant}
use Rattle.ws_types.specs.Constants as known
use Rattle.array_meaning.specs.declared.world.World.{World}
use Rattle.array_meaning.specs.declared.term.Term.{Term}
use Rattle.array_meaning.specs.declared.term.Term.TheVariants as term
use Rattle.array_meaning.specs.Stage1 as source
use Rattle.hlfir_meaning.specs.Environments.{Environment, of_variables}
use Rattle.lower_values.specs.declared.names.Names.{Names}
use Rattle.lower_values.specs.declared.operand.Operand.{Operand}
use Rattle.lower_values.specs.References.{variable_of, truth_of, or_nothing, declare_of}
use Rattle.value_laws.specs.Names.{DeclareStands, Agrees}
use Rattle.world_laws.specs.Worlds.{constant_value, ConstantFits, FitsNames}
use Rattle.world_laws.specs.Yields.{IsOfName}
use Rattle.part_laws.specs.Joined.{HasSmallRanks}
use Rattle.world_laws.proofs.Fitting.{state_fits, absent_state, is_below, refers}

abbrev pub IsGiven : {A : Type 0} → Option A → Type 0
IsGiven None = ⊥
IsGiven (Some a) = Unit {0}

pub not-given : {A : Type 0} (a : A) → None ≡ Some a → ⊥
not-given a h = subst IsGiven (sym h) tt

-- ---- names

module _ (names : Names) (w : World) (fits : FitsNames names w) where
  pub state-none : (x : Name) → variable_of names.variables x ≡ None → state_of w.vars x ≡ state.Scalar (pos 0)
  state-none x is = absent_state 0 names.variables w.vars x fits.variables is

  pub small-ranks : HasSmallRanks names
  small-ranks x d is = (state_fits names w x d fits is).narrow

  constant_named : (x : Name) (o : Option ℤ) → source.constant_of w.constants x ≡ o → variable_of names.variables x ≡ None → known.constant_of names.constants x ≡ NotConstant →
      source.named o (state_of w.vars x) ≡ Ok (term.Scalar (truth (truth_of names.truths x)))
  constant_named x (Some z) is none free =
      let value : z ≡ constant_value (known.constant_of names.constants x) (truth_of names.truths x) = subst (ConstantFits names w x) none (fits.constants x) z is in
      ap (λ v. let r : Staged Term = Ok (term.Scalar v) in r) (value ∙ ap (λ c. constant_value c (truth_of names.truths x)) free)
  constant_named x None is none free =
      ap source.variable (state-none x none) ∙ ap (λ b. let r : Staged Term = Ok (term.Scalar (truth b)) in r) (sym (fits.truths x is))

  module _ (env : Environment) (same : (k : ℕ) → k < length w.vars → env k ≡ of_variables w.vars k) where
    pub declare-held : (x : Name) (d : Operand) → variable_of names.variables x ≡ Some d → DeclareStands (length w.vars) env d (state_of w.vars x)
    declare-held x d is =
        let h = state_fits names w x d fits is in record {
          below = is_below w.vars x d h;
          var = h.var;
          found = refers w.vars x d h env same;
          holds = h.state;
          fits = h.fits;
        }

    pub agrees : Agrees names (length w.vars) w env
    agrees = record {
      variables = λ x d is. (subst (ConstantFits names w x) is (fits.constants x), declare-held x d is);
      integers = fits.integers;
      truths = λ x none free. constant_named x (source.constant_of w.constants x) refl none free;
    }

    pub declare-name : (x : Name) (d : Operand) (is : variable_of names.variables x ≡ Some d) → IsOfName w x (declare-held x d is).var
    unfolding declare-held
    declare-name x d is = let h = state_fits names w x d fits is in record { name = h.name; truth = h.truth }

    -- the declare of a variable's name, and the variable that it stands for
    pub name-held : (x : Name) (d : Operand) → variable_of names.variables x ≡ Some d → (h : DeclareStands (length w.vars) env (declare_of names x) (state_of w.vars x)) × IsOfName w x h.var
    name-held x d is = subst (λ o. (h : DeclareStands (length w.vars) env (or_nothing o) (state_of w.vars x)) × IsOfName w x h.var) (sym is) (declare-held x d is, declare-name x d is)
