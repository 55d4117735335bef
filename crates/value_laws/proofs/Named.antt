-- A name: a variable, an INTEGER constant with a value, or a LOGICAL constant.
use Rattle.std.proofs.Common.{◌≡◌, refl, sym, subst, ℕ, ◌≤◌, ◌==◌, true, false, List, Option, Some, None}
use Rattle.std.proofs.lemmas.Bool.{true≢false}
use Rattle.ws_base.specs.declared.name.Name.{Name}
use Rattle.ws_base.specs.Numbers.{truth}
use Rattle.ws_base.specs.Outcomes.{Staged}
use Rattle.ws_space.specs.declared.state.VarState.{VarState}
use Rattle.ws_space.specs.declared.state.VarState.TheVariants as state
use Rattle.ws_space.specs.Values.{state_of}
use Rattle.ws_tree.specs.declared.expr.Expr.TheVariants.{Named}
use Rattle.ws_types.specs.declared.constant.Constancy.{Constancy}
use Rattle.ws_types.specs.declared.constant.Constancy.TheVariants.{Value, NoValue, NotConstant}
use Rattle.ws_types.specs.Constants as known
use Rattle.array_meaning.specs.declared.world.World.{World}
use Rattle.array_meaning.specs.declared.term.Term.{Term}
use Rattle.array_meaning.specs.Stage1 as source
use Rattle.hlfir_ops.specs.declared.kinds.Elem.TheVariants.{I32, I1}
use Rattle.hlfir_ops.specs.declared.kinds.ValueKind.{ValueKind}
use Rattle.hlfir_ops.specs.declared.kinds.ValueKind.TheVariants as kind
use Rattle.hlfir_ops.specs.declared.op.ValueId.{ValueId}
use Rattle.hlfir_ops.specs.RulesValues.{rank_of}
use Rattle.hlfir_meaning.specs.Environments.{Environment}
use Rattle.hlfir_meaning.specs.Stage1.{stage1}
use Rattle.lower_values.specs.declared.operand.Operand.{Operand}
use Rattle.lower_values.specs.Scopes.{Scope, index_of}
use Rattle.lower_values.specs.Lowerings.{Lowering, done, giving, scoped, ◌>>=◌ as ◌then◌}
use Rattle.lower_values.specs.Operations.{constant}
use Rattle.lower_values.specs.References.{boxed, loaded, variable_of, truth_of, variable_or_truth, index_or_other, named}
use Rattle.lower_values.specs.Values.{constant_or, folded, value}
use Rattle.value_laws.specs.Standing.{Does, Stands}
use Rattle.value_laws.specs.Names.{IfValue, Agrees}
use Rattle.value_laws.specs.Variables.{IsNamed, Fits}
use Rattle.value_laws.proofs.Names.{does-variable}
use Rattle.value_laws.proofs.Scalars.{does-constant}
use Rattle.value_laws.proofs.Walking.{does-scoped}

module _ (vectors : List ℕ) (base low : ℕ) (s : Scope) (n : ℕ) (env : Environment) (g : base ≤ low) (l : low ≤ n) (w : World) (agrees : Agrees s.names base w env) (x : Name) where
  abbrev Leaves : Lowering Operand → Staged Term → Type 0
  Leaves p r = Does vectors s n env p r (λ y t m after. Stands base low m after y t)

  variable_stands : (o : Option Operand) → variable_of s.names.variables x ≡ o → known.constant_of s.names.constants x ≡ NotConstant → Leaves (variable_or_truth s.names x o) (source.walk w (Named x))
  variable_stands (Some d) is free =
      let h = agrees.variables x d is in
      subst (λ q. Leaves (variable_or_truth s.names x (Some d)) (source.named q (state_of w.vars x))) (sym h.0)
      (does-variable vectors base low s n env h.1.var d.value g l h.1.below h.1.found d.kind (state_of w.vars x) h.1.holds h.1.fits)
  variable_stands None is free =
      subst (λ r. Leaves (constant I1 (truth (truth_of s.names.truths x))) r) (sym (agrees.truths x is free)) (does-constant vectors base low I1 (truth (truth_of s.names.truths x)) s n env l)

  named_stands : index_of s.indexes x ≡ None → known.constant_of s.names.constants x ≡ NotConstant → Leaves (named x) (source.walk w (Named x))
  unfolding named
  named_stands apart free = does-scoped (stage1 vectors) s n env (λ q. index_or_other q x (index_of q.indexes x)) (source.walk w (Named x)) (λ y t m after. Stands base low m after y t)
      (subst (λ i. Leaves (index_or_other s x i) (source.walk w (Named x))) (sym apart) (variable_stands (variable_of s.names.variables x) refl free))

  by_constancy : (c : Constancy) → known.constant_of s.names.constants x ≡ c → IfValue c (λ z. source.constant_of w.constants x ≡ Some z) → index_of s.indexes x ≡ None → known.has_no_value c ≡ false →
      Leaves (constant_or c (named x)) (source.walk w (Named x))
  by_constancy (Value z) is held apart has =
      subst (λ q. Leaves (constant I32 z) (source.named q (state_of w.vars x))) (sym held) (does-constant vectors base low I32 z s n env l)
  by_constancy NoValue is held apart has = absurd (true≢false has)
  by_constancy NotConstant is held apart has = named_stands apart is

  pub does-name : index_of s.indexes x ≡ None → known.has_no_value (known.constant_of s.names.constants x) ≡ false → Leaves (value (Named x)) (source.walk w (Named x))
  unfolding folded
  does-name apart has = does-scoped (stage1 vectors) s n env (λ q. constant_or (known.constancy q.names.constants (Named x)) (named x)) (source.walk w (Named x)) (λ y t m after. Stands base low m after y t)
      (by_constancy (known.constant_of s.names.constants x) refl (agrees.integers x) apart has)

-- what a name leaves is a declare, a box, or of rank 0
module _ (s : Scope) (n base : ℕ) (env : Environment) (w : World) (agrees : Agrees s.names base w env) (x : Name) where
  abbrev Ranked : ValueKind → Type 0
  Ranked k = (IsNamed k → ⊥) → (rank_of k == 0) ≡ true

  variable_rank : (id : ValueId) (k : ValueKind) (held : VarState) → Fits k held → Ranked ((boxed (record { value = id; kind = k }) then loaded) s n).made.kind
  unfolding boxed loaded done giving ◌then◌
  variable_rank id (kind.Place e) (state.Scalar z) h = λ not. refl
  variable_rank id (kind.Declared e shape) (state.Array a) h = λ not. absurd (not tt)
  variable_rank id (kind.Allocatable e rank) held h = λ not. absurd (not tt)
  variable_rank id k held h = absurd h

  other_rank : (o : Option Operand) → variable_of s.names.variables x ≡ o → Ranked (variable_or_truth s.names x o s n).made.kind
  unfolding giving
  other_rank (Some d) is = variable_rank d.value d.kind (state_of w.vars x) (agrees.variables x d is).1.fits
  other_rank None is = λ not. refl

  index_rank : (i : Option ValueId) → Ranked (index_or_other s x i s n).made.kind
  unfolding done
  index_rank (Some v) = λ not. refl
  index_rank None = other_rank (variable_of s.names.variables x) refl

  constancy_rank : (c : Constancy) → Ranked (constant_or c (named x) s n).made.kind
  unfolding giving named scoped
  constancy_rank (Value z) = λ not. refl
  constancy_rank NoValue = index_rank (index_of s.indexes x)
  constancy_rank NotConstant = index_rank (index_of s.indexes x)

  pub name-rank : Ranked (value (Named x) s n).made.kind
  unfolding folded scoped
  name-rank = constancy_rank (known.constant_of s.names.constants x)
