-- The variable of a designator: its declare, or its box, which faults where it is not allocated.
use Rattle.std.proofs.Common.{◌≡◌, refl, sym, ap, ◌∙◌, subst, inl, inr, ℕ, ◌<◌, ◌≤◌, List, [], ◌∷◌, Some, Ok, arith}
use Rattle.ws_base.specs.Outcomes.{Staged, ◌>>=◌}
use Rattle.ws_space.specs.declared.state.ArrayValue.{ArrayValue}
use Rattle.ws_space.specs.declared.state.VarState.{VarState}
use Rattle.ws_space.specs.declared.state.VarState.TheVariants as state
use Rattle.ws_space.specs.declared.state.Var.{Var}
use Rattle.array_meaning.specs.Stage1 as source
use Rattle.hlfir_ops.specs.declared.kinds.Elem.{Elem}
use Rattle.hlfir_ops.specs.declared.kinds.ValueKind.{ValueKind}
use Rattle.hlfir_ops.specs.declared.kinds.ValueKind.TheVariants as kind
use Rattle.hlfir_ops.specs.declared.what.What.TheVariants as what
use Rattle.hlfir_ops.specs.declared.op.Op.{Op}
use Rattle.hlfir_ops.specs.Trees.{op_of}
use Rattle.hlfir_ops.specs.RulesValues.{rank_of}
use Rattle.hlfir_ops.proofs.Numbered.{op_numbers-op_of}
use Rattle.hlfir_meaning.specs.Environments.{Value, variable, Environment, with_value}
use Rattle.hlfir_meaning.specs.References as references
use Rattle.hlfir_meaning.specs.Stage1 as walked
use Rattle.hlfir_meaning.specs.Stage1.{stage1}
use Rattle.lower_values.specs.declared.operand.Operand.{Operand}
use Rattle.lower_values.specs.Scopes.{Scope}
use Rattle.lower_values.specs.Lowerings.{giving}
use Rattle.lower_values.specs.References.{box_of, boxed}
use Rattle.value_laws.specs.Standing.{Goes, Does}
use Rattle.value_laws.specs.Variables.{IsArrayOf, Fits, IsNamed}
use Rattle.value_laws.proofs.Walking.{with_value-here, goes-op, does-done}
use Rattle.value_laws.proofs.Scalars.{settled-not}
use Rattle.part_laws.specs.Parts.{Refers}

module _ (vectors : List ℕ) (base low : ℕ) (s : Scope) (n : ℕ) (env : Environment) (v : Var) (d : Operand) (l : low ≤ n) (below : d.value.number < base) (found : env d.value.number ≡ variable v) where
  abbrev Leaves : Operand → ArrayValue → ℕ → Environment → Type 0
  Leaves x a m after = Refers base low m after x v a

  abbrev box_op : Elem → ℕ → Op
  box_op e rank = op_of what.Boxed s.line (d.value ∷ []) (Some (kind.Allocatable e rank)) []

  abbrev box : VarState → Staged Value
  box held = references.allocated held >>= (λ a. Ok (variable v))

  boxes : (e : Elem) (rank : ℕ) (held : VarState) → v.state ≡ held → Goes vectors n env (box_op e rank ∷ []) (box held) (λ x after. after ≡ with_value n x env)
  boxes e rank held is = subst (λ q. Goes vectors n env (box_op e rank ∷ []) q (λ x after. after ≡ with_value n x env))
      (settled-not n env (walked.made n env what.Boxed (d.value ∷ []) []) ∙ (ap walked.boxed found ∙ ap box is))
      (goes-op vectors what.Boxed s.line (d.value ∷ []) (Some (kind.Allocatable e rank)) [] n env refl)

  boxed_array : (e : Elem) (rank : ℕ) (a : ArrayValue) → v.state ≡ state.Array a → IsArrayOf rank a → Does vectors s n env (box_of (kind.Allocatable e rank) d) (Ok a) Leaves
  unfolding giving
  boxed_array e rank a is h =
      let made = boxes e rank (state.Array a) is in (
        made.0,
        made.1,
        record {
          found = ap (λ f. f n) made.2 ∙ with_value-here n (variable v) env;
          holds = is;
          own = inr (l, omega (arith, op_numbers-op_of what.Boxed s.line (d.value ∷ []) (Some (kind.Allocatable e rank)) []));
          fits = h;
        },
      )

  by_kind : (k : ValueKind) (held : VarState) → d.kind ≡ k → v.state ≡ held → Fits k held → IsNamed k → Does vectors s n env (box_of k d) (source.allocated held) Leaves
  unfolding giving
  by_kind (kind.Declared e shape) (state.Array a) named is h g =
      does-done (stage1 vectors) s n env d a Leaves (record { found = found; holds = is; own = inl below; fits = subst (λ k. IsArrayOf (rank_of k) a) (sym named) h })
  by_kind (kind.Allocatable e rank) (state.Array a) named is h g = boxed_array e rank a is h
  by_kind (kind.Allocatable e rank) (state.Unallocated r) named is h g = boxes e rank (state.Unallocated r) is
  by_kind (kind.Place e) (state.Scalar z) named is h g = absurd g
  by_kind k held named is h g = absurd h

  pub does-boxed : (held : VarState) → v.state ≡ held → Fits d.kind held → IsNamed d.kind → Does vectors s n env (boxed d) (source.allocated held) Leaves
  unfolding boxed
  does-boxed held is h g = by_kind d.kind held refl is h g
