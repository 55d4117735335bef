-- Values in parentheses.
use Rattle.std.proofs.Common.{◌≡◌, refl, ap, ◌∙◌, ℕ, ◌==◌, true, false, ◌&&◌, List, [], ◌∷◌, Some, arith}
use Rattle.std.proofs.lemmas.Bool.{and_from}
use Rattle.hlfir_ops.specs.declared.kinds.Elem.{Elem}
use Rattle.hlfir_ops.specs.declared.kinds.ValueKind.{ValueKind}
use Rattle.hlfir_ops.specs.declared.kinds.ValueKind.TheVariants as kind
use Rattle.hlfir_ops.specs.declared.what.What.TheVariants as what
use Rattle.hlfir_ops.specs.RulesValues.{Value, elem_of, rank_of, is_reference, same_elem}
use Rattle.hlfir_ops.specs.RulesForms.{is_array_of, rank_of_kind}
use Rattle.lower_values.specs.declared.operand.Operand.{Operand}
use Rattle.lower_values.specs.Scopes.{Scope}
use Rattle.lower_values.specs.Lowerings.{giving}
use Rattle.lower_values.specs.Operations.{in_parentheses, value_of_whole, as_expr}
use Rattle.form_laws.proofs.Passing.{fit-op}
use Rattle.form_laws.proofs.Operands.{IsSolid, Stands}
use Rattle.form_laws.proofs.Walking.{Good, done-good}
use Rattle.kind_laws.proofs.TypesTold.{same_elem-same}

module _ (vs : List Value) (s : Scope) (n : ℕ) (x : Operand) (h : Stands vs x) where
  whole-good : (e : Elem) (rank : ℕ) → is_reference (Some x.kind) ≡ true → elem_of x.kind ≡ e → rank_of x.kind ≡ rank → (rank == 0) ≡ false → Good vs (as_expr x e rank s n)
  unfolding giving
  whole-good e rank reference is same some = record {
    fit = fit-op vs false what.AsExpr s.line (x.value ∷ []) (Some (kind.Array e rank)) []
        (ap (λ k. is_reference k && is_array_of k (rank_of_kind k) (Some (kind.Array e rank))) h.found
        ∙ and_from (is_reference (Some x.kind)) (same_elem (elem_of x.kind) e && rank == rank_of x.kind) reference
        (and_from (same_elem (elem_of x.kind) e) (rank == rank_of x.kind) (ap (λ f. same_elem f e) is ∙ same_elem-same e) (grind (arith, same)))) tt;
    solid = some;
  }

  by_kind : (k : ValueKind) → x.kind ≡ k → IsSolid k → Good vs (value_of_whole k x s n)
  by_kind (kind.Declared e shape) is solid = whole-good e shape.rank (ap (λ k. is_reference (Some k)) is) (ap elem_of is) (ap rank_of is) solid
  by_kind (kind.Allocatable e rank) is solid = whole-good e rank (ap (λ k. is_reference (Some k)) is) (ap elem_of is) (ap rank_of is) solid
  by_kind (kind.Scalar e) is solid = done-good vs x s n h.solid
  by_kind (kind.Place e) is solid = done-good vs x s n h.solid
  by_kind (kind.Section e rank) is solid = done-good vs x s n h.solid
  by_kind (kind.Array e rank) is solid = done-good vs x s n h.solid

  pub parentheses-good : Good vs (in_parentheses x s n)
  unfolding in_parentheses
  parentheses-good = by_kind x.kind refl h.solid
