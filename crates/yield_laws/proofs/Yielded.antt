-- What the regions of statements yield.
use Rattle.std.proofs.Common.{◌≡◌, refl, ap, ◌∙◌, ℕ, ◌==◌, Bool, true, false, not, List, [], ◌∷◌, ◌++◌, length, All, Some, None}
use Rattle.std.specs.List.{list_all}
use Rattle.std.proofs.lemmas.List.Elements.{All-head, All-tail, All-weaker, All-push}
use Rattle.std.proofs.lemmas.Bool.{and_from}
use Rattle.hlfir_ops.specs.declared.kinds.Elem.TheVariants.{I1}
use Rattle.hlfir_ops.specs.declared.what.What.TheVariants as what
use Rattle.hlfir_ops.specs.declared.op.ValueId.{ValueId}
use Rattle.hlfir_ops.specs.declared.op.Op.{Op}
use Rattle.hlfir_ops.specs.Trees.{op_of}
use Rattle.hlfir_ops.specs.RulesValues.{Value, is_place, is_scalar}
use Rattle.hlfir_ops.specs.RulesRegions.{gives_value, parts, first_kind, yields, yields_one, yields_value, yields_truth, is_integer, yields_integers}
use Rattle.hlfir_ops.specs.RulesStatements.{no_allocatable}
use Rattle.lower_values.specs.declared.operand.Operand.{Operand}
use Rattle.lower_values.specs.Scopes.{Scope}
use Rattle.lower_values.specs.Lowerings.{Lowering, ◌>>=◌, acting}
use Rattle.lower_assign.specs.Statements.{yielded, all_yielded}
use Rattle.kind_laws.specs.Found.{Holds, Found}
use Rattle.yield_laws.proofs.Right.{IsRight, AreRight}
use Rattle.kind_laws.proofs.Finding.{holds_first}
use Rattle.kind_laws.proofs.Ends.{parts-yield, yields-push}
use Rattle.yield_laws.proofs.Usable.{IsUsable, IsValue, plain-right, usable-reached, more-reached}
use Rattle.yield_laws.proofs.Walking.{Walks}
use Rattle.yield_laws.proofs.Elements.{kind-found}

-- the ops of a region that yields these values
pub record IsYielding (vs : List Value) (ops : List Op) (os : List ValueId) : Type 0 where
  pub right : (m : Bool) → AreRight vs m ops
  pub yields : yields ops ≡ true
  pub parts : parts ops ≡ os

all_values : (vs : List Value) (ops : List Op) → All (IsValue vs) ops → list_all gives_value ops ≡ true
all_values vs [] h = refl
all_values vs (op ∷ ops) h = and_from _ _ (All-head (IsValue vs) op ops h).0 (all_values vs ops (All-tail (IsValue vs) op ops h))

module _ (vs : List Value) (s : Scope) (n : ℕ) where
  ended : (ops : List Op) (os : List ValueId) → All (IsValue vs) ops → IsYielding vs (ops ++ op_of what.Yield s.line os None [] ∷ []) os
  ended ops os h = record {
    right = λ m. All-push (IsRight vs m) ops (op_of what.Yield s.line os None []) (All-weaker (IsValue vs) (IsRight vs m) (λ op g. g.1 m) ops h) (plain-right vs m what.Yield s.line os None refl refl);
    yields = yields-push s.line os ops (all_values vs ops h);
    parts = parts-yield s.line os ops;
  }

  -- one value
  pub record IsOne (Q : Operand → Type 0) (ops : List Op) : Type 0 where
    pub made : Operand
    pub yielding : IsYielding vs ops (made.value ∷ [])
    pub passes : Q made

  pub one-yielded : (p : Lowering Operand) (Q : Operand → Type 0) → Walks vs (IsValue vs) s n p Q → Holds vs n (yielded p s n).ops → IsOne Q (yielded p s n).ops
  unfolding ◌>>=◌ acting
  one-yielded p Q h held =
      let x = (p s n).made in
      let w = h (holds_first vs _ (p s n).ops (op_of what.Yield s.line (x.value ∷ []) None [] ∷ []) held) in
      record { made = x; yielding = ended (p s n).ops (x.value ∷ []) w.0; passes = w.1 }

  -- a list of values
  pub record AreAll (Q : List ValueId → Type 0) (ops : List Op) : Type 0 where
    pub made : List ValueId
    pub yielding : IsYielding vs ops made
    pub passes : Q made

  pub all-yielded : (p : Lowering (List ValueId)) (Q : List ValueId → Type 0) → Walks vs (IsValue vs) s n p Q → Holds vs n (all_yielded p s n).ops → AreAll Q (all_yielded p s n).ops
  unfolding ◌>>=◌ acting
  all-yielded p Q h held =
      let os = (p s n).made in
      let w = h (holds_first vs _ (p s n).ops (op_of what.Yield s.line os None [] ∷ []) held) in
      record { made = os; yielding = ended (p s n).ops os w.0; passes = w.1 }

module _ {vs : List Value} {ops : List Op} where
  pub first-kind : {x : Operand} → IsYielding vs ops (x.value ∷ []) → Found vs x → first_kind vs (parts ops) ≡ Some x.kind
  first-kind y f = ap (first_kind vs) y.parts ∙ kind-found f

  pub one-of : {v : ValueId} → IsYielding vs ops (v ∷ []) → yields_one ops ≡ true
  one-of y = and_from _ _ y.yields (ap (λ os. length os == 1) y.parts)

  pub value-yielded : {x : Operand} → IsYielding vs ops (x.value ∷ []) → Found vs x → is_place (Some x.kind) ≡ false → yields_value vs ops ≡ true
  value-yielded y f h = and_from _ _ (one-of y) (ap (λ k. not (is_place k)) (first-kind y f) ∙ ap not h)

  pub truth-yielded : {x : Operand} → IsYielding vs ops (x.value ∷ []) → Found vs x → is_scalar I1 (Some x.kind) ≡ true → yields_truth vs ops ≡ true
  truth-yielded y f h = and_from _ _ (one-of y) (ap (is_scalar I1) (first-kind y f) ∙ h)

  pub yielded-reached : {os : List ValueId} → IsYielding vs ops os → no_allocatable vs os ≡ true → no_allocatable vs (parts ops) ≡ true
  yielded-reached y h = ap (no_allocatable vs) y.parts ∙ h

  pub usable-yielded : {x : Operand} → IsYielding vs ops (x.value ∷ []) → IsUsable vs x → no_allocatable vs (parts ops) ≡ true
  usable-yielded {x} y u = yielded-reached y (more-reached vs x.value [] (usable-reached u) refl)

  pub integers-yielded : {os : List ValueId} → IsYielding vs ops os → list_all (is_integer vs) os ≡ true → yields_integers vs ops ≡ true
  integers-yielded y h = and_from _ _ y.yields (ap (list_all (is_integer vs)) y.parts ∙ h)
