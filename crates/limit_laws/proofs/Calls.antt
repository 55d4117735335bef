-- Costs of calls and constructors.
use Rattle.std.proofs.Common.{◌≡◌, refl, ℕ, ◌+◌, ◌*◌, nat_le, true, List, length, arith}
use Rattle.std.proofs.lemmas.List.{length-map}
use Rattle.ws_base.specs.declared.op.CallWord.{CallWord}
use Rattle.ws_base.specs.declared.op.CallWord.TheVariants as word
use Rattle.ws_types.specs.Operations as types
use Rattle.hlfir_ops.specs.declared.kinds.ValueKind.TheVariants.{Scalar, Array}
use Rattle.hlfir_ops.specs.declared.what.Reduction.{Reduction}
use Rattle.hlfir_ops.specs.declared.what.What.TheVariants as what
use Rattle.hlfir_ops.specs.RulesValues.{Value}
use Rattle.hlfir_ops.specs.RulesForms.{total_elem}
use Rattle.hlfir_ops.specs.RulesLimits.{item_limit}
use Rattle.lower_values.specs.declared.operand.Operand.{Operand}
use Rattle.lower_values.specs.Scopes.{Scope}
use Rattle.lower_values.specs.Lowerings.{giving}
use Rattle.lower_values.specs.Operations.{values_of, what_of, first_elem, call_elem, total, operation, call_on, vector}
use Rattle.limit_laws.proofs.Costs.{Priced, one_if}
use Rattle.limit_laws.proofs.Costing.{costs-weaker, spends-giving}
use Rattle.limit_laws.proofs.Operations.{IsPlain, priced, priced-operation}

call-plain : (w : CallWord) → IsPlain (what_of w)
call-plain word.Abs = record { light = λ os. refl; reduces = λ os. refl; wholes = λ us os. refl }
call-plain word.Mod = record { light = λ os. refl; reduces = λ os. refl; wholes = λ us os. refl }
call-plain word.Modulo = record { light = λ os. refl; reduces = λ os. refl; wholes = λ us os. refl }
call-plain _ = record { light = λ os. refl; reduces = λ os. refl; wholes = λ us os. refl }

module _ (vs : List Value) where
  priced-total : (r : Reduction) (xs : List Operand) (s : Scope) (n : ℕ) → Priced vs (total r xs s n) (4 + 3 * length xs) 1 0
  unfolding giving
  priced-total r xs s n =
      priced vs (total r xs s n) (4 + 3 * length xs) 1 0
      (costs-weaker vs _ _ _ _ (4 + 3 * length xs) 1 0 (spends-giving vs (what.Reduce r) (values_of xs) (Scalar (total_elem r)) s n refl) (omega (arith, length-map xs (λ (x : Operand). x.value))) (omega arith) (omega arith))
      refl tt

  priced-other : (w : CallWord) (xs : List Operand) (s : Scope) (n : ℕ) → Priced vs (operation (what_of w) (call_elem w xs) xs s n) (4 + 3 * length xs) 0 0
  priced-other w xs s n = priced-operation vs (what_of w) (call-plain w) (call_elem w xs) xs s n

  -- a reduction is counted as one
  pub priced-call_on : (w : CallWord) (xs : List Operand) (s : Scope) (n : ℕ) → Priced vs (call_on w xs s n) (4 + 3 * length xs) (one_if (types.is_reduction w)) 0
  unfolding call_on
  priced-call_on word.Sum xs s n = priced-total _ xs s n
  priced-call_on word.Product xs s n = priced-total _ xs s n
  priced-call_on word.Minval xs s n = priced-total _ xs s n
  priced-call_on word.Maxval xs s n = priced-total _ xs s n
  priced-call_on word.Count xs s n = priced-total _ xs s n
  priced-call_on word.Any xs s n = priced-total _ xs s n
  priced-call_on word.All xs s n = priced-total _ xs s n
  priced-call_on word.Abs xs s n = priced-other word.Abs xs s n
  priced-call_on word.Mod xs s n = priced-other word.Mod xs s n
  priced-call_on word.Modulo xs s n = priced-other word.Modulo xs s n
  priced-call_on word.Min xs s n = priced-other word.Min xs s n
  priced-call_on word.Max xs s n = priced-other word.Max xs s n
  priced-call_on word.Merge xs s n = priced-other word.Merge xs s n
  priced-call_on word.Size xs s n = priced-other word.Size xs s n
  priced-call_on word.Lbound xs s n = priced-other word.Lbound xs s n
  priced-call_on word.Ubound xs s n = priced-other word.Ubound xs s n
  priced-call_on word.Allocated xs s n = priced-other word.Allocated xs s n

  -- a constructor of few items
  pub priced-vector : (xs : List Operand) (s : Scope) (n : ℕ) → nat_le (length (values_of xs)) item_limit ≡ true → Priced vs (vector xs s n) (1 + length xs) 0 0
  unfolding vector giving
  priced-vector xs s n few =
      priced vs (vector xs s n) (1 + length xs) 0 0
      (costs-weaker vs _ _ _ _ (1 + length xs) 0 0 (spends-giving vs what.Vector (values_of xs) (Array (first_elem xs) 1) s n few) (omega (arith, length-map xs (λ (x : Operand). x.value))) (omega arith) (omega arith))
      refl (omega arith)
