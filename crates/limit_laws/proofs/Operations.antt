-- Costs of elementwise operations.
use Rattle.std.proofs.Common.{◌≡◌, refl, ap, subst, ℕ, suc, ◌+◌, ◌*◌, ◌≤◌, ◌<◌, ◌==◌, Bool, true, false, List, [], ◌∷◌, length, Option, Some, None, arith, if◌then◌else◌}
use Rattle.std.proofs.lemmas.List.{length-map}
use Rattle.hlfir_ops.specs.declared.kinds.Elem.{Elem}
use Rattle.hlfir_ops.specs.declared.kinds.Elem.TheVariants.{I32, I1}
use Rattle.hlfir_ops.specs.declared.kinds.ValueKind.{ValueKind}
use Rattle.hlfir_ops.specs.declared.kinds.ValueKind.TheVariants.{Scalar, Place, Declared, Allocatable, Section, Array}
use Rattle.hlfir_ops.specs.declared.what.What.{What}
use Rattle.hlfir_ops.specs.declared.what.What.TheVariants as what
use Rattle.hlfir_ops.specs.declared.what.ValueUnary.TheVariants as unary
use Rattle.hlfir_ops.specs.declared.what.ValueBinary.{ValueBinary}
use Rattle.hlfir_ops.specs.declared.op.ValueId.{ValueId}
use Rattle.hlfir_ops.specs.Numbers.{numbers_of}
use Rattle.hlfir_ops.specs.RulesValues.{Value, elem_of, rank_of}
use Rattle.hlfir_ops.specs.RulesForms.{result_elem}
use Rattle.ws_base.specs.declared.op.UnOp.{UnOp}
use Rattle.ws_base.specs.declared.op.UnOp.TheVariants as un
use Rattle.lower_values.specs.declared.operand.Operand.{Operand}
use Rattle.lower_values.specs.Scopes.{Scope, inside}
use Rattle.lower_values.specs.Lowerings.{Lowering, Lowered, done, ◌>>=◌ as ◌then◌, giving, acting, giving_by}
use Rattle.lower_values.specs.Operations.{constant, values_of, arranged, rank_from, on_scalars, at_position, at_positions, element, at_each, operation, binary_operation, value_of_whole, in_parentheses, unary_operation, joined}
use Rattle.limit_laws.proofs.Costs.{is_light, reduces, wholes, Costs, slack, IsProper, Priced}
use Rattle.limit_laws.proofs.Costing.{Spends, costs-weaker, costs-around, spends-done, spends-then, spends-giving, spends-acting}

-- an op that is no statement, no reduction, no designator and no vector
pub record IsPlain (w : What) : Type 0 where
  pub light : (os : List ValueId) → is_light w os ≡ true
  pub reduces : (os : List ValueId) → reduces w os ≡ 0
  pub wholes : (vs : List Value) (os : List ValueId) → wholes vs w os ≡ 0

arranged-length : (w : What) (os : List ValueId) → length (arranged w os) ≡ length os
arranged-length what.Select [] = refl
arranged-length what.Select (a ∷ []) = refl
arranged-length what.Select (a ∷ b ∷ []) = refl
arranged-length what.Select (a ∷ b ∷ c ∷ []) = refl
arranged-length what.Select (a ∷ b ∷ c ∷ d ∷ os) = refl
arranged-length _ os = refl

rank_above : (n : ℕ) → (n == 0) ≡ false → 0 < n
rank_above n h = grind (arith, h)

module _ (vs : List Value) where
  pub priced : (p : Lowered Operand) (z r w : ℕ) → Costs vs p.ops z r w → slack p.made.kind ≡ 0 → IsProper p.made.kind → Priced vs p z r w
  priced p z r w c k h = record { light = c.light; size = omega (arith, c.size, k); reductions = c.reductions; wholes = c.wholes; proper = h }

  pub priced-weaker : (p : Lowered Operand) (z r w z' r' w' : ℕ) → Priced vs p z r w → z ≤ z' → r ≤ r' → w ≤ w' → Priced vs p z' r' w'
  priced-weaker p z r w z' r' w' c hz hr hw = record { light = c.light; size = omega (arith, c.size, hz); reductions = omega (arith, c.reductions, hr); wholes = omega (arith, c.wholes, hw); proper = c.proper }

  pub priced-costs : (p : Lowered Operand) (z r w : ℕ) → Priced vs p z r w → Costs vs p.ops z r w
  priced-costs p z r w c = record { light = c.light; size = omega (arith, c.size); reductions = c.reductions; wholes = c.wholes }

  pub priced-constant : (e : Elem) (z : _) (s : Scope) (n : ℕ) → Priced vs (constant e z s n) 1 0 0
  unfolding giving
  priced-constant e z s n = priced (constant e z s n) 1 0 0 (spends-giving vs (what.Constant z) [] (Scalar e) s n refl) refl tt

  module _ (w : What) (plain : IsPlain w) (e : Elem) where
    spends-on_scalars : (xs : List Operand) (s : Scope) (n : ℕ) → Spends vs (on_scalars w e xs) s n (suc (length xs)) 0 0
    unfolding on_scalars
    spends-on_scalars xs s n =
        let os = arranged w (values_of xs) in
        costs-weaker vs (giving w os (Scalar e) s n).ops (suc (length os)) (reduces w os) (wholes vs w os) (suc (length xs)) 0 0 (spends-giving vs w os (Scalar e) s n (plain.light os))
        (omega (arith, arranged-length w (values_of xs), length-map xs (λ (x : Operand). x.value))) (omega (arith, plain.reduces os)) (omega (arith, plain.wholes vs os))

  position_case : (b : Bool) (x : Operand) (s : Scope) (n : ℕ) → Spends vs (if b then done x else giving what.Apply (x.value ∷ []) (Scalar (elem_of x.kind))) s n 2 0 0
  position_case true x s n = costs-weaker vs (done x s n).ops 0 0 0 2 0 0 (spends-done vs x s n) (omega arith) (omega arith) (omega arith)
  position_case false x s n = spends-giving vs what.Apply (x.value ∷ []) (Scalar (elem_of x.kind)) s n refl

  spends-at_position : (x : Operand) (s : Scope) (n : ℕ) → Spends vs (at_position x) s n 2 0 0
  unfolding at_position
  spends-at_position x s n = position_case (rank_of x.kind == 0) x s n

  spends-at_positions : (xs : List Operand) (s : Scope) (n : ℕ) → Spends vs (at_positions xs) s n (2 * length xs) 0 0
  unfolding at_positions
  spends-at_positions [] s n = spends-done vs [] s n
  spends-at_positions (x ∷ xs) s n =
      let y = (at_position x s n).made in
      let m = n + numbers_of (at_position x s n).ops in
      let more = (at_positions xs s m).made in
      let rest : Lowering (List Operand) = at_positions xs then (λ ys. done (y ∷ ys)) in
      costs-weaker vs ((at_position x then (λ z. at_positions xs then (λ ys. done (z ∷ ys)))) s n).ops (2 + (2 * length xs + 0)) 0 0 (2 * suc (length xs)) 0 0
      (spends-then vs (at_position x) (λ z. at_positions xs then (λ ys. done (z ∷ ys))) s n 2 0 0 (2 * length xs + 0) 0 0 (spends-at_position x s n)
      (spends-then vs (at_positions xs) (λ ys. done (y ∷ ys)) s m (2 * length xs) 0 0 0 0 0 (spends-at_positions xs s m) (spends-done vs (y ∷ more) s (m + numbers_of (at_positions xs s m).ops))))
      (omega arith) (omega arith) (omega arith)

  positions-length : (xs : List Operand) (s : Scope) (n : ℕ) → length (at_positions xs s n).made ≡ length xs
  unfolding at_positions ◌then◌ done
  positions-length [] s n = refl
  positions-length (x ∷ xs) s n = ap suc (positions-length xs s (n + numbers_of (at_position x s n).ops))

  module _ (w : What) (plain : IsPlain w) (e : Elem) where
    spends-element : (xs : List Operand) (s : Scope) (n : ℕ) → Spends vs (element w e xs) s n (3 + 3 * length xs) 0 0
    unfolding element
    spends-element xs s n =
        let ys = (at_positions xs s n).made in
        let m = n + numbers_of (at_positions xs s n).ops in
        let z = (on_scalars w e ys s m).made in
        costs-weaker vs ((at_positions xs then (λ us. on_scalars w e us then (λ u. acting what.YieldElement (u.value ∷ [])))) s n).ops (2 * length xs + (suc (length ys) + 2)) 0 0 (3 + 3 * length xs) 0 0
        (spends-then vs (at_positions xs) (λ us. on_scalars w e us then (λ u. acting what.YieldElement (u.value ∷ []))) s n (2 * length xs) 0 0 (suc (length ys) + 2) 0 0 (spends-at_positions xs s n)
        (spends-then vs (on_scalars w e ys) (λ u. acting what.YieldElement (u.value ∷ [])) s m (suc (length ys)) 0 0 2 0 0 (spends-on_scalars w plain e ys s m)
        (spends-acting vs what.YieldElement (z.value ∷ []) s (m + numbers_of (on_scalars w e ys s m).ops) refl)))
        (omega (arith, positions-length xs s n)) (omega arith) (omega arith)

    spends-at_each : (rank : ℕ) (xs : List Operand) (s : Scope) (n : ℕ) → Spends vs (at_each w e rank xs) s n (4 + 3 * length xs) 0 0
    unfolding at_each giving_by
    spends-at_each rank xs s n =
        let inner = inside what.Elemental s.line 0 (n + 1) s in
        costs-weaker vs _ _ _ _ (4 + 3 * length xs) 0 0
        (costs-around vs what.Elemental s.line [] (Some (Array e rank)) (element w e xs inner (n + 1 + 0)).ops (3 + 3 * length xs) 0 0 refl (spends-element xs inner (n + 1 + 0)))
        (omega arith) (omega arith) (omega arith)

    priced-on_scalars : (xs : List Operand) (s : Scope) (n : ℕ) → Priced vs (on_scalars w e xs s n) (4 + 3 * length xs) 0 0
    unfolding on_scalars giving
    priced-on_scalars xs s n =
        priced (on_scalars w e xs s n) (4 + 3 * length xs) 0 0
        (costs-weaker vs (on_scalars w e xs s n).ops (suc (length xs)) 0 0 (4 + 3 * length xs) 0 0 (spends-on_scalars w plain e xs s n) (omega arith) (omega arith) (omega arith))
        refl tt

    priced-at_each : (rank : ℕ) (xs : List Operand) (s : Scope) (n : ℕ) → 0 < rank → Priced vs (at_each w e rank xs s n) (4 + 3 * length xs) 0 0
    unfolding at_each giving_by
    priced-at_each rank xs s n h = priced (at_each w e rank xs s n) (4 + 3 * length xs) 0 0 (spends-at_each rank xs s n) refl h

    operation_case : (b : Bool) (rank : ℕ) (xs : List Operand) (s : Scope) (n : ℕ) → (rank == 0) ≡ b → Priced vs ((if b then on_scalars w e xs else at_each w e rank xs) s n) (4 + 3 * length xs) 0 0
    operation_case true rank xs s n h = priced-on_scalars xs s n
    operation_case false rank xs s n h = priced-at_each rank xs s n (rank_above rank h)

    pub priced-operation : (xs : List Operand) (s : Scope) (n : ℕ) → Priced vs (operation w e xs s n) (4 + 3 * length xs) 0 0
    unfolding operation
    priced-operation xs s n = operation_case (rank_from 0 xs == 0) (rank_from 0 xs) xs s n refl

  pub priced-binary : (op : ValueBinary) (x y : Operand) (s : Scope) (n : ℕ) → Priced vs (binary_operation op x y s n) 10 0 0
  priced-binary op x y s n = priced-operation (what.Binary op) (record { light = λ os. refl; reduces = λ os. refl; wholes = λ us os. refl }) (result_elem op) (x ∷ y ∷ []) s n

  -- ---- parentheses

  whole_case : (k : ValueKind) (x : Operand) (s : Scope) (n : ℕ) → k ≡ x.kind → IsProper k → Priced vs (value_of_whole k x s n) (slack k) 0 0
  unfolding giving done
  whole_case (Scalar e) x s n is h = record { light = omega arith; size = omega (arith, ap slack is); reductions = omega arith; wholes = omega arith; proper = subst IsProper is h }
  whole_case (Place e) x s n is h = record { light = omega arith; size = omega (arith, ap slack is); reductions = omega arith; wholes = omega arith; proper = subst IsProper is h }
  whole_case (Section e rank) x s n is h = record { light = omega arith; size = omega (arith, ap slack is); reductions = omega arith; wholes = omega arith; proper = subst IsProper is h }
  whole_case (Array e rank) x s n is h = record { light = omega arith; size = omega (arith, ap slack is); reductions = omega arith; wholes = omega arith; proper = subst IsProper is h }
  whole_case (Declared e shape) x s n is h = priced (value_of_whole (Declared e shape) x s n) 2 0 0 (spends-giving vs what.AsExpr (x.value ∷ []) (Array e shape.rank) s n refl) refl h
  whole_case (Allocatable e rank) x s n is h = priced (value_of_whole (Allocatable e rank) x s n) 2 0 0 (spends-giving vs what.AsExpr (x.value ∷ []) (Array e rank) s n refl) refl h

  pub priced-parentheses : (x : Operand) (s : Scope) (n : ℕ) → IsProper x.kind → Priced vs (in_parentheses x s n) (slack x.kind) 0 0
  unfolding in_parentheses
  priced-parentheses x s n h = whole_case x.kind x s n refl h

  pub slack-few : (k : ValueKind) → slack k ≤ 2
  slack-few (Scalar e) = omega arith
  slack-few (Place e) = omega arith
  slack-few (Declared e shape) = omega arith
  slack-few (Allocatable e rank) = omega arith
  slack-few (Section e rank) = omega arith
  slack-few (Array e rank) = omega arith

  pub priced-unary : (op : UnOp) (x : Operand) (s : Scope) (n : ℕ) → IsProper x.kind → Priced vs (unary_operation op x s n) 7 0 0
  priced-unary un.Minus x s n h = priced-operation (what.Unary unary.Neg) (record { light = λ os. refl; reduces = λ os. refl; wholes = λ us os. refl }) I32 (x ∷ []) s n
  priced-unary un.Plus x s n h = priced-weaker (in_parentheses x s n) (slack x.kind) 0 0 7 0 0 (priced-parentheses x s n h) (omega (arith, slack-few x.kind)) (omega arith) (omega arith)
  priced-unary un.Not x s n h = priced-operation (what.Unary unary.Not) (record { light = λ os. refl; reduces = λ os. refl; wholes = λ us os. refl }) I1 (x ∷ []) s n

  -- MIN and MAX
  pub priced-joined : (op : ValueBinary) (before : Option Operand) (y : Operand) (s : Scope) (n : ℕ) → IsProper y.kind → Priced vs (joined op before y s n) 10 0 0
  unfolding done
  priced-joined op None y s n h = record { light = omega arith; size = omega (arith, slack-few y.kind); reductions = omega arith; wholes = omega arith; proper = h }
  priced-joined op (Some x) y s n h = priced-binary op x y s n
