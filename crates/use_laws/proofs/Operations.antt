-- Operations use each of their operands once.
use Rattle.std.proofs.Common.{◌≡◌, refl, ℕ, ◌+◌, List, [], ◌∷◌, Option, Some, None, arith}
use Rattle.std.specs.Prelude.{◌==◌, ℤ}
use Rattle.ws_base.specs.declared.op.UnOp.{UnOp}
use Rattle.ws_base.specs.declared.op.UnOp.TheVariants as un
use Rattle.ws_base.specs.declared.op.CallWord.{CallWord}
use Rattle.hlfir_ops.specs.declared.kinds.Elem.{Elem}
use Rattle.hlfir_ops.specs.declared.kinds.Elem.TheVariants.{I32, I1}
use Rattle.hlfir_ops.specs.declared.kinds.ValueKind.{ValueKind}
use Rattle.hlfir_ops.specs.declared.kinds.ValueKind.TheVariants.{Scalar, Declared, Allocatable, Array}
use Rattle.hlfir_ops.specs.declared.what.ValueUnary.TheVariants as unary
use Rattle.hlfir_ops.specs.declared.what.ValueBinary.{ValueBinary}
use Rattle.hlfir_ops.specs.declared.what.Reduction.{Reduction}
use Rattle.hlfir_ops.specs.declared.what.What.{What}
use Rattle.hlfir_ops.specs.declared.what.What.TheVariants as what
use Rattle.hlfir_ops.specs.declared.op.ValueId.{ValueId}
use Rattle.hlfir_ops.specs.RulesValues.{elem_of, rank_of}
use Rattle.hlfir_ops.specs.RulesForms.{result_elem, total_elem}
use Rattle.lower_values.specs.declared.operand.Operand.{Operand}
use Rattle.lower_values.specs.Scopes.{Scope}
use Rattle.lower_values.specs.Lowerings.{Lowering, done, ◌>>=◌, giving, acting}
use Rattle.lower_values.specs.Operations.{constant, values_of, rank_from, arranged, on_scalars, at_position, at_positions, element, at_each, operation, binary_operation, value_of_whole, in_parentheses, unary_operation, reduction_of, what_of, first_elem, call_elem, total_or, call_on, vector}
use Rattle.use_laws.proofs.Counting.{hits}
use Rattle.use_laws.proofs.Defined.{In, AllIn, numbers, all-grown}
use Rattle.use_laws.proofs.Walking.{Lowers, of_operand, nothing_held, lowers-done, lowers-then, lowers-if, lowers-giving, lowers-acting}
use Rattle.use_laws.proofs.Holding.{lowers-giving_by}

abbrev pub of_operands : List Operand → List ℕ
of_operands xs = numbers (values_of xs)

-- ---- the order of operands does not matter

arranged-hits : (k : ℕ) (w : What) (vs : List ValueId) → hits k (numbers vs) ≡ hits k (numbers (arranged w vs))
arranged-hits k what.Select (a ∷ b ∷ c ∷ []) = omega arith
arranged-hits k w vs = refl

arranged-defined : (D : List ℕ) (w : What) (vs : List ValueId) → AllIn D (numbers vs) → AllIn D (numbers (arranged w vs))
arranged-defined D what.Select (a ∷ b ∷ c ∷ []) h = (h.1.1.0, (h.0, (h.1.0, tt)))
arranged-defined D w vs h = h

module _ (k : ℕ) where
  module _ (s : Scope) (n : ℕ) (D : List ℕ) where
    pub lowers-constant : (e : Elem) (z : ℤ) → Lowers k s n D (constant e z) 0 of_operand
    lowers-constant e z = lowers-giving k s n D (what.Constant z) [] (Scalar e) 0 tt refl

    -- ---- elementwise operations

    lowers-on_scalars : (w : What) (e : Elem) (xs : List Operand) → AllIn D (of_operands xs) → Lowers k s n D (on_scalars w e xs) (hits k (of_operands xs)) of_operand
    unfolding on_scalars
    lowers-on_scalars w e xs h = lowers-giving k s n D w (arranged w (values_of xs)) (Scalar e) (hits k (of_operands xs)) (arranged-defined D w (values_of xs) h) (arranged-hits k w (values_of xs))

    lowers-at_position : (x : Operand) → In D x.value.number → Lowers k s n D (at_position x) (hits k (of_operand x)) of_operand
    unfolding at_position
    lowers-at_position x h =
        lowers-if k s n D (rank_of x.kind == 0) (done x) (giving what.Apply (x.value ∷ []) (Scalar (elem_of x.kind))) (hits k (of_operand x)) of_operand
        (lowers-done k s n D x (hits k (of_operand x)) of_operand (h, tt) refl) (lowers-giving k s n D what.Apply (x.value ∷ []) (Scalar (elem_of x.kind)) (hits k (of_operand x)) (h, tt) refl)

  lowers-at_positions : (s : Scope) (n : ℕ) (D : List ℕ) (xs : List Operand) → AllIn D (of_operands xs) → Lowers k s n D (at_positions xs) (hits k (of_operands xs)) of_operands
  unfolding at_positions
  lowers-at_positions s n D [] h = lowers-done k s n D [] 0 of_operands tt refl
  lowers-at_positions s n D (x ∷ xs) h =
      lowers-then k s n D (at_position x) (λ y. at_positions xs >>= (λ ys. done (y ∷ ys))) (hits k (of_operands (x ∷ xs))) (hits k (of_operand x)) (hits k (of_operands xs)) of_operand of_operands (omega arith)
      (lowers-at_position s n D x h.0)
      (λ y m E g i. lowers-then k s m E (at_positions xs) (λ ys. done (y ∷ ys)) (hits k (of_operand y) + hits k (of_operands xs)) (hits k (of_operands xs)) (hits k (of_operand y)) of_operands of_operands (omega arith)
      (lowers-at_positions s m E xs (all-grown D E (of_operands xs) g h.1))
      (λ ys l F f j. lowers-done k s l F (y ∷ ys) (hits k (of_operands ys) + hits k (of_operand y)) of_operands (f.kept y.value.number i.0, j) (omega arith)))

  lowers-element : (s : Scope) (n : ℕ) (D : List ℕ) (w : What) (e : Elem) (xs : List Operand) → AllIn D (of_operands xs) → Lowers k s n D (element w e xs) (hits k (of_operands xs)) nothing_held
  unfolding element
  lowers-element s n D w e xs h =
      lowers-then k s n D (at_positions xs) (λ ys. on_scalars w e ys >>= (λ z. acting what.YieldElement (z.value ∷ []))) (hits k (of_operands xs)) (hits k (of_operands xs)) 0 of_operands nothing_held (omega arith)
      (lowers-at_positions s n D xs h)
      (λ ys m E g i. lowers-then k s m E (on_scalars w e ys) (λ z. acting what.YieldElement (z.value ∷ [])) (hits k (of_operands ys) + 0) (hits k (of_operands ys)) 0 of_operand nothing_held refl
      (lowers-on_scalars s m E w e ys i)
      (λ z l F f j. lowers-acting k s l F what.YieldElement (z.value ∷ []) (hits k (of_operand z) + 0) j (omega arith)))

  module _ (s : Scope) (n : ℕ) (D : List ℕ) where
    pub lowers-operation : (w : What) (e : Elem) (xs : List Operand) → AllIn D (of_operands xs) → Lowers k s n D (operation w e xs) (hits k (of_operands xs)) of_operand
    unfolding operation at_each
    lowers-operation w e xs h =
        lowers-if k s n D (rank_from 0 xs == 0) (on_scalars w e xs) (at_each w e (rank_from 0 xs) xs) (hits k (of_operands xs)) of_operand (lowers-on_scalars s n D w e xs h)
        (lowers-giving_by k s n D what.Elemental (Array e (rank_from 0 xs)) (element w e xs) (hits k (of_operands xs)) (λ r m E g. lowers-element r m E w e xs (all-grown D E (of_operands xs) g h)))

    -- ---- operators

    lowers-value_of_whole : (kind : ValueKind) (x : Operand) → In D x.value.number → Lowers k s n D (value_of_whole kind x) (hits k (of_operand x)) of_operand
    lowers-value_of_whole (Declared e shape) x h = lowers-giving k s n D what.AsExpr (x.value ∷ []) (Array e shape.rank) (hits k (of_operand x)) (h, tt) refl
    lowers-value_of_whole (Allocatable e rank) x h = lowers-giving k s n D what.AsExpr (x.value ∷ []) (Array e rank) (hits k (of_operand x)) (h, tt) refl
    lowers-value_of_whole _ x h = lowers-done k s n D x (hits k (of_operand x)) of_operand (h, tt) refl

    pub lowers-in_parentheses : (x : Operand) → In D x.value.number → Lowers k s n D (in_parentheses x) (hits k (of_operand x)) of_operand
    unfolding in_parentheses
    lowers-in_parentheses x h = lowers-value_of_whole x.kind x h

    pub lowers-unary_operation : (op : UnOp) (x : Operand) → In D x.value.number → Lowers k s n D (unary_operation op x) (hits k (of_operand x)) of_operand
    lowers-unary_operation un.Minus x h = lowers-operation (what.Unary unary.Neg) I32 (x ∷ []) (h, tt)
    lowers-unary_operation un.Plus x h = lowers-in_parentheses x h
    lowers-unary_operation un.Not x h = lowers-operation (what.Unary unary.Not) I1 (x ∷ []) (h, tt)

    pub lowers-binary_operation : (op : ValueBinary) (x y : Operand) → In D x.value.number → In D y.value.number → Lowers k s n D (binary_operation op x y) (hits k (of_operands (x ∷ y ∷ []))) of_operand
    lowers-binary_operation op x y h g = lowers-operation (what.Binary op) (result_elem op) (x ∷ y ∷ []) (h, (g, tt))

    -- ---- calls and constructors

    lowers-total_or : (r : Option Reduction) (xs : List Operand) (p : Lowering Operand) → AllIn D (of_operands xs) → Lowers k s n D p (hits k (of_operands xs)) of_operand → Lowers k s n D (total_or r xs p) (hits k (of_operands xs)) of_operand
    lowers-total_or (Some r) xs p h g = lowers-giving k s n D (what.Reduce r) (values_of xs) (Scalar (total_elem r)) (hits k (of_operands xs)) h refl
    lowers-total_or None xs p h g = g

    pub lowers-call_on : (w : CallWord) (xs : List Operand) → AllIn D (of_operands xs) → Lowers k s n D (call_on w xs) (hits k (of_operands xs)) of_operand
    unfolding call_on
    lowers-call_on w xs h = lowers-total_or (reduction_of w) xs (operation (what_of w) (call_elem w xs) xs) h (lowers-operation (what_of w) (call_elem w xs) xs h)

    pub lowers-vector : (xs : List Operand) → AllIn D (of_operands xs) → Lowers k s n D (vector xs) (hits k (of_operands xs)) of_operand
    unfolding vector
    lowers-vector xs h = lowers-giving k s n D what.Vector (values_of xs) (Array (first_elem xs) 1) (hits k (of_operands xs)) h refl
