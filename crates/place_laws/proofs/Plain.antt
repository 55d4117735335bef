-- Expressions and left sides are lowered to value ops and yields alone.
use Rattle.std.proofs.Common.{◌≡◌, refl, sym, true≢false, ap, ◌∙◌, ℕ, ◌+◌, ◌==◌, Bool, true, ◌||◌, List, [], ◌∷◌, Option, Some, None, ℤ}
use Rattle.ws_base.specs.declared.op.UnOp.{UnOp}
use Rattle.ws_base.specs.declared.op.UnOp.TheVariants as un
use Rattle.ws_base.specs.declared.op.CallWord.{CallWord}
use Rattle.ws_base.specs.declared.op.CallWord.TheVariants as word
use Rattle.hlfir_ops.specs.declared.kinds.Elem.{Elem}
use Rattle.hlfir_ops.specs.declared.kinds.Elem.TheVariants.{I32, I1}
use Rattle.hlfir_ops.specs.declared.kinds.ValueKind.{ValueKind}
use Rattle.hlfir_ops.specs.declared.kinds.ValueKind.TheVariants.{Scalar, Array}
use Rattle.hlfir_ops.specs.declared.what.Reduction.{Reduction}
use Rattle.hlfir_ops.specs.declared.what.ValueBinary.{ValueBinary}
use Rattle.hlfir_ops.specs.declared.what.ValueUnary.TheVariants as unary
use Rattle.hlfir_ops.specs.declared.what.What.{What}
use Rattle.hlfir_ops.specs.declared.what.What.TheVariants as what
use Rattle.hlfir_ops.specs.declared.op.ValueId.{ValueId}
use Rattle.hlfir_ops.specs.declared.op.Op.{Op, out-Op}
use Rattle.hlfir_ops.specs.declared.op.Region.{Region}
use Rattle.hlfir_ops.specs.Trees.{op_of}
use Rattle.hlfir_ops.specs.Numbers.{own_numbers}
use Rattle.hlfir_ops.specs.RulesValues.{elem_of, rank_of}
use Rattle.hlfir_ops.specs.RulesForms.{result_elem, total_elem}
use Rattle.hlfir_ops.specs.RulesRegions.{is_value_op, is_yield, is_yield_element}
use Rattle.lower_values.specs.declared.operand.Operand.{Operand}
use Rattle.lower_values.specs.Scopes.{Scope}
use Rattle.lower_values.specs.Lowerings.{Lowering, done, ◌>>=◌, scoped, giving, acting, regions_from}
use Rattle.lower_values.specs.Operations.{constant, rank_from, arranged, values_of, on_scalars, at_position, at_positions, element, at_each, operation, binary_operation, in_parentheses, unary_operation, joined, reduction_of, what_of, call_elem, first_elem, total_or, call_on, vector}
use Rattle.place_laws.proofs.Printed.{parts-op_of}
use Rattle.place_laws.proofs.Simple.{Simple, is_simple, always-if, simple-constant, simple-in_parentheses}
use Rattle.place_laws.proofs.Lowered.{Always, always-then, always-scoped, makes-done, makes-giving, makes-acting, makes-giving_by, regions-always}

abbrev pub is_plain : What → Bool
is_plain w = is_value_op w || (is_yield w || is_yield_element w)

abbrev pub plain : Op → Bool
plain op = is_plain (out-Op op).what

pub plain-op : (w : What) (line : ℕ) (operands : List ValueId) (kind : Option ValueKind) (regions : List Region) → is_plain w ≡ true → plain (op_of w line operands kind regions) ≡ true
plain-op w line operands kind regions h = ap (λ f. is_plain f.what) (parts-op_of w line operands kind regions) ∙ h

abbrev pub Plain : {A : Type 0} → Lowering A → Type 0
Plain p = Always plain p

pub plain-done : {A : Type 0} (x : A) → Plain (done x)
plain-done x s n = makes-done plain s n x

pub plain-then : {A B : Type 0} (p : Lowering A) (q : A → Lowering B) → Plain p → ((x : A) → Plain (q x)) → Plain (p >>= q)
plain-then p q h g = always-then plain p q h g

pub plain-giving : (w : What) (operands : List ValueId) (kind : ValueKind) → is_plain w ≡ true → Plain (giving w operands kind)
plain-giving w operands kind h s n = makes-giving plain s n w operands kind (plain-op w s.line operands (Some kind) [] h)

pub plain-acting : (w : What) (operands : List ValueId) → is_plain w ≡ true → Plain (acting w operands)
plain-acting w operands h s n = makes-acting plain s n w operands (plain-op w s.line operands None [] h)

pub plain-scoped : {A : Type 0} (f : Scope → Lowering A) → ((s : Scope) → Plain (f s)) → Plain (scoped f)
plain-scoped f h = always-scoped plain f h

pub simple_plain : Simple plain
simple_plain w line operands k h g = plain-op w line operands (Some k) [] (sort w h) where
  sort : (w : What) → is_simple w ≡ true → is_plain w ≡ true
  sort (what.Constant z) h = refl
  sort what.Load h = refl
  sort what.Boxed h = refl
  sort (what.Bound w dim) h = refl
  sort what.Size h = refl
  sort what.Allocated h = refl
  sort what.AsExpr h = refl
  sort w h = absurd (true≢false (sym h))

pub plain-constant : (e : Elem) (z : ℤ) → Plain (constant e z)
plain-constant e z = simple-constant plain simple_plain e z

pub plain-in_parentheses : (x : Operand) → Plain (in_parentheses x)
plain-in_parentheses x = simple-in_parentheses plain simple_plain x

-- ---- operations

plain-on_scalars : (w : What) (e : Elem) (xs : List Operand) → is_plain w ≡ true → Plain (on_scalars w e xs)
unfolding on_scalars
plain-on_scalars w e xs h = plain-giving w (arranged w (values_of xs)) (Scalar e) h

plain-at_position : (x : Operand) → Plain (at_position x)
unfolding at_position
plain-at_position x = always-if plain (rank_of x.kind == 0) (done x) (giving what.Apply (x.value ∷ []) (Scalar (elem_of x.kind))) (plain-done x) (plain-giving what.Apply (x.value ∷ []) (Scalar (elem_of x.kind)) refl)

plain-at_positions : (xs : List Operand) → Plain (at_positions xs)
unfolding at_positions
plain-at_positions [] = plain-done []
plain-at_positions (x ∷ xs) =
    plain-then (at_position x) (λ y. at_positions xs >>= (λ ys. done (y ∷ ys))) (plain-at_position x) (λ y. plain-then (at_positions xs) (λ ys. done (y ∷ ys)) (plain-at_positions xs) (λ ys. plain-done (y ∷ ys)))

plain-element : (w : What) (e : Elem) (xs : List Operand) → is_plain w ≡ true → Plain (element w e xs)
unfolding element
plain-element w e xs h =
    plain-then (at_positions xs) (λ ys. on_scalars w e ys >>= (λ z. acting what.YieldElement (z.value ∷ []))) (plain-at_positions xs)
    (λ ys. plain-then (on_scalars w e ys) (λ z. acting what.YieldElement (z.value ∷ [])) (plain-on_scalars w e ys h) (λ z. plain-acting what.YieldElement (z.value ∷ []) refl))

plain-at_each : (w : What) (e : Elem) (rank : ℕ) (xs : List Operand) → is_plain w ≡ true → Plain (at_each w e rank xs)
unfolding at_each
plain-at_each w e rank xs h s n =
    let regions = regions_from what.Elemental s.line 0 (n + own_numbers (Some (Array e rank))) (element w e xs ∷ []) s in
    makes-giving_by plain s n what.Elemental (Array e rank) (element w e xs) (plain-op what.Elemental s.line [] (Some (Array e rank)) regions refl)
    (regions-always plain what.Elemental s.line 0 (n + own_numbers (Some (Array e rank))) (element w e xs ∷ []) s (plain-element w e xs h, tt))

plain-operation : (w : What) (e : Elem) (xs : List Operand) → is_plain w ≡ true → Plain (operation w e xs)
unfolding operation
plain-operation w e xs h = always-if plain (rank_from 0 xs == 0) (on_scalars w e xs) (at_each w e (rank_from 0 xs) xs) (plain-on_scalars w e xs h) (plain-at_each w e (rank_from 0 xs) xs h)

pub plain-binary : (op : ValueBinary) (x y : Operand) → Plain (binary_operation op x y)
plain-binary op x y = plain-operation (what.Binary op) (result_elem op) (x ∷ y ∷ []) refl

pub plain-unary : (op : UnOp) (x : Operand) → Plain (unary_operation op x)
plain-unary un.Minus x = plain-operation (what.Unary unary.Neg) I32 (x ∷ []) refl
plain-unary un.Plus x = plain-in_parentheses x
plain-unary un.Not x = plain-operation (what.Unary unary.Not) I1 (x ∷ []) refl

pub plain-joined : (op : ValueBinary) (before : Option Operand) (y : Operand) → Plain (joined op before y)
plain-joined op None y = plain-done y
plain-joined op (Some x) y = plain-binary op x y

what_of-plain : (w : CallWord) → is_plain (what_of w) ≡ true
what_of-plain word.Abs = refl
what_of-plain word.Mod = refl
what_of-plain word.Modulo = refl
what_of-plain w = refl

plain-total : (r : Option Reduction) (xs : List Operand) (p : Lowering Operand) → Plain p → Plain (total_or r xs p)
plain-total (Some r) xs p h = plain-giving (what.Reduce r) (values_of xs) (Scalar (total_elem r)) refl
plain-total None xs p h = h

pub plain-call : (w : CallWord) (xs : List Operand) → Plain (call_on w xs)
unfolding call_on
plain-call w xs = plain-total (reduction_of w) xs (operation (what_of w) (call_elem w xs) xs) (plain-operation (what_of w) (call_elem w xs) xs (what_of-plain w))

pub plain-vector : (xs : List Operand) → Plain (vector xs)
unfolding vector
plain-vector xs = plain-giving what.Vector (values_of xs) (Array (first_elem xs) 1) refl
