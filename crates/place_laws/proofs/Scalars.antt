-- Operations on scalars give no op that goes over an array, and no section.
use Rattle.std.proofs.Common.{◌≡◌, refl, sym, ap, ◌∙◌, ℕ, ◌+◌, ◌==◌, Bool, true, false, not, ◌&&◌, List, [], ◌∷◌, map, Option, Some, None, true≢false, arith}
use Rattle.std.specs.List.{flat_map}
use Rattle.ws_base.specs.declared.op.UnOp.{UnOp}
use Rattle.ws_base.specs.declared.op.UnOp.TheVariants as un
use Rattle.ws_base.specs.declared.op.CallWord.{CallWord}
use Rattle.ws_base.specs.declared.op.CallWord.TheVariants as word
use Rattle.ws_tree.specs.declared.expr.Expr.{Expr}
use Rattle.ws_types.specs.declared.constant.Constancy.{Constancy}
use Rattle.ws_types.specs.declared.constant.Constancy.TheVariants.{Value}
use Rattle.ws_types.specs.Constants.{constancy}
use Rattle.ws_types.specs.Operations.{is_reduction}
use Rattle.hlfir_ops.specs.declared.kinds.Elem.{Elem}
use Rattle.hlfir_ops.specs.declared.kinds.Elem.TheVariants.{I32, I1}
use Rattle.hlfir_ops.specs.declared.kinds.ValueKind.{ValueKind}
use Rattle.hlfir_ops.specs.declared.kinds.ValueKind.TheVariants.{Scalar}
use Rattle.hlfir_ops.specs.declared.what.ValueBinary.{ValueBinary}
use Rattle.hlfir_ops.specs.declared.what.ValueUnary.TheVariants as unary
use Rattle.hlfir_ops.specs.declared.what.What.{What}
use Rattle.hlfir_ops.specs.declared.what.What.TheVariants as what
use Rattle.hlfir_ops.specs.declared.op.ValueId.{ValueId}
use Rattle.hlfir_ops.specs.declared.op.Region.{Region}
use Rattle.hlfir_ops.specs.Trees.{op_of}
use Rattle.hlfir_ops.specs.Numbers.{numbers_of}
use Rattle.hlfir_ops.specs.RulesValues.{elem_of, rank_of, is_section}
use Rattle.hlfir_ops.specs.RulesForms.{result_elem, section_rank}
use Rattle.hlfir_ops.specs.RulesStatements.{is_whole_op, works_on_scalars}
use Rattle.lower_values.specs.declared.operand.Operand.{Operand}
use Rattle.lower_values.specs.declared.operand.Subscript.{Subscript}
use Rattle.lower_values.specs.Scopes.{Scope}
use Rattle.lower_values.specs.Lowerings.{Lowering, done, ◌>>=◌, scoped, giving}
use Rattle.lower_values.specs.Operations.{rank_from, arranged, values_of, on_scalars, operation, binary_operation, unary_operation, joined, reduction_of, what_of, call_elem, call_on}
use Rattle.lower_values.specs.References.{sub_kind, sub_values, part_kind, designated}
use Rattle.lower_values.specs.Values.{constant_or, folded}
use Rattle.kind_laws.proofs.Made as made
use Rattle.place_laws.proofs.Printed.{parts-op_of}
use Rattle.place_laws.proofs.Simple.{Simple, is_simple, simple-constant, simple-in_parentheses}
use Rattle.place_laws.proofs.Lowered.{Makes, makes-done, makes-then, makes-scoped, makes-giving}

pub works-op : (w : What) (line : ℕ) (operands : List ValueId) (kind : Option ValueKind) (regions : List Region) → (not (is_whole_op w) && not (is_section kind)) ≡ true → works_on_scalars (op_of w line operands kind regions) ≡ true
works-op w line operands kind regions h = ap (λ f. not (is_whole_op f.what) && not (is_section f.kind)) (parts-op_of w line operands kind regions) ∙ h

pub simple_works : Simple works_on_scalars
simple_works w line operands k h g = works-op w line operands (Some k) [] (sort w h (is_section (Some k)) g) where
  sort : (w : What) → is_simple w ≡ true → (b : Bool) → b ≡ false → (not (is_whole_op w) && not b) ≡ true
  sort (what.Constant z) h b g = ap not g
  sort what.Load h b g = ap not g
  sort what.Boxed h b g = ap not g
  sort (what.Bound w dim) h b g = ap not g
  sort what.Size h b g = ap not g
  sort what.Allocated h b g = ap not g
  sort what.AsExpr h b g = ap not g
  sort w h b g = absurd (true≢false (sym h))

-- ---- in one scope, from every number on

abbrev pub Works : {A : Type 0} → Scope → Lowering A → Type 0
Works s p = (n : ℕ) → Makes works_on_scalars p s n

abbrev pub IsScalar : Operand → Type 0
IsScalar x = rank_of x.kind ≡ 0

pub works-done : {A : Type 0} (s : Scope) (x : A) → Works s (done x)
works-done s x n = makes-done works_on_scalars s n x

pub works-then : {A B : Type 0} (s : Scope) (P : A → Type 0) (p : Lowering A) (q : A → Lowering B) → Works s p → made.Makes s P p → ((x : A) → P x → Works s (q x)) → Works s (p >>= q)
works-then s P p q h m g n = makes-then works_on_scalars s n p q (h n) (g (p s n).made (m n) (n + numbers_of (p s n).ops))

-- whatever is made
pub works-after : {A B : Type 0} (s : Scope) (p : Lowering A) (q : A → Lowering B) → Works s p → ((x : A) → Works s (q x)) → Works s (p >>= q)
works-after s p q h g n = makes-then works_on_scalars s n p q (h n) (g (p s n).made (n + numbers_of (p s n).ops))

pub works-scoped : {A : Type 0} (s : Scope) (f : Scope → Lowering A) → Works s (f s) → Works s (scoped f)
works-scoped s f h n = makes-scoped works_on_scalars s n f (h n)

works-giving : (s : Scope) (w : What) (operands : List ValueId) (k : ValueKind) → (not (is_whole_op w) && not (is_section (Some k))) ≡ true → Works s (giving w operands k)
works-giving s w operands k h n = makes-giving works_on_scalars s n w operands k (works-op w s.line operands (Some k) [] h)

works-constant_or : (s : Scope) (c : Constancy) (p : Lowering Operand) → Works s p → Works s (constant_or c p)
works-constant_or s (Value z) p h = λ n. simple-constant works_on_scalars simple_works I32 z s n
works-constant_or s _ p h = h

pub works-folded : (s : Scope) (e : Expr) (p : Lowering Operand) → Works s p → Works s (folded e p)
unfolding folded
works-folded s e p h = works-scoped s (λ c. constant_or (constancy c.names.constants e) p) (works-constant_or s (constancy s.names.constants e) p h)

-- ---- operations

works-on_scalars : (s : Scope) (w : What) (e : Elem) (xs : List Operand) → is_whole_op w ≡ false → Works s (on_scalars w e xs)
unfolding on_scalars
works-on_scalars s w e xs h = works-giving s w (arranged w (values_of xs)) (Scalar e) (ap (λ b. not b && true) h)

scalar-made : (s : Scope) (w : What) (e : Elem) (xs : List Operand) → made.Makes s IsScalar (on_scalars w e xs)
unfolding on_scalars giving
scalar-made s w e xs n = refl

pub works-operation : (s : Scope) (w : What) (e : Elem) (xs : List Operand) → is_whole_op w ≡ false → rank_from 0 xs ≡ 0 → Works s (operation w e xs)
unfolding operation
works-operation s w e xs h r = let scalar : (rank_from 0 xs == 0) ≡ true = ap (λ m. m == 0) r in rw scalar (works-on_scalars s w e xs h)

pub operation-scalar : (s : Scope) (w : What) (e : Elem) (xs : List Operand) → rank_from 0 xs ≡ 0 → made.Makes s IsScalar (operation w e xs)
unfolding operation
operation-scalar s w e xs r = let scalar : (rank_from 0 xs == 0) ≡ true = ap (λ m. m == 0) r in rw scalar (scalar-made s w e xs)

two_scalars : (x y : Operand) → IsScalar x → IsScalar y → rank_from 0 (x ∷ y ∷ []) ≡ 0
two_scalars x y h g = omega (arith, h, g)

pub works-binary : (s : Scope) (op : ValueBinary) (x y : Operand) → IsScalar x → IsScalar y → Works s (binary_operation op x y)
works-binary s op x y h g = works-operation s (what.Binary op) (result_elem op) (x ∷ y ∷ []) refl (two_scalars x y h g)

pub works-unary : (s : Scope) (op : UnOp) (x : Operand) → IsScalar x → Works s (unary_operation op x)
works-unary s un.Minus x h = works-operation s (what.Unary unary.Neg) I32 (x ∷ []) refl (omega (arith, h))
works-unary s un.Plus x h = λ n. simple-in_parentheses works_on_scalars simple_works x s n
works-unary s un.Not x h = works-operation s (what.Unary unary.Not) I1 (x ∷ []) refl (omega (arith, h))

-- the value of MIN or MAX so far
abbrev pub ScalarBefore : Option Operand → Type 0
ScalarBefore None = Unit {0}
ScalarBefore (Some x) = IsScalar x

pub works-joined : (s : Scope) (op : ValueBinary) (before : Option Operand) (y : Operand) → ScalarBefore before → IsScalar y → Works s (joined op before y)
works-joined s op None y h g = works-done s y
works-joined s op (Some x) y h g = works-binary s op x y h g

pub joined-scalar : (s : Scope) (op : ValueBinary) (before : Option Operand) (y : Operand) → ScalarBefore before → IsScalar y → made.Makes s IsScalar (joined op before y)
joined-scalar s op None y h g = made.makes-done s IsScalar y g
joined-scalar s op (Some x) y h g = operation-scalar s (what.Binary op) (result_elem op) (x ∷ y ∷ []) (two_scalars x y h g)

what_of-scalars : (w : CallWord) → is_whole_op (what_of w) ≡ false
what_of-scalars word.Abs = refl
what_of-scalars word.Mod = refl
what_of-scalars word.Modulo = refl
what_of-scalars w = refl

no_reduction : (w : CallWord) → is_reduction w ≡ false → reduction_of w ≡ None
no_reduction word.Sum h = absurd (true≢false h)
no_reduction word.Product h = absurd (true≢false h)
no_reduction word.Minval h = absurd (true≢false h)
no_reduction word.Maxval h = absurd (true≢false h)
no_reduction word.Count h = absurd (true≢false h)
no_reduction word.Any h = absurd (true≢false h)
no_reduction word.All h = absurd (true≢false h)
no_reduction w h = refl

pub works-call : (s : Scope) (w : CallWord) (xs : List Operand) → is_reduction w ≡ false → rank_from 0 xs ≡ 0 → Works s (call_on w xs)
unfolding call_on
works-call s w xs h r = rw (no_reduction w h) (works-operation s (what_of w) (call_elem w xs) xs (what_of-scalars w) r)

-- ---- elements

pub works-designated : (s : Scope) (r : Operand) (ss : List Subscript) → section_rank (map sub_kind ss) ≡ 0 → Works s (designated r ss)
unfolding designated
works-designated s r ss h =
    works-giving s (what.Designate (map sub_kind ss)) (r.value ∷ flat_map sub_values ss) (part_kind (elem_of r.kind) (section_rank (map sub_kind ss)))
    (ap (λ m. not (is_section (Some (part_kind (elem_of r.kind) m)))) h)
