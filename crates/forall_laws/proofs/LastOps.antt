-- A scalar of INTEGER outside FORALL is the value of the last op of its lowering.
use Rattle.std.proofs.Common.{◌≡◌, refl, sym, ap, ◌∙◌, subst, ℕ, ◌+◌, ◌≤◌, ◌==◌, Bool, true, false, List, [], ◌∷◌, ◌++◌, Option, Some, None, arith, append_assoc, append-nil, if◌then◌else◌, inl, inr}
use Rattle.std.specs.Prelude.{⊤, ◌⊎◌}
use Rattle.ws_base.specs.declared.op.CallWord.{CallWord}
use Rattle.ws_base.specs.declared.op.UnOp.{UnOp}
use Rattle.ws_base.specs.declared.op.UnOp.TheVariants as un
use Rattle.ws_tree.specs.declared.expr.Expr.{Expr}
use Rattle.ws_types.specs.declared.constant.Constancy.{Constancy}
use Rattle.ws_types.specs.declared.constant.Constancy.TheVariants.{Value}
use Rattle.ws_types.specs.Constants.{constancy}
use Rattle.hlfir_ops.specs.declared.kinds.Elem.{Elem}
use Rattle.hlfir_ops.specs.declared.kinds.ValueKind.{ValueKind}
use Rattle.hlfir_ops.specs.declared.kinds.ValueKind.TheVariants as kind
use Rattle.hlfir_ops.specs.declared.what.Reduction.{Reduction}
use Rattle.hlfir_ops.specs.declared.what.What.{What}
use Rattle.hlfir_ops.specs.declared.what.What.TheVariants as what
use Rattle.hlfir_ops.specs.declared.op.ValueId.{ValueId}
use Rattle.hlfir_ops.specs.declared.op.Op.{Op}
use Rattle.hlfir_ops.specs.Trees.{op_of}
use Rattle.hlfir_ops.specs.Numbers.{op_numbers, numbers_of, own_numbers}
use Rattle.hlfir_ops.proofs.Numbered.{numbers_of-append, op_numbers-op_of}
use Rattle.lower_values.specs.declared.operand.Operand.{Operand}
use Rattle.lower_values.specs.Scopes.{Scope}
use Rattle.lower_values.specs.Lowerings.{Lowering, done, ◌>>=◌, scoped, giving, giving_by, regions_from}
use Rattle.lower_values.specs.Operations.{rank_from, on_scalars, at_each, element, operation, value_of_whole, in_parentheses, unary_operation, reduction_of, total_or, call_on, vector}
use Rattle.lower_values.specs.Values.{constant_or, folded}

-- the last op gives it
pub record IsLast (n : ℕ) (ops : List Op) (number : ℕ) : Type 0 where
  pub before : List Op
  pub op : Op
  pub all : ops ≡ before ++ op ∷ []
  pub place : number ≡ n + numbers_of before
  pub some : 1 ≤ op_numbers op

module _ (s : Scope) where
  abbrev pub EndsAt : ℕ → Lowering Operand → Type 0
  EndsAt n p = IsLast n (p s n).ops (p s n).made.value.number

  -- from each number on
  abbrev pub Ends : Lowering Operand → Type 0
  Ends p = (n : ℕ) → EndsAt n p

  pub ends-giving : (w : What) (os : List ValueId) (k : ValueKind) → Ends (giving w os k)
  unfolding giving
  ends-giving w os k n = record { before = []; op = op_of w s.line os (Some k) []; all = refl; place = omega arith; some = omega (arith, op_numbers-op_of w s.line os (Some k) []) }

  pub ends-giving_by : (w : What) (k : ValueKind) (p : Lowering ⊤) → Ends (giving_by w k p)
  unfolding giving_by
  ends-giving_by w k p n =
      let rs = regions_from w s.line 0 (n + own_numbers (Some k)) (p ∷ []) s in
      record { before = []; op = op_of w s.line [] (Some k) rs; all = refl; place = omega arith; some = omega (arith, op_numbers-op_of w s.line [] (Some k) rs) }

  after_ops : (n : ℕ) (xs ys : List Op) (number : ℕ) → IsLast (n + numbers_of xs) ys number → IsLast n (xs ++ ys) number
  after_ops n xs ys number h = record {
    before = xs ++ h.before;
    op = h.op;
    all = ap (λ l. xs ++ l) h.all ∙ sym (append_assoc xs h.before (h.op ∷ []));
    place = let m = numbers_of-append xs h.before in let e = h.place in omega (arith, m, e);
    some = h.some;
  }

  -- whatever stands before
  pub ends-then : {A : Type 0} (p : Lowering A) (q : A → Lowering Operand) → ((x : A) → Ends (q x)) → Ends (p >>= q)
  unfolding ◌>>=◌
  ends-then p q h n = let xs = (p s n).ops in after_ops n xs (q (p s n).made s (n + numbers_of xs)).ops _ (h (p s n).made (n + numbers_of xs))

  pub ends-made : {A : Type 0} (p : Lowering A) (q : A → Lowering Operand) (n : ℕ) → EndsAt (n + numbers_of (p s n).ops) (q (p s n).made) → EndsAt n (p >>= q)
  unfolding ◌>>=◌
  ends-made p q n h = after_ops n (p s n).ops (q (p s n).made s (n + numbers_of (p s n).ops)).ops _ h

  -- or nothing is added after it
  pub ends-same : (p : Lowering Operand) (q : Operand → Lowering Operand) → Ends p → ((x : Operand) (n : ℕ) → q x s n ≡ done x s n) → Ends (p >>= q)
  unfolding ◌>>=◌ done
  ends-same p q h same n =
      let a = p s n in
      subst (λ b. IsLast n (a.ops ++ b.ops) b.made.value.number) (sym (same a.made (n + numbers_of a.ops)))
      (subst (λ ops. IsLast n ops a.made.value.number) (sym (append-nil a.ops)) (h n))

  -- as one or the other
  pub ends-either : (p : Lowering Operand) (q : Operand → Lowering Operand) (n : ℕ) → EndsAt n p → ((x : Operand) (m : ℕ) → (q x s m ≡ done x s m) ⊎ EndsAt m (q x)) → EndsAt n (p >>= q)
  unfolding ◌>>=◌ done
  ends-either p q n h either = by (either (p s n).made (n + numbers_of (p s n).ops)) where
    by : (q (p s n).made s (n + numbers_of (p s n).ops) ≡ done (p s n).made s (n + numbers_of (p s n).ops)) ⊎ EndsAt (n + numbers_of (p s n).ops) (q (p s n).made) → EndsAt n (p >>= q)
    by (inl same) = subst (λ b. IsLast n ((p s n).ops ++ b.ops) b.made.value.number) (sym same) (subst (λ ops. IsLast n ops (p s n).made.value.number) (sym (append-nil (p s n).ops)) h)
    by (inr g) = after_ops n (p s n).ops _ _ g

  pub ends-scoped : (f : Scope → Lowering Operand) → Ends (f s) → Ends (scoped f)
  unfolding scoped
  ends-scoped f h n = h n

  constant_by : (c : Constancy) (p : Lowering Operand) → Ends p → Ends (constant_or c p)
  constant_by (Value z) p h = ends-giving (what.Constant z) [] _
  constant_by _ p h = h

  pub ends-folded : (e : Expr) (p : Lowering Operand) → Ends p → Ends (folded e p)
  unfolding folded
  ends-folded e p h = ends-scoped (λ q. constant_or (constancy q.names.constants e) p) (constant_by (constancy s.names.constants e) p h)

  -- ---- operations

  operation_by : (w : What) (e : Elem) (xs : List Operand) (b : Bool) → Ends (if b then on_scalars w e xs else at_each w e (rank_from 0 xs) xs)
  unfolding on_scalars at_each
  operation_by w e xs true = ends-giving w _ _
  operation_by w e xs false = ends-giving_by what.Elemental _ (element w e xs)

  pub ends-operation : (w : What) (e : Elem) (xs : List Operand) → Ends (operation w e xs)
  unfolding operation
  ends-operation w e xs = operation_by w e xs (rank_from 0 xs == 0)

  whole_by : (k : ValueKind) (x : Operand) (m : ℕ) → (value_of_whole k x s m ≡ done x s m) ⊎ EndsAt m (value_of_whole k x)
  whole_by (kind.Declared e shape) x m = inr (ends-giving what.AsExpr (x.value ∷ []) _ m)
  whole_by (kind.Allocatable e rank) x m = inr (ends-giving what.AsExpr (x.value ∷ []) _ m)
  whole_by _ x m = inl refl

  pub ends-parentheses : (p : Lowering Operand) → Ends p → Ends (p >>= in_parentheses)
  unfolding in_parentheses
  ends-parentheses p h n = ends-either p in_parentheses n (h n) (λ x m. whole_by x.kind x m)

  pub ends-unary : (op : UnOp) (p : Lowering Operand) → Ends p → Ends (p >>= unary_operation op)
  ends-unary un.Minus p h = ends-then p (unary_operation un.Minus) (λ x. ends-operation _ _ (x ∷ []))
  ends-unary un.Plus p h = ends-parentheses p h
  ends-unary un.Not p h = ends-then p (unary_operation un.Not) (λ x. ends-operation _ _ (x ∷ []))

  total_by : (o : Option Reduction) (xs : List Operand) (p : Lowering Operand) → Ends p → Ends (total_or o xs p)
  total_by (Some r) xs p h = ends-giving (what.Reduce r) _ _
  total_by None xs p h = h

  pub ends-call : (w : CallWord) (xs : List Operand) → Ends (call_on w xs)
  unfolding call_on
  ends-call w xs = total_by (reduction_of w) xs _ (ends-operation _ _ xs)

  pub ends-vector : (xs : List Operand) → Ends (vector xs)
  unfolding vector
  ends-vector xs = ends-giving what.Vector _ _
