-- What a lowering ends in: an op that is no box and gives its operand.
use Rattle.std.proofs.Common.{◌≡◌, refl, sym, ap, ◌∙◌, subst, inl, inr, ℕ, ◌+◌, ◌==◌, Bool, true, false, if◌then◌else◌, List, [], ◌∷◌, ◌++◌, Option, Some, None, arith, append_assoc}
use Rattle.std.specs.Prelude.{◌⊎◌}
use Rattle.std.proofs.lemmas.List.{append-nil}
use Rattle.ws_base.specs.declared.name.Name.{Name}
use Rattle.ws_base.specs.declared.op.CallWord.{CallWord}
use Rattle.ws_tree.specs.declared.expr.Expr.{Expr}
use Rattle.ws_tree.specs.Trees.{Exprs, end_exprs, more_exprs}
use Rattle.ws_types.specs.declared.constant.Constancy.{Constancy}
use Rattle.ws_types.specs.declared.constant.Constancy.TheVariants.{Value, NoValue, NotConstant}
use Rattle.ws_types.specs.Constants.{constancy}
use Rattle.ws_types.specs.Operations.{is_allocated_word}
use Rattle.hlfir_ops.specs.declared.kinds.Elem.{Elem}
use Rattle.hlfir_ops.specs.declared.kinds.ValueKind.{ValueKind}
use Rattle.hlfir_ops.specs.declared.kinds.ValueKind.TheVariants as kind
use Rattle.hlfir_ops.specs.declared.what.BoundWord.{BoundWord}
use Rattle.hlfir_ops.specs.declared.what.Reduction.{Reduction}
use Rattle.hlfir_ops.specs.declared.what.ValueBinary.{ValueBinary}
use Rattle.hlfir_ops.specs.declared.what.What.{What}
use Rattle.hlfir_ops.specs.declared.what.What.TheVariants as what
use Rattle.hlfir_ops.specs.declared.op.ValueId.{ValueId}
use Rattle.hlfir_ops.specs.declared.op.Op.{Op, Op-F}
use Rattle.hlfir_ops.specs.declared.op.Region.{Region}
use Rattle.hlfir_ops.specs.Trees.{op_of}
use Rattle.hlfir_ops.specs.Numbers.{own_numbers, numbers_of}
use Rattle.hlfir_ops.specs.RulesValues.{rank_of}
use Rattle.hlfir_ops.specs.RulesForms.{result_elem}
use Rattle.hlfir_ops.proofs.Numbered.{numbers_of-append}
use Rattle.lower_values.specs.declared.operand.Operand.{Operand}
use Rattle.lower_values.specs.Scopes.{Scope}
use Rattle.lower_values.specs.Lowerings.{Lowered, Lowering, done, scoped, giving, giving_by, regions_from, ◌>>=◌ as ◌then◌}
use Rattle.lower_values.specs.Operations.{rank_from, on_scalars, element, at_each, operation, binary_operation, joined, reduction_of, what_of, call_elem, total_or, call_on}
use Rattle.lower_values.specs.References.{bound, reference, bound_or_size, bound_word, inquiry, inquiry_or_nothing}
use Rattle.lower_values.specs.Values.{constant_or, folded, value, nested}
use Rattle.part_laws.proofs.NoVariables.{IsNoBox}

pub record EndsInOp (n : ℕ) (l : Lowered Operand) : Type 0 where
  pub before : List Op
  pub last : Op-F Op Region
  pub ops : l.ops ≡ before ++ op_of last.what last.line last.operands last.kind last.regions ∷ []
  pub number : l.made.value.number ≡ n + numbers_of before
  pub box : IsNoBox last.what

-- or it makes a scalar
abbrev pub IsPlain : ℕ → Lowered Operand → Type 0
IsPlain n l = ((rank_of l.made.kind == 0) ≡ true) ⊎ EndsInOp n l

ends-after : (n : ℕ) (xs : List Op) (l : Lowered Operand) → EndsInOp (n + numbers_of xs) l → EndsInOp n (record { ops = xs ++ l.ops; made = l.made })
ends-after n xs l h = record {
  before = xs ++ h.before;
  last = h.last;
  ops = ap (λ o. xs ++ o) h.ops ∙ sym (append_assoc xs h.before (op_of h.last.what h.last.line h.last.operands h.last.kind h.last.regions ∷ []));
  number = h.number ∙ omega (arith, numbers_of-append xs h.before);
  box = h.box;
}

plain-after : (n : ℕ) (xs : List Op) (l : Lowered Operand) → IsPlain (n + numbers_of xs) l → IsPlain n (record { ops = xs ++ l.ops; made = l.made })
plain-after n xs l (inl none) = inl none
plain-after n xs l (inr h) = inr (ends-after n xs l h)

pub plain-nothing : (n : ℕ) (l : Lowered Operand) → IsPlain n l → IsPlain n (record { ops = l.ops ++ []; made = l.made })
plain-nothing n l h = subst (λ ops. IsPlain n (record { ops = ops; made = l.made })) (sym (append-nil l.ops)) h

module _ (s : Scope) where
  pub plain-then : {A : Type 0} (n : ℕ) (p : Lowering A) (q : A → Lowering Operand) → IsPlain (n + numbers_of (p s n).ops) (q (p s n).made s (n + numbers_of (p s n).ops)) → IsPlain n ((p then q) s n)
  unfolding ◌then◌
  plain-then n p q h = plain-after n (p s n).ops (q (p s n).made s (n + numbers_of (p s n).ops)) h

  pub plain-giving : (n : ℕ) (w : What) (os : List ValueId) (k : ValueKind) → IsNoBox w → IsPlain n (giving w os k s n)
  unfolding giving
  plain-giving n w os k h = inr (record { before = []; last = record { what = w; line = s.line; operands = os; kind = Some k; regions = [] }; ops = refl; number = omega arith; box = h })

  -- ---- operations

  pub plain-operation : (n : ℕ) (w : What) (e : Elem) (xs : List Operand) → IsPlain n (operation w e xs s n)
  unfolding operation on_scalars at_each giving giving_by
  plain-operation n w e xs = by_rank (rank_from 0 xs == 0)
    where
      by_rank : (b : Bool) → IsPlain n ((if b then on_scalars w e xs else at_each w e (rank_from 0 xs) xs) s n)
      by_rank true = inl refl
      by_rank false = inr (record {
        before = [];
        last = record {
          what = what.Elemental;
          line = s.line;
          operands = [];
          kind = Some (kind.Array e (rank_from 0 xs));
          regions = regions_from what.Elemental s.line 0 (n + own_numbers (Some (kind.Array e (rank_from 0 xs)))) (element w e xs ∷ []) s;
        };
        ops = refl;
        number = omega arith;
        box = tt;
      })

  total_plain : (n : ℕ) (o : Option Reduction) (xs : List Operand) (p : Lowering Operand) → IsPlain n (p s n) → IsPlain n (total_or o xs p s n)
  unfolding giving
  total_plain n (Some r) xs p h = inl refl
  total_plain n None xs p h = h

  pub plain-call : (n : ℕ) (w : CallWord) (xs : List Operand) → IsPlain n (call_on w xs s n)
  unfolding call_on
  plain-call n w xs = total_plain n (reduction_of w) xs (operation (what_of w) (call_elem w xs) xs) (plain-operation n (what_of w) (call_elem w xs) xs)

  -- ---- inquiries

  bound_plain : (n : ℕ) (o : Option BoundWord) (dim : Option ℕ) (r : Operand) → (rank_of (bound_or_size o dim r s n).made.kind == 0) ≡ true
  unfolding bound giving
  bound_plain n (Some w) dim r = refl
  bound_plain n None None r = refl
  bound_plain n None (Some dim) r = refl

  allocated_or : (n : ℕ) (b : Bool) (p q : Lowering Operand) → (rank_of (p s n).made.kind == 0) ≡ true → (rank_of (q s n).made.kind == 0) ≡ true → (rank_of ((if b then p else q) s n).made.kind == 0) ≡ true
  allocated_or n true p q h g = h
  allocated_or n false p q h g = g

  inquiry_plain : (n : ℕ) (o : Option Name) (w : CallWord) (dim : Option ℕ) → (rank_of (inquiry_or_nothing o w dim s n).made.kind == 0) ≡ true
  unfolding giving scoped done ◌then◌
  inquiry_plain n (Some x) w dim = allocated_or n (is_allocated_word w) _ _ refl (bound_plain (n + numbers_of (reference x s n).ops) (bound_word w) dim (reference x s n).made)
  inquiry_plain n None w dim = refl

  pub plain-inquiry : (n : ℕ) (w : CallWord) (es : List Expr) → IsPlain n (inquiry w es s n)
  unfolding inquiry
  plain-inquiry n w es = inl (inquiry_plain n _ w _)

  -- ---- arguments one after another

  plain_done : (n : ℕ) (p : Lowering Operand) → IsPlain n (p s n) → IsPlain n ((p then (λ u. done u)) s n)
  unfolding done ◌then◌
  plain_done n p h = plain-nothing n (p s n) h

  nested_after : {k : _} (op : ValueBinary) (p : Lowering Operand) (es : Exprs k) (m : ℕ) → IsPlain m (p s m) → IsPlain m ((p then (λ u. nested op (Some u) es)) s m)
  nested_after op p end_exprs m h = plain_done m p h
  nested_after op p (more_exprs e es) m h =
      let z = (p s m).made in
      let k = m + numbers_of (p s m).ops in
      let y = (value e s k).made in
      plain-then m p (λ u. nested op (Some u) (more_exprs e es))
      (plain-then k (value e) (λ v. binary_operation op z v then (λ u. nested op (Some u) es))
      (nested_after op (binary_operation op z y) es (k + numbers_of (value e s k).ops) (plain-operation (k + numbers_of (value e s k).ops) (what.Binary op) (result_elem op) (z ∷ y ∷ []))))

  pub plain-nested : {k : _} (op : ValueBinary) (e d : Expr) (es : Exprs k) (n : ℕ) → IsPlain n (nested op None (more_exprs e (more_exprs d es)) s n)
  plain-nested op e d es n =
      let m = n + numbers_of (value e s n).ops in
      let z = joined op None (value e s n).made in
      let k = m + numbers_of (z s m).ops in
      let y = (value d s k).made in
      plain-then n (value e) (λ x. joined op None x then (λ u. nested op (Some u) (more_exprs d es)))
      (plain-then m z (λ u. nested op (Some u) (more_exprs d es))
      (plain-then k (value d) (λ v. binary_operation op (z s m).made v then (λ u. nested op (Some u) es))
      (nested_after op (binary_operation op (z s m).made y) es (k + numbers_of (value d s k).ops) (plain-operation (k + numbers_of (value d s k).ops) (what.Binary op) (result_elem op) ((z s m).made ∷ y ∷ [])))))

  -- ---- constant expressions

  pub plain-folded : (n : ℕ) (e : Expr) (p : Lowering Operand) → IsPlain n (p s n) → IsPlain n (folded e p s n)
  unfolding folded scoped giving
  plain-folded n e p h = by_value (constancy s.names.constants e)
    where
      by_value : (c : Constancy) → IsPlain n (constant_or c p s n)
      by_value (Value z) = inl refl
      by_value NoValue = h
      by_value NotConstant = h
