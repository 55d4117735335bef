-- A scalar outside FORALL is the value of the last op of its lowering.
use Rattle.std.specs.Prelude.{◌⊎◌}
use Rattle.std.proofs.Common.{◌≡◌, refl, sym, ap, subst, ℕ, Bool, true, false, List, [], ◌∷◌, Option, Some, None, if◌then◌else◌, inl, inr}
use mathlib.Core.Former.{Count}
use Rattle.ws_base.specs.declared.name.Name.{Name}
use Rattle.ws_base.specs.declared.op.CallWord.{CallWord}
use Rattle.ws_base.specs.declared.op.CallWord.TheVariants as word
use Rattle.ws_tree.specs.declared.expr.Expr.{Expr}
use Rattle.ws_tree.specs.declared.expr.Expr.TheVariants.{Number, TooWide, TooDeep, Truth, Named, Part', Call', Vector'}
use Rattle.ws_tree.specs.Trees.{Exprs, end_exprs, more_exprs, Subs, paren, unary, binary}
use Rattle.ws_tree.specs.Grammatical.{IsExpr, Takes}
use Rattle.ws_types.specs.declared.types.Typed.{Typed}
use Rattle.ws_types.specs.declared.types.Row.{Row}
use Rattle.ws_types.specs.Names.{standing_of, name_type}
use Rattle.ws_types.specs.Operations.{is_inquiry, is_allocated_word}
use Rattle.ws_types.specs.Expressions.{listed, typed}
use Rattle.hlfir_ops.specs.declared.kinds.ValueKind.{ValueKind}
use Rattle.hlfir_ops.specs.declared.kinds.ValueKind.TheVariants as kind
use Rattle.hlfir_ops.specs.declared.what.ValueBinary.{ValueBinary}
use Rattle.hlfir_ops.specs.declared.what.What.TheVariants as what
use Rattle.hlfir_ops.specs.declared.op.ValueId.{ValueId}
use Rattle.lower_values.specs.declared.operand.Operand.{Operand}
use Rattle.lower_values.specs.Scopes.{Scope, index_of}
use Rattle.lower_values.specs.Lowerings.{Lowering, done, ◌>>=◌, scoped}
use Rattle.lower_values.specs.Operations.{binary_of, binary_operation, in_parentheses, unary_operation, nesting_of, joined, call_on, vector}
use Rattle.lower_values.specs.References.{variable_of, declare_of, box_of, boxed, reference, load_of, loaded, variable_or_truth, index_or_other, named, designated, size, bound, bound_word, bound_or_size, is_allocated, inquiry_or_nothing, inquiry, dimension_in}
use Rattle.lower_values.specs.Values.{call_by, part_of, value, values, nested, subscripts}
use Rattle.kind_laws.specs.Standing.{Knows}
use Rattle.kind_laws.proofs.TypeFacts.{no_type, unary_operand}
use Rattle.forall_laws.proofs.Asked.{asks_name}
use Rattle.forall_laws.proofs.Names.{IsScalarKind, name_scalar}
use Rattle.forall_laws.proofs.Forms.{AreTwo, two_taken}
use Rattle.forall_laws.proofs.LastOps.{EndsAt, Ends, ends-giving, ends-made, ends-then, ends-either, ends-scoped, ends-folded, ends-operation, ends-parentheses, ends-unary, ends-call, ends-vector}

module _ (t : List Row) (s : Scope) (k : Knows t s) (none : s.indexes ≡ []) where
  -- ---- names

  load_ends : (c : ValueKind) (x : Operand) → IsScalarKind c → Ends s (load_of c x)
  load_ends (kind.Place e) x h = ends-giving s what.Load (x.value ∷ []) (kind.Scalar e)
  load_ends _ x h = λ n. absurd h

  place_ends : (c : ValueKind) (d : Operand) → IsScalarKind c → d.kind ≡ c → Ends s (box_of c d >>= loaded)
  unfolding loaded done
  place_ends (kind.Place e) d h is n = ends-made s (box_of (kind.Place e) d) loaded n (load_ends d.kind d (subst IsScalarKind (sym is) h) _)
  place_ends _ d h is n = absurd h

  variable_ends : (x : Name) (o : Option Operand) → ((d : Operand) → o ≡ Some d → IsScalarKind d.kind) → Ends s (variable_or_truth s.names x o)
  unfolding boxed
  variable_ends x (Some d) h = place_ends d.kind d (h d refl) refl
  variable_ends x None h = ends-giving s (what.Constant _) [] _

  not_indexed : (x : Name) → index_of s.indexes x ≡ None
  not_indexed x = ap (λ xs. index_of xs x) none

  index_ends : (x : Name) (i : Option ValueId) → i ≡ None → Ends s (variable_or_truth s.names x (variable_of s.names.variables x)) → Ends s (index_or_other s x i)
  index_ends x (Some v) is h = absurd (let e = is in cc)
  index_ends x None is h = h

  named_ends : (x : Name) (ty : Typed) → name_type (standing_of t x) ≡ Some ty → ty.rank ≡ 0 → Ends s (named x)
  unfolding named
  named_ends x ty h z = ends-scoped s (λ q. index_or_other q x (index_of q.indexes x))
      (index_ends x (index_of s.indexes x) (not_indexed x) (variable_ends x (variable_of s.names.variables x) (λ d is. name_scalar s x (standing_of t x) ty d (k x) h z (not_indexed x) is)))

  -- ---- inquiries

  size_ends : (dim : Option ℕ) (r : Operand) → Ends s (size dim r)
  unfolding bound
  size_ends None r = ends-giving s what.Size _ _
  size_ends (Some d) r = ends-giving s (what.Bound _ d) _ _

  bound_ends : (w : CallWord) (dim : Option ℕ) (r : Operand) → Ends s (bound_or_size (bound_word w) dim r)
  unfolding bound
  bound_ends word.Lbound dim r = ends-giving s (what.Bound _ _) _ _
  bound_ends word.Ubound dim r = ends-giving s (what.Bound _ _) _ _
  bound_ends _ dim r = size_ends dim r

  inquired_ends : (w : CallWord) (x : Name) (dim : Option ℕ) (b : Bool) → Ends s (if b then scoped (λ q. is_allocated (declare_of q.names x)) else (reference x >>= bound_or_size (bound_word w) dim))
  inquired_ends w x dim true = ends-scoped s (λ q. is_allocated (declare_of q.names x)) (ends-giving s what.Allocated _ _)
  inquired_ends w x dim false = ends-then s (reference x) (bound_or_size (bound_word w) dim) (λ r. bound_ends w dim r)

  inquiry_ends : {m : Count} (w : CallWord) (es : Exprs m) → is_inquiry w ≡ true → Takes w es → Ends s (inquiry w (listed es))
  unfolding inquiry
  inquiry_ends w es i g =
      let asks = asks_name t w es i g in
      subst (λ o. Ends s (inquiry_or_nothing o w (dimension_in (listed es)))) (sym asks.first) (inquired_ends w asks.name (dimension_in (listed es)) (is_allocated_word w))

  -- ---- MIN and MAX

  nested_ends : {m : Count} (op : ValueBinary) (es : Exprs m) (p : Lowering Operand) → Ends s p → Ends s (p >>= (λ x. nested op (Some x) es))
  nested_ends op end_exprs p h = λ n. ends-either s p (λ x. done x) n (h n) (λ x m. inl refl)
  nested_ends op (more_exprs e es) p h = ends-then s p (λ x. nested op (Some x) (more_exprs e es))
      (λ x. ends-then s (value e) (λ y. joined op (Some x) y >>= (λ z. nested op (Some z) es)) (λ y. nested_ends op es (binary_operation op x y) (ends-operation s _ _ (x ∷ y ∷ []))))

  min_ends : {m : Count} (op : ValueBinary) (es : Exprs m) → AreTwo es → Ends s (nested op None es)
  min_ends op end_exprs h = λ n. absurd h
  min_ends op (more_exprs e end_exprs) h = λ n. absurd h
  min_ends op (more_exprs e (more_exprs f es)) h = ends-then s (value e) (λ y. joined op None y >>= (λ z. nested op (Some z) (more_exprs f es)))
      (λ y. ends-then s (done y) (λ z. nested op (Some z) (more_exprs f es))
      (λ z. ends-then s (value f) (λ v. joined op (Some z) v >>= (λ u. nested op (Some u) es)) (λ v. nested_ends op es (binary_operation op z v) (ends-operation s _ _ (z ∷ v ∷ [])))))

  call_ends : (o : Option ValueBinary) (b : Bool) (p : ValueBinary → Lowering Operand) (q c : Lowering Operand) → ((op : ValueBinary) → o ≡ Some op → Ends s (p op)) → (b ≡ true → Ends s q) → Ends s c → Ends s (call_by o b p q c)
  call_ends (Some op) b p q c f g h = f op refl
  call_ends None true p q c f g h = g refl
  call_ends None false p q c f g h = h

  -- ---- parts

  element_ends : (c : ValueKind) (x : Operand) (m : ℕ) → (load_of c x s m ≡ done x s m) ⊎ EndsAt s m (load_of c x)
  element_ends (kind.Place e) x m = inr (ends-giving s what.Load (x.value ∷ []) (kind.Scalar e) m)
  element_ends _ x m = inl refl

  loaded_ends : (p : Lowering Operand) → Ends s p → Ends s (p >>= loaded)
  unfolding loaded
  loaded_ends p h n = ends-either s p loaded n (h n) (λ x m. element_ends x.kind x m)

  part_ends : {m : Count} (x : Name) (subs : Subs m) → Ends s (part_of x (λ r. subscripts r 1 subs))
  unfolding part_of designated
  part_ends x subs = ends-then s (reference x) (λ r. subscripts r 1 subs >>= designated r) (λ r. ends-then s (subscripts r 1 subs) (designated r) (λ ss. ends-giving s (what.Designate _) _ _))

  -- ---- expressions

  pub ends-value : (e : Expr) (ty : Typed) → IsExpr e → typed t false e ≡ Some ty → ty.rank ≡ 0 → Ends s (value e)
  ends-value (Number i) ty g h z = ends-giving s (what.Constant _) [] _
  ends-value TooWide ty g h z = no_type ty h
  ends-value TooDeep ty g h z = λ n. absurd g
  ends-value (Truth b) ty g h z = ends-giving s (what.Constant _) [] _
  ends-value (Named x) ty g h z = ends-folded s (Named x) (named x) (named_ends x ty h z)
  ends-value (Part' x _ subs) ty g h z = loaded_ends (part_of x (λ r. subscripts r 1 subs)) (part_ends x subs)
  ends-value (Call' w _ es) ty g h z = call_ends (nesting_of w) (is_inquiry w) (λ op. nested op None es) (inquiry w (listed es)) (values es >>= call_on w)
      (λ op is. min_ends op es (two_taken w op es is g.0)) (λ i. inquiry_ends w es i g.0) (ends-then s (values es) (call_on w) (λ xs. ends-call s w xs))
  ends-value (Vector' _ es) ty g h z = ends-then s (values es) vector (λ xs. ends-vector s xs)
  ends-value (paren e) ty g h z = ends-folded s (paren e) (value e >>= in_parentheses) (ends-parentheses s (value e) (ends-value e ty g h z))
  ends-value (unary op e) ty g h z = ends-folded s (unary op e) (value e >>= unary_operation op) (ends-unary s op (value e) (ends-value e ty g (unary_operand op (typed t false e) ty h) z))
  ends-value (binary op a b) ty g h z = ends-folded s (binary op a b) (value a >>= (λ x. value b >>= binary_operation (binary_of op) x))
      (ends-then s (value a) (λ x. value b >>= binary_operation (binary_of op) x) (λ x. ends-then s (value b) (binary_operation (binary_of op) x) (λ y. ends-operation s _ _ (x ∷ y ∷ []))))
