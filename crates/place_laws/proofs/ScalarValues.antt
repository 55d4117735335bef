-- Inside a FORALL an expression of rank 0 is lowered to ops on scalars alone.
use Rattle.std.proofs.Common.{◌≡◌, refl, sym, ap, ◌∙◌, ℕ, suc, ◌+◌, Bool, true, false, List, [], ◌∷◌, ◌++◌, length, map, Option, Some, None, pos, arith}
use mathlib.Core.Former.{Count}
use Rattle.ws_base.specs.Numbers.{truth}
use Rattle.ws_base.specs.declared.name.Name.{Name}
use Rattle.ws_base.specs.declared.op.CallWord.{CallWord}
use Rattle.ws_tree.specs.declared.expr.Expr.{Expr}
use Rattle.ws_tree.specs.declared.expr.Expr.TheVariants.{Number, TooWide, TooDeep, Truth, Named, Part', Call', Vector'}
use Rattle.ws_tree.specs.declared.expr.Sub.TheVariants as sub
use Rattle.ws_tree.specs.Trees.{Exprs, end_exprs, more_exprs, Subs, end_subs, more_subs, paren, unary, binary}
use Rattle.ws_tree.specs.Grammatical.{IsExpr, AreExprs, AreSubs}
use Rattle.ws_types.specs.declared.types.Typed.{Typed}
use Rattle.ws_types.specs.declared.types.Row.{Row}
use Rattle.ws_types.specs.declared.types.Subscripts.{Subscripts}
use Rattle.ws_types.specs.Names.{standing_of}
use Rattle.ws_types.specs.Operations.{is_inquiry, no_subscripts, with_subscript, no_arguments, part_faults, part_type}
use Rattle.ws_types.specs.Expressions.{listed, how_many, named_type, named_faults, typed, faults, arguments, all_faults, subs_faults}
use Rattle.ws_types.specs.Expressions as types
use Rattle.ws_sema.proofs.NoFaults.{none_first, none_after}
use Rattle.hlfir_ops.specs.declared.kinds.Elem.TheVariants.{I32, I1}
use Rattle.hlfir_ops.specs.declared.what.ValueBinary.{ValueBinary}
use Rattle.hlfir_ops.specs.RulesForms.{section_rank}
use Rattle.hlfir_ops.specs.RulesStatements.{works_on_scalars}
use Rattle.lower_values.specs.declared.operand.Operand.{Operand}
use Rattle.lower_values.specs.Scopes.{Scope}
use Rattle.lower_values.specs.Lowerings.{Lowering, done, ◌>>=◌}
use Rattle.lower_values.specs.Operations.{binary_of, binary_operation, in_parentheses, unary_operation, nesting_of, joined, call_on}
use Rattle.lower_values.specs.References.{sub_kind, or_nothing, reference, loaded, named, subscript_of, designated, inquiry}
use Rattle.lower_values.specs.Values.{call_by, part_of, value, values, nested, subscripts, subscript}
use Rattle.kind_laws.specs.Standing.{Knows}
use Rattle.kind_laws.proofs.TypeFacts.{no_type, unary_operand, binary_result, part_result}
use Rattle.kind_laws.proofs.TypesKnown.{name_known}
use Rattle.kind_laws.proofs.TypedExpressions.{type_known}
use Rattle.kind_laws.proofs.Made as made
use Rattle.kind_laws.proofs.Arguments.{AreOf, argued-rank}
use Rattle.kind_laws.proofs.FormsMade.{AddUp, AreTyped, is_nesting}
use Rattle.kind_laws.proofs.ExpressionsMade.{value_made, values_made, subscripts_made}
use Rattle.kind_laws.proofs.ScalarRanks.{both_zero, AllScalar, subscript_scalar, one_more, subscripts_scalar, no_vector, called_scalar}
use Rattle.place_laws.proofs.Simple.{simple-constant, simple-reference, simple-loaded, simple-named, simple-inquiry, simple-in_parentheses}
use Rattle.place_laws.proofs.Scalars.{Works, IsScalar, ScalarBefore, simple_works, works-done, works-then, works-after, works-folded, works-binary, works-unary, works-joined, joined-scalar, works-call, works-designated}

-- ---- ranks

none_added : (m rank : ℕ) → m + 0 ≡ rank → rank ≡ 0 → m ≡ 0
none_added m rank h z = omega (arith, h, z)

-- ---- calls

works-call_by : (s : Scope) (o : Option ValueBinary) (b : Bool) (p : ValueBinary → Lowering Operand) (q r : Lowering Operand) → ((op : ValueBinary) → o ≡ Some op → Works s (p op)) → Works s q → (o ≡ None → b ≡ false → Works s r) → Works s (call_by o b p q r)
works-call_by s (Some op) b p q r f g h = f op refl
works-call_by s None true p q r f g h = g
works-call_by s None false p q r f g h = h refl refl

no_inquiry : (w : CallWord) (op : ValueBinary) → nesting_of w ≡ Some op → is_inquiry w ≡ false
no_inquiry w op h = (is_nesting w op h).asks

-- ---- expressions

module _ (t : List Row) (line : ℕ) (s : Scope) (k : Knows t s) where
  -- an element, as a place
  part_works : {m : Count} (x : Name) (subs : Subs m) (ty : Typed) → AreSubs subs → named_faults t line x ++ subs_faults t true line subs ++ part_faults line (named_type t x) (how_many subs) ≡ [] →
      part_type (named_type t x) (how_many subs) (types.subscripts t true no_subscripts subs) ≡ Some ty → ty.rank ≡ 0 →
      ((r : Operand) → subs_faults t true line subs ≡ [] → (types.subscripts t true no_subscripts subs).rank ≡ 0 → Works s (subscripts r 1 subs)) → Works s (part_of x (λ r. subscripts r 1 subs))
  unfolding part_of
  part_works x subs ty g f h z elements =
      let first = name_known line (standing_of t x) (none_first _ _ (none_first _ _ f)) in
      let select = types.subscripts t true no_subscripts subs in
      let none = none_after _ _ (none_first _ _ f) in
      let zero : select.rank ≡ 0 = ap (λ y. y.rank) (part_result (named_type t x) (how_many subs) select first.0 ty first.1 h) ∙ z in
      works-after s (reference x) (λ r. subscripts r 1 subs >>= designated r) (λ m. simple-reference works_on_scalars simple_works x s m)
      (λ r. works-then s (AddUp 0 select.rank) (subscripts r 1 subs) (designated r) (elements r none zero) (subscripts_made t true line s k r 1 no_subscripts subs g none)
      (λ ss adds. works-designated s r ss (none_added (section_rank (map sub_kind ss)) select.rank adds zero)))

  mutual
    pub works-value : (e : Expr) (ty : Typed) → IsExpr e → faults t true line e ≡ [] → typed t true e ≡ Some ty → ty.rank ≡ 0 → Works s (value e)
    works-value (Number n) ty g f h z = λ m. simple-constant works_on_scalars simple_works I32 (pos n) s m
    works-value TooWide ty g f h z = no_type ty h
    works-value TooDeep ty g f h z = absurd g
    works-value (Truth b) ty g f h z = λ m. simple-constant works_on_scalars simple_works I1 (truth b) s m
    works-value (Named x) ty g f h z = works-folded s (Named x) (named x) (λ m. simple-named works_on_scalars simple_works x s m)
    works-value (Part' x _ subs) ty g f h z =
        works-after s (part_of x (λ r. subscripts r 1 subs)) loaded (part_works x subs ty g.2 f h z (λ r none zero. works-subscripts r 1 no_subscripts subs g.2 none zero)) (λ p m. simple-loaded works_on_scalars simple_works p s m)
    works-value (Call' w _ es) ty g f h z =
        works-call_by s (nesting_of w) (is_inquiry w) (λ op. nested op None es) (inquiry w (listed es)) (values es >>= call_on w)
        (λ op is.
        let args = called_scalar t line w es ty (no_inquiry w op is) f h z in
        works-nested op None es args.0 tt g.1 args.1 args.2 args.4)
        (λ m. simple-inquiry works_on_scalars simple_works w (listed es) s m)
        (λ m i.
        let args = called_scalar t line w es ty i f h z in
        works-then s (AreOf args.0) (values es) (call_on w) (works-values es args.0 g.1 args.1 args.2 args.4) (values_made t true line s k es args.0 g.1 args.1 args.2)
        (λ xs are. works-call s w xs args.3 (argued-rank no_arguments args.0 xs 0 refl are ∙ args.5)))
    works-value (Vector' _ es) ty g f h z = no_vector line (length (listed es)) (arguments t true no_arguments es) (none_after _ _ f)
    works-value (paren e) ty g f h z =
        works-folded s (paren e) (value e >>= in_parentheses) (works-after s (value e) in_parentheses (works-value e ty g f h z) (λ x m. simple-in_parentheses works_on_scalars simple_works x s m))
    works-value (unary op e) ty g f h z =
        let none = none_first _ _ f in
        let type = unary_operand op (typed t true e) ty h in
        works-folded s (unary op e) (value e >>= unary_operation op)
        (works-then s (made.IsOf ty) (value e) (unary_operation op) (works-value e ty g none type z) (value_made t true line s k e ty g none type) (λ x is. works-unary s op x (is.rank ∙ z)))
    works-value (binary op a b) ty g f h z =
        let no_left = none_first _ _ (none_first _ _ f) in
        let no_right = none_after _ _ (none_first _ _ f) in
        let left = type_known t true line a no_left in
        let right = type_known t true line b no_right in
        let zero = both_zero left.0.rank right.0.rank (ap (λ y. y.rank) (binary_result op (typed t true a) (typed t true b) left.0 right.0 ty left.1 right.1 h) ∙ z) in
        works-folded s (binary op a b) (value a >>= (λ x. value b >>= binary_operation (binary_of op) x))
        (works-then s (made.IsOf left.0) (value a) (λ x. value b >>= binary_operation (binary_of op) x) (works-value a left.0 g.0 no_left left.1 zero.0) (value_made t true line s k a left.0 g.0 no_left left.1)
        (λ x first. works-then s (made.IsOf right.0) (value b) (binary_operation (binary_of op) x) (works-value b right.0 g.1 no_right right.1 zero.1) (value_made t true line s k b right.0 g.1 no_right right.1)
        (λ y second. works-binary s (binary_of op) x y (first.rank ∙ zero.0) (second.rank ∙ zero.1))))

    works-values : {m : Count} (es : Exprs m) (tys : List Typed) → AreExprs es → all_faults t true line es ≡ [] → AreTyped t true es tys → AllScalar tys → Works s (values es)
    works-values end_exprs tys g f h z = works-done s []
    works-values (more_exprs e es) [] g f h z = absurd h
    works-values (more_exprs e es) (a ∷ tys) g f h z =
        works-after s (value e) (λ x. values es >>= (λ xs. done (x ∷ xs))) (works-value e a g.0 (none_first _ _ f) h.0 z.0)
        (λ x. works-after s (values es) (λ xs. done (x ∷ xs)) (works-values es tys g.1 (none_after _ _ f) h.1 z.1) (λ xs. works-done s (x ∷ xs)))

    works-nested : {m : Count} (op : ValueBinary) (before : Option Operand) (es : Exprs m) (tys : List Typed) → ScalarBefore before → AreExprs es → all_faults t true line es ≡ [] → AreTyped t true es tys → AllScalar tys →
        Works s (nested op before es)
    works-nested op before end_exprs tys b g f h z = works-done s (or_nothing before)
    works-nested op before (more_exprs e es) [] b g f h z = absurd h
    works-nested op before (more_exprs e es) (a ∷ tys) b g f h z =
        works-then s (made.IsOf a) (value e) (λ y. joined op before y >>= (λ x. nested op (Some x) es)) (works-value e a g.0 (none_first _ _ f) h.0 z.0) (value_made t true line s k e a g.0 (none_first _ _ f) h.0)
        (λ y is. works-then s IsScalar (joined op before y) (λ x. nested op (Some x) es) (works-joined s op before y b (is.rank ∙ z.0)) (joined-scalar s op before y b (is.rank ∙ z.0))
        (λ x so_far. works-nested op (Some x) es tys so_far g.1 (none_after _ _ f) h.1 z.1))

    works-subscripts : {m : Count} (r : Operand) (dim : ℕ) (c : Subscripts) (ss : Subs m) → AreSubs ss → subs_faults t true line ss ≡ [] → (types.subscripts t true c ss).rank ≡ 0 → Works s (subscripts r dim ss)
    works-subscripts r dim c end_subs g f h = works-done s []
    works-subscripts r dim c (more_subs (sub.One e) ss) g f h =
        let none = none_first _ _ (none_first _ _ f) in
        let one = type_known t true line e none in
        let next = subscripts_scalar t line (with_subscript c (typed t true e)) ss (none_after _ _ f) h in
        let zero = (subscript_scalar c one.0 (ap (λ o. (with_subscript c o).rank) (sym one.1) ∙ next)).1 in
        works-after s (subscript r dim (sub.One e)) (λ x. subscripts r (suc dim) ss >>= (λ xs. done (x ∷ xs)))
        (works-after s (value e) (λ x. done (subscript_of x)) (works-value e one.0 g.0 none one.1 zero) (λ x. works-done s (subscript_of x)))
        (λ x. works-after s (subscripts r (suc dim) ss) (λ xs. done (x ∷ xs)) (works-subscripts r (suc dim) (with_subscript c (typed t true e)) ss g.1 (none_after _ _ f) h) (λ xs. works-done s (x ∷ xs)))
    works-subscripts r dim c (more_subs (sub.Range' l u st) ss) g f h =
        let next : c.rank + 1 ≡ 0 = subscripts_scalar t line (types.with_sub t true c (sub.Range' l u st)) ss (none_after _ _ f) h in one_more c.rank next

  pub works-part : {m : Count} (x : Name) (subs : Subs m) (ty : Typed) → AreSubs subs → named_faults t line x ++ subs_faults t true line subs ++ part_faults line (named_type t x) (how_many subs) ≡ [] →
      part_type (named_type t x) (how_many subs) (types.subscripts t true no_subscripts subs) ≡ Some ty → ty.rank ≡ 0 → Works s (part_of x (λ r. subscripts r 1 subs))
  works-part x subs ty g f h z = part_works x subs ty g f h z (λ r none zero. works-subscripts r 1 no_subscripts subs g none zero)
