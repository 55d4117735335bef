-- What is lowered from an expression in which no rule is broken has its type.
use Rattle.std.proofs.Common.{◌≡◌, refl, sym, ap, ◌∙◌, ℕ, suc, ◌+◌, Bool, true, false, List, [], ◌∷◌, ◌++◌, length, Option, Some, None, pos, nat_lt, nat_le, nat_eq, max, true≢false, arith}
use mathlib.Core.Former.{Count}
use Rattle.ws_base.specs.Numbers.{truth}
use Rattle.ws_base.specs.declared.op.CallWord.{CallWord}
use Rattle.ws_base.specs.declared.op.CallWord.TheVariants as word
use Rattle.ws_tree.specs.declared.expr.Expr.{Expr}
use Rattle.ws_tree.specs.declared.expr.Expr.TheVariants.{Number, TooWide, TooDeep, Truth, Named, Part', Call', Vector'}
use Rattle.ws_tree.specs.declared.expr.Sub.TheVariants as sub
use Rattle.ws_tree.specs.Trees.{Exprs, end_exprs, more_exprs, Subs, end_subs, more_subs, paren, unary, binary}
use Rattle.ws_tree.specs.Grammatical.{IsExpr, AreExprs, AreSubs, HasSubs}
use Rattle.ws_types.specs.declared.types.Typed.{Typed}
use Rattle.ws_types.specs.declared.types.Row.{Row}
use Rattle.ws_types.specs.declared.types.Arguments.{Arguments}
use Rattle.ws_types.specs.declared.types.Subscripts.{Subscripts}
use Rattle.ws_types.specs.Names.{Name, standing_of, integer, logical}
use Rattle.ws_tree.specs.Calls.{takes}
use Rattle.ws_types.specs.Operations.{is_inquiry, no_subscripts, part_faults, part_type, no_arguments, with_argument, call_type, vector_type}
use Rattle.ws_types.specs.Expressions.{listed, how_many, first_standing, number_limit, named_type, named_faults, typed, faults, arguments, all_faults, subs_faults, called_type, called_faults}
use Rattle.ws_types.specs.Expressions as types
use Rattle.ws_sema.proofs.NoFaults.{none_first, none_after}
use Rattle.hlfir_ops.specs.declared.kinds.Elem.TheVariants.{I32, I1}
use Rattle.hlfir_ops.specs.declared.what.BoundWord.TheVariants.{Lower, Upper}
use Rattle.hlfir_ops.specs.declared.what.ValueBinary.{ValueBinary}
use Rattle.hlfir_ops.specs.RulesForms.{result_elem}
use Rattle.lower_values.specs.declared.operand.Operand.{Operand}
use Rattle.lower_values.specs.declared.operand.Subscript.{Subscript}
use Rattle.lower_values.specs.declared.operand.Subscript.TheVariants.{Range}
use Rattle.lower_values.specs.Scopes.{Scope}
use Rattle.lower_values.specs.Lowerings.{Lowering, done, ◌>>=◌}
use Rattle.lower_values.specs.Operations.{constant, binary_of, binary_operation, in_parentheses, unary_operation, nesting_of, joined, call_on, vector}
use Rattle.lower_values.specs.References.{reference, loaded, named, bound, subscript_of, sub_kind, added_rank, designated, inquiry}
use Rattle.lower_values.specs.Values.{part_of, value, values, nested, subscripts, subscript, given_or}
use Rattle.kind_laws.specs.Standing.{Knows}
use Rattle.kind_laws.specs.Laws.{KindsAreTypes}
use Rattle.kind_laws.proofs.TypesKnown.{name_known}
use Rattle.kind_laws.proofs.TypedExpressions.{type_known}
use Rattle.kind_laws.proofs.TypeFacts.{same_type, no_type, chosen_type, unary_operand, unary_truth, binary_result, selected, part_result}
use Rattle.kind_laws.proofs.Made.{Makes, makes-done, makes-then, IsOf, IsReferenceTo, IsPartOf, constant_made, parentheses_made, part_made}
use Rattle.kind_laws.proofs.NamesMade.{name_made, reference_made}
use Rattle.kind_laws.proofs.Arguments.{AreOf, argued, AreNumbers, are_numbers, vector_made}
use Rattle.kind_laws.proofs.CallsMade.{call_result, call_result-is, right_types, all_made, inquiry_made}
use Rattle.kind_laws.proofs.ConstantsMade.{value_integer, folded_made}
use Rattle.kind_laws.proofs.FormsMade.{unary_made, binary_made, AddUp, one_added, adds_more, part_rank, designated_made, AreTyped, types_known, arguments-are, typed-length, by_call, call_taken, call_asked, call_typed, parts_faultless, is_nesting, number_of_rank, IsBefore, joined_made}

-- something was made, or will be
abbrev pub HasOne : {m : Count} → Option Operand → Exprs m → Type 0
HasOne (Some x) es = Unit {0}
HasOne None end_exprs = ⊥
HasOne None (more_exprs e es) = Unit {0}

pub has_one : {m : Count} (es : Exprs m) → nat_le 2 (length (listed es)) ≡ true → HasOne None es
has_one end_exprs h = absurd (true≢false (sym h))
has_one (more_exprs e es) h = tt

three_taken : (w : CallWord) (es : List Expr) → w ≡ word.Merge → takes w es ≡ true → nat_eq (length es) 3 ≡ true
unfolding takes
three_taken w es is h = let right : takes word.Merge es ≡ true = ap (λ v. takes v es) (sym is) ∙ h in right

module _ (s : Scope) where
  then_more : (p : Lowering Subscript) (q : Lowering (List Subscript)) (c m rank : ℕ) → Makes s (λ x. added_rank (sub_kind x) + c ≡ m) p → Makes s (AddUp m rank) q → Makes s (AddUp c rank) (p >>= (λ x. q >>= (λ xs. done (x ∷ xs))))
  then_more p q c m rank h k =
      makes-then s (λ x. added_rank (sub_kind x) + c ≡ m) (AddUp c rank) p (λ x. q >>= (λ xs. done (x ∷ xs))) h
      (λ x first. makes-then s (AddUp m rank) (AddUp c rank) q (λ xs. done (x ∷ xs)) k (λ xs rest. makes-done s (AddUp c rank) (x ∷ xs) (adds_more x xs c m rank first rest)))

range_made : (s : Scope) (p q r : Lowering Operand) (c : ℕ) → Makes s (λ x. added_rank (sub_kind x) + c ≡ c + 1) (p >>= (λ x. q >>= (λ y. r >>= (λ z. done (Range x.value y.value z.value)))))
range_made s p q r c =
    let P : Subscript → Type 0 = λ x. added_rank (sub_kind x) + c ≡ c + 1 in
    makes-then s (λ _. Unit {0}) P p (λ x. q >>= (λ y. r >>= (λ z. done (Range x.value y.value z.value)))) (λ n. tt)
    (λ x _. makes-then s (λ _. Unit {0}) P q (λ y. r >>= (λ z. done (Range x.value y.value z.value))) (λ n. tt)
    (λ y _. makes-then s (λ _. Unit {0}) P r (λ z. done (Range x.value y.value z.value)) (λ n. tt)
    (λ z _. makes-done s P (Range x.value y.value z.value) (omega arith))))

-- ---- calls, by what is made of the arguments

module _ (t : List Row) (inside : Bool) (line : ℕ) (s : Scope) where
  all_called : {m : Count} (w : CallWord) (es : Exprs m) (ty : Typed) → nesting_of w ≡ None → is_inquiry w ≡ false →
      called_faults t inside line w (listed es) (all_faults t inside line es) (arguments t inside no_arguments es) ≡ [] → called_type t inside w (listed es) (arguments t inside no_arguments es) ≡ Some ty →
      ((tys : List Typed) → all_faults t inside line es ≡ [] → AreTyped t inside es tys → Makes s (AreOf tys) (values es)) → Makes s (IsOf ty) (values es >>= call_on w)
  all_called w es ty m i f h g =
      let none = parts_faultless (takes w (listed es)) (is_inquiry w) line _ (all_faults t inside line es) _ i f in
      let known = types_known t inside line es none in
      let tys = known.0 in
      let right = call_taken (takes w (listed es)) (is_inquiry w) _ _ ty h in
      let type : call_type inside w (argued no_arguments tys) ≡ Some ty =
      ap (call_type inside w) (sym (arguments-are t inside no_arguments es tys known.1)) ∙ call_typed (takes w (listed es)) (is_inquiry w) _ _ ty h i in
      rw (← call_result-is inside w (argued no_arguments tys) ty type)
      (makes-then s (AreOf tys) (IsOf (call_result w (argued no_arguments tys))) (values es) (call_on w) (g tys none known.1)
      (λ xs are. all_made s w tys xs m i are
      (λ is. ap (λ n. nat_eq n 3) (sym (typed-length t inside es tys known.1)) ∙ three_taken w (listed es) is right) (right_types inside w (argued no_arguments tys) ty type)))

  nested_called : {m : Count} (w : CallWord) (op : ValueBinary) (es : Exprs m) (ty : Typed) → nesting_of w ≡ Some op →
      called_faults t inside line w (listed es) (all_faults t inside line es) (arguments t inside no_arguments es) ≡ [] → called_type t inside w (listed es) (arguments t inside no_arguments es) ≡ Some ty →
      ((tys : List Typed) → result_elem op ≡ I32 → HasOne None es → all_faults t inside line es ≡ [] → AreTyped t inside es tys → AreNumbers tys → Makes s (IsOf (number_of_rank (argued no_arguments tys).rank)) (nested op None es)) →
      Makes s (IsOf ty) (nested op None es)
  nested_called w op es ty m f h g =
      let nests = is_nesting w op m in
      let none = parts_faultless (takes w (listed es)) (is_inquiry w) line _ (all_faults t inside line es) _ nests.asks f in
      let known = types_known t inside line es none in
      let tys = known.0 in
      let right = call_taken (takes w (listed es)) (is_inquiry w) _ _ ty h in
      let type : call_type inside w (argued no_arguments tys) ≡ Some ty =
      ap (call_type inside w) (sym (arguments-are t inside no_arguments es tys known.1)) ∙ call_typed (takes w (listed es)) (is_inquiry w) _ _ ty h nests.asks in
      let result : number_of_rank (argued no_arguments tys).rank ≡ ty = sym (nests.result (argued no_arguments tys)) ∙ call_result-is inside w (argued no_arguments tys) ty type in
      let numbers = are_numbers no_arguments tys (sym (nests.wrong (argued no_arguments tys)) ∙ right_types inside w (argued no_arguments tys) ty type) in
      rw (← result) (g tys nests.elem (has_one es (nests.many (listed es) right)) none known.1 numbers)

-- ---- a part, by what is made of its subscripts

module _ (t : List Row) (inside : Bool) (line : ℕ) (s : Scope) (k : Knows t s) where
  part_from : {m : Count} (x : Name) (subs : Subs m) (ty : Typed) → HasSubs subs → (named_faults t line x ++ subs_faults t inside line subs ++ part_faults line (named_type t x) (how_many subs)) ≡ [] →
      part_type (named_type t x) (how_many subs) (types.subscripts t inside no_subscripts subs) ≡ Some ty →
      ((r : Operand) → Makes s (AddUp 0 (types.subscripts t inside no_subscripts subs).rank) (subscripts r 1 subs)) → Makes s (IsPartOf ty) (part_of x (λ r. subscripts r 1 subs))
  unfolding part_of
  part_from x subs ty some f h adds =
      let first = name_known line (standing_of t x) (none_first _ _ (none_first _ _ f)) in
      let select = types.subscripts t inside no_subscripts subs in
      let part = selected first.0 select in
      rw (← part_result (named_type t x) (how_many subs) select first.0 ty first.1 h)
      (makes-then s (IsReferenceTo first.0) (IsPartOf part) (reference x) (λ r. subscripts r 1 subs >>= designated r)
      (reference_made s x (standing_of t x) first.0 (k x) first.1 (part_rank line (named_type t x) first.0 subs first.1 some (none_after _ _ f)))
      (λ r whole. makes-then s (AddUp 0 select.rank) (IsPartOf part) (subscripts r 1 subs) (designated r) (adds r) (λ ss sum. designated_made s r ss first.0 select whole sum)))

-- ---- expressions

module _ (t : List Row) (inside : Bool) (line : ℕ) (s : Scope) (k : Knows t s) where
  mutual
    pub value_made : (e : Expr) (ty : Typed) → IsExpr e → faults t inside line e ≡ [] → typed t inside e ≡ Some ty → Makes s (IsOf ty) (value e)
    value_made (Number n) ty g f h = rw (← same_type integer ty (chosen_type (nat_lt number_limit n) (Some integer) ty h)) (constant_made s I32 (pos n) integer refl refl)
    value_made TooWide ty g f h = no_type ty h
    value_made TooDeep ty g f h = absurd g
    value_made (Truth b) ty g f h = rw (← same_type logical ty h) (constant_made s I1 (truth b) logical refl refl)
    value_made (Named x) ty g f h =
        folded_made s (Named x) (named x) ty (λ z is. value_integer t inside line s k (Named x) ty z f h is) (λ none. name_made s x (standing_of t x) ty (k x) h none)
    value_made (Part' x _ subs) ty g f h =
        makes-then s (IsPartOf ty) (IsOf ty) (part_of x (λ r. subscripts r 1 subs)) loaded
        (part_from t inside line s k x subs ty g.1 f h (λ r. subscripts_made r 1 no_subscripts subs g.2 (none_after _ _ (none_first _ _ f)))) (λ p made. part_made s ty p made)
    value_made (Call' w _ es) ty g f h =
        by_call s (IsOf ty) (nesting_of w) (is_inquiry w) (λ op. nested op None es) (inquiry w (listed es)) (values es >>= call_on w)
        (λ op is. nested_called t inside line s w op es ty is f h (λ tys i o none types numbers. nested_made op None no_arguments es tys i refl o g.1 none types numbers))
        (λ m i. inquiry_made t s w (listed es) ty (call_asked (takes w (listed es)) (is_inquiry w) _ _ ty h i))
        (λ m i. all_called t inside line s w es ty m i f h (λ tys none types. values_made es tys g.1 none types))
    value_made (Vector' _ es) ty g f h =
        let known = types_known t inside line es (none_first _ _ f) in
        makes-then s (AreOf known.0) (IsOf ty) (values es) vector (values_made es known.0 g.1 (none_first _ _ f) known.1)
        (λ xs are. vector_made s inside (length (listed es)) known.0 xs ty are (ap (vector_type inside (length (listed es))) (sym (arguments-are t inside no_arguments es known.0 known.1)) ∙ h))
    value_made (paren e) ty g f h =
        folded_made s (paren e) (value e >>= in_parentheses) ty (λ z is. value_integer t inside line s k (paren e) ty z f h is)
        (λ _. makes-then s (IsOf ty) (IsOf ty) (value e) in_parentheses (value_made e ty g f h) (λ x made. parentheses_made s x ty made))
    value_made (unary op e) ty g f h =
        folded_made s (unary op e) (value e >>= unary_operation op) ty (λ z is. value_integer t inside line s k (unary op e) ty z f h is)
        (λ _. makes-then s (IsOf ty) (IsOf ty) (value e) (unary_operation op) (value_made e ty g (none_first _ _ f) (unary_operand op (typed t inside e) ty h))
        (λ x made. unary_made s op x ty (unary_truth op (typed t inside e) ty h) made))
    value_made (binary op a b) ty g f h =
        let left = type_known t inside line a (none_first _ _ (none_first _ _ f)) in
        let right = type_known t inside line b (none_after _ _ (none_first _ _ f)) in
        folded_made s (binary op a b) (value a >>= (λ x. value b >>= binary_operation (binary_of op) x)) ty (λ z is. value_integer t inside line s k (binary op a b) ty z f h is)
        (λ _. makes-then s (IsOf left.0) (IsOf ty) (value a) (λ x. value b >>= binary_operation (binary_of op) x) (value_made a left.0 g.0 (none_first _ _ (none_first _ _ f)) left.1)
        (λ x first. makes-then s (IsOf right.0) (IsOf ty) (value b) (binary_operation (binary_of op) x) (value_made b right.0 g.1 (none_after _ _ (none_first _ _ f)) right.1)
        (λ y second. rw (← binary_result op (typed t inside a) (typed t inside b) left.0 right.0 ty left.1 right.1 h) (binary_made s op x y left.0 right.0 first second))))

    pub values_made : {m : Count} (es : Exprs m) (tys : List Typed) → AreExprs es → all_faults t inside line es ≡ [] → AreTyped t inside es tys → Makes s (AreOf tys) (values es)
    values_made end_exprs [] g f h = makes-done s (AreOf []) [] tt
    values_made end_exprs (a ∷ tys) g f h = absurd h
    values_made (more_exprs e es) [] g f h = absurd h
    values_made (more_exprs e es) (a ∷ tys) g f h =
        makes-then s (IsOf a) (AreOf (a ∷ tys)) (value e) (λ x. values es >>= (λ xs. done (x ∷ xs))) (value_made e a g.0 (none_first _ _ f) h.0)
        (λ x first. makes-then s (AreOf tys) (AreOf (a ∷ tys)) (values es) (λ xs. done (x ∷ xs)) (values_made es tys g.1 (none_after _ _ f) h.1)
        (λ xs rest. makes-done s (AreOf (a ∷ tys)) (x ∷ xs) (first, rest)))

    nested_made : {m : Count} (op : ValueBinary) (before : Option Operand) (c : Arguments) (es : Exprs m) (tys : List Typed) → result_elem op ≡ I32 → IsBefore c.rank before → HasOne before es → AreExprs es → all_faults t inside line es ≡ [] →
        AreTyped t inside es tys → AreNumbers tys → Makes s (IsOf (number_of_rank (argued c tys).rank)) (nested op before es)
    nested_made op None c end_exprs tys i b o g f h n = absurd o
    nested_made op (Some x) c end_exprs [] i b o g f h n = makes-done s (IsOf (number_of_rank c.rank)) x b
    nested_made op (Some x) c end_exprs (a ∷ tys) i b o g f h n = absurd h
    nested_made op before c (more_exprs e es) [] i b o g f h n = absurd h
    nested_made op before c (more_exprs e es) (a ∷ tys) i b o g f h n =
        let ty = number_of_rank (argued (with_argument c (Some a)) tys).rank in
        makes-then s (IsOf a) (IsOf ty) (value e) (λ y. joined op before y >>= (λ z. nested op (Some z) es)) (value_made e a g.0 (none_first _ _ f) h.0)
        (λ y made. makes-then s (IsOf (number_of_rank (max c.rank a.rank))) (IsOf ty) (joined op before y) (λ z. nested op (Some z) es) (joined_made s op before y c.rank a i b n.0 made)
        (λ z so_far. nested_made op (Some z) (with_argument c (Some a)) es tys i so_far tt g.1 (none_after _ _ f) h.1 n.1))

    pub subscripts_made : {m : Count} (r : Operand) (dim : ℕ) (c : Subscripts) (ss : Subs m) → AreSubs ss → subs_faults t inside line ss ≡ [] → Makes s (AddUp c.rank (types.subscripts t inside c ss).rank) (subscripts r dim ss)
    subscripts_made r dim c end_subs g f = makes-done s (AddUp c.rank c.rank) [] (omega arith)
    subscripts_made r dim c (more_subs (sub.One e) ss) g f =
        let one = type_known t inside line e (none_first _ _ (none_first _ _ f)) in
        let next = types.with_sub t inside c (sub.One e) in
        then_more s (subscript r dim (sub.One e)) (subscripts r (suc dim) ss) c.rank next.rank (types.subscripts t inside next ss).rank
        (makes-then s (IsOf one.0) (λ x. added_rank (sub_kind x) + c.rank ≡ next.rank) (value e) (λ x. done (subscript_of x)) (value_made e one.0 g.0 (none_first _ _ (none_first _ _ f)) one.1)
        (λ x made. makes-done s (λ x. added_rank (sub_kind x) + c.rank ≡ next.rank) (subscript_of x) (one_added c (typed t inside e) one.0 x one.1 made.rank)))
        (subscripts_made r (suc dim) next ss g.1 (none_after _ _ f))
    subscripts_made r dim c (more_subs (sub.Range' l u st) ss) g f =
        let next = types.with_sub t inside c (sub.Range' l u st) in
        then_more s (subscript r dim (sub.Range' l u st)) (subscripts r (suc dim) ss) c.rank next.rank (types.subscripts t inside next ss).rank
        (range_made s (given_or (bound Lower dim r) l) (given_or (bound Upper dim r) u) (given_or (constant I32 (pos 1)) st) c.rank)
        (subscripts_made r (suc dim) next ss g.3 (none_after _ _ f))

  -- a part, before it is read
  pub part_of_made : {m : Count} (x : Name) (subs : Subs m) (ty : Typed) → HasSubs subs → AreSubs subs → (named_faults t line x ++ subs_faults t inside line subs ++ part_faults line (named_type t x) (how_many subs)) ≡ [] →
      part_type (named_type t x) (how_many subs) (types.subscripts t inside no_subscripts subs) ≡ Some ty → Makes s (IsPartOf ty) (part_of x (λ r. subscripts r 1 subs))
  part_of_made x subs ty some g f h = part_from t inside line s k x subs ty some f h (λ r. subscripts_made r 1 no_subscripts subs g (none_after _ _ (none_first _ _ f)))

pub kinds_are_types : KindsAreTypes
kinds_are_types t inside line e s n ty g k f h = value_made t inside line s k e ty g f h n
