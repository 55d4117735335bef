-- Expressions owe nothing, and leave what they make to be used once.
use Rattle.std.proofs.Common.{◌≡◌, refl, sym, ap, subst, ℕ, suc, ◌+◌, ◌≤◌, Bool, true, false, List, [], ◌∷◌, ◌++◌, Option, Some, None, pos, arith}
use Rattle.std.specs.Prelude.{◌==◌, if◌then◌else◌}
use Rattle.std.specs.List.{flat_map}
use mathlib.Core.Former.{Count}
use Rattle.ws_base.specs.Numbers.{truth}
use Rattle.ws_base.specs.declared.name.Name.{Name}
use Rattle.ws_base.specs.declared.op.CallWord.{CallWord}
use Rattle.ws_base.specs.declared.op.CallWord.TheVariants as word
use Rattle.ws_tree.specs.declared.expr.Expr.{Expr}
use Rattle.ws_tree.specs.declared.expr.Expr.TheVariants.{Number, TooWide, TooDeep, Truth, Named, Part', Call', Vector'}
use Rattle.ws_tree.specs.declared.expr.Sub.{Sub}
use Rattle.ws_tree.specs.declared.expr.Sub.TheVariants as sub
use Rattle.ws_tree.specs.Trees.{Exprs, end_exprs, more_exprs, Subs, end_subs, more_subs, Given, absent, given, paren, unary, binary}
use Rattle.ws_tree.specs.Grammatical as grammar
use Rattle.ws_tree.specs.Grammatical.{Takes, IsExpr, AreExprs, AreSubs, IsGiven}
use Rattle.ws_types.specs.declared.constant.Constancy.{Constancy}
use Rattle.ws_types.specs.declared.constant.Constancy.TheVariants as constancy
use Rattle.ws_types.specs.declared.types.Row.{Row}
use Rattle.ws_types.specs.Constants as constants
use Rattle.ws_types.specs.Operations.{no_arguments, is_inquiry}
use Rattle.ws_types.specs.Expressions.{listed, arguments, faults, all_faults, subs_faults, sub_faults, given_faults}
use Rattle.ws_sema.proofs.NoFaults.{none_first, none_after}
use Rattle.hlfir_ops.specs.declared.kinds.Elem.TheVariants.{I32, I1}
use Rattle.hlfir_ops.specs.declared.what.BoundWord.TheVariants.{Lower, Upper}
use Rattle.hlfir_ops.specs.declared.what.ValueBinary.{ValueBinary}
use Rattle.hlfir_ops.specs.declared.op.ValueId.{ValueId}
use Rattle.hlfir_ops.specs.RulesValues.{rank_of}
use Rattle.lower_values.specs.declared.operand.Operand.{Operand}
use Rattle.lower_values.specs.declared.operand.Subscript.{Subscript}
use Rattle.lower_values.specs.declared.operand.Subscript.TheVariants.{One, Range, Vector}
use Rattle.lower_values.specs.Scopes.{Scope}
use Rattle.lower_values.specs.Lowerings.{Lowering, done, ◌>>=◌}
use Rattle.lower_values.specs.Operations.{constant, binary_of, binary_operation, in_parentheses, unary_operation, nesting_of, joined, call_on, vector}
use Rattle.lower_values.specs.References.{nothing, loaded, named, subscript_of, sub_values, bound, designated, inquiry}
use Rattle.lower_values.specs.Values.{constant_or, folded, call_by, called, part_of, value, values, nested, subscripts, subscript, given_or}
use Rattle.use_laws.proofs.Counting.{hits, hit-other, hits-append}
use Rattle.use_laws.proofs.Defined.{In, AllIn, numbers, all-both, Grows, grows-then, all-grown}
use Rattle.use_laws.proofs.Standing.{HasNoVariables, IsFree, Stands, stands-grown, free-grown, zero-free}
use Rattle.use_laws.proofs.Walking.{Lowers, of_operand, lowers-done, lowers-then, lowers-by, lowers-scoped}
use Rattle.use_laws.proofs.Operations.{of_operands, lowers-constant, lowers-in_parentheses, lowers-unary_operation, lowers-binary_operation, lowers-call_on, lowers-vector}
use Rattle.use_laws.proofs.References.{lowers-reference, lowers-loaded, lowers-named, lowers-bound, lowers-designated, lowers-inquiry}
use Rattle.kind_laws.proofs.FormsMade.{is_nesting}
use Rattle.kind_laws.proofs.ExpressionsMade.{HasOne}
use Rattle.use_laws.proofs.Clean.{no-part, no-inquiry, called-inquiry, called-parts}

-- ---- what is held of lists and subscripts

abbrev pub of_subscript : Subscript → List ℕ
of_subscript x = numbers (sub_values x)

abbrev pub of_subscripts : List Subscript → List ℕ
of_subscripts xs = numbers (flat_map sub_values xs)

abbrev pub of_option : Option Operand → List ℕ
of_option None = []
of_option (Some x) = of_operand x

pub numbers-append : (xs ys : List ValueId) → numbers (xs ++ ys) ≡ numbers xs ++ numbers ys
numbers-append [] ys = refl
numbers-append (x ∷ xs) ys = ap (λ l. x.number ∷ l) (numbers-append xs ys)

subscript_of-numbers : (x : Operand) → of_subscript (subscript_of x) ≡ of_operand x
subscript_of-numbers x = chosen (rank_of x.kind == 0) where
  chosen : (b : Bool) → of_subscript (if b then One x.value else Vector x.value) ≡ of_operand x
  chosen true = refl
  chosen false = refl

-- ---- what stands over other lowerings

module _ (k : ℕ) (s : Scope) (n : ℕ) (D : List ℕ) where
  one-done : (x : Operand) → AllIn D (of_operand x) → Lowers k s n D (done (subscript_of x)) (hits k (of_operand x) + 0) of_subscript
  one-done x i =
      let same = subscript_of-numbers x in
      lowers-done k s n D (subscript_of x) (hits k (of_operand x) + 0) of_subscript (subst (AllIn D) (sym same) i) (omega (arith, ap (hits k) same))

  subscripts-done : (y : Subscript) (ys : List Subscript) → AllIn D (of_subscript y) → AllIn D (of_subscripts ys) → Lowers k s n D (done (y ∷ ys)) (hits k (of_subscripts ys) + hits k (of_subscript y)) of_subscripts
  subscripts-done y ys i j =
      let same = numbers-append (sub_values y) (flat_map sub_values ys) in
      lowers-done k s n D (y ∷ ys) (hits k (of_subscripts ys) + hits k (of_subscript y)) of_subscripts (subst (AllIn D) (sym same) (all-both D (of_subscript y) (of_subscripts ys) i j))
      (omega (arith, ap (hits k) same, hits-append k (of_subscript y) (of_subscripts ys)))

module _ (k : ℕ) (t : List Row) (s : Scope) (n : ℕ) (D : List ℕ) (stands : Stands k t D s) where
  constant_or-lowers : (c : Constancy) (p : Lowering Operand) → Lowers k s n D p 0 of_operand → Lowers k s n D (constant_or c p) 0 of_operand
  constant_or-lowers (constancy.Value z) p h = lowers-constant k s n D I32 z
  constant_or-lowers _ p h = h

  folded-lowers : (e : Expr) (p : Lowering Operand) → Lowers k s n D p 0 of_operand → Lowers k s n D (folded e p) 0 of_operand
  unfolding folded
  folded-lowers e p h = lowers-scoped k s n D (λ r. constant_or (constants.constancy r.names.constants e) p) 0 of_operand (constant_or-lowers (constants.constancy s.names.constants e) p h)

  pub part_of-lowers : (x : Name) (f : Operand → Lowering (List Subscript)) → (HasNoVariables t → ⊥) →
      ((r : Operand) (m : ℕ) (E : List ℕ) → Grows D E → IsFree k E r.value.number → Lowers k s m E (f r) 0 of_subscripts) → Lowers k s n D (part_of x f) 0 of_operand
  unfolding part_of
  part_of-lowers x f some h =
      lowers-reference k t s n D stands x (λ r. f r >>= (λ ss. designated r ss)) 0 of_operand some (λ r m E g free.
      lowers-then k s m E (f r) (designated r) 0 0 0 of_subscripts of_operand refl (h r m E g free) (λ ss l F i all.
      lowers-by k s l F (designated r ss) (hits k (of_subscripts ss)) (hits k (of_subscripts ss) + 0) of_operand (omega arith) (lowers-designated k s l F r ss (free-grown k E F r.value.number i free) all)))

  call-lowers : (w : CallWord) (es : List Expr) (ps : Lowering (List Operand)) (nests : ValueBinary → Lowering Operand) → (is_inquiry w ≡ true → Lowers k s n D (inquiry w es) 0 of_operand) →
      (is_inquiry w ≡ false → Lowers k s n D ps 0 of_operands) → ((op : ValueBinary) → nesting_of w ≡ Some op → Lowers k s n D (nests op) 0 of_operand) → Lowers k s n D (called w es ps nests) 0 of_operand
  call-lowers w es ps nests inquires all each = chosen (nesting_of w) (is_inquiry w) each inquires all where
    chosen : (o : Option ValueBinary) (b : Bool) → ((op : ValueBinary) → o ≡ Some op → Lowers k s n D (nests op) 0 of_operand) → (b ≡ true → Lowers k s n D (inquiry w es) 0 of_operand) →
        (b ≡ false → Lowers k s n D ps 0 of_operands) → Lowers k s n D (call_by o b nests (inquiry w es) (ps >>= call_on w)) 0 of_operand
    chosen (Some op) b each inquires all = each op refl
    chosen None true each inquires all = inquires refl
    chosen None false each inquires all =
        lowers-then k s n D ps (call_on w) 0 0 0 of_operands of_operand refl (all refl) (λ xs m E g i.
        lowers-by k s m E (call_on w xs) (hits k (of_operands xs)) (hits k (of_operands xs) + 0) of_operand (omega arith) (lowers-call_on k s m E w xs i))

  joined-lowers : (op : ValueBinary) (before : Option Operand) (y : Operand) → AllIn D (of_option before) → In D y.value.number → Lowers k s n D (joined op before y) (hits k (of_operand y) + hits k (of_option before)) of_operand
  joined-lowers op None y h g = lowers-done k s n D y (hits k (of_operand y) + 0) of_operand (g, tt) (omega arith)
  joined-lowers op (Some x) y h g =
      lowers-by k s n D (binary_operation op x y) (hits k (of_operands (x ∷ y ∷ []))) (hits k (of_operand y) + hits k (of_operand x)) of_operand (omega arith) (lowers-binary_operation k s n D op x y h.0 g)

-- ---- what is known of an expression where the source has no variables

abbrev pub IsClean : List Row → ℕ → Expr → Type 0
IsClean t line e = HasNoVariables t → IsExpr e × (faults t false line e ≡ [])

abbrev AreClean : {m : Count} → List Row → ℕ → Exprs m → Type 0
AreClean t line es = HasNoVariables t → AreExprs es × (all_faults t false line es ≡ [])

abbrev AreCleanSubs : {m : Count} → List Row → ℕ → Subs m → Type 0
AreCleanSubs t line xs = HasNoVariables t → AreSubs xs × (subs_faults t false line xs ≡ [])

abbrev IsSub : Sub → Type 0
IsSub (sub.One e) = IsExpr e
IsSub (sub.Range' l u s) = IsGiven l × IsGiven u × IsGiven s

abbrev IsCleanSub : List Row → ℕ → Sub → Type 0
IsCleanSub t line x = HasNoVariables t → IsSub x × (sub_faults t false line x ≡ [])

abbrev IsCleanGiven : List Row → ℕ → Given → Type 0
IsCleanGiven t line g = HasNoVariables t → IsGiven g × (given_faults t false line g ≡ [])

subs-parts : {m : Count} (x : Sub) (xs : Subs m) → AreSubs (more_subs x xs) → IsSub x × AreSubs xs
subs-parts (sub.One e) xs h = (h.0, h.1)
subs-parts (sub.Range' l u s) xs h = ((h.0, h.1, h.2), h.3)

part-some : (t : List Row) (line : ℕ) (x : Name) (c : _) (subs : _) → IsClean t line (Part' x c subs) → HasNoVariables t → ⊥
part-some t line x c subs h none = let f = (h none).1 in no-part t line x subs none (h none).0.1 (none_first _ _ (none_first _ _ f)) (none_after _ _ f)

some-exprs : {m : Count} (es : Exprs m) → 2 ≤ grammar.count es → HasOne None es
some-exprs end_exprs h = omega arith
some-exprs (more_exprs e es) h = tt

nests-started : {m : Count} (w : CallWord) (op : ValueBinary) (es : Exprs m) → nesting_of w ≡ Some op → Takes w es → HasOne None es
nests-started word.Min op es e h = some-exprs es h
nests-started word.Max op es e h = some-exprs es h
nests-started _ op es e h = cc

-- ---- expressions

module _ (k : ℕ) (t : List Row) (line : ℕ) where
  mutual
    pub lowers-value : (e : Expr) (s : Scope) (n : ℕ) (D : List ℕ) → Stands k t D s → IsClean t line e → Lowers k s n D (value e) 0 of_operand
    lowers-value (Number z) s n D stands h = lowers-constant k s n D I32 (pos z)
    lowers-value TooWide s n D stands h = lowers-constant k s n D I32 (pos 0)
    lowers-value TooDeep s n D stands h = lowers-constant k s n D I32 (pos 0)
    lowers-value (Truth b) s n D stands h = lowers-constant k s n D I1 (truth b)
    lowers-value (Named x) s n D stands h = folded-lowers k t s n D stands (Named x) (named x) (lowers-named k t s n D stands x)
    lowers-value (Part' x c subs) s n D stands h =
        let some = part-some t line x c subs h in
        lowers-then k s n D (part_of x (λ r. subscripts r 1 subs)) loaded 0 0 0 of_operand of_operand refl
        (part_of-lowers k t s n D stands x (λ r. subscripts r 1 subs) some (λ r m E g free. lowers-subscripts subs r 1 s m E (stands-grown k t D E s g stands) free (λ none. absurd (some none))))
        (λ p m E g i. lowers-loaded k s m E p (hits k (of_operand p) + 0) i.0 (omega arith))
    lowers-value (Call' w c es) s n D stands h =
        let parts : is_inquiry w ≡ false → AreClean t line es = λ other none. ((h none).0.1, called-parts t false line w (listed es) (all_faults t false line es) (arguments t false no_arguments es) other (h none).1) in
        call-lowers k t s n D stands w (listed es) (values es) (λ op. nested op None es)
        (λ inquires. lowers-inquiry k t s n D stands w (listed es) (λ none. no-inquiry t line w (listed es) none (called-inquiry t false line w (listed es) (all_faults t false line es) (arguments t false no_arguments es) inquires (h none).1)))
        (λ other. lowers-values es s n D stands (parts other))
        (λ op nests. lowers-nested es op None s n D stands tt (λ none. nests-started w op es nests (h none).0.0) (parts (is_nesting w op nests).asks))
    lowers-value (Vector' c es) s n D stands h =
        lowers-then k s n D (values es) vector 0 0 0 of_operands of_operand refl (lowers-values es s n D stands (λ none. ((h none).0.1, none_first _ _ (h none).1)))
        (λ xs m E g i. lowers-by k s m E (vector xs) (hits k (of_operands xs)) (hits k (of_operands xs) + 0) of_operand (omega arith) (lowers-vector k s m E xs i))
    lowers-value (paren e) s n D stands h = folded-lowers k t s n D stands (paren e) (value e >>= in_parentheses)
        (lowers-then k s n D (value e) in_parentheses 0 0 0 of_operand of_operand refl (lowers-value e s n D stands h)
        (λ x m E g i. lowers-by k s m E (in_parentheses x) (hits k (of_operand x)) (hits k (of_operand x) + 0) of_operand (omega arith) (lowers-in_parentheses k s m E x i.0)))
    lowers-value (unary op e) s n D stands h = folded-lowers k t s n D stands (unary op e) (value e >>= unary_operation op)
        (lowers-then k s n D (value e) (unary_operation op) 0 0 0 of_operand of_operand refl (lowers-value e s n D stands (λ none. ((h none).0, none_first _ _ (h none).1)))
        (λ x m E g i. lowers-by k s m E (unary_operation op x) (hits k (of_operand x)) (hits k (of_operand x) + 0) of_operand (omega arith) (lowers-unary_operation k s m E op x i.0)))
    lowers-value (binary op a b) s n D stands h = folded-lowers k t s n D stands (binary op a b) (value a >>= (λ x. value b >>= binary_operation (binary_of op) x))
        (lowers-then k s n D (value a) (λ x. value b >>= binary_operation (binary_of op) x) 0 0 0 of_operand of_operand refl (lowers-value a s n D stands (λ none. ((h none).0.0, none_first _ _ (none_first _ _ (h none).1))))
        (λ x m E g i. lowers-then k s m E (value b) (binary_operation (binary_of op) x) (hits k (of_operand x) + 0) 0 (hits k (of_operand x)) of_operand of_operand (omega arith)
        (lowers-value b s m E (stands-grown k t D E s g stands) (λ none. ((h none).0.1, none_after _ _ (none_first _ _ (h none).1))))
        (λ y l F f j. lowers-by k s l F (binary_operation (binary_of op) x y) (hits k (of_operands (x ∷ y ∷ []))) (hits k (of_operand y) + hits k (of_operand x)) of_operand (omega arith)
        (lowers-binary_operation k s l F (binary_of op) x y (f.kept x.value.number i.0) j.0))))

    lowers-values : {m : Count} (es : Exprs m) (s : Scope) (n : ℕ) (D : List ℕ) → Stands k t D s → AreClean t line es → Lowers k s n D (values es) 0 of_operands
    lowers-values end_exprs s n D stands h = lowers-done k s n D [] 0 of_operands tt refl
    lowers-values (more_exprs e es) s n D stands h =
        lowers-then k s n D (value e) (λ x. values es >>= (λ xs. done (x ∷ xs))) 0 0 0 of_operand of_operands refl (lowers-value e s n D stands (λ none. ((h none).0.0, none_first _ _ (h none).1)))
        (λ x m E g i. lowers-then k s m E (values es) (λ xs. done (x ∷ xs)) (hits k (of_operand x) + 0) 0 (hits k (of_operand x)) of_operands of_operands (omega arith)
        (lowers-values es s m E (stands-grown k t D E s g stands) (λ none. ((h none).0.1, none_after _ _ (h none).1)))
        (λ xs l F f j. lowers-done k s l F (x ∷ xs) (hits k (of_operands xs) + hits k (of_operand x)) of_operands (f.kept x.value.number i.0, j) (omega arith)))

    lowers-nested : {m : Count} (es : Exprs m) (op : ValueBinary) (before : Option Operand) (s : Scope) (n : ℕ) (D : List ℕ) → Stands k t D s → AllIn D (of_option before) → (HasNoVariables t → HasOne before es) → AreClean t line es →
        Lowers k s n D (nested op before es) (hits k (of_option before)) of_operand
    lowers-nested end_exprs op (Some x) s n D stands i started h = lowers-done k s n D x (hits k (of_operand x)) of_operand i refl
    lowers-nested end_exprs op None s n D stands i started h =
        let zero = zero-free k t D s stands started in lowers-done k s n D nothing 0 of_operand (zero.defined, tt) (omega (arith, hit-other k 0 zero.other))
    lowers-nested (more_exprs e es) op before s n D stands i started h =
        lowers-then k s n D (value e) (λ y. joined op before y >>= (λ z. nested op (Some z) es)) (hits k (of_option before)) 0 (hits k (of_option before)) of_operand of_operand (omega arith)
        (lowers-value e s n D stands (λ none. ((h none).0.0, none_first _ _ (h none).1)))
        (λ y m E g j. lowers-then k s m E (joined op before y) (λ z. nested op (Some z) es) (hits k (of_operand y) + hits k (of_option before)) (hits k (of_operand y) + hits k (of_option before)) 0 of_operand of_operand (omega arith)
        (joined-lowers k t s m E (stands-grown k t D E s g stands) op before y (all-grown D E (of_option before) g i) j.0)
        (λ z l F f z_in. lowers-by k s l F (nested op (Some z) es) (hits k (of_operand z)) (hits k (of_operand z) + 0) of_operand (omega arith)
        (lowers-nested es op (Some z) s l F (stands-grown k t D F s (grows-then D E F g f) stands) z_in (λ none. tt) (λ none. ((h none).0.1, none_after _ _ (h none).1)))))

    pub lowers-subscripts : {m : Count} (xs : Subs m) (r : Operand) (dim : ℕ) (s : Scope) (n : ℕ) (D : List ℕ) → Stands k t D s → IsFree k D r.value.number → AreCleanSubs t line xs → Lowers k s n D (subscripts r dim xs) 0 of_subscripts
    lowers-subscripts end_subs r dim s n D stands free h = lowers-done k s n D [] 0 of_subscripts tt refl
    lowers-subscripts (more_subs x xs) r dim s n D stands free h =
        lowers-then k s n D (subscript r dim x) (λ y. subscripts r (suc dim) xs >>= (λ ys. done (y ∷ ys))) 0 0 0 of_subscript of_subscripts refl
        (lowers-subscript x r dim s n D stands free (λ none. ((subs-parts x xs (h none).0).0, none_first _ _ (h none).1)))
        (λ y m E g i. lowers-then k s m E (subscripts r (suc dim) xs) (λ ys. done (y ∷ ys)) (hits k (of_subscript y) + 0) 0 (hits k (of_subscript y)) of_subscripts of_subscripts (omega arith)
        (lowers-subscripts xs r (suc dim) s m E (stands-grown k t D E s g stands) (free-grown k D E r.value.number g free) (λ none. ((subs-parts x xs (h none).0).1, none_after _ _ (h none).1)))
        (λ ys l F f j. subscripts-done k s l F y ys (all-grown E F (of_subscript y) f i) j))

    lowers-subscript : (x : Sub) (r : Operand) (dim : ℕ) (s : Scope) (n : ℕ) (D : List ℕ) → Stands k t D s → IsFree k D r.value.number → IsCleanSub t line x → Lowers k s n D (subscript r dim x) 0 of_subscript
    lowers-subscript (sub.One e) r dim s n D stands free h =
        lowers-then k s n D (value e) (λ x. done (subscript_of x)) 0 0 0 of_operand of_subscript refl (lowers-value e s n D stands (λ none. ((h none).0, none_first _ _ (h none).1)))
        (λ x m E g i. one-done k s m E x i)
    lowers-subscript (sub.Range' l u st) r dim s n D stands free h =
        lowers-then k s n D (given_or (bound Lower dim r) l) (λ x. given_or (bound Upper dim r) u >>= (λ y. given_or (constant I32 (pos 1)) st >>= (λ z. done (Range x.value y.value z.value)))) 0 0 0 of_operand of_subscript refl
        (lowers-given_or l (bound Lower dim r) s n D (lowers-bound k s n D Lower dim r free) stands (λ none. ((h none).0.0, none_first _ _ (none_first _ _ (h none).1))))
        (λ x m E g i. lowers-then k s m E (given_or (bound Upper dim r) u) (λ y. given_or (constant I32 (pos 1)) st >>= (λ z. done (Range x.value y.value z.value))) (hits k (of_operand x) + 0) 0 (hits k (of_operand x)) of_operand of_subscript (omega arith)
        (lowers-given_or u (bound Upper dim r) s m E (lowers-bound k s m E Upper dim r (free-grown k D E r.value.number g free)) (stands-grown k t D E s g stands) (λ none. ((h none).0.1, none_after _ _ (none_first _ _ (h none).1))))
        (λ y a F f j. lowers-then k s a F (given_or (constant I32 (pos 1)) st) (λ z. done (Range x.value y.value z.value)) (hits k (of_operand y) + hits k (of_operand x)) 0 (hits k (of_operand y) + hits k (of_operand x)) of_operand of_subscript (omega arith)
        (lowers-given_or st (constant I32 (pos 1)) s a F (lowers-constant k s a F I32 (pos 1)) (stands-grown k t D F s (grows-then D E F g f) stands) (λ none. ((h none).0.2, none_after _ _ (h none).1)))
        (λ z b G e z_in. lowers-done k s b G (Range x.value y.value z.value) (hits k (of_operand z) + (hits k (of_operand y) + hits k (of_operand x))) of_subscript
        (e.kept x.value.number (f.kept x.value.number i.0), (e.kept y.value.number j.0, z_in)) (omega arith))))

    lowers-given_or : (g : Given) (other : Lowering Operand) (s : Scope) (n : ℕ) (D : List ℕ) → Lowers k s n D other 0 of_operand → Stands k t D s → IsCleanGiven t line g → Lowers k s n D (given_or other g) 0 of_operand
    lowers-given_or absent other s n D o stands h = o
    lowers-given_or (given e) other s n D o stands h = lowers-value e s n D stands (λ none. ((h none).0, none_first _ _ (h none).1))
