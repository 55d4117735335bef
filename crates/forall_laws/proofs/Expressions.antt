-- Inside a FORALL an expression of rank 0 is lowered to ops that give its values at the combinations, or its fault.
use Rattle.std.specs.Prelude.{⊤}
use Rattle.std.proofs.Common.{◌≡◌, refl, sym, ap, ◌∙◌, subst, ℕ, suc, ◌+◌, ◌≤◌, ◌==◌, true, false, List, [], ◌∷◌, ◌++◌, length, map, Some, None, Ok, ℤ, pos, arith, if◌then◌else◌, append-nil, append_assoc}
use mathlib.Core.Former.{Count}
use Rattle.ws_base.specs.Numbers.{truth}
use Rattle.ws_base.specs.declared.name.Name.{Name}
use Rattle.ws_base.specs.declared.op.CallWord.{CallWord}
use Rattle.ws_base.specs.Numbers.{default_half, call_value}
use Rattle.ws_base.specs.Outcomes.{Staged, ◌>>=◌, each, rows}
use Rattle.ws_space.specs.Values.{state_of, value_at}
use Rattle.ws_space.specs.Maps.{pair_value, unary_map, binary_map, call_map}
use Rattle.ws_tree.specs.declared.expr.Expr.{Expr}
use Rattle.ws_tree.specs.declared.expr.Expr.TheVariants.{Number, TooWide, TooDeep, Truth, Named, Part', Call', Vector'}
use Rattle.ws_tree.specs.declared.expr.Sub.TheVariants as sub
use Rattle.ws_tree.specs.Trees.{Exprs, end_exprs, more_exprs, Subs, end_subs, more_subs, paren, unary, binary}
use Rattle.ws_tree.specs.Grammatical.{IsExpr, AreExprs, AreSubs}
use Rattle.ws_types.specs.declared.types.Typed.{Typed}
use Rattle.ws_types.specs.declared.types.Row.{Row}
use Rattle.ws_types.specs.declared.types.Subscripts.{Subscripts}
use Rattle.ws_types.specs.Names.{standing_of}
use Rattle.ws_types.specs.Operations.{takes, is_inquiry, no_subscripts, with_subscript, no_arguments}
use Rattle.ws_types.specs.Expressions.{listed, how_many, named_type, named_faults, typed, faults, arguments, all_faults, subs_faults, called_type, called_faults}
use Rattle.ws_types.specs.Expressions as types
use Rattle.ws_sema.proofs.NoFaults.{none_first, none_after}
use Rattle.array_meaning.specs.declared.world.World.{World}
use Rattle.array_meaning.specs.Forall as source
use Rattle.array_meaning.specs.Stage1 as once
use Rattle.array_meaning.specs.Forall.{Combination}
use Rattle.hlfir_ops.specs.declared.kinds.Elem.TheVariants.{I32, I1}
use Rattle.hlfir_ops.specs.declared.what.ValueBinary.{ValueBinary}
use Rattle.hlfir_ops.specs.RulesValues.{rank_of}
use Rattle.hlfir_meaning.specs.Environments.{Environment}
use Rattle.hlfir_meaning.specs.References.{held_values}
use Rattle.hlfir_meaning.specs.Operators.{operation_map}
use Rattle.hlfir_meaning.specs.Places.{place_in, over_ops}
use Rattle.lower_values.specs.declared.operand.Operand.{Operand}
use Rattle.lower_values.specs.Scopes.{Scope}
use Rattle.lower_values.specs.Lowerings.{Lowering, done, ◌>>=◌ as ◌then◌}
use Rattle.lower_values.specs.Operations.{binary_of, binary_operation, in_parentheses, unary_operation, nesting_of, joined, call_on}
use Rattle.lower_values.specs.References.{reference, loaded, named, subscript_of, designated, inquiry}
use Rattle.lower_values.specs.Values.{part_of, value, values, nested, subscripts, subscript}
use Rattle.kind_laws.specs.Standing.{Knows}
use Rattle.kind_laws.proofs.TypeFacts.{no_type, unary_operand, binary_result, part_result}
use Rattle.kind_laws.proofs.TypesKnown.{name_known}
use Rattle.kind_laws.proofs.TypedExpressions.{type_known}
use Rattle.kind_laws.proofs.FormsMade.{AreTyped}
use Rattle.kind_laws.proofs.ScalarRanks.{both_zero, AllScalar, subscript_scalar, one_more, subscripts_scalar, no_vector, called_scalar}
use Rattle.value_laws.specs.Standing.{Kept}
use Rattle.value_laws.proofs.Columns.{IsNesting, totals, each-totals, call_map-last}
use Rattle.value_laws.proofs.Walking.{does-done, does-then, bind-ok}
use Rattle.world_laws.proofs.Fitting.{state_fits}
use Rattle.forall_laws.specs.Walks.{DoesOver, IsColumn, AreColumns, IsReference, AreSubscripts, ArePlaces}
use Rattle.forall_laws.specs.Combined.{StandsOver}
use Rattle.forall_laws.proofs.Columns.{rows-over, same-over, elements-placed}
use Rattle.forall_laws.proofs.Given.{column-later, stands-later, over-constant}
use Rattle.forall_laws.proofs.Names.{over-folded, over-named}
use Rattle.forall_laws.proofs.Operations.{plain-rank, over-binary, over-operator, over-parentheses, over-unary, over-call}
use Rattle.forall_laws.proofs.References.{over-designated, over-loaded}
use Rattle.forall_laws.proofs.Asked.{asked_faults, over-reference, over-inquiry}
use Rattle.forall_laws.proofs.Ranks.{IsVariable, part_variable}
use Rattle.forall_laws.proofs.Forms.{bind-bind, bind-same, over-call_by, nesting, AreTwo, two_taken, AreAllUnless, all_unless, values_many, three, one_subscript, IsSubscript, AreSubscripts-more}

-- ---- expressions

module _ (t : List Row) (line : ℕ) (s : Scope) (k : Knows t s) (at : List ℕ) (of : ℕ → Combination) (w : World) where
  abbrev pub combined : List Combination
  combined = map of at

  -- from each number and environment that stand for the world and the combinations
  abbrev pub Means : Lowering Operand → Staged (List ℤ) → Type 0
  Means p r = (n : ℕ) (env : Environment) → StandsOver at of s w n env → DoesOver at s n env p r IsColumn

  abbrev later : (n m : ℕ) (env middle : Environment) (ops : ℕ) → m ≡ n + ops → Kept n env middle → StandsOver at of s w n env → StandsOver at of s w m middle
  later n m env middle ops h kept = stands-later at of s w n m env middle (omega (arith, h)) kept

  -- the numbers of later ops are higher ones
  reached : (m j ops : ℕ) → j ≡ m + ops → m ≤ j
  reached m j ops h = omega (arith, h)

  -- the places of an element
  abbrev pub places : {m : Count} → Name → Subs m → Staged (List ℕ)
  places x subs = source.over_subs w subs combined >>= (λ cs. each (place_in (state_of w.vars x)) (rows at cs))

  abbrev pub MeansSubscripts : {m : Count} → Subs m → Type 0
  MeansSubscripts subs = (r : Operand) (n : ℕ) (env : Environment) → StandsOver at of s w n env → DoesOver at s n env (subscripts r 1 subs) (source.over_subs w subs combined) AreSubscripts

  pub part_placed : {m : Count} (x : Name) (subs : Subs m) (d : IsVariable s x) → MeansSubscripts subs → (n : ℕ) (env : Environment) (stands : StandsOver at of s w n env) →
      DoesOver at s n env (part_of x (λ r. subscripts r 1 subs)) (places x subs) (ArePlaces (state_fits s.names w x d.0 stands.world d.1).var)
  unfolding part_of
  part_placed x subs d means n env stands =
      let declared = state_fits s.names w x d.0 stands.world d.1 in
      let v = declared.var in
      let u : ⊤ = tt in
      does-then (over_ops at) s n env (reference x) (λ r. subscripts r 1 subs then designated r) (Ok u) (λ _. places x subs) (IsReference v) (ArePlaces v) (over-reference at of s w n env stands x d.0 d.1 u)
      (λ _ m middle at_m kept h.
      let r = (reference x s n).made in
      does-then (over_ops at) s m middle (subscripts r 1 subs) (designated r) (source.over_subs w subs combined) (λ cs. each (place_in (state_of w.vars x)) (rows at cs)) AreSubscripts (ArePlaces v)
      (means r m middle (later n m env middle _ at_m kept stands))
      (λ cs j after at_j held ss. subst (λ q. DoesOver at s j after (designated r (subscripts r 1 subs s m).made) (each (place_in q) (rows at cs)) (ArePlaces v)) declared.state
      (over-designated at s j after r v (held r.value.number h.low ∙ h.found) (subscripts r 1 subs s m).made cs ss)))

  loaded_elements : {m : Count} (x : Name) (subs : Subs m) → (places x subs >>= (λ ps. let q : Staged (List ℤ) = Ok (map (value_at (held_values (state_of w.vars x))) ps) in q)) ≡
      (source.over_subs w subs combined >>= (λ cs. each (source.element_of (state_of w.vars x)) (rows combined cs)))
  loaded_elements x subs =
      bind-bind (source.over_subs w subs combined) (λ cs. each (place_in (state_of w.vars x)) (rows at cs)) (λ ps. Ok (map (value_at (held_values (state_of w.vars x))) ps))
      ∙ bind-same (source.over_subs w subs combined) (λ cs. each (place_in (state_of w.vars x)) (rows at cs) >>= (λ ps. Ok (map (value_at (held_values (state_of w.vars x))) ps))) (λ cs. each (source.element_of (state_of w.vars x)) (rows combined cs))
      (λ cs. sym (elements-placed (state_of w.vars x) (rows at cs)) ∙ ap (each (source.element_of (state_of w.vars x))) (sym (rows-over of at cs)))

  part_loaded : {m : Count} (x : Name) (subs : Subs m) → IsVariable s x → MeansSubscripts subs →
      Means (part_of x (λ r. subscripts r 1 subs) then loaded) (source.over_subs w subs combined >>= (λ cs. each (source.element_of (state_of w.vars x)) (rows combined cs)))
  part_loaded x subs d means n env stands =
      let declared = state_fits s.names w x d.0 stands.world d.1 in
      let v = declared.var in
      subst (λ r. DoesOver at s n env (part_of x (λ r. subscripts r 1 subs) then loaded) r IsColumn) (loaded_elements x subs)
      (does-then (over_ops at) s n env (part_of x (λ r. subscripts r 1 subs)) loaded (places x subs) (λ ps. Ok (map (value_at (held_values (state_of w.vars x))) ps)) (ArePlaces v) IsColumn (part_placed x subs d means n env stands)
      (λ ps m middle at_m kept h. subst (λ q. DoesOver at s m middle (loaded (part_of x (λ r. subscripts r 1 subs) s n).made) (Ok (map (value_at (held_values q)) ps)) IsColumn) declared.state
      (over-loaded at s m middle (part_of x (λ r. subscripts r 1 subs) s n).made v ps h)))

  call_same : (word : CallWord) (cs : List (List ℤ)) → call_map word at cs ≡ call_map word combined cs
  call_same word cs = ap (each (call_value default_half word)) (sym (rows-over of at cs))

  -- ---- MIN and MAX, one argument after another

  all_bind : {m : Count} (e : Expr) (es : Exprs m) (g : List (List ℤ) → Staged (List ℤ)) →
      (source.over w e combined >>= (λ xs. source.over_all w es combined >>= (λ rest. g (xs ∷ rest)))) ≡ (source.over_all w (more_exprs e es) combined >>= g)
  all_bind e es g =
      bind-same (source.over w e combined) (λ xs. source.over_all w es combined >>= (λ rest. g (xs ∷ rest))) (λ xs. (source.over_all w es combined >>= (λ rest. Ok (xs ∷ rest))) >>= g)
      (λ xs. sym (bind-bind (source.over_all w es combined) (λ rest. Ok (xs ∷ rest)) g))
      ∙ sym (bind-bind (source.over w e combined) (λ xs. source.over_all w es combined >>= (λ rest. Ok (xs ∷ rest))) g)

  module _ (op : ValueBinary) (word : CallWord) (f : ℤ → ℤ → ℤ) (total : ℤ → List ℤ → ℤ) (is : IsNesting op word f total) where
    abbrev total_of : List ℤ → List (List ℤ) → List ℤ
    total_of c pre = totals op word f total is c (rows at pre)

    total_all : (c : List ℤ) (pre : List (List ℤ)) → Ok (total_of c pre) ≡ call_map word at (c ∷ pre)
    total_all c pre = sym (each-totals op word f total is c (rows at pre))

    -- what was joined so far stands for all of the arguments before
    abbrev SoFar : List ℤ → List ℤ → List (List ℤ) → Type 0
    SoFar xs c pre = (ys : List ℤ) → call_map word at (xs ∷ ys ∷ []) ≡ call_map word at (c ∷ (pre ++ ys ∷ []))

    so_far-more : (c : List ℤ) (pre : List (List ℤ)) → SoFar (total_of c pre) c pre
    so_far-more c pre ys = call_map-last op word f total is at c pre ys

    joins : (n : ℕ) (env : Environment) (x y : Operand) (xs ys c : List ℤ) (pre : List (List ℤ)) → IsColumn x xs n env → IsColumn y ys n env → SoFar xs c pre → DoesOver at s n env (binary_operation op x y) (Ok (total_of c (pre ++ ys ∷ []))) IsColumn
    joins n env x y xs ys c pre hx hy so_far =
        subst (λ r. DoesOver at s n env (binary_operation op x y) r IsColumn)
        (ap (λ o. operation_map o at (xs ∷ ys ∷ [])) is.acts ∙ (so_far ys ∙ sym (total_all c (pre ++ ys ∷ []))))
        (over-binary at s n env op x y xs ys hx hy)

  -- what the source gives for a call
  abbrev called_values : {m : Count} → CallWord → Exprs m → Staged (List ℤ)
  called_values word es =
      if is_inquiry word then source.inquiries w (source.without_element (once.inquired word (state_of w.vars (once.name_in es)) (once.dimension_in es))) combined
      else (source.over_all w es combined >>= call_map word combined)

  called_all : {m : Count} (word : CallWord) (es : Exprs m) → is_inquiry word ≡ false → (source.over_all w es combined >>= call_map word at) ≡ called_values word es
  called_all word es i = bind-same (source.over_all w es combined) (call_map word at) (call_map word combined) (call_same word)
      ∙ ap (λ b. if b then source.inquiries w (source.without_element (once.inquired word (state_of w.vars (once.name_in es)) (once.dimension_in es))) combined else (source.over_all w es combined >>= call_map word combined)) (sym i)

  called_asked : {m : Count} (word : CallWord) (es : Exprs m) → is_inquiry word ≡ true → source.inquiries w (source.without_element (once.inquired word (state_of w.vars (once.name_in es)) (once.dimension_in es))) combined ≡ called_values word es
  called_asked word es i =
      ap (λ b. if b then source.inquiries w (source.without_element (once.inquired word (state_of w.vars (once.name_in es)) (once.dimension_in es))) combined else (source.over_all w es combined >>= call_map word combined)) (sym i)

  -- ---- by induction

  mutual
    pub over-value : (e : Expr) (ty : Typed) → IsExpr e → faults t true line e ≡ [] → typed t true e ≡ Some ty → ty.rank ≡ 0 → Means (value e) (source.over w e combined)
    over-value (Number i) ty g f h z n env stands = subst (λ xs. DoesOver at s n env (value (Number i)) (Ok xs) IsColumn) (sym (same-over of (pos i) at)) (over-constant at I32 (pos i) s n env)
    over-value TooWide ty g f h z n env stands = no_type ty h
    over-value TooDeep ty g f h z n env stands = absurd g
    over-value (Truth b) ty g f h z n env stands = subst (λ xs. DoesOver at s n env (value (Truth b)) (Ok xs) IsColumn) (sym (same-over of (truth b) at)) (over-constant at I1 (truth b) s n env)
    over-value (Named x) ty g f h z n env stands = over-folded at of s w n env stands (Named x) (named x) (λ not. over-named at of s w n env stands x (standing_of t x) ty (k x) h z not)
    over-value (Part' x _ subs) ty g f h z n env stands =
        let first = name_known line (standing_of t x) (none_first _ _ (none_first _ _ f)) in
        let select = types.subscripts t true no_subscripts subs in
        let zero : select.rank ≡ 0 = ap (λ y. y.rank) (part_result (named_type t x) (how_many subs) select first.0 ty first.1 h) ∙ z in
        part_loaded x subs (part_variable t line s x subs k g.1 (none_first _ _ (none_first _ _ f)) (none_after _ _ f))
        (λ r m middle there. over-subscripts r 1 no_subscripts subs g.2 (none_after _ _ (none_first _ _ f)) zero m middle there) n env stands
    over-value (Call' word _ es) ty g f h z n env stands =
        let r = called_values word es in
        over-call_by at s n env r (nesting_of word) (is_inquiry word) (λ op. nested op None es) (inquiry word (listed es)) (values es then call_on word)
        (λ op is.
        let nest = nesting word op is in
        let args = called_scalar t line word es ty nest.asks f h z in
        subst (λ q. DoesOver at s n env (nested op None es) q IsColumn) (called_all word es nest.asks)
        (over-nested_first op word nest.step nest.total nest.nests es args.0 (two_taken word op es is g.0) g.1 args.1 args.2 args.4 n env stands))
        (λ none i. subst (λ q. DoesOver at s n env (inquiry word (listed es)) q IsColumn) (called_asked word es i)
        (over-inquiry at of s w n env stands t line word es k i g.0 (asked_faults (takes word (listed es)) (is_inquiry word) line _ _ f i)))
        (λ none i.
        let args = called_scalar t line word es ty i f h z in
        subst (λ q. DoesOver at s n env (values es then call_on word) q IsColumn) (called_all word es i)
        (does-then (over_ops at) s n env (values es) (call_on word) (source.over_all w es combined) (call_map word at) AreColumns IsColumn (over-values es args.0 g.1 args.1 args.2 args.4 n env stands)
        (λ cs m middle at_m kept are. over-call at s m middle (values es s n).made cs are word none i args.3 (λ is. values_many es s n ∙ three word es g.0 is))))
    over-value (Vector' _ es) ty g f h z n env stands = no_vector line (length (listed es)) (arguments t true no_arguments es) (none_after _ _ f)
    over-value (paren e) ty g f h z n env stands =
        over-folded at of s w n env stands (paren e) (value e then in_parentheses)
        (λ not. subst (λ r. DoesOver at s n env (value e then in_parentheses) r IsColumn) (bind-ok (source.over w e combined))
        (does-then (over_ops at) s n env (value e) in_parentheses (source.over w e combined) (λ xs. Ok xs) IsColumn IsColumn (over-value e ty g f h z n env stands)
        (λ xs m middle at_m kept hx. over-parentheses at s m middle (value e s n).made xs hx)))
    over-value (unary op e) ty g f h z n env stands =
        over-folded at of s w n env stands (unary op e) (value e then unary_operation op)
        (λ not. does-then (over_ops at) s n env (value e) (unary_operation op) (source.over w e combined) (unary_map op) IsColumn IsColumn
        (over-value e ty g (none_first _ _ f) (unary_operand op (typed t true e) ty h) z n env stands)
        (λ xs m middle at_m kept hx. over-unary at s m middle op (value e s n).made xs hx))
    over-value (binary op a b) ty g f h z n env stands =
        let no_left = none_first _ _ (none_first _ _ f) in
        let no_right = none_after _ _ (none_first _ _ f) in
        let left = type_known t true line a no_left in
        let right = type_known t true line b no_right in
        let zero = both_zero left.0.rank right.0.rank (ap (λ y. y.rank) (binary_result op (typed t true a) (typed t true b) left.0 right.0 ty left.1 right.1 h) ∙ z) in
        over-folded at of s w n env stands (binary op a b) (value a then (λ x. value b then binary_operation (binary_of op) x))
        (λ not. does-then (over_ops at) s n env (value a) (λ x. value b then binary_operation (binary_of op) x) (source.over w a combined) (λ xs. source.over w b combined >>= (λ ys. binary_map op combined xs ys)) IsColumn IsColumn
        (over-value a left.0 g.0 no_left left.1 zero.0 n env stands)
        (λ xs m middle at_m kept hx.
        let x = (value a s n).made in
        does-then (over_ops at) s m middle (value b) (binary_operation (binary_of op) x) (source.over w b combined) (λ ys. binary_map op combined xs ys) IsColumn IsColumn
        (over-value b right.0 g.1 no_right right.1 zero.1 m middle (later n m env middle _ at_m kept stands))
        (λ ys j after at_j held hy.
        let y = (value b s m).made in
        subst (λ r. DoesOver at s j after (binary_operation (binary_of op) x y) r IsColumn) (ap (each (pair_value op)) (sym (rows-over of at (xs ∷ ys ∷ []))))
        (over-operator at s j after op x y xs ys (column-later x xs m j middle after (reached m j _ at_j) held hx) hy))))

    pub over-values : {m : Count} (es : Exprs m) (tys : List Typed) → AreExprs es → all_faults t true line es ≡ [] → AreTyped t true es tys → AllScalar tys →
        (n : ℕ) (env : Environment) → StandsOver at of s w n env → DoesOver at s n env (values es) (source.over_all w es combined) AreColumns
    over-values end_exprs tys g f h z n env stands = does-done (over_ops at) s n env [] [] AreColumns tt
    over-values (more_exprs e es) [] g f h z n env stands = absurd h
    over-values (more_exprs e es) (a ∷ tys) g f h z n env stands =
        does-then (over_ops at) s n env (value e) (λ x. values es then (λ xs. done (x ∷ xs))) (source.over w e combined) (λ c. source.over_all w es combined >>= (λ cs. Ok (c ∷ cs))) IsColumn AreColumns
        (over-value e a g.0 (none_first _ _ f) h.0 z.0 n env stands)
        (λ c m middle at_m kept hx.
        let x = (value e s n).made in
        does-then (over_ops at) s m middle (values es) (λ xs. done (x ∷ xs)) (source.over_all w es combined) (λ cs. Ok (c ∷ cs)) AreColumns AreColumns
        (over-values es tys g.1 (none_after _ _ f) h.1 z.1 m middle (later n m env middle _ at_m kept stands))
        (λ cs j after at_j held are. does-done (over_ops at) s j after (x ∷ (values es s m).made) (c ∷ cs) AreColumns (column-later x c m j middle after (reached m j _ at_j) held hx, are)))

    over-nested : (op : ValueBinary) (word : CallWord) (f : ℤ → ℤ → ℤ) (total : ℤ → List ℤ → ℤ) (is : IsNesting op word f total) {m : Count} (es : Exprs m) (tys : List Typed) (x : Operand) (xs c : List ℤ) (pre : List (List ℤ)) →
        AreExprs es → all_faults t true line es ≡ [] → AreTyped t true es tys → AllScalar tys → SoFar op word f total is xs c pre → AreAllUnless es (Ok xs ≡ call_map word at (c ∷ pre)) →
        (n : ℕ) (env : Environment) → StandsOver at of s w n env → IsColumn x xs n env → DoesOver at s n env (nested op (Some x) es) (source.over_all w es combined >>= (λ ys. call_map word at (c ∷ (pre ++ ys)))) IsColumn
    over-nested op word f total is end_exprs tys x xs c pre g u h z so_far whole n env stands hx =
        subst (λ r. DoesOver at s n env (done x) r IsColumn) (whole ∙ ap (λ q. call_map word at (c ∷ q)) (sym (append-nil pre))) (does-done (over_ops at) s n env x xs IsColumn hx)
    over-nested op word f total is (more_exprs e es) [] x xs c pre g u h z so_far whole n env stands hx = absurd h
    over-nested op word f total is (more_exprs e es) (a ∷ tys) x xs c pre g u h z so_far whole n env stands hx =
        subst (λ r. DoesOver at s n env (nested op (Some x) (more_exprs e es)) r IsColumn) (all_bind e es (λ ys. call_map word at (c ∷ (pre ++ ys))))
        (does-then (over_ops at) s n env (value e) (λ y. joined op (Some x) y then (λ v. nested op (Some v) es)) (source.over w e combined) (λ ys. source.over_all w es combined >>= (λ rest. call_map word at (c ∷ (pre ++ (ys ∷ rest))))) IsColumn IsColumn
        (over-value e a g.0 (none_first _ _ u) h.0 z.0 n env stands)
        (λ ys m middle at_m kept hy.
        let y = (value e s n).made in
        let more = pre ++ ys ∷ [] in
        let only : ⊤ = tt in
        subst (λ r. DoesOver at s m middle (joined op (Some x) y then (λ v. nested op (Some v) es)) r IsColumn)
        (bind-same (source.over_all w es combined) (λ rest. call_map word at (c ∷ (more ++ rest))) (λ rest. call_map word at (c ∷ (pre ++ (ys ∷ rest)))) (λ rest. ap (λ q. call_map word at (c ∷ q)) (append_assoc pre (ys ∷ []) rest)))
        (does-then (over_ops at) s m middle (binary_operation op x y) (λ v. nested op (Some v) es) (Ok only) (λ _. source.over_all w es combined >>= (λ rest. call_map word at (c ∷ (more ++ rest)))) (λ v o j after. IsColumn v (total_of op word f total is c more) j after) IsColumn
        (joins op word f total is m middle x y xs ys c pre (column-later x xs n m env middle (reached n m _ at_m) kept hx) hy so_far)
        (λ o j after at_j held hv.
        over-nested op word f total is es tys (binary_operation op x y s m).made (total_of op word f total is c more) c more g.1 (none_after _ _ u) h.1 z.1 (so_far-more op word f total is c more)
        (all_unless es (Ok (total_of op word f total is c more) ≡ call_map word at (c ∷ more)) (total_all op word f total is c more)) j after (later m j middle after _ at_j held (later n m env middle _ at_m kept stands)) hv))))

    over-nested_first : (op : ValueBinary) (word : CallWord) (f : ℤ → ℤ → ℤ) (total : ℤ → List ℤ → ℤ) (is : IsNesting op word f total) {m : Count} (es : Exprs m) (tys : List Typed) → AreTwo es → AreExprs es → all_faults t true line es ≡ [] → AreTyped t true es tys → AllScalar tys →
        Means (nested op None es) (source.over_all w es combined >>= call_map word at)
    over-nested_first op word f total is end_exprs tys two g u h z n env stands = absurd two
    over-nested_first op word f total is (more_exprs e end_exprs) tys two g u h z n env stands = absurd two
    over-nested_first op word f total is (more_exprs e (more_exprs b es)) [] two g u h z n env stands = absurd h
    over-nested_first op word f total is (more_exprs e (more_exprs b es)) (a ∷ tys) two g u h z n env stands =
        let rest = more_exprs b es in
        subst (λ r. DoesOver at s n env (nested op None (more_exprs e rest)) r IsColumn) (all_bind e rest (call_map word at))
        (does-then (over_ops at) s n env (value e) (λ y. joined op None y then (λ v. nested op (Some v) rest)) (source.over w e combined) (λ c. source.over_all w rest combined >>= (λ ys. call_map word at (c ∷ ys))) IsColumn IsColumn
        (over-value e a g.0 (none_first _ _ u) h.0 z.0 n env stands)
        (λ c m middle at_m kept hy.
        let y = (value e s n).made in
        let only : ⊤ = tt in
        does-then (over_ops at) s m middle (done y) (λ v. nested op (Some v) rest) (Ok only) (λ _. source.over_all w rest combined >>= (λ ys. call_map word at (c ∷ ys))) (λ v o j after. IsColumn v c j after) IsColumn
        (does-done (over_ops at) s m middle y only (λ v o j after. IsColumn v c j after) hy)
        (λ o j after at_j held hv.
        over-nested op word f total is (more_exprs b es) tys (done y s m).made c c [] g.1 (none_after _ _ u) h.1 z.1 (λ ys. refl) tt j after (later m j middle after _ at_j held (later n m env middle _ at_m kept stands)) hv)))

    pub over-subscripts : {m : Count} (r : Operand) (dim : ℕ) (c : Subscripts) (ss : Subs m) → AreSubs ss → subs_faults t true line ss ≡ [] → (types.subscripts t true c ss).rank ≡ 0 →
        (n : ℕ) (env : Environment) → StandsOver at of s w n env → DoesOver at s n env (subscripts r dim ss) (source.over_subs w ss combined) AreSubscripts
    over-subscripts r dim c end_subs g f h n env stands = does-done (over_ops at) s n env [] [] AreSubscripts tt
    over-subscripts r dim c (more_subs (sub.One e) ss) g f h n env stands =
        let none = none_first _ _ (none_first _ _ f) in
        let one = type_known t true line e none in
        let next = subscripts_scalar t line (with_subscript c (typed t true e)) ss (none_after _ _ f) h in
        let zero = (subscript_scalar c one.0 (ap (λ o. (with_subscript c o).rank) (sym one.1) ∙ next)).1 in
        does-then (over_ops at) s n env (subscript r dim (sub.One e)) (λ x. subscripts r (suc dim) ss then (λ xs. done (x ∷ xs))) (source.over w e combined) (λ v. source.over_subs w ss combined >>= (λ vs. Ok (v ∷ vs))) IsSubscript AreSubscripts
        (subst (λ q. DoesOver at s n env (subscript r dim (sub.One e)) q IsSubscript) (bind-ok (source.over w e combined))
        (does-then (over_ops at) s n env (value e) (λ x. done (subscript_of x)) (source.over w e combined) (λ v. Ok v) IsColumn IsSubscript (over-value e one.0 g.0 none one.1 zero n env stands)
        (λ v m middle at_m kept hx.
        let x = (value e s n).made in
        does-done (over_ops at) s m middle (subscript_of x) v IsSubscript (one_subscript (rank_of x.kind == 0) x v m middle (ap (λ j. j == 0) (plain-rank x.kind hx.plain)) hx))))
        (λ v m middle at_m kept hx.
        let x = (subscript r dim (sub.One e) s n).made in
        does-then (over_ops at) s m middle (subscripts r (suc dim) ss) (λ xs. done (x ∷ xs)) (source.over_subs w ss combined) (λ vs. Ok (v ∷ vs)) AreSubscripts AreSubscripts
        (over-subscripts r (suc dim) (with_subscript c (typed t true e)) ss g.1 (none_after _ _ f) h m middle (later n m env middle _ at_m kept stands))
        (λ vs j after at_j held are. does-done (over_ops at) s j after (x ∷ (subscripts r (suc dim) ss s m).made) (v ∷ vs) AreSubscripts
        (AreSubscripts-more x (subscripts r (suc dim) ss s m).made v vs m j middle after (reached m j _ at_j) held hx are)))
    over-subscripts r dim c (more_subs (sub.Range' l u st) ss) g f h n env stands =
        let next : c.rank + 1 ≡ 0 = subscripts_scalar t line (types.with_sub t true c (sub.Range' l u st)) ss (none_after _ _ f) h in one_more c.rank next
