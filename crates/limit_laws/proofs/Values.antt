-- The costs of each expression in which no rule is broken are bounded by its pieces.
use Rattle.std.proofs.Common.{◌≡◌, sym, subst, ℕ, suc, ◌+◌, ◌*◌, ◌≤◌, Bool, true, List, [], ◌∷◌, ◌++◌, length, Option, Some, None, arith, if◌then◌else◌}
use Rattle.std.specs.Prelude.{pos}
use Rattle.std.specs.List.{flat_map}
use mathlib.Core.Former.{Count}
use Rattle.ws_base.specs.Numbers.{truth}
use Rattle.ws_base.specs.declared.name.Name.{Name}
use Rattle.ws_base.specs.declared.op.CallWord.{CallWord}
use Rattle.ws_base.specs.declared.op.CallWord.TheVariants as word
use Rattle.ws_base.specs.declared.refusal.Refusal.{Refusal}
use Rattle.ws_base.specs.declared.refusal.RefusalKind.TheVariants as refusal
use Rattle.ws_tree.specs.declared.expr.Expr.{Expr}
use Rattle.ws_tree.specs.declared.expr.Expr.TheVariants.{Number, TooWide, TooDeep, Truth, Named, Part', Call', Vector'}
use Rattle.ws_tree.specs.declared.expr.Sub.{Sub}
use Rattle.ws_tree.specs.declared.expr.Sub.TheVariants as sub
use Rattle.ws_tree.specs.Trees.{Exprs, end_exprs, more_exprs, Subs, end_subs, more_subs, Given, absent, given, paren, unary, binary}
use Rattle.ws_tree.specs.Grammatical.{IsExpr, AreExprs, AreSubs, IsGiven, HasSubs}
use Rattle.ws_types.specs.declared.types.Row.{Row}
use Rattle.ws_types.specs.Kinds.{when}
use Rattle.ws_types.specs.Constants.{constancy}
use Rattle.ws_types.specs.Names.{standing_of}
use Rattle.ws_types.specs.Expressions.{listed, how_many, faults, all_faults, subs_faults, sub_faults, given_faults, named_faults, named_type}
use Rattle.ws_types.specs.Operations.{part_faults}
use Rattle.ws_counts.specs.declared.tally.Piece.{Piece}
use Rattle.ws_counts.specs.Counts.{parts_in, reductions_in, wholes_in}
use Rattle.ws_counts.specs.Pieces as p
use Rattle.hlfir_ops.specs.declared.kinds.Elem.TheVariants.{I32, I1}
use Rattle.hlfir_ops.specs.declared.what.BoundWord.TheVariants.{Lower, Upper}
use Rattle.hlfir_ops.specs.declared.what.ValueBinary.{ValueBinary}
use Rattle.hlfir_ops.specs.declared.what.ValueBinary.TheVariants as op
use Rattle.hlfir_ops.specs.Numbers.{numbers_of}
use Rattle.hlfir_ops.specs.RulesValues.{Value}
use Rattle.lower_values.specs.declared.operand.Operand.{Operand}
use Rattle.lower_values.specs.declared.operand.Subscript.TheVariants.{Range}
use Rattle.lower_values.specs.Scopes.{Scope}
use Rattle.lower_values.specs.Lowerings.{Lowering, Lowered, done, ◌>>=◌ as ◌then◌, scoped}
use Rattle.lower_values.specs.Operations.{constant, binary_of, binary_operation, in_parentheses, unary_operation, joined, call_on, vector}
use Rattle.lower_values.specs.References.{reference, loaded, named, subscript_of, sub_values, bound, designated}
use Rattle.lower_values.specs.Values.{folded, part_of, value, values, nested, subscripts, subscript, given_or}
use Rattle.small_laws.proofs.NoFaults.{none_first, none_after, allowed}
use Rattle.kind_laws.specs.Standing.{Knows}
use Rattle.kind_laws.specs.Found.{Holds, ScopeIsFound}
use Rattle.kind_laws.specs.Laws.{TypesAreKnown, KindsAreTypes, ValuesAreFound}
use Rattle.kind_laws.proofs.FormsMade.{some_subs}
use Rattle.kind_laws.proofs.Held.{held-first, held-rest}
use Rattle.limit_laws.proofs.Costs.{Priced}
use Rattle.limit_laws.proofs.Operations.{priced-weaker, priced-constant}
use Rattle.limit_laws.proofs.References.{priced-named, priced-inquiry, reference-whole}
use Rattle.limit_laws.proofs.Pieces.{parts-append, reductions-append, wholes-append}
use Rattle.limit_laws.proofs.Bounded.{Valued, Listed, Subscripted, Apart, BeforeIsProper, part_variable, few_at, few_items, values-length, folded_case, bound-apart, stride-apart}
use Rattle.limit_laws.proofs.Steps.{paren-step, unary-step, binary-step, listed-none, listed-step, vector-step, call-step, nested-none, nested-step, one-step, range-step, subs-none, subs-step, part-step, load-step}
use Rattle.limit_laws.proofs.Wholes.{scalar-apart, whole-known}

at_least : (vs : List Value) (r : Lowered Operand) (z : ℕ) (ps : List Piece) → z ≤ 8 → Priced vs r z 0 0 → Valued vs r ps
at_least vs r z ps few h = priced-weaker vs r z 0 0 (8 + 27 * parts_in ps) (reductions_in ps) (wholes_in ps) h (omega (arith, few)) (omega arith) (omega arith)

-- the arguments of a call that is no inquiry
arguments_sound : (right : Bool) (line : ℕ) (parts rules : List Refusal) → (if right then (parts ++ rules) else when true line refusal.Unsupported) ≡ [] → parts ≡ []
arguments_sound right line parts rules f = none_first parts rules (allowed right line refusal.Unsupported (parts ++ rules) f)

module _ (types : TypesAreKnown) (kinds : KindsAreTypes) (found : ValuesAreFound) (vs : List Value) (t : List Row) (inside mask : Bool) (s : Scope) (knows : Knows t s) (here : ScopeIsFound vs s) where
  opened : {m : Count} (x : Name) (subs : Subs m) (n : ℕ) → Holds vs n (part_of x (λ r. subscripts r 1 subs) s n).ops → Holds vs n ((reference x then (λ r. subscripts r 1 subs then (λ ss. designated r ss))) s n).ops
  unfolding part_of
  opened x subs n h = h

  nested-valued : {m : Count} (n : ℕ) (w : CallWord) (o : ValueBinary) (es : Exprs m) → (ps : List Piece) → Priced vs (nested o None es s n) (2 + 27 * parts_in ps) (reductions_in ps) (wholes_in ps) → Valued vs (nested o None es s n) (p.call_pieces w ++ ps)
  nested-valued n w o es ps h =
      priced-weaker vs _ _ _ _ (8 + 27 * parts_in (p.call_pieces w ++ ps)) (reductions_in (p.call_pieces w ++ ps)) (wholes_in (p.call_pieces w ++ ps)) h
      (omega (arith, parts-append (p.call_pieces w) ps)) (omega (arith, reductions-append (p.call_pieces w) ps)) (omega (arith, wholes-append (p.call_pieces w) ps))

  -- a part of an array, as a place
  part-known : {m : Count} (line n : ℕ) (x : Name) (subs : Subs m) → HasSubs subs → named_faults t line x ≡ [] → part_faults line (named_type t x) (how_many subs) ≡ [] →
      ((r : Operand) (k : ℕ) → Holds vs k (subscripts r 1 subs s k).ops → Subscripted vs (subscripts r 1 subs s k) (flat_map sub_values (subscripts r 1 subs s k).made) (p.subs_pieces t inside mask subs)) →
      Holds vs n (part_of x (λ r. subscripts r 1 subs) s n).ops →
      Priced vs (part_of x (λ r. subscripts r 1 subs) s n) (4 + 27 * parts_in (p.subs_pieces t inside mask subs)) (reductions_in (p.subs_pieces t inside mask subs)) (wholes_in (p.subs_pieces t inside mask subs))
  part-known line n x subs some known number each h =
      let m = n + numbers_of (reference x s n).ops in
      let r = (reference x s n).made in
      let var = part_variable line s x (standing_of t x) (how_many subs) (knows x) known number (some_subs subs some) in
      let h' = opened x subs n h in
      let rest = held-rest vs (reference x) (λ u. subscripts u 1 subs then (λ ss. designated u ss)) s n h' in
      part-step vs s n x (λ u. subscripts u 1 subs) (p.subs_pieces t inside mask subs)
      (reference-whole vs x var.variable s n here.variables var.found var.kind (held-first vs (reference x) (λ u. subscripts u 1 subs then (λ ss. designated u ss)) s n h'))
      (each r m (held-first vs (subscripts r 1 subs) (λ ss. designated r ss) s m rest))

  one-known : (line n : ℕ) (e : Expr) → IsExpr e → sub_faults t inside line (sub.One e) ≡ [] → Holds vs n (value e s n).ops → Valued vs (value e s n) (p.pieces t inside mask e) →
      Subscripted vs ((value e then (λ x. done (subscript_of x))) s n) (sub_values ((value e then (λ x. done (subscript_of x))) s n).made) (p.sub_pieces t inside mask (sub.One e))
  one-known line n e i f h priced =
      one-step vs s n mask (p.is_whole t inside e) (value e) (p.pieces t inside mask e) priced
      (λ whole. whole-known types kinds found vs t inside s knows here line n e i (none_first _ _ f) (none_after _ _ f) priced.proper h whole)

  abbrev GivenIsKnown : Given → Type 0
  GivenIsKnown g = (n : ℕ) (other : Lowering Operand) → (Holds vs n (other s n).ops → Apart vs (other s n) []) → Holds vs n (given_or other g s n).ops → Apart vs (given_or other g s n) (p.held_pieces t inside mask g)

  range-known : (n : ℕ) (r : Operand) (dim : ℕ) (l u st : Given) → GivenIsKnown l → GivenIsKnown u → GivenIsKnown st → Holds vs n (subscript r dim (sub.Range' l u st) s n).ops →
      Subscripted vs (subscript r dim (sub.Range' l u st) s n) (sub_values (subscript r dim (sub.Range' l u st) s n).made) (p.sub_pieces t inside mask (sub.Range' l u st))
  range-known n r dim l u st kl ku ks h =
      let a : Lowering Operand = given_or (bound Lower dim r) l in
      let b : Lowering Operand = given_or (bound Upper dim r) u in
      let c : Lowering Operand = given_or (constant I32 (pos 1)) st in
      let m = n + numbers_of (a s n).ops in
      let k = m + numbers_of (b s m).ops in
      let x = (a s n).made in
      let y = (b s m).made in
      let rest = held-rest vs a (λ x. b then (λ y. c then (λ z. done (Range x.value y.value z.value)))) s n h in
      let last = held-rest vs b (λ y. c then (λ z. done (Range x.value y.value z.value))) s m rest in
      range-step vs s n a b c (p.held_pieces t inside mask l) (p.held_pieces t inside mask u) (p.held_pieces t inside mask st)
      (kl n (bound Lower dim r) (λ g. bound-apart vs Lower dim r s n g) (held-first vs a (λ x. b then (λ y. c then (λ z. done (Range x.value y.value z.value)))) s n h))
      (ku m (bound Upper dim r) (λ g. bound-apart vs Upper dim r s m g) (held-first vs b (λ y. c then (λ z. done (Range x.value y.value z.value))) s m rest))
      (ks k (constant I32 (pos 1)) (λ g. stride-apart vs s k g) (held-first vs c (λ z. done (Range x.value y.value z.value)) s k last))

  mutual
    unfolding folded scoped

    pub price : (line n : ℕ) (e : Expr) → IsExpr e → faults t inside line e ≡ [] → Holds vs n (value e s n).ops → Valued vs (value e s n) (p.pieces t inside mask e)
    price line n (Number k) i f h = at_least vs _ 1 [] (omega arith) (priced-constant vs I32 (pos k) s n)
    price line n TooWide i f h = at_least vs _ 1 [] (omega arith) (priced-constant vs I32 (pos 0) s n)
    price line n TooDeep i f h = absurd i
    price line n (Truth b) i f h = at_least vs _ 1 [] (omega arith) (priced-constant vs I1 (truth b) s n)
    price line n (Named x) i f h =
        folded_case vs (constancy s.names.constants (Named x)) (named x) s n 8 0 0 (omega arith) (λ g. at_least vs _ 4 [] (omega arith) (priced-named vs line x (standing_of t x) s n (knows x) f)) h
    price line n (Part' x c subs) i f h =
        load-step vs s n (part_of x (λ r. subscripts r 1 subs)) (p.subs_pieces t inside mask subs)
        (part-known line n x subs i.1 (none_first _ _ (none_first _ _ f)) (none_after _ _ f) (λ r k g. price-subs line k r 1 subs i.2 (none_after _ _ (none_first _ _ f)) g) (held-first vs (part_of x (λ r. subscripts r 1 subs)) loaded s n h))
    price line n (Call' word.Min c es) i f h = nested-valued n word.Min op.Min es (p.all_pieces t inside mask es) (price-all line n op.Min None es tt i.1 (arguments_sound _ line _ _ f) h)
    price line n (Call' word.Max c es) i f h = nested-valued n word.Max op.Max es (p.all_pieces t inside mask es) (price-all line n op.Max None es tt i.1 (arguments_sound _ line _ _ f) h)
    price line n (Call' word.Size c es) i f h = at_least vs _ 4 (p.pieces t inside mask (Call' word.Size c es)) (omega arith) (priced-inquiry vs word.Size (listed es) s n)
    price line n (Call' word.Lbound c es) i f h = at_least vs _ 4 (p.pieces t inside mask (Call' word.Lbound c es)) (omega arith) (priced-inquiry vs word.Lbound (listed es) s n)
    price line n (Call' word.Ubound c es) i f h = at_least vs _ 4 (p.pieces t inside mask (Call' word.Ubound c es)) (omega arith) (priced-inquiry vs word.Ubound (listed es) s n)
    price line n (Call' word.Allocated c es) i f h = at_least vs _ 4 (p.pieces t inside mask (Call' word.Allocated c es)) (omega arith) (priced-inquiry vs word.Allocated (listed es) s n)
    price line n (Call' word.Abs c es) i f h = call-step vs s n word.Abs (values es) (p.all_pieces t inside mask es) (price-values line n es i.1 (arguments_sound _ line _ _ f) (held-first vs (values es) (call_on word.Abs) s n h))
    price line n (Call' word.Mod c es) i f h = call-step vs s n word.Mod (values es) (p.all_pieces t inside mask es) (price-values line n es i.1 (arguments_sound _ line _ _ f) (held-first vs (values es) (call_on word.Mod) s n h))
    price line n (Call' word.Modulo c es) i f h = call-step vs s n word.Modulo (values es) (p.all_pieces t inside mask es) (price-values line n es i.1 (arguments_sound _ line _ _ f) (held-first vs (values es) (call_on word.Modulo) s n h))
    price line n (Call' word.Merge c es) i f h = call-step vs s n word.Merge (values es) (p.all_pieces t inside mask es) (price-values line n es i.1 (arguments_sound _ line _ _ f) (held-first vs (values es) (call_on word.Merge) s n h))
    price line n (Call' word.Sum c es) i f h = call-step vs s n word.Sum (values es) (p.all_pieces t inside mask es) (price-values line n es i.1 (arguments_sound _ line _ _ f) (held-first vs (values es) (call_on word.Sum) s n h))
    price line n (Call' word.Product c es) i f h = call-step vs s n word.Product (values es) (p.all_pieces t inside mask es) (price-values line n es i.1 (arguments_sound _ line _ _ f) (held-first vs (values es) (call_on word.Product) s n h))
    price line n (Call' word.Minval c es) i f h = call-step vs s n word.Minval (values es) (p.all_pieces t inside mask es) (price-values line n es i.1 (arguments_sound _ line _ _ f) (held-first vs (values es) (call_on word.Minval) s n h))
    price line n (Call' word.Maxval c es) i f h = call-step vs s n word.Maxval (values es) (p.all_pieces t inside mask es) (price-values line n es i.1 (arguments_sound _ line _ _ f) (held-first vs (values es) (call_on word.Maxval) s n h))
    price line n (Call' word.Count c es) i f h = call-step vs s n word.Count (values es) (p.all_pieces t inside mask es) (price-values line n es i.1 (arguments_sound _ line _ _ f) (held-first vs (values es) (call_on word.Count) s n h))
    price line n (Call' word.Any c es) i f h = call-step vs s n word.Any (values es) (p.all_pieces t inside mask es) (price-values line n es i.1 (arguments_sound _ line _ _ f) (held-first vs (values es) (call_on word.Any) s n h))
    price line n (Call' word.All c es) i f h = call-step vs s n word.All (values es) (p.all_pieces t inside mask es) (price-values line n es i.1 (arguments_sound _ line _ _ f) (held-first vs (values es) (call_on word.All) s n h))
    price line n (Vector' c es) i f h =
        vector-step vs s n (values es) (p.all_pieces t inside mask es) (price-values line n es i.1 (none_first _ _ f) (held-first vs (values es) vector s n h))
        (few_items (values es s n).made (length (listed es)) (values-length es s n) (few_at line inside (length (listed es)) _ (none_after _ _ f)))
    price line n (paren e) i f h =
        folded_case vs (constancy s.names.constants (paren e)) (value e then in_parentheses) s n _ _ _ (omega arith)
        (λ g. paren-step vs s n (value e) (p.pieces t inside mask e) (price line n e i f (held-first vs (value e) in_parentheses s n g))) h
    price line n (unary o e) i f h =
        folded_case vs (constancy s.names.constants (unary o e)) (value e then unary_operation o) s n _ _ _ (omega arith)
        (λ g. unary-step vs s n o (value e) (p.pieces t inside mask e) (price line n e i (none_first _ _ f) (held-first vs (value e) (unary_operation o) s n g))) h
    price line n (binary o a b) i f h =
        folded_case vs (constancy s.names.constants (binary o a b)) (value a then (λ x. value b then (λ y. binary_operation (binary_of o) x y))) s n _ _ _ (omega arith)
        (λ g.
        let m = n + numbers_of (value a s n).ops in
        let x = (value a s n).made in
        let rest = held-rest vs (value a) (λ z. value b then (λ y. binary_operation (binary_of o) z y)) s n g in
        binary-step vs s n (binary_of o) (value a) (value b) (p.pieces t inside mask a) (p.pieces t inside mask b)
        (price line n a i.0 (none_first _ _ (none_first _ _ f)) (held-first vs (value a) (λ z. value b then (λ y. binary_operation (binary_of o) z y)) s n g))
        (price line m b i.1 (none_after _ _ (none_first _ _ f)) (held-first vs (value b) (λ y. binary_operation (binary_of o) x y) s m rest))) h

    price-all : {m : Count} (line n : ℕ) (o : ValueBinary) (before : Option Operand) (es : Exprs m) → BeforeIsProper before → AreExprs es → all_faults t inside line es ≡ [] → Holds vs n (nested o before es s n).ops →
        Priced vs (nested o before es s n) (2 + 27 * parts_in (p.all_pieces t inside mask es)) (reductions_in (p.all_pieces t inside mask es)) (wholes_in (p.all_pieces t inside mask es))
    price-all line n o before end_exprs proper i f h = nested-none vs s n before proper
    price-all line n o before (more_exprs e es) proper i f h =
        let m = n + numbers_of (value e s n).ops in
        let y = (value e s n).made in
        let rest = held-rest vs (value e) (λ u. joined o before u then (λ v. nested o (Some v) es)) s n h in
        let last = held-rest vs (joined o before y) (λ v. nested o (Some v) es) s m rest in
        nested-step vs s n o before (value e) (λ v. nested o (Some v) es) (p.pieces t inside mask e) (p.all_pieces t inside mask es)
        (price line n e i.0 (none_first _ _ f) (held-first vs (value e) (λ u. joined o before u then (λ v. nested o (Some v) es)) s n h))
        (λ z k good is at. price-all line k o (Some z) es good i.1 (none_after _ _ f)
        (subst (λ (u : Operand). Holds vs k (nested o (Some u) es s k).ops) (sym is) (subst (λ (j : ℕ). Holds vs j (nested o (Some (joined o before y s m).made) es s j).ops) (sym at) last)))

    price-values : {m : Count} (line n : ℕ) (es : Exprs m) → AreExprs es → all_faults t inside line es ≡ [] → Holds vs n (values es s n).ops → Listed vs (values es s n) (p.all_pieces t inside mask es)
    price-values line n end_exprs i f h = listed-none vs s n
    price-values line n (more_exprs e es) i f h =
        let m = n + numbers_of (value e s n).ops in
        let x = (value e s n).made in
        let rest = held-rest vs (value e) (λ u. values es then (λ xs. done (u ∷ xs))) s n h in
        listed-step vs s n (value e) (values es) (p.pieces t inside mask e) (p.all_pieces t inside mask es)
        (price line n e i.0 (none_first _ _ f) (held-first vs (value e) (λ u. values es then (λ xs. done (u ∷ xs))) s n h))
        (price-values line m es i.1 (none_after _ _ f) (held-first vs (values es) (λ xs. done (x ∷ xs)) s m rest))

    price-subs : {m : Count} (line n : ℕ) (r : Operand) (dim : ℕ) (subs : Subs m) → AreSubs subs → subs_faults t inside line subs ≡ [] → Holds vs n (subscripts r dim subs s n).ops →
        Subscripted vs (subscripts r dim subs s n) (flat_map sub_values (subscripts r dim subs s n).made) (p.subs_pieces t inside mask subs)
    price-subs line n r dim end_subs i f h = subs-none vs s n
    price-subs line n r dim (more_subs (sub.One e) xs) i f h =
        let x : Sub = sub.One e in
        let m = n + numbers_of (subscript r dim x s n).ops in
        let first = held-first vs (subscript r dim x) (λ u. subscripts r (suc dim) xs then (λ us. done (u ∷ us))) s n h in
        let rest = held-rest vs (subscript r dim x) (λ u. subscripts r (suc dim) xs then (λ us. done (u ∷ us))) s n h in
        subs-step vs s n (subscript r dim x) (subscripts r (suc dim) xs) (p.sub_pieces t inside mask x) (p.subs_pieces t inside mask xs)
        (one-known line n e i.0 (none_first _ _ f) (held-first vs (value e) (λ y. done (subscript_of y)) s n first) (price line n e i.0 (none_first _ _ (none_first _ _ f)) (held-first vs (value e) (λ y. done (subscript_of y)) s n first)))
        (price-subs line m r (suc dim) xs i.1 (none_after _ _ f) (held-first vs (subscripts r (suc dim) xs) (λ us. done ((subscript r dim x s n).made ∷ us)) s m rest))
    price-subs line n r dim (more_subs (sub.Range' l u st) xs) i f h =
        let x : Sub = sub.Range' l u st in
        let m = n + numbers_of (subscript r dim x s n).ops in
        let first = held-first vs (subscript r dim x) (λ u. subscripts r (suc dim) xs then (λ us. done (u ∷ us))) s n h in
        let rest = held-rest vs (subscript r dim x) (λ u. subscripts r (suc dim) xs then (λ us. done (u ∷ us))) s n h in
        subs-step vs s n (subscript r dim x) (subscripts r (suc dim) xs) (p.sub_pieces t inside mask x) (p.subs_pieces t inside mask xs)
        (range-known n r dim l u st
        (λ k other o g. price-given line k other l i.0 (none_first _ _ (none_first _ _ (none_first _ _ f))) o g)
        (λ k other o g. price-given line k other u i.1 (none_after _ _ (none_first _ _ (none_first _ _ f))) o g)
        (λ k other o g. price-given line k other st i.2 (none_after _ _ (none_first _ _ f)) o g) first)
        (price-subs line m r (suc dim) xs i.3 (none_after _ _ f) (held-first vs (subscripts r (suc dim) xs) (λ us. done ((subscript r dim x s n).made ∷ us)) s m rest))

    price-given : (line n : ℕ) (other : Lowering Operand) (g : Given) → IsGiven g → given_faults t inside line g ≡ [] → (Holds vs n (other s n).ops → Apart vs (other s n) []) → Holds vs n (given_or other g s n).ops → Apart vs (given_or other g s n) (p.held_pieces t inside mask g)
    price-given line n other absent i f o h = o h
    price-given line n other (given e) i f o h =
        let priced = price line n e i (none_first _ _ f) h in
        record { priced = priced; whole = scalar-apart types kinds found vs t inside s knows here line n e i (none_first _ _ f) (none_after _ _ f) priced.proper h }

  pub price-part : {m : Count} (line n : ℕ) (x : Name) (subs : Subs m) → HasSubs subs → AreSubs subs → named_faults t line x ≡ [] → subs_faults t inside line subs ≡ [] → part_faults line (named_type t x) (how_many subs) ≡ [] →
      Holds vs n (part_of x (λ r. subscripts r 1 subs) s n).ops →
      Priced vs (part_of x (λ r. subscripts r 1 subs) s n) (4 + 27 * parts_in (p.subs_pieces t inside mask subs)) (reductions_in (p.subs_pieces t inside mask subs)) (wholes_in (p.subs_pieces t inside mask subs))
  price-part line n x subs some i known sound number h = part-known line n x subs some known number (λ r k g. price-subs line k r 1 subs i sound g) h
