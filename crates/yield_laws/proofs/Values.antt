-- The ops of each accepted expression are right, and what it makes is usable.
use Rattle.std.proofs.Common.{◌≡◌, refl, sym, ap, ◌∙◌, ℕ, suc, ◌≤◌, ◌==◌, nat_lt, nat_eq, Bool, true, false, not, ◌&&◌, ◌||◌, List, [], ◌∷◌, ◌++◌, map, All, Option, Some, None, pos, arith, true≢false, if◌then◌else◌}
use Rattle.std.specs.List.{flat_map}
use Rattle.std.proofs.lemmas.List.Elements.{All-nil, All-cons, All-head, All-tail}
use mathlib.Core.Former.{Count}
use Rattle.ws_base.specs.Numbers.{truth}
use Rattle.ws_base.specs.declared.name.Name.{Name}
use Rattle.ws_base.specs.declared.op.CallWord.{CallWord}
use Rattle.ws_base.specs.declared.op.CallWord.TheVariants as word
use Rattle.ws_tree.specs.declared.expr.Expr.{Expr}
use Rattle.ws_tree.specs.declared.expr.Expr.TheVariants.{Number, TooWide, TooDeep, Truth, Named, Part', Call', Vector'}
use Rattle.ws_tree.specs.declared.expr.Sub.TheVariants as sub
use Rattle.ws_tree.specs.Trees.{Exprs, end_exprs, more_exprs, Subs, end_subs, more_subs, Given, absent, given, paren, unary, binary}
use Rattle.ws_tree.specs.Grammatical.{IsExpr, AreExprs, AreSubs, IsGiven, HasSubs, Takes, count}
use Rattle.ws_types.specs.declared.types.Row.{Row}
use Rattle.ws_types.specs.declared.types.Standing.{Standing}
use Rattle.ws_types.specs.declared.types.Typed.{Typed}
use Rattle.ws_types.specs.Names.{standing_of, name_type, name_faults}
use Rattle.ws_types.specs.Operations.{is_other_number, part_faults, is_allocated_word, is_outside, is_outside_type, inquiry_faults, no_arguments}
use Rattle.ws_types.specs.Expressions.{listed, how_many, faults, all_faults, subs_faults, given_faults, first_standing, called_faults, arguments}
use Rattle.ws_sema.proofs.NoFaults.{allowed, not_false, none_first, none_after, not_broken, left_false, right_false}
use Rattle.hlfir_ops.specs.declared.kinds.Elem.{Elem}
use Rattle.hlfir_ops.specs.declared.kinds.Elem.TheVariants.{I32, I1}
use Rattle.hlfir_ops.specs.declared.kinds.ValueKind.TheVariants.{Scalar, Place, Section}
use Rattle.hlfir_ops.specs.declared.what.BoundWord.{BoundWord}
use Rattle.hlfir_ops.specs.declared.what.BoundWord.TheVariants.{Lower, Upper, Extent}
use Rattle.hlfir_ops.specs.declared.what.ValueBinary.{ValueBinary}
use Rattle.hlfir_ops.specs.declared.what.ValueBinary.TheVariants as op_of_two
use Rattle.hlfir_ops.specs.declared.what.What.TheVariants as what
use Rattle.hlfir_ops.specs.RulesValues.{Value, elem_of, rank_of}
use Rattle.hlfir_ops.specs.RulesForms.{section_rank}
use Rattle.hlfir_ops.specs.RulesStatements.{no_allocatable}
use Rattle.lower_values.specs.declared.operand.Operand.{Operand}
use Rattle.lower_values.specs.declared.operand.Subscript.{Subscript}
use Rattle.lower_values.specs.declared.operand.Subscript.TheVariants.{One, Range, Vector}
use Rattle.lower_values.specs.Scopes.{Scope}
use Rattle.lower_values.specs.Lowerings.{Lowering, done, ◌>>=◌, scoped}
use Rattle.lower_values.specs.Operations.{constant, binary_of, binary_operation, in_parentheses, unary_operation, joined, call_on, vector}
use Rattle.lower_values.specs.References.{declare_of, reference, loaded, named, subscript_of, sub_kind, sub_values, bound, part_kind, designated, dimension_in, dimension, bound_word, bound_or_size, is_allocated, inquiry_of, inquiry}
use Rattle.lower_values.specs.Values.{part_of, called, value, values, nested, subscripts, subscript, given_or}
use Rattle.kind_laws.specs.Standing.{Knows}
use Rattle.kind_laws.specs.Found.{ScopeIsFound}
use Rattle.yield_laws.proofs.Usable.{IsUsable, IsValue, is_solid, usable-reached, more-reached, reached-append}
use Rattle.yield_laws.proofs.Walking.{Walks, walks-done, walks-then, walks-scoped, walks-value, walks-if}
use Rattle.yield_laws.proofs.Operations.{walks-constant, walks-binary, walks-parentheses, walks-unary, walks-vector, walks-call, solid_rank}
use Rattle.yield_laws.proofs.Names.{array-variable, named-rank, not_known, walks-reference, walks-loaded, walks-bound, walks-folded, walks-named}

-- ---- ranks

over : (d rank : ℕ) → (nat_eq d 0 || nat_lt rank d) ≡ false → nat_lt 0 rank ≡ true
over d rank h = grind (arith, left_false (nat_eq d 0) (nat_lt rank d) h, right_false (nat_eq d 0) (nat_lt rank d) h)

equal_positive : (m n : ℕ) → nat_eq m (suc n) ≡ true → nat_lt 0 m ≡ true
equal_positive m n h = grind (arith, h)

-- a name with subscripts, as many as its rank, has a rank
subscripted : {m : Count} (o : Option Typed) (ss : Subs m) → HasSubs ss → is_other_number o (how_many ss) ≡ false → (ty : Typed) → o ≡ Some ty → nat_lt 0 ty.rank ≡ true
subscripted o end_subs h f ty is = absurd h
subscripted o (more_subs x xs) h f ty is = equal_positive ty.rank (how_many xs) (not_false _ (ap (λ u. is_other_number u (suc (how_many xs))) (sym is) ∙ f))

-- an inquiry looks into an array
inquired : (x : Name) (es : List Expr) (o : Option Typed) → is_outside_type o (Named x ∷ es) ≡ false → (ty : Typed) → o ≡ Some ty → nat_lt 0 ty.rank ≡ true
inquired x es o f ty is = by es (ap (λ u. is_outside_type u (Named x ∷ es)) (sym is) ∙ f)
  where
    by : (es : List Expr) → is_outside ty.rank (Named x ∷ es) ≡ false → nat_lt 0 ty.rank ≡ true
    by [] g = solid_rank ty.rank g
    by (Number d ∷ more) g = over d ty.rank g
    by (e ∷ more) g = absurd (true≢false g)

-- ---- designators

-- what a subscript takes is no allocatable's declare
abbrev pub IsReachedBy : List Value → Subscript → Type 0
IsReachedBy vs x = no_allocatable vs (sub_values x) ≡ true

all_sub_values : (vs : List Value) (xs : List Subscript) → All (IsReachedBy vs) xs → no_allocatable vs (flat_map sub_values xs) ≡ true
all_sub_values vs [] h = refl
all_sub_values vs (x ∷ xs) h = reached-append vs (sub_values x) (flat_map sub_values xs) (All-head (IsReachedBy vs) x xs h) (all_sub_values vs xs (All-tail (IsReachedBy vs) x xs h))

part_solid : (rank : ℕ) (e : Elem) → is_solid (part_kind e rank) ≡ true
part_solid rank e = at (rank == 0) refl
  where
    at : (b : Bool) → (rank == 0) ≡ b → is_solid (if b then Place e else Section e rank) ≡ true
    at true is = refl
    at false is = solid_rank rank is

module _ (vs : List Value) (s : Scope) (n : ℕ) where
  pub walks-designated : (r : Operand) (ss : List Subscript) → IsUsable vs r → All (IsReachedBy vs) ss → Walks vs (IsValue vs) s n (designated r ss) (IsUsable vs)
  unfolding designated
  walks-designated r ss u h =
      let rank = section_rank (map sub_kind ss) in
      walks-value vs s n (what.Designate (map sub_kind ss)) (r.value ∷ flat_map sub_values ss) (part_kind (elem_of r.kind) rank) refl refl (part_solid rank (elem_of r.kind))
      (more-reached vs r.value (flat_map sub_values ss) (usable-reached u) (all_sub_values vs ss h))

  one_subscript : (x : Operand) → IsUsable vs x → IsReachedBy vs (subscript_of x)
  one_subscript x u = at (rank_of x.kind == 0)
    where
      at : (b : Bool) → IsReachedBy vs (if b then One x.value else Vector x.value)
      at true = more-reached vs x.value [] (usable-reached u) refl
      at false = more-reached vs x.value [] (usable-reached u) refl

  three_values : (x y z : Operand) → IsUsable vs x → IsUsable vs y → IsUsable vs z → IsReachedBy vs (Range x.value y.value z.value)
  three_values x y z u v w = more-reached vs x.value (y.value ∷ z.value ∷ []) (usable-reached u) (more-reached vs y.value (z.value ∷ []) (usable-reached v) (more-reached vs z.value [] (usable-reached w) refl))

  -- ---- inquiries

  walks-bound_or_size : (w : Option BoundWord) (dim : Option ℕ) (r : Operand) → IsUsable vs r → Walks vs (IsValue vs) s n (bound_or_size w dim r) (IsUsable vs)
  walks-bound_or_size (Some w) dim r u = walks-bound vs s n w (dimension dim) r u
  walks-bound_or_size None None r u = walks-value vs s n what.Size (r.value ∷ []) (Scalar I32) refl refl refl (more-reached vs r.value [] (usable-reached u) refl)
  walks-bound_or_size None (Some dim) r u = walks-bound vs s n Extent dim r u

module _ (vs : List Value) (t : List Row) (inside : Bool) (line : ℕ) (s : Scope) (knows : Knows t s) (scope : ScopeIsFound vs s) where
  allocated_faults : (w : CallWord) (o : Option Standing) (es : List Expr) → is_allocated_word w ≡ false → inquiry_faults line w o es ≡ [] → is_outside_type (name_type o) es ≡ false
  unfolding inquiry_faults
  allocated_faults w o es other f = ap (λ b. not b && is_outside_type (name_type o) es) (sym other) ∙ not_broken _ _ _ (none_after _ _ (none_first _ _ (none_first _ _ f)))

  name_first : (w : CallWord) (o : Option Standing) (es : List Expr) → inquiry_faults line w o es ≡ [] → name_faults line o ≡ []
  unfolding inquiry_faults
  name_first w o es f = none_first _ _ (none_first _ _ (none_first _ _ f))

  inquired_name : (w : CallWord) (x : Name) (es : List Expr) (n : ℕ) (dim : Option ℕ) → inquiry_faults line w (standing_of t x) (Named x ∷ es) ≡ [] → Walks vs (IsValue vs) s n (inquiry_of w x dim) (IsUsable vs)
  inquired_name w x es n dim f =
      walks-if vs (IsValue vs) s n (is_allocated_word w) (scoped (λ c. is_allocated (declare_of c.names x))) (reference x >>= bound_or_size (bound_word w) dim) (IsUsable vs)
      (λ is. walks-scoped vs (IsValue vs) s n (λ c. is_allocated (declare_of c.names x)) (IsUsable vs) (walks-value vs s n what.Allocated ((declare_of s.names x).value ∷ []) (Scalar I1) refl refl refl refl))
      (λ is.
      let o = standing_of t x in
      let named = name_first w o (Named x ∷ es) f in
      let rank = named-rank line o named (inquired x es (name_type o) (allocated_faults w o (Named x ∷ es) is f)) in
      walks-then vs (IsValue vs) s n (reference x) (bound_or_size (bound_word w) dim) (IsUsable vs) (IsUsable vs) (walks-reference vs s scope n x (array-variable s x line o (knows x) named rank))
      (λ m r u. walks-bound_or_size vs s m (bound_word w) dim r u))

  walks-inquiry : (w : CallWord) (es : List Expr) (n : ℕ) → inquiry_faults line w (first_standing t es) es ≡ [] → Walks vs (IsValue vs) s n (inquiry w es) (IsUsable vs)
  unfolding inquiry
  walks-inquiry w (Named x ∷ es) n f = inquired_name w x es n (dimension_in (Named x ∷ es)) f
  walks-inquiry w [] n f = not_known line None refl (name_first w None [] f)
  walks-inquiry w (e ∷ es) n f = not_known line None refl (name_first w None (e ∷ es) f)

  -- ---- expressions

  pub part-steps-by : {m : Count} (x : Name) (ss : Subs m) → HasSubs ss → (name_faults line (standing_of t x) ++ subs_faults t inside line ss ++ part_faults line (name_type (standing_of t x)) (how_many ss)) ≡ [] → (n : ℕ) →
      (P : List Subscript → Type 0) (Q : Operand → Type 0) → ((k : ℕ) (r : Operand) → IsUsable vs r → Walks vs (IsValue vs) s k (subscripts r 1 ss) P) →
      ((k : ℕ) (r : Operand) (xs : List Subscript) → IsUsable vs r → P xs → Walks vs (IsValue vs) s k (designated r xs) Q) → Walks vs (IsValue vs) s n (part_of x (λ r. subscripts r 1 ss)) Q
  unfolding part_of part_faults
  part-steps-by x ss has f n P Q walk last =
      let o = standing_of t x in
      let named = none_first _ _ (none_first _ _ f) in
      let rank = named-rank line o named (subscripted (name_type o) ss has (not_broken _ _ _ (none_after _ _ f))) in
      walks-then vs (IsValue vs) s n (reference x) (λ r. subscripts r 1 ss >>= (λ xs. designated r xs)) (IsUsable vs) Q (walks-reference vs s scope n x (array-variable s x line o (knows x) named rank))
      (λ m r u. walks-then vs (IsValue vs) s m (subscripts r 1 ss) (λ xs. designated r xs) P Q (walk m r u) (λ k xs us. last k r xs u us))

  pub part-steps : {m : Count} (x : Name) (ss : Subs m) → HasSubs ss → (name_faults line (standing_of t x) ++ subs_faults t inside line ss ++ part_faults line (name_type (standing_of t x)) (how_many ss)) ≡ [] → (n : ℕ) →
      ((k : ℕ) (r : Operand) → IsUsable vs r → Walks vs (IsValue vs) s k (subscripts r 1 ss) (All (IsReachedBy vs))) → Walks vs (IsValue vs) s n (part_of x (λ r. subscripts r 1 ss)) (IsUsable vs)
  part-steps x ss has f n walk = part-steps-by x ss has f n (All (IsReachedBy vs)) (IsUsable vs) walk (λ k r xs u us. walks-designated vs s k r xs u us)

  walks-all : {m : Count} (w : CallWord) (es : Exprs m) (n : ℕ) → Walks vs (IsValue vs) s n (values es) (All (IsUsable vs)) → Walks vs (IsValue vs) s n (values es >>= call_on w) (IsUsable vs)
  walks-all w es n h = walks-then vs (IsValue vs) s n (values es) (call_on w) (All (IsUsable vs)) (IsUsable vs) h (λ m xs us. walks-call vs s m w xs us)

  walks-called : {m : Count} (w : CallWord) (es : Exprs m) → Takes w es → (n : ℕ) → (all_faults t inside line es ≡ [] → Walks vs (IsValue vs) s n (values es) (All (IsUsable vs))) →
      ((op : ValueBinary) → 2 ≤ count es → all_faults t inside line es ≡ [] → Walks vs (IsValue vs) s n (nested op None es) (IsUsable vs)) → called_faults t inside line w (listed es) (all_faults t inside line es) (arguments t inside no_arguments es) ≡ [] →
      Walks vs (IsValue vs) s n (called w (listed es) (values es) (λ op. nested op None es)) (IsUsable vs)
  walks-called word.Min es k n all first f = first op_of_two.Min k (none_first _ _ (allowed _ _ _ _ f))
  walks-called word.Max es k n all first f = first op_of_two.Max k (none_first _ _ (allowed _ _ _ _ f))
  walks-called word.Size es k n all first f = walks-inquiry word.Size (listed es) n (allowed _ _ _ _ f)
  walks-called word.Lbound es k n all first f = walks-inquiry word.Lbound (listed es) n (allowed _ _ _ _ f)
  walks-called word.Ubound es k n all first f = walks-inquiry word.Ubound (listed es) n (allowed _ _ _ _ f)
  walks-called word.Allocated es k n all first f = walks-inquiry word.Allocated (listed es) n (allowed _ _ _ _ f)
  walks-called word.Abs es k n all first f = walks-all word.Abs es n (all (none_first _ _ (allowed _ _ _ _ f)))
  walks-called word.Mod es k n all first f = walks-all word.Mod es n (all (none_first _ _ (allowed _ _ _ _ f)))
  walks-called word.Modulo es k n all first f = walks-all word.Modulo es n (all (none_first _ _ (allowed _ _ _ _ f)))
  walks-called word.Merge es k n all first f = walks-all word.Merge es n (all (none_first _ _ (allowed _ _ _ _ f)))
  walks-called word.Sum es k n all first f = walks-all word.Sum es n (all (none_first _ _ (allowed _ _ _ _ f)))
  walks-called word.Product es k n all first f = walks-all word.Product es n (all (none_first _ _ (allowed _ _ _ _ f)))
  walks-called word.Minval es k n all first f = walks-all word.Minval es n (all (none_first _ _ (allowed _ _ _ _ f)))
  walks-called word.Maxval es k n all first f = walks-all word.Maxval es n (all (none_first _ _ (allowed _ _ _ _ f)))
  walks-called word.Count es k n all first f = walks-all word.Count es n (all (none_first _ _ (allowed _ _ _ _ f)))
  walks-called word.Any es k n all first f = walks-all word.Any es n (all (none_first _ _ (allowed _ _ _ _ f)))
  walks-called word.All es k n all first f = walks-all word.All es n (all (none_first _ _ (allowed _ _ _ _ f)))

  walks-more : {m : Count} (r : Operand) (dim : ℕ) (ss : Subs m) (x : Subscript) → IsReachedBy vs x → (n : ℕ) → Walks vs (IsValue vs) s n (subscripts r (suc dim) ss) (All (IsReachedBy vs)) →
      Walks vs (IsValue vs) s n (subscripts r (suc dim) ss >>= (λ xs. done (x ∷ xs))) (All (IsReachedBy vs))
  walks-more r dim ss x v n h =
      walks-then vs (IsValue vs) s n (subscripts r (suc dim) ss) (λ xs. done (x ∷ xs)) (All (IsReachedBy vs)) (All (IsReachedBy vs)) h
      (λ k xs us. walks-done vs (IsValue vs) s k (x ∷ xs) (All (IsReachedBy vs)) (All-cons (IsReachedBy vs) x xs v us))

  mutual
    pub walks-expression : (e : Expr) → IsExpr e → faults t inside line e ≡ [] → (n : ℕ) → Walks vs (IsValue vs) s n (value e) (IsUsable vs)
    walks-expression (Number k) h f n = walks-constant vs s n I32 (pos k)
    walks-expression TooWide h f n = walks-constant vs s n I32 (pos 0)
    walks-expression TooDeep h f n = walks-constant vs s n I32 (pos 0)
    walks-expression (Truth b) h f n = walks-constant vs s n I1 (truth b)
    walks-expression (Named x) h f n = walks-folded vs s n (Named x) (named x) (walks-named vs s scope n x line (standing_of t x) (knows x) f)
    walks-expression (Part' x c ss) h f n =
        walks-then vs (IsValue vs) s n (part_of x (λ r. subscripts r 1 ss)) loaded (IsUsable vs) (IsUsable vs) (part-steps x ss h.1 f n (λ m r u. walks-subscripts r u 1 ss h.2 (none_after _ _ (none_first _ _ f)) m))
        (λ m r u. walks-loaded vs s m r u)
    walks-expression (Call' w c es) h f n = walks-called w es h.0 n (λ g. walks-values es h.1 g n) (λ op k g. walks-first op es k h.1 g n) f
    walks-expression (Vector' c es) h f n =
        walks-then vs (IsValue vs) s n (values es) vector (All (IsUsable vs)) (IsUsable vs) (walks-values es h.1 (none_first _ _ f) n) (λ m xs us. walks-vector vs s m xs us)
    walks-expression (paren e) h f n =
        walks-folded vs s n (paren e) (value e >>= in_parentheses)
        (walks-then vs (IsValue vs) s n (value e) in_parentheses (IsUsable vs) (IsUsable vs) (walks-expression e h f n) (λ m x u. walks-parentheses vs s m x u))
    walks-expression (unary op e) h f n =
        walks-folded vs s n (unary op e) (value e >>= unary_operation op)
        (walks-then vs (IsValue vs) s n (value e) (unary_operation op) (IsUsable vs) (IsUsable vs) (walks-expression e h (none_first _ _ f) n) (λ m x u. walks-unary vs s m op x u))
    walks-expression (binary op a b) h f n =
        walks-folded vs s n (binary op a b) (value a >>= (λ x. value b >>= (λ y. binary_operation (binary_of op) x y)))
        (walks-then vs (IsValue vs) s n (value a) (λ x. value b >>= (λ y. binary_operation (binary_of op) x y)) (IsUsable vs) (IsUsable vs) (walks-expression a h.0 (none_first _ _ (none_first _ _ f)) n)
        (λ m x u. walks-then vs (IsValue vs) s m (value b) (λ y. binary_operation (binary_of op) x y) (IsUsable vs) (IsUsable vs) (walks-expression b h.1 (none_after _ _ (none_first _ _ f)) m)
        (λ k y v. walks-binary vs s k (binary_of op) x y u v)))

    walks-values : {m : Count} (es : Exprs m) → AreExprs es → all_faults t inside line es ≡ [] → (n : ℕ) → Walks vs (IsValue vs) s n (values es) (All (IsUsable vs))
    walks-values end_exprs h f n = walks-done vs (IsValue vs) s n [] (All (IsUsable vs)) (All-nil (IsUsable vs))
    walks-values (more_exprs e es) h f n =
        walks-then vs (IsValue vs) s n (value e) (λ x. values es >>= (λ xs. done (x ∷ xs))) (IsUsable vs) (All (IsUsable vs)) (walks-expression e h.0 (none_first _ _ f) n)
        (λ m x u. walks-then vs (IsValue vs) s m (values es) (λ xs. done (x ∷ xs)) (All (IsUsable vs)) (All (IsUsable vs)) (walks-values es h.1 (none_after _ _ f) m)
        (λ k xs us. walks-done vs (IsValue vs) s k (x ∷ xs) (All (IsUsable vs)) (All-cons (IsUsable vs) x xs u us)))

    -- MIN or MAX of one argument more
    walks-nested : {m : Count} (op : ValueBinary) (x : Operand) (es : Exprs m) → IsUsable vs x → AreExprs es → all_faults t inside line es ≡ [] → (n : ℕ) → Walks vs (IsValue vs) s n (nested op (Some x) es) (IsUsable vs)
    walks-nested op x end_exprs u h f n = walks-done vs (IsValue vs) s n x (IsUsable vs) u
    walks-nested op x (more_exprs e es) u h f n =
        walks-then vs (IsValue vs) s n (value e) (λ y. joined op (Some x) y >>= (λ z. nested op (Some z) es)) (IsUsable vs) (IsUsable vs) (walks-expression e h.0 (none_first _ _ f) n)
        (λ m y v. walks-then vs (IsValue vs) s m (joined op (Some x) y) (λ z. nested op (Some z) es) (IsUsable vs) (IsUsable vs) (walks-binary vs s m op x y u v)
        (λ k z w. walks-nested op z es w h.1 (none_after _ _ f) k))

    walks-first : {m : Count} (op : ValueBinary) (es : Exprs m) → 2 ≤ count es → AreExprs es → all_faults t inside line es ≡ [] → (n : ℕ) → Walks vs (IsValue vs) s n (nested op None es) (IsUsable vs)
    walks-first op end_exprs k h f n = absurd (omega (arith, k))
    walks-first op (more_exprs e es) k h f n =
        walks-then vs (IsValue vs) s n (value e) (λ y. joined op None y >>= (λ z. nested op (Some z) es)) (IsUsable vs) (IsUsable vs) (walks-expression e h.0 (none_first _ _ f) n)
        (λ m y v. walks-then vs (IsValue vs) s m (joined op None y) (λ z. nested op (Some z) es) (IsUsable vs) (IsUsable vs) (walks-done vs (IsValue vs) s m y (IsUsable vs) v)
        (λ k z w. walks-nested op z es w h.1 (none_after _ _ f) k))

    pub walks-subscripts : {m : Count} (r : Operand) → IsUsable vs r → (dim : ℕ) (ss : Subs m) → AreSubs ss → subs_faults t inside line ss ≡ [] → (n : ℕ) → Walks vs (IsValue vs) s n (subscripts r dim ss) (All (IsReachedBy vs))
    walks-subscripts r u dim end_subs h f n = walks-done vs (IsValue vs) s n [] (All (IsReachedBy vs)) (All-nil (IsReachedBy vs))
    walks-subscripts r u dim (more_subs (sub.One e) ss) h f n =
        walks-then vs (IsValue vs) s n (subscript r dim (sub.One e)) (λ x. subscripts r (suc dim) ss >>= (λ xs. done (x ∷ xs))) (IsReachedBy vs) (All (IsReachedBy vs))
        (walks-then vs (IsValue vs) s n (value e) (λ x. done (subscript_of x)) (IsUsable vs) (IsReachedBy vs) (walks-expression e h.0 (none_first _ _ (none_first _ _ f)) n)
        (λ m x v. walks-done vs (IsValue vs) s m (subscript_of x) (IsReachedBy vs) (one_subscript vs s m x v)))
        (λ m x v. walks-more r dim ss x v m (walks-subscripts r u (suc dim) ss h.1 (none_after _ _ f) m))
    walks-subscripts r u dim (more_subs (sub.Range' l v w) ss) h f n =
        walks-then vs (IsValue vs) s n (subscript r dim (sub.Range' l v w)) (λ x. subscripts r (suc dim) ss >>= (λ xs. done (x ∷ xs))) (IsReachedBy vs) (All (IsReachedBy vs))
        (walks-then vs (IsValue vs) s n (given_or (bound Lower dim r) l) _ (IsUsable vs) (IsReachedBy vs)
        (walks-given (bound Lower dim r) l n h.0 (none_first _ _ (none_first _ _ (none_first _ _ f))) (walks-bound vs s n Lower dim r u))
        (λ m x a. walks-then vs (IsValue vs) s m (given_or (bound Upper dim r) v) _ (IsUsable vs) (IsReachedBy vs)
        (walks-given (bound Upper dim r) v m h.1 (none_after _ _ (none_first _ _ (none_first _ _ f))) (walks-bound vs s m Upper dim r u))
        (λ k y b. walks-then vs (IsValue vs) s k (given_or (constant I32 (pos 1)) w) _ (IsUsable vs) (IsReachedBy vs)
        (walks-given (constant I32 (pos 1)) w k h.2 (none_after _ _ (none_first _ _ f)) (walks-constant vs s k I32 (pos 1)))
        (λ j z c. walks-done vs (IsValue vs) s j (Range x.value y.value z.value) (IsReachedBy vs) (three_values vs s j x y z a b c)))))
        (λ m x v. walks-more r dim ss x v m (walks-subscripts r u (suc dim) ss h.3 (none_after _ _ f) m))

    walks-given : (other : Lowering Operand) (g : Given) (n : ℕ) → IsGiven g → given_faults t inside line g ≡ [] → Walks vs (IsValue vs) s n other (IsUsable vs) → Walks vs (IsValue vs) s n (given_or other g) (IsUsable vs)
    walks-given other absent n h f u = u
    walks-given other (given e) n h f u = walks-expression e h (none_first _ _ f) n
