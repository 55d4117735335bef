-- Headers and bounds: INTEGER scalars, so many as their forms want.
use Rattle.std.proofs.Common.{◌≡◌, refl, sym, ap, ◌∙◌, subst, ℕ, suc, ◌+◌, ◌*◌, true, false, List, [], ◌∷◌, ◌++◌, length, All, Option, Some, None, pos, arith}
use Rattle.std.specs.List.{list_all}
use Rattle.std.proofs.lemmas.List.{length-append}
use Rattle.std.proofs.lemmas.List.Elements.{All-head, All-tail}
use Rattle.std.proofs.lemmas.List.Folds.{list_all-append}
use Rattle.std.proofs.lemmas.Bool.{and_from}
use Rattle.ws_base.specs.declared.refusal.RefusalKind.TheVariants as refusal
use Rattle.ws_tree.specs.declared.expr.Expr.{Expr}
use Rattle.ws_tree.specs.declared.stmt.Bound.{Bound}
use Rattle.ws_tree.specs.declared.stmt.Bound.TheVariants as bounds
use Rattle.ws_tree.specs.declared.stmt.Index.{Index}
use Rattle.ws_tree.specs.Grammatical.{IsSide, IsOptional, IsBound, IsIndex}
use Rattle.ws_types.specs.declared.types.Row.{Row}
use Rattle.ws_types.specs.Lists.{given_faults}
use Rattle.ws_types.specs.Operations.{scalar_faults}
use Rattle.ws_sema.specs.Statements.{scalar_expr_faults, header_faults, allocated_bound_faults, allocated_bounds_faults}
use Rattle.ws_sema.proofs.NoFaults.{none_first, none_after, impossible}
use Rattle.hlfir_ops.specs.declared.kinds.Elem.TheVariants.{I32}
use Rattle.hlfir_ops.specs.declared.op.ValueId.{ValueId}
use Rattle.hlfir_ops.specs.RulesValues.{Value, is_scalar}
use Rattle.hlfir_ops.specs.RulesRegions.{is_integer}
use Rattle.hlfir_ops.specs.RulesStatements.{no_allocatable}
use Rattle.lower_values.specs.declared.operand.Operand.{Operand}
use Rattle.lower_values.specs.Scopes.{Scope}
use Rattle.lower_values.specs.Lowerings.{Lowering, done, ◌>>=◌, giving}
use Rattle.lower_values.specs.Operations.{constant}
use Rattle.lower_values.specs.Values.{value}
use Rattle.lower_values.specs.Lists.{stride}
use Rattle.lower_assign.specs.Statements.{bounds_of, all_bounds}
use Rattle.lower_constructs.specs.Modules.{triple, triples}
use Rattle.kind_laws.specs.Standing.{Knows}
use Rattle.kind_laws.specs.Found.{ScopeIsFound}
use Rattle.kind_laws.proofs.TypedExpressions.{types_are_known}
use Rattle.kind_laws.proofs.Sides.{sides_are_expressions}
use Rattle.yield_laws.proofs.Usable.{IsUsable, IsValue, usable-reached, more-reached, reached-append}
use Rattle.yield_laws.proofs.Walking.{Walks, walks-done, walks-then}
use Rattle.yield_laws.proofs.Elements.{kind-found}
use Rattle.yield_laws.proofs.Operations.{walks-constant}
use Rattle.yield_laws.proofs.Typed.{walks-typed, integer-scalar}

-- an INTEGER scalar
pub record IsInteger (vs : List Value) (x : Operand) : Type 0 where
  pub usable : IsUsable vs x
  pub integer : is_scalar I32 (Some x.kind) ≡ true

-- INTEGER scalars, so many
pub record AreIntegers (vs : List Value) (n : ℕ) (os : List ValueId) : Type 0 where
  pub integers : list_all (is_integer vs) os ≡ true
  pub reached : no_allocatable vs os ≡ true
  pub many : length os ≡ n

pub no-integers : (vs : List Value) → AreIntegers vs 0 []
no-integers vs = record { integers = refl; reached = refl; many = refl }

pub more-integers : (vs : List Value) (n : ℕ) (x : Operand) (os : List ValueId) → IsInteger vs x → AreIntegers vs n os → AreIntegers vs (n + 1) (x.value ∷ os)
more-integers vs n x os h g = record {
  integers = and_from _ _ (ap (is_scalar I32) (kind-found h.usable.found) ∙ h.integer) g.integers;
  reached = more-reached vs x.value os (usable-reached h.usable) g.reached;
  many = let rest = g.many in omega (arith, rest);
}

pub integers-append : (vs : List Value) (m n : ℕ) (xs ys : List ValueId) → AreIntegers vs m xs → AreIntegers vs n ys → AreIntegers vs (m + n) (xs ++ ys)
integers-append vs m n xs ys h g = record {
  integers = list_all-append (is_integer vs) xs ys ∙ and_from _ _ h.integers g.integers;
  reached = reached-append vs xs ys h.reached g.reached;
  many = length-append xs ys ∙ (ap (λ k. k + length ys) h.many ∙ ap (λ k. m + k) g.many);
}

-- so many more than those of the rest
one_more : (k n : ℕ) → k + n * k ≡ suc n * k
one_more k n = omega arith

many_are : (vs : List Value) (m n : ℕ) (os : List ValueId) → m ≡ n → AreIntegers vs m os → AreIntegers vs n os
many_are vs m n os is h = subst (λ k. AreIntegers vs k os) is h

module _ (vs : List Value) (t : List Row) (line : ℕ) (s : Scope) (knows : Knows t s) (scope : ScopeIsFound vs s) where
  walks-integer : (e : Expr) → IsSide e → scalar_expr_faults t line e ≡ [] → (n : ℕ) → Walks vs (IsValue vs) s n (value e) (IsInteger vs)
  walks-integer e h f n held =
      let none = none_first _ _ f in
      let w = walks-typed vs t false line s knows scope e (sides_are_expressions t false line e h none) none n held in
      let ty = types_are_known t false line e none in
      let scalar : scalar_faults line (Some ty.0) ≡ [] = ap (scalar_faults line) (sym ty.1) ∙ none_after _ _ f in
      (w.0, record { usable = w.1.usable; integer = integer-scalar line ty.0 (value e s n).made.kind w.1.type w.1.usable.solid scalar })

  walks-one : (n : ℕ) → Walks vs (IsValue vs) s n (constant I32 (pos 1)) (IsInteger vs)
  unfolding giving
  walks-one n held = let w = walks-constant vs s n I32 (pos 1) held in (w.0, record { usable = w.1; integer = refl })

  walks-stride : (o : Option Expr) → IsOptional o → given_faults t false line o ≡ [] → (n : ℕ) → Walks vs (IsValue vs) s n (stride o) (IsInteger vs)
  walks-stride None h f n = walks-one n
  walks-stride (Some e) h f n = walks-integer e h f n

  three : (x y z : Operand) → IsInteger vs x → IsInteger vs y → IsInteger vs z → AreIntegers vs 3 (x.value ∷ y.value ∷ z.value ∷ [])
  three x y z h g k = more-integers vs 2 x (y.value ∷ z.value ∷ []) h (more-integers vs 1 y (z.value ∷ []) g (more-integers vs 0 z [] k (no-integers vs)))

  pub walks-triple : (l u : Expr) (o : Option Expr) → IsSide l → IsSide u → IsOptional o → scalar_expr_faults t line l ≡ [] → scalar_expr_faults t line u ≡ [] → given_faults t false line o ≡ [] → (n : ℕ) →
      Walks vs (IsValue vs) s n (triple l u o) (AreIntegers vs 3)
  unfolding triple
  walks-triple l u o hl hu ho fl fu fo n =
      walks-then vs (IsValue vs) s n (value l) (λ x. value u >>= (λ y. stride o >>= (λ z. done (x.value ∷ y.value ∷ z.value ∷ [])))) (IsInteger vs) (AreIntegers vs 3) (walks-integer l hl fl n)
      (λ m x a. walks-then vs (IsValue vs) s m (value u) (λ y. stride o >>= (λ z. done (x.value ∷ y.value ∷ z.value ∷ []))) (IsInteger vs) (AreIntegers vs 3) (walks-integer u hu fu m)
      (λ k y b. walks-then vs (IsValue vs) s k (stride o) (λ z. done (x.value ∷ y.value ∷ z.value ∷ [])) (IsInteger vs) (AreIntegers vs 3) (walks-stride o ho fo k)
      (λ j z c. walks-done vs (IsValue vs) s j (x.value ∷ y.value ∷ z.value ∷ []) (AreIntegers vs 3) (three x y z a b c))))

  pub walks-triples : (outer : List Row) (before is : List Index) → All IsIndex is → header_faults outer t line before is ≡ [] → (n : ℕ) → Walks vs (IsValue vs) s n (triples is) (AreIntegers vs (length is * 3))
  unfolding triples
  walks-triples outer before [] h f n = walks-done vs (IsValue vs) s n [] (AreIntegers vs 0) (no-integers vs)
  walks-triples outer before (i ∷ is) h f n =
      let here = All-head IsIndex i is h in
      let step = none_first _ _ f in
      let upper = none_first _ _ step in
      let lower = none_first _ _ upper in
      let all = AreIntegers vs (length (i ∷ is) * 3) in
      walks-then vs (IsValue vs) s n (triple i.l i.u i.s) (λ xs. triples is >>= (λ ys. done (xs ++ ys))) (AreIntegers vs 3) all
      (walks-triple i.l i.u i.s here.0 here.1 here.2 (none_after _ _ lower) (none_after _ _ upper) (none_after _ _ step) n)
      (λ m xs a. walks-then vs (IsValue vs) s m (triples is) (λ ys. done (xs ++ ys)) (AreIntegers vs (length is * 3)) all (walks-triples outer (before ++ i ∷ []) is (All-tail IsIndex i is h) (none_after _ _ f) m)
      (λ k ys b. walks-done vs (IsValue vs) s k (xs ++ ys) all (many_are vs (3 + length is * 3) (length (i ∷ is) * 3) (xs ++ ys) (one_more 3 (length is)) (integers-append vs 3 (length is * 3) xs ys a b))))

  -- ---- bounds of ALLOCATE

  two : (x y : Operand) → IsInteger vs x → IsInteger vs y → AreIntegers vs 2 (x.value ∷ y.value ∷ [])
  two x y h g = more-integers vs 1 x (y.value ∷ []) h (more-integers vs 0 y [] g (no-integers vs))

  pair : (p q : Lowering Operand) (n : ℕ) → Walks vs (IsValue vs) s n p (IsInteger vs) → ((m : ℕ) → Walks vs (IsValue vs) s m q (IsInteger vs)) → Walks vs (IsValue vs) s n (p >>= (λ x. q >>= (λ y. done (x.value ∷ y.value ∷ [])))) (AreIntegers vs 2)
  pair p q n h g =
      walks-then vs (IsValue vs) s n p (λ x. q >>= (λ y. done (x.value ∷ y.value ∷ []))) (IsInteger vs) (AreIntegers vs 2) h
      (λ m x a. walks-then vs (IsValue vs) s m q (λ y. done (x.value ∷ y.value ∷ [])) (IsInteger vs) (AreIntegers vs 2) (g m)
      (λ k y b. walks-done vs (IsValue vs) s k (x.value ∷ y.value ∷ []) (AreIntegers vs 2) (two x y a b)))

  walks-bounds_of : (b : Bound) → IsBound b → allocated_bound_faults t line b ≡ [] → (n : ℕ) → Walks vs (IsValue vs) s n (bounds_of b) (AreIntegers vs 2)
  unfolding bounds_of
  walks-bounds_of (bounds.Upper u) h f n = pair (constant I32 (pos 1)) (value u) n (walks-one n) (λ m. walks-integer u h f m)
  walks-bounds_of (bounds.Both l u) h f n = pair (value l) (value u) n (walks-integer l h.0 (none_first _ _ f) n) (λ m. walks-integer u h.1 (none_after _ _ f) m)
  walks-bounds_of bounds.Deferred h f n = impossible line refusal.NotAllocatable f

  pub walks-bounds : (bs : List Bound) → All IsBound bs → allocated_bounds_faults t line bs ≡ [] → (n : ℕ) → Walks vs (IsValue vs) s n (all_bounds bs) (AreIntegers vs (length bs * 2))
  unfolding all_bounds
  walks-bounds [] h f n = walks-done vs (IsValue vs) s n [] (AreIntegers vs 0) (no-integers vs)
  walks-bounds (b ∷ bs) h f n =
      let all = AreIntegers vs (length (b ∷ bs) * 2) in
      walks-then vs (IsValue vs) s n (bounds_of b) (λ xs. all_bounds bs >>= (λ ys. done (xs ++ ys))) (AreIntegers vs 2) all (walks-bounds_of b (All-head IsBound b bs h) (none_first _ _ f) n)
      (λ m xs a. walks-then vs (IsValue vs) s m (all_bounds bs) (λ ys. done (xs ++ ys)) (AreIntegers vs (length bs * 2)) all (walks-bounds bs (All-tail IsBound b bs h) (none_after _ _ f) m)
      (λ k ys c. walks-done vs (IsValue vs) s k (xs ++ ys) all (many_are vs (2 + length bs * 2) (length (b ∷ bs) * 2) (xs ++ ys) (one_more 2 (length bs)) (integers-append vs 2 (length bs * 2) xs ys a c))))
