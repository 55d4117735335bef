-- The header of a DO and the bounds of ALLOCATE are what their sources say.
use Rattle.std.proofs.Common.{◌≡◌, refl, sym, ap, ◌∙◌, ℕ, false, List, [], ◌∷◌, map, All, Option, Some, None, Ok, Err, ℤ, pos, arith}
use Rattle.std.proofs.lemmas.List.Elements.{All-nil, All-cons, All-head, All-tail}
use Rattle.ws_base.specs.declared.refusal.RefusalKind.TheVariants as kind
use Rattle.ws_base.specs.Outcomes.{Staged, ◌>>=◌}
use Rattle.ws_space.specs.declared.shape.Dim.{Dim}
use Rattle.ws_space.specs.declared.shape.Triplet.{Triplet}
use Rattle.ws_space.specs.Shapes.{declared_dim}
use Rattle.ws_space.specs.Sections.{with_stride}
use Rattle.ws_tree.specs.declared.expr.Expr.{Expr}
use Rattle.ws_tree.specs.declared.expr.Expr.TheVariants.{Number}
use Rattle.ws_tree.specs.declared.stmt.Bound.{Bound}
use Rattle.ws_tree.specs.declared.stmt.Bound.TheVariants as bound
use Rattle.ws_tree.specs.Grammatical.{IsSide, IsOptional, IsBound}
use Rattle.ws_types.specs.declared.types.Row.{Row}
use Rattle.ws_types.specs.Kinds.{when}
use Rattle.ws_types.specs.Expressions.{typed, faults}
use Rattle.ws_types.specs.Operations.{scalar_faults}
use Rattle.ws_types.specs.Lists.{given_faults}
use Rattle.ws_sema.specs.Statements.{scalar_expr_faults, allocated_bound_faults, allocated_bounds_faults}
use Rattle.ws_sema.proofs.NoFaults.{none_first, none_after, impossible}
use Rattle.array_meaning.specs.declared.world.World.{World}
use Rattle.array_meaning.specs.declared.term.Term.{Term}
use Rattle.array_meaning.specs.Stage1 as source
use Rattle.array_meaning.specs.Stage1.{value_of}
use Rattle.array_meaning.specs.Forall.{stepping}
use Rattle.array_meaning.specs.Program.{bound_dims}
use Rattle.hlfir_ops.specs.declared.op.ValueId.{ValueId}
use Rattle.hlfir_ops.specs.declared.op.Op.{Op}
use Rattle.hlfir_meaning.specs.Environments.{scalar, scalar_in, Environment, of_variables, Value}
use Rattle.hlfir_meaning.specs.Stage1.{walk}
use Rattle.hlfir_meaning.specs.Statements.{bounds, loop_steps, loop_triplet}
use Rattle.lower_values.specs.Scopes.{Scope}
use Rattle.lower_assign.specs.Statements.{all_yielded, all_bounds}
use Rattle.lower_constructs.specs.Modules.{triple}
use Rattle.kind_laws.proofs.Sides.{sides_are_expressions}
use Rattle.world_laws.specs.Yields.{region, scalars_of}
use Rattle.world_laws.specs.Meanings.{StandsOutside, IsIntegerScalar, ListsMean}
use Rattle.world_laws.proofs.Listing.{triple-list, stride_of, triple_exprs}
use Rattle.run_laws.proofs.Yielding.{YieldsScalars, list_yielded}
use Rattle.run_laws.proofs.BoundsListed.{bounds-list, bounds_exprs}

-- ---- what operands hold

abbrev scalars_in : Environment → List ValueId → List ℤ
scalars_in env = map (λ v. scalar_in (env v.number))

values_in : (vs : List Value) (zs : List ℤ) → vs ≡ map scalar zs → map scalar_in vs ≡ zs
values_in vs zs h = ap (map scalar_in) h ∙ same zs where
  same : (zs : List ℤ) → map scalar_in (map scalar zs) ≡ zs
  same [] = refl
  same (z ∷ zs) = ap (λ l. z ∷ l) (same zs)

-- the operands hold these values
scalars_are : (env : Environment) (vs : List ValueId) (zs : List ℤ) → map (λ v. env v.number) vs ≡ map scalar zs → scalars_in env vs ≡ zs
scalars_are env vs zs h = one_map vs ∙ values_in (map (λ v. env v.number) vs) zs h where
  one_map : (vs : List ValueId) → scalars_in env vs ≡ map scalar_in (map (λ v. env v.number) vs)
  one_map [] = refl
  one_map (v ∷ vs) = ap (λ l. scalar_in (env v.number) ∷ l) (one_map vs)

abbrev triplet_of : List ℤ → Staged Triplet
triplet_of (l ∷ u ∷ s ∷ more) = with_stride (record { l = l; u = u; s = s })
triplet_of _ = Ok (record { l = pos 1; u = pos 0; s = pos 1 })

abbrev pairs : List ℤ → List Dim
pairs (l ∷ u ∷ more) = declared_dim l u ∷ pairs more
pairs _ = []

steps_are : (env : Environment) (vs : List ValueId) → loop_steps env vs ≡ triplet_of (scalars_in env vs)
steps_are env [] = refl
steps_are env (l ∷ []) = refl
steps_are env (l ∷ u ∷ []) = refl
steps_are env (l ∷ u ∷ s ∷ vs) = refl

bounds_are : (env : Environment) (vs : List ValueId) → bounds env vs ≡ pairs (scalars_in env vs)
bounds_are env [] = refl
bounds_are env (l ∷ []) = refl
bounds_are env (l ∷ u ∷ vs) = ap (λ ds. declared_dim (scalar_in (env l.number)) (scalar_in (env u.number)) ∷ ds) (bounds_are env vs)

-- ---- a region that yields them

module _ {A : Type 0} (w : World) (n : ℕ) (ops : List Op) (f : Environment → List ValueId → A) (g : List ℤ → A) (same : (env : Environment) (vs : List ValueId) → f env vs ≡ g (scalars_in env vs)) where
  yielded_as : {B : Type 0} (k : A → Staged B) (r : Staged (List ℤ)) → YieldsScalars w n ops r → (walk (of_variables w.vars) (region n ops) >>= (λ y. k (f y.env y.parts))) ≡ (r >>= (λ zs. k (g zs)))
  yielded_as k (Ok zs) h = ap (λ r. r >>= (λ y. k (f y.env y.parts))) h.1 ∙ ap k (same h.0.env h.0.parts ∙ ap g (scalars_are h.0.env h.0.parts zs h.2))
  yielded_as k (Err t) h = ap (λ r. r >>= (λ y. k (f y.env y.parts))) h

-- ---- the sources

three : (a b c : Staged Term) → ((a >>= (λ t. Ok (value_of t))) >>= (λ l. (b >>= (λ t. Ok (value_of t))) >>= (λ u. (c >>= (λ t. Ok (value_of t))) >>= (λ s. with_stride (record { l = l; u = u; s = s }))))) ≡
    ((a >>= (λ t. (b >>= (λ x. (c >>= (λ y. Ok (value_of y ∷ []))) >>= (λ zs. Ok (value_of x ∷ zs)))) >>= (λ zs. Ok (value_of t ∷ zs)))) >>= triplet_of)
three (Ok x) (Ok y) (Ok z) = refl
three (Ok x) (Ok y) (Err t) = refl
three (Ok x) (Err t) c = refl
three (Err t) b c = refl

stepping_is : (w : World) (l u : Expr) (st : Option Expr) → (scalars_of w (triple_exprs l u st) >>= triplet_of) ≡ stepping w l u st
stepping_is w l u None = sym (three (source.walk w l) (source.walk w u) (source.walk w (Number 1)))
stepping_is w l u (Some e) = sym (three (source.walk w l) (source.walk w u) (source.walk w e))

-- bounds that are no `:` alone
abbrev IsGiven : Bound → Type 0
IsGiven bound.Deferred = ⊥
IsGiven b = Unit {0}

one_more : (a : Staged Term) (q : Staged (List ℤ)) → ((a >>= (λ t. Ok (value_of t))) >>= (λ u. Ok (declared_dim (pos 1) u))) >>= (λ d. (q >>= (λ zs. Ok (pairs zs))) >>= (λ ds. let r : Staged (List Dim) = Ok (d ∷ ds) in r)) ≡
    (((a >>= (λ t. q >>= (λ zs. Ok (value_of t ∷ zs)))) >>= (λ zs. let r : Staged (List ℤ) = Ok (pos 1 ∷ zs) in r)) >>= (λ zs. Ok (pairs zs)))
one_more (Ok x) (Ok zs) = refl
one_more (Ok x) (Err t) = refl
one_more (Err t) q = refl

two_more : (a b : Staged Term) (q : Staged (List ℤ)) → ((a >>= (λ t. Ok (value_of t))) >>= (λ l. (b >>= (λ t. Ok (value_of t))) >>= (λ u. Ok (declared_dim l u)))) >>= (λ d. (q >>= (λ zs. Ok (pairs zs))) >>= (λ ds. let r : Staged (List Dim) = Ok (d ∷ ds) in r)) ≡
    ((a >>= (λ x. (b >>= (λ y. q >>= (λ zs. Ok (value_of y ∷ zs)))) >>= (λ zs. let r : Staged (List ℤ) = Ok (value_of x ∷ zs) in r))) >>= (λ zs. Ok (pairs zs)))
two_more (Ok x) (Ok y) (Ok zs) = refl
two_more (Ok x) (Ok y) (Err t) = refl
two_more (Ok x) (Err t) q = refl
two_more (Err t) b q = refl

dims_is : (w : World) (bs : List Bound) → All IsGiven bs → (scalars_of w (bounds_exprs bs) >>= (λ zs. Ok (pairs zs))) ≡ bound_dims w bs
dims_is w [] h = refl
dims_is w (bound.Upper u ∷ bs) h =
    sym (one_more (source.walk w u) (scalars_of w (bounds_exprs bs)))
    ∙ ap (λ r. ((source.walk w u >>= (λ t. Ok (value_of t))) >>= (λ u. Ok (declared_dim (pos 1) u))) >>= (λ d. r >>= (λ ds. let r : Staged (List Dim) = Ok (d ∷ ds) in r))) (dims_is w bs (All-tail IsGiven _ bs h))
dims_is w (bound.Both l u ∷ bs) h =
    sym (two_more (source.walk w l) (source.walk w u) (scalars_of w (bounds_exprs bs)))
    ∙ ap (λ r. ((source.walk w l >>= (λ t. Ok (value_of t))) >>= (λ l. (source.walk w u >>= (λ t. Ok (value_of t))) >>= (λ u. Ok (declared_dim l u)))) >>= (λ d. r >>= (λ ds. let r : Staged (List Dim) = Ok (d ∷ ds) in r)))
    (dims_is w bs (All-tail IsGiven _ bs h))
dims_is w (bound.Deferred ∷ bs) h = absurd (All-head IsGiven bound.Deferred bs h)

-- ---- where no rule is broken

module _ (t : List Row) (line : ℕ) where
  one_scalar : IsIntegerScalar t line (Number 1)
  unfolding scalar_faults when Rattle.ws_types.specs.Expressions.number_faults
  one_scalar = (omega arith, refl, refl)

  side_scalar : (e : Expr) → IsSide e → scalar_expr_faults t line e ≡ [] → IsIntegerScalar t line e
  side_scalar e h f = (sides_are_expressions t false line e h (none_first _ _ f), none_first _ _ f, none_after _ _ f)

  stride_scalar : (e : Option Expr) → IsOptional e → given_faults t false line e ≡ [] → IsIntegerScalar t line (stride_of e)
  stride_scalar None h f = one_scalar
  stride_scalar (Some e) h f = side_scalar e h f

  both : (a b : Expr) (es : List Expr) → IsIntegerScalar t line a → IsIntegerScalar t line b → All (IsIntegerScalar t line) es → All (IsIntegerScalar t line) (a ∷ b ∷ es)
  both a b es h g k = All-cons (IsIntegerScalar t line) a (b ∷ es) h (All-cons (IsIntegerScalar t line) b es g k)

  bounds_given : (bs : List Bound) → allocated_bounds_faults t line bs ≡ [] → All IsGiven bs
  bounds_given [] f = All-nil IsGiven
  bounds_given (bound.Upper u ∷ bs) f = All-cons IsGiven (bound.Upper u) bs tt (bounds_given bs (none_after _ _ f))
  bounds_given (bound.Both l u ∷ bs) f = All-cons IsGiven (bound.Both l u) bs tt (bounds_given bs (none_after _ _ f))
  bounds_given (bound.Deferred ∷ bs) f = impossible line kind.NotAllocatable (none_first _ _ f)

  bounds_scalar : (bs : List Bound) → All IsBound bs → allocated_bounds_faults t line bs ≡ [] → All (IsIntegerScalar t line) (bounds_exprs bs)
  bounds_scalar [] h f = All-nil (IsIntegerScalar t line)
  bounds_scalar (bound.Upper u ∷ bs) h f =
      both (Number 1) u (bounds_exprs bs) one_scalar (side_scalar u (All-head IsBound (bound.Upper u) bs h) (none_first _ _ f)) (bounds_scalar bs (All-tail IsBound (bound.Upper u) bs h) (none_after _ _ f))
  bounds_scalar (bound.Both l u ∷ bs) h f =
      let sides = All-head IsBound (bound.Both l u) bs h in
      let here = none_first (allocated_bound_faults t line (bound.Both l u)) _ f in
      both l u (bounds_exprs bs) (side_scalar l sides.0 (none_first _ _ here)) (side_scalar u sides.1 (none_after _ _ here)) (bounds_scalar bs (All-tail IsBound (bound.Both l u) bs h) (none_after _ _ f))
  bounds_scalar (bound.Deferred ∷ bs) h f = impossible line kind.NotAllocatable (none_first _ _ f)

-- ---- the laws

module _ (lists : ListsMean) (t : List Row) (line : ℕ) (s : Scope) (n : ℕ) (w : World) (stands : StandsOutside t s w n) where
  pub header_is : (l u : Expr) (st : Option Expr) → IsSide l → IsSide u → IsOptional st → scalar_expr_faults t line l ≡ [] → scalar_expr_faults t line u ≡ [] → given_faults t false line st ≡ [] →
      loop_triplet w.vars (region n (all_yielded (triple l u st) s n).ops) ≡ stepping w l u st
  header_is l u st hl hu hs fl fu fs =
      let scalars = both t line l u (stride_of st ∷ []) (side_scalar t line l hl fl) (side_scalar t line u hu fu) (All-cons (IsIntegerScalar t line) (stride_of st) [] (stride_scalar t line st hs fs) (All-nil (IsIntegerScalar t line))) in
      yielded_as w n (all_yielded (triple l u st) s n).ops loop_steps triplet_of steps_are (λ r. r) (scalars_of w (triple_exprs l u st)) (list_yielded lists t line (triple_exprs l u st) (triple l u st) (triple-list l u st) s n w stands scalars)
      ∙ stepping_is w l u st

  pub dims_are : {B : Type 0} (bs : List Bound) → All IsBound bs → allocated_bounds_faults t line bs ≡ [] → (k : List Dim → Staged B) →
      (walk (of_variables w.vars) (region n (all_yielded (all_bounds bs) s n).ops) >>= (λ y. k (bounds y.env y.parts))) ≡ (bound_dims w bs >>= k)
  dims_are bs h f k =
      yielded_as w n (all_yielded (all_bounds bs) s n).ops bounds pairs bounds_are k (scalars_of w (bounds_exprs bs)) (list_yielded lists t line (bounds_exprs bs) (all_bounds bs) (bounds-list bs) s n w stands (bounds_scalar t line bs h f))
      ∙ (apart (scalars_of w (bounds_exprs bs)) ∙ ap (λ r. r >>= k) (dims_is w bs (bounds_given t line bs f))) where
        apart : (r : Staged (List ℤ)) → (r >>= (λ zs. k (pairs zs))) ≡ ((r >>= (λ zs. Ok (pairs zs))) >>= k)
        apart (Ok zs) = refl
        apart (Err e) = refl
