-- The sides of an assignment in a FORALL, as regions over combinations.
use Rattle.std.proofs.Common.{◌≡◌, refl, sym, ap, ◌∙◌, subst, ℕ, ◌≤◌, Bool, true, false, ◌||◌, List, [], map, Option, Some, None, if◌then◌else◌, true≢false, arith}
use Rattle.std.proofs.lemmas.Bool.{ltb-false}
use Rattle.ws_base.specs.declared.refusal.RefusalKind.TheVariants as kind
use Rattle.ws_space.specs.declared.state.Var.{Var}
use Rattle.ws_space.specs.Values.{state_of}
use Rattle.ws_tree.specs.declared.expr.Expr.{Expr}
use Rattle.ws_tree.specs.declared.expr.Expr.TheVariants.{TooDeep, Named, Part'}
use Rattle.ws_tree.specs.Grammatical.{IsSide, IsDesignator}
use Rattle.ws_types.specs.declared.types.Typed.{Typed}
use Rattle.ws_types.specs.declared.types.Row.{Row}
use Rattle.ws_types.specs.declared.types.Standing.{Standing}
use Rattle.ws_types.specs.Names.{standing_of, target_faults, target_type, is_constant, is_active}
use Rattle.ws_types.specs.Operations.{is_above}
use Rattle.ws_types.specs.Expressions.{typed, faults, wide_faults}
use Rattle.ws_sema.specs.declared.within.Within.TheVariants as within
use Rattle.ws_sema.specs.Statements.{has_no_subscripts, left_faults, left_type, sides_faults, assign_faults}
use Rattle.ws_sema.proofs.NoFaults.{none_first, none_after, not_broken, impossible, left_false, right_false}
use Rattle.array_meaning.specs.declared.world.World.{World}
use Rattle.array_meaning.specs.Forall as source
use Rattle.array_meaning.specs.Forall.{Combination}
use Rattle.array_meaning.specs.Assign.{target_name}
use Rattle.hlfir_ops.specs.declared.what.What.{What}
use Rattle.hlfir_ops.specs.Numbers.{names_in}
use Rattle.hlfir_meaning.specs.Environments.{Environment}
use Rattle.hlfir_meaning.specs.Places.{column_at, over_ops}
use Rattle.lower_values.specs.Scopes.{Scope, inside, index_of}
use Rattle.lower_values.specs.Scopes as scopes
use Rattle.lower_values.specs.Values.{value}
use Rattle.lower_assign.specs.Statements.{yielded, left, left_of}
use Rattle.kind_laws.specs.Standing.{Knows}
use Rattle.kind_laws.proofs.TypedExpressions.{type_known}
use Rattle.kind_laws.proofs.Sides.{sides_are_expressions}
use Rattle.value_laws.proofs.Walking.{does-scoped}
use Rattle.world_laws.proofs.Fitting.{state_fits}
use Rattle.forall_laws.specs.Walks.{IsColumn, ArePlaces}
use Rattle.forall_laws.specs.Combined.{IndexStands, StandsOver}
use Rattle.forall_laws.proofs.Yields.{YieldsOver, over-yielded}
use Rattle.forall_laws.proofs.Assigned.{IsValue, IsTarget}
use Rattle.forall_laws.proofs.Expressions.{over-value}
use Rattle.forall_laws.proofs.Lefts.{over-target}
use Rattle.forall_laws.proofs.Ranks.{part_variable}
use Rattle.forall_laws.proofs.Given.{stands-later}

-- ---- scopes inside ops that bring no index names

module _ (at : List ℕ) (of : ℕ → Combination) (s : Scope) (w : World) (n : ℕ) (env : Environment) where
  pub stands-inside : (op : What) (line k first : ℕ) → names_in op k ≡ [] → StandsOver at of s w n env → StandsOver at of (inside op line k first s) w n env
  stands-inside op line k first none h = record {
    world = h.world;
    variables = h.variables;
    declared = h.declared;
    indexes = λ x. subst (λ xs. IndexStands at of s.names env n x (index_of (scopes.with_indexes first xs s.indexes) x)) (sym none) (h.indexes x);
  }

  pub stands-higher : (m : ℕ) → n ≤ m → StandsOver at of s w n env → StandsOver at of s w m env
  stands-higher m l h = stands-later at of s w n m env env l (λ k low. refl) h

-- ---- ranks

pub zero_rank : (o : Option Typed) (ty : Typed) → o ≡ Some ty → is_above 0 o ≡ false → ty.rank ≡ 0
zero_rank o ty h f = let low = ltb-false 0 ty.rank (ap (is_above 0) (sym h) ∙ f) in omega (arith, low)

-- what is refused of an assignment in a FORALL
pub record SidesAreScalar (t : List Row) (line : ℕ) (l r : Expr) : Type 0 where
  pub left : left_faults t true line l ≡ []
  pub right : faults t true line r ≡ []
  pub left_rank : is_above 0 (left_type t true l) ≡ false
  pub right_rank : is_above 0 (typed t true r) ≡ false
  pub subscripted : has_no_subscripts l ≡ false

pub sides_scalar : (t : List Row) (line : ℕ) (l r : Expr) → assign_faults t within.Forall line l r ≡ [] → SidesAreScalar t line l r
unfolding sides_faults
sides_scalar t line l r f =
    let sides = none_after _ _ (none_first _ _ f) in
    let ranks = not_broken _ _ _ (none_first _ _ (none_first _ _ sides)) in
    record {
      left = none_first _ _ (none_first _ _ (none_first _ _ f));
      right = none_after _ _ (none_first _ _ (none_first _ _ f));
      left_rank = left_false _ _ ranks;
      right_rank = right_false _ _ ranks;
      subscripted = right_false _ _ (not_broken _ _ _ (none_after _ _ sides));
    }

module _ (t : List Row) (line : ℕ) (s : Scope) (k : Knows t s) (at : List ℕ) (of : ℕ → Combination) (w : World) (n : ℕ) (env : Environment) (stands : StandsOver at of s w n env) where
  -- an expression of rank 0
  pub value-yielded : (e : Expr) → IsSide e → faults t true line e ≡ [] → is_above 0 (typed t true e) ≡ false → YieldsOver at n env (yielded (value e) s n).ops (source.over w e (map of at)) (IsValue at)
  value-yielded e side f above =
      let type = type_known t true line e f in
      over-yielded at s n env (value e) (source.over w e (map of at)) IsColumn (IsValue at) (λ xs after h. ap (column_at at) h.found)
      (over-value t line s k at of w e type.0 (sides_are_expressions t true line e side f) f type.1 (zero_rank (typed t true e) type.0 type.1 above) n env stands)

  kept_type : (st : Option Standing) (o : Option Typed) → target_faults line st ≡ [] → target_type st o ≡ o
  unfolding target_faults
  kept_type st o f = by (is_constant st) (is_active st) (not_broken _ _ _ (none_first _ _ f)) (not_broken _ _ _ (none_after _ _ f)) where
    by : (b c : Bool) → b ≡ false → c ≡ false → (if b || c then None else o) ≡ o
    by true c h g = absurd (true≢false h)
    by false true h g = absurd (true≢false g)
    by false false h g = refl

  pub record Targets (l : Expr) : Type 0 where
    pub var : Var
    pub name : var.name ≡ target_name l
    pub held : var.state ≡ state_of w.vars (target_name l)
    pub yields : YieldsOver at n env (yielded (left l) s n).ops (source.over_targets w l (map of at)) (IsTarget var)

  -- an element that is assigned
  pub left-yielded : (l : Expr) → IsDesignator l → left_faults t true line l ≡ [] → is_above 0 (left_type t true l) ≡ false → has_no_subscripts l ≡ false → Targets l
  unfolding left wide_faults
  left-yielded (Named x) g f above some = absurd (true≢false some)
  left-yielded (Part' x h subs) g f above some =
      let none = none_first _ _ (none_first _ _ f) in
      let type = type_known t true line (Part' x h subs) none in
      let rank = ap (is_above 0) (sym (kept_type (standing_of t x) (typed t true (Part' x h subs)) (none_after _ _ (none_first _ _ f)))) ∙ above in
      let d = part_variable t line s x subs k g.1 (none_first _ _ (none_first _ _ none)) (none_after _ _ none) in
      let v = state_fits s.names w x d.0 stands.world d.1 in
      record {
        var = v.var;
        name = v.name;
        held = v.state;
        yields = over-yielded at s n env (left (Part' x h subs)) (source.over_targets w (Part' x h subs) (map of at)) (ArePlaces v.var) (IsTarget v.var) (λ ps after p. p.found)
            (does-scoped (over_ops at) s n env (λ q. left_of q.masked (Part' x h subs)) (source.over_targets w (Part' x h subs) (map of at)) (ArePlaces v.var)
            (over-target t line s k at of w x subs type.0 g.1 g.2 none type.1 (zero_rank (typed t true (Part' x h subs)) type.0 type.1 rank) n env stands d));
      }
  left-yielded TooDeep g f above some = impossible line kind.OverLimit (none_first _ _ (none_first _ _ f))
  left-yielded _ g f above some = absurd g
