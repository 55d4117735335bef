-- An item of READ is no designator with a vector subscript.
use Rattle.std.proofs.Common.{◌≡◌, refl, sym, ap, ◌∙◌, ℕ, suc, ◌==◌, nat_lt, Bool, true, false, ◌||◌, List, [], ◌∷◌, map, All, Option, Some, None, arith, if◌then◌else◌}
use Rattle.std.specs.List.{list_any}
use Rattle.std.proofs.lemmas.List.Elements.{All-nil, All-cons, All-head, All-tail}
use mathlib.Core.Former.{Count}
use Rattle.ws_base.specs.declared.name.Name.{Name}
use Rattle.ws_tree.specs.declared.expr.Expr.{Expr}
use Rattle.ws_tree.specs.declared.expr.Expr.TheVariants.{TooDeep, Named, Part'}
use Rattle.ws_tree.specs.declared.expr.Sub.TheVariants as sub
use Rattle.ws_tree.specs.Trees.{Subs, end_subs, more_subs}
use Rattle.ws_tree.specs.Grammatical.{IsDesignator, HasSubs, AreSubs}
use Rattle.ws_types.specs.declared.types.Row.{Row}
use Rattle.ws_types.specs.declared.types.Typed.{Typed}
use Rattle.ws_types.specs.declared.types.Subscripts.{Subscripts}
use Rattle.ws_types.specs.Operations.{with_subscript, no_subscripts}
use Rattle.ws_types.specs.Expressions.{typed, faults, subs_faults, wide_faults}
use Rattle.ws_types.specs.Expressions as types
use Rattle.ws_sema.specs.Statements.{has_vector}
use Rattle.ws_sema.proofs.NoFaults.{none_first, none_after, left_false, right_false}
use Rattle.hlfir_ops.specs.declared.what.What.TheVariants as what
use Rattle.hlfir_ops.specs.RulesValues.{Value, Source, Declares, Other, is_allocatable, is_vector, value_at, elem_of, rank_of, is_vector_designate, has_vector_source}
use Rattle.hlfir_ops.specs.RulesForms.{section_rank}
use Rattle.lower_values.specs.declared.operand.Operand.{Operand}
use Rattle.lower_values.specs.declared.operand.Subscript.{Subscript}
use Rattle.lower_values.specs.declared.operand.Subscript.TheVariants.{One, Range, Vector}
use Rattle.lower_values.specs.Scopes.{Scope}
use Rattle.lower_values.specs.Lowerings.{done, ◌>>=◌, giving}
use Rattle.lower_values.specs.References.{subscript_of, sub_kind, part_kind, designated}
use Rattle.lower_values.specs.Values.{value, subscripts, subscript}
use Rattle.lower_assign.specs.Statements.{left_of}
use Rattle.kind_laws.specs.Standing.{Knows}
use Rattle.kind_laws.specs.Found.{Holds, ScopeIsFound, IsLeftOf}
use Rattle.kind_laws.proofs.Made.{Makes, makes-done, makes-then, IsOf}
use Rattle.kind_laws.proofs.TypedExpressions.{type_known}
use Rattle.kind_laws.proofs.ExpressionsMade.{value_made}
use Rattle.kind_laws.proofs.Finding.{own_value}
use Rattle.kind_laws.proofs.TypesTold.{not_above}
use Rattle.yield_laws.proofs.Usable.{IsUsable, IsValue}
use Rattle.yield_laws.proofs.Walking.{Walks}
use Rattle.yield_laws.proofs.Values.{IsReachedBy, walks-designated, part-steps-by, walks-subscripts}

-- no vector
abbrev IsSingle : Subscript → Type 0
IsSingle x = is_vector (sub_kind x) ≡ false

none_vector : (xs : List Subscript) → All IsSingle xs → list_any is_vector (map sub_kind xs) ≡ false
none_vector [] h = refl
none_vector (x ∷ xs) h = ap (λ b. b || list_any is_vector (map sub_kind xs)) (All-head IsSingle x xs h) ∙ none_vector xs (All-tail IsSingle x xs h)

single_of : (x : Operand) → rank_of x.kind ≡ 0 → IsSingle (subscript_of x)
single_of x none = let is : (rank_of x.kind == 0) ≡ true = grind (arith, none) in ap (λ b. is_vector (sub_kind (if b then One x.value else Vector x.value))) is

module _ (t : List Row) (inside : Bool) where
  before_subscript : (c : Subscripts) (o : Option Typed) → (with_subscript c o).vectors ≡ false → c.vectors ≡ false
  before_subscript c None h = h
  before_subscript c (Some ty) h = left_false c.vectors (nat_lt 0 ty.rank) h

  before_all : {m : Count} (ss : Subs m) (c : Subscripts) → (types.subscripts t inside c ss).vectors ≡ false → c.vectors ≡ false
  before_all end_subs c h = h
  before_all (more_subs (sub.One e) ss) c h = before_subscript c (typed t inside e) (before_all ss (types.with_sub t inside c (sub.One e)) h)
  before_all (more_subs (sub.Range' l u st) ss) c h = before_all ss (types.with_sub t inside c (sub.Range' l u st)) h

  scalar_subscript : (c : Subscripts) (o : Option Typed) (ty : Typed) → o ≡ Some ty → (with_subscript c o).vectors ≡ false → ty.rank ≡ 0
  scalar_subscript c o ty is h = not_above ty.rank (right_false c.vectors (nat_lt 0 ty.rank) (ap (λ q. (with_subscript c q).vectors) (sym is) ∙ h))

  module _ (line : ℕ) (s : Scope) (knows : Knows t s) where
    next_single : {m : Count} (r : Operand) (dim : ℕ) (x : _) (ss : Subs m) → Makes s IsSingle (subscript r dim x) → Makes s (All IsSingle) (subscripts r (suc dim) ss) → Makes s (All IsSingle) (subscripts r dim (more_subs x ss))
    next_single r dim x ss h g =
        makes-then s IsSingle (All IsSingle) (subscript r dim x) (λ y. subscripts r (suc dim) ss >>= (λ ys. done (y ∷ ys))) h
        (λ y a. makes-then s (All IsSingle) (All IsSingle) (subscripts r (suc dim) ss) (λ ys. done (y ∷ ys)) g (λ ys b. makes-done s (All IsSingle) (y ∷ ys) (All-cons IsSingle y ys a b)))

    singles : {m : Count} (r : Operand) (dim : ℕ) (c : Subscripts) (ss : Subs m) → AreSubs ss → subs_faults t inside line ss ≡ [] → (types.subscripts t inside c ss).vectors ≡ false → Makes s (All IsSingle) (subscripts r dim ss)
    singles r dim c end_subs h f v = makes-done s (All IsSingle) [] (All-nil IsSingle)
    singles r dim c (more_subs (sub.One e) ss) h f v =
        let none = none_first _ _ (none_first _ _ f) in
        let one = type_known t inside line e none in
        let next = types.with_sub t inside c (sub.One e) in
        let rank = scalar_subscript c (typed t inside e) one.0 one.1 (before_all ss next v) in
        next_single r dim (sub.One e) ss
        (makes-then s (IsOf one.0) IsSingle (value e) (λ x. done (subscript_of x)) (value_made t inside line s knows e one.0 h.0 none one.1) (λ x made. makes-done s IsSingle (subscript_of x) (single_of x (made.rank ∙ rank))))
        (singles r (suc dim) next ss h.1 (none_after _ _ f) v)
    singles r dim c (more_subs (sub.Range' l u st) ss) h f v =
        next_single r dim (sub.Range' l u st) ss (range_single r dim l u st) (singles r (suc dim) (types.with_sub t inside c (sub.Range' l u st)) ss h.3 (none_after _ _ f) v)
      where
        range_single : (r : Operand) (dim : ℕ) (l u st : _) → Makes s IsSingle (subscript r dim (sub.Range' l u st))
        range_single r dim l u st =
            makes-then s (λ _. Unit {0}) IsSingle _ _ (λ n. tt) (λ x _. makes-then s (λ _. Unit {0}) IsSingle _ _ (λ n. tt)
            (λ y _. makes-then s (λ _. Unit {0}) IsSingle _ _ (λ n. tt) (λ z _. makes-done s IsSingle (Range x.value y.value z.value) refl)))

-- ---- items

abbrev pub IsNoVector : List Value → Operand → Type 0
IsNoVector vs x = is_vector_designate (value_at vs x.value) ≡ false

module _ (vs : List Value) (s : Scope) (n : ℕ) where
  designated_no_vector : (r : Operand) (xs : List Subscript) → IsUsable vs r → All (IsReachedBy vs) xs × All IsSingle xs → Walks vs (IsValue vs) s n (designated r xs) (IsNoVector vs)
  unfolding designated giving
  designated_no_vector r xs u h held = (
    (walks-designated vs s n r xs u h.0 held).0,
    ap is_vector_designate (own_value vs _ (what.Designate (map sub_kind xs)) s.line _ (part_kind (elem_of r.kind) (section_rank (map sub_kind xs))) [] [] held) ∙ none_vector xs h.1,
  )

module _ (vs : List Value) (t : List Row) (line : ℕ) (s : Scope) (knows : Knows t s) (scope : ScopeIsFound vs s) (n : ℕ) where
  part_no_vector : (x : Name) (c : _) (ss : _) → HasSubs ss → AreSubs ss → faults t false line (Part' x c ss) ≡ [] → has_vector t (Part' x c ss) ≡ false → Walks vs (IsValue vs) s n (left_of true (Part' x c ss)) (IsNoVector vs)
  part_no_vector x c ss has h f v =
      let inner = none_after _ _ (none_first _ _ f) in
      part-steps-by vs t false line s knows scope x ss has f n (λ xs. All (IsReachedBy vs) xs × All IsSingle xs) (IsNoVector vs)
      (λ k r u held. let w = walks-subscripts vs t false line s knows scope r u 1 ss h inner k held in (w.0, (w.1, singles t false line s knows r 1 no_subscripts ss h inner v k))) (λ k r xs u us. designated_no_vector vs s k r xs u us)

  whole_no_vector : (b : Bool) (source : Source) → source ≡ (if b then Other else Declares) → has_vector_source source ≡ false
  whole_no_vector true source is = ap has_vector_source is
  whole_no_vector false source is = ap has_vector_source is

  pub item-no-vector : (e : Expr) (ty : Typed) → IsDesignator e → faults t false line e ≡ [] → has_vector t e ≡ false → IsLeftOf vs true e ty (left_of true e s n).made → Holds vs n (left_of true e s n).ops → IsNoVector vs (left_of true e s n).made
  item-no-vector (Named x) ty h f v left held = ap is_vector_designate left.found ∙ whole_no_vector (is_allocatable (Some (left_of true (Named x) s n).made.kind)) left.value.source left.source
  item-no-vector (Part' x c ss) ty h f v left held = (part_no_vector x c ss h.1 h.2 f v held).1
  item-no-vector TooDeep ty h f v left held = absurd left.source
  item-no-vector _ ty h f v left held = absurd h
