-- Operators and parentheses are clear: what they make is a vector subscript only where this is said.
use Rattle.std.proofs.Common.{◌≡◌, refl, sym, ap, ◌∙◌, subst, ℕ, ◌+◌, ◌≤◌, ◌==◌, Bool, true, false, List, [], ◌∷◌, ◌++◌, map, arith, if◌then◌else◌}
use Rattle.std.specs.Prelude.{◌&&◌, not}
use Rattle.std.proofs.lemmas.Bool.{true≢false}
use Rattle.std.proofs.lemmas.List.{append-nil}
use Rattle.ws_base.specs.declared.name.Name.{Name}
use Rattle.ws_base.specs.declared.op.UnOp.{UnOp}
use Rattle.ws_base.specs.declared.op.UnOp.TheVariants as unop
use Rattle.ws_space.specs.Values.{is_among}
use Rattle.ws_tree.specs.declared.expr.Expr.{Expr}
use Rattle.ws_tree.specs.declared.expr.Expr.TheVariants.{Named, Part', Vector'}
use Rattle.ws_tree.specs.Trees.{Exprs, Subs, paren, unary}
use Rattle.ws_types.specs.declared.constant.Constancy.{Constancy}
use Rattle.ws_types.specs.declared.constant.Constancy.TheVariants.{Value, NoValue, NotConstant}
use Rattle.ws_types.specs.Constants.{constancy}
use Rattle.ws_types.specs.Sections.{is_section, is_designator}
use Rattle.hlfir_ops.specs.declared.kinds.Elem.{Elem}
use Rattle.hlfir_ops.specs.declared.kinds.ValueKind.{ValueKind}
use Rattle.hlfir_ops.specs.declared.kinds.ValueKind.TheVariants as kind
use Rattle.hlfir_ops.specs.declared.what.What.TheVariants as what
use Rattle.hlfir_ops.specs.Numbers.{numbers_of}
use Rattle.hlfir_ops.specs.RulesValues.{elem_of}
use Rattle.hlfir_ops.specs.RulesForms.{section_rank}
use Rattle.lower_values.specs.declared.operand.Operand.{Operand}
use Rattle.lower_values.specs.Scopes.{Scope}
use Rattle.lower_values.specs.Lowerings.{Lowering, done, giving, scoped, ◌>>=◌ as ◌then◌}
use Rattle.lower_values.specs.Operations.{value_of_whole, in_parentheses, unary_operation, vector}
use Rattle.lower_values.specs.References.{loaded, load_of, part_kind, designated, sub_kind, reference}
use Rattle.lower_values.specs.Values.{constant_or, folded, value, values, part_of, subscripts}
use Rattle.value_laws.specs.Variables.{IsNamed}
use Rattle.value_laws.specs.Sound.{IsSound, ByCopy, IsClear}
use Rattle.value_laws.proofs.OwnNumbers.{IsTidy, HasOwn, DeclaresBelow, tidy-giving}
use Rattle.value_laws.proofs.TidyExpressions.{tidy-value}
use Rattle.value_laws.proofs.VectorNumbers.{VectorsFor, vectors-front, vectors-back}
use Rattle.value_laws.proofs.ClearForms.{and-true, IsOne, one-giving, not-taken, number_taken, Vectors, Takes, takes-one}

-- ---- kinds of sections and constructors

abbrev IsNone : ValueKind → Type 0
IsNone k = IsNamed k → ⊥

part_none : (b : Bool) (e : Elem) (rank : ℕ) (x : Operand) (s : Scope) (n : ℕ) → x.kind ≡ (if b then kind.Place e else kind.Section e rank) → IsNone (load_of (if b then kind.Place e else kind.Section e rank) x s n).made.kind
unfolding giving done
part_none true e rank x s n is = λ h. h
part_none false e rank x s n is = λ h. subst IsNamed is h

part_kind_none : {k : _} (x : Name) (subs : Subs k) (s : Scope) (n : ℕ) → IsNone ((part_of x (λ r. subscripts r 1 subs) then loaded) s n).made.kind
unfolding part_of designated giving loaded ◌then◌
part_kind_none x subs s n =
    let m = n + numbers_of (reference x s n).ops in
    let r = (reference x s n).made in
    let ss = subscripts r 1 subs s m in
    let rank = section_rank (map sub_kind ss.made) in
    part_none (rank == 0) (elem_of r.kind) rank (record { value = record { number = m + numbers_of ss.ops }; kind = part_kind (elem_of r.kind) rank }) s _ refl

whole_none : (k : ValueKind) (x : Operand) (s : Scope) (n : ℕ) → x.kind ≡ k → IsNone (value_of_whole k x s n).made.kind
unfolding done giving
whole_none (kind.Declared e shape) x s n is = λ h. h
whole_none (kind.Allocatable e rank) x s n is = λ h. h
whole_none k x s n is = λ h. subst IsNamed is h

-- parentheses and a plus leave no declare and no box
parens_none : (x : Operand) (s : Scope) (n : ℕ) → IsNone (in_parentheses x s n).made.kind
unfolding in_parentheses
parens_none x s n = whole_none x.kind x s n refl

constant_none : (c : Constancy) (p : Lowering Operand) (s : Scope) (n : ℕ) → IsNone (p s n).made.kind → IsNone (constant_or c p s n).made.kind
unfolding giving
constant_none (Value z) p s n h = λ is. is
constant_none NoValue p s n h = h
constant_none NotConstant p s n h = h

folded_none : (e : Expr) (p : Lowering Operand) (s : Scope) (n : ℕ) → IsNone (p s n).made.kind → IsNone (folded e p s n).made.kind
unfolding folded scoped
folded_none e p s n h = constant_none (constancy s.names.constants e) p s n h

after_none : (e : Expr) (s : Scope) (n : ℕ) → IsNone ((value e then in_parentheses) s n).made.kind
unfolding ◌then◌
after_none e s n = parens_none (value e s n).made s (n + numbers_of (value e s n).ops)

vector_none : {k : _} (es : Exprs k) (s : Scope) (n : ℕ) → IsNone ((values es then vector) s n).made.kind
unfolding ◌then◌ vector giving
vector_none es s n = λ h. h

pub section-none : (e : Expr) (s : Scope) (n : ℕ) → is_section e ≡ true → IsNone (value e s n).made.kind
section-none (Part' x _ subs) s n is = part_kind_none x subs s n
section-none (Vector' _ es) s n is = vector_none es s n
section-none (paren e) s n is = folded_none (paren e) (value e then in_parentheses) s n (after_none e s n)
section-none (unary unop.Plus e) s n is = folded_none (unary unop.Plus e) (value e then unary_operation unop.Plus) s n (after_none e s n)
section-none e s n is = absurd (true≢false (sym is))

named-no_section : (e : Expr) (s : Scope) (n : ℕ) → IsNamed (value e s n).made.kind → is_section e ≡ false
named-no_section e s n named = by (is_section e) refl
  where
    by : (b : Bool) → is_section e ≡ b → b ≡ false
    by true is = absurd (section-none e s n is named)
    by false is = refl

-- ---- one lowering after another

abbrev pub no_one : ℕ → Bool
no_one k = false

module _ (base : ℕ) (vectors : List ℕ) (s : Scope) where
  module _ {A : Type 0} (n : ℕ) (g : base ≤ n) (p : Lowering A) (q : A → Lowering Operand) (b : Bool) (h : Takes base vectors s b n (p then q)) where
    abbrev m : ℕ
    m = n + numbers_of (p s n).ops

    -- what comes before takes nothing of it
    pub takes-front : IsTidy base s m m (q (p s n).made) (HasOwn base s m) → Vectors base vectors s n p no_one
    unfolding ◌then◌
    takes-front tidy =
        let number = (q (p s n).made s m).made.value.number in
        vectors-front base vectors n g (p s n).ops (q (p s n).made s m).ops (number_taken b number) no_one h tidy.subscripts
        (λ k low high. not-taken b base m (m + numbers_of (q (p s n).made s m).ops) number k tidy.made (omega (arith, g, low)) high)

    pub takes-back : (P : ℕ → A → Type 0) → IsTidy base s n n p P → Takes base vectors s b m (q (p s n).made)
    unfolding ◌then◌
    takes-back P tidy =
        let number = (q (p s n).made s m).made.value.number in
        vectors-back base vectors n g (p s n).ops (q (p s n).made s m).ops (number_taken b number) (number_taken b number) h tidy.subscripts (λ k low high. refl)

  -- nothing comes after
  pub takes-alone : (n : ℕ) (p : Lowering Operand) (q : Operand → Lowering Operand) (b : Bool) → q (p s n).made ≡ done (p s n).made → Takes base vectors s b n (p then q) → Takes base vectors s b n p
  unfolding ◌then◌ done
  takes-alone n p q b same h =
      let m = n + numbers_of (p s n).ops in
      subst (λ os. VectorsFor base vectors n os (number_taken b (p s n).made.value.number)) (append-nil (p s n).ops)
      (subst (λ f. VectorsFor base vectors n ((p s n).ops ++ (f s m).ops) (number_taken b (f s m).made.value.number)) same h)

-- ---- operators

module _ (base : ℕ) (s : Scope) (below : DeclaresBelow base s) (parts : Bool) (vectors : List ℕ) where
  abbrev pub Goal : Expr → Type 0
  Goal e = (b : Bool) (n : ℕ) → base ≤ n → IsSound parts s e → Takes base vectors s b n (value e) → IsClear vectors s (b && not (is_designator e)) n e

  pub unary-clear : (op : UnOp) (e : Expr) (b : Bool) (n : ℕ) → base ≤ n → IsSound parts s e → ((m : ℕ) (x : Operand) → IsOne s m (unary_operation op x)) →
      ((m : ℕ) (x : Operand) → IsTidy base s m m (unary_operation op x) (HasOwn base s m)) → Goal e → Takes base vectors s b n (value e then unary_operation op) →
      IsClear vectors s false n e × (is_among (n + numbers_of (value e s n).ops) vectors ≡ (b && true))
  unary-clear op e b n g sound one tidy goal h =
      let m = n + numbers_of (value e s n).ops in
      let x = (value e s n).made in (
        goal false n g sound (takes-front base vectors s n g (value e) (unary_operation op) b h (tidy m x)),
        takes-one base vectors s b m (unary_operation op x) (one m x) (takes-back base vectors s n g (value e) (unary_operation op) b h (HasOwn base s n) (tidy-value base s below parts e n n (omega arith) sound)) ∙ sym (and-true b),
      )

  -- ---- parentheses

  copy_one : (k : ValueKind) (m : ℕ) (x : Operand) → IsNamed k → IsOne s m (value_of_whole k x)
  copy_one (kind.Declared e shape) m x named = one-giving s m what.AsExpr (x.value ∷ []) (kind.Array e shape.rank) refl
  copy_one (kind.Allocatable e rank) m x named = one-giving s m what.AsExpr (x.value ∷ []) (kind.Array e rank) refl
  copy_one k m x named = absurd named

  copy_tidy : (k : ValueKind) (m : ℕ) (x : Operand) → IsNamed k → IsTidy base s m m (value_of_whole k x) (HasOwn base s m)
  copy_tidy (kind.Declared e shape) m x named = tidy-giving base s m m (omega arith) what.AsExpr (x.value ∷ []) (kind.Array e shape.rank) refl
  copy_tidy (kind.Allocatable e rank) m x named = tidy-giving base s m m (omega arith) what.AsExpr (x.value ∷ []) (kind.Array e rank) refl
  copy_tidy k m x named = absurd named

  copy_clear : (e : Expr) (b : Bool) (n : ℕ) → base ≤ n → IsSound parts s e → IsNamed (value e s n).made.kind → Goal e → Takes base vectors s b n (value e then in_parentheses) →
      IsClear vectors s false n e × (is_among (n + numbers_of (value e s n).ops) vectors ≡ (b && not (is_section e)))
  unfolding in_parentheses
  copy_clear e b n g sound named goal h =
      let m = n + numbers_of (value e s n).ops in
      let x = (value e s n).made in (
        goal false n g sound (takes-front base vectors s n g (value e) in_parentheses b h (copy_tidy x.kind m x named)),
        takes-one base vectors s b m (in_parentheses x) (copy_one x.kind m x named) (takes-back base vectors s n g (value e) in_parentheses b h (HasOwn base s n) (tidy-value base s below parts e n n (omega arith) sound))
            ∙ (sym (and-true b) ∙ ap (λ c. b && not c) (sym (named-no_section e s n named))),
      )

  inner_clear : (e : Expr) (b : Bool) (n : ℕ) → IsClear vectors s (b && not (is_designator e)) n e → IsClear vectors s (b && not (is_section e)) n e
  inner_clear (Named x) b n h = tt
  inner_clear e b n h = h

  pub parens-clear : (e : Expr) (b : Bool) (n : ℕ) (k : ValueKind) → k ≡ (value e s n).made.kind → base ≤ n → IsSound parts s e → Goal e → Takes base vectors s b n (value e then in_parentheses) →
      ByCopy k (IsClear vectors s false n e × (is_among (n + numbers_of (value e s n).ops) vectors ≡ (b && not (is_section e)))) (IsClear vectors s (b && not (is_section e)) n e)
  unfolding in_parentheses
  parens-clear e b n (kind.Declared el shape) is g sound goal h = copy_clear e b n g sound (subst IsNamed is tt) goal h
  parens-clear e b n (kind.Allocatable el rank) is g sound goal h = copy_clear e b n g sound (subst IsNamed is tt) goal h
  parens-clear e b n k is g sound goal h = inner_clear e b n (goal b n g sound (takes-alone base vectors s n (value e) in_parentheses b (ap (λ j. value_of_whole j (value e s n).made) (sym is)) h))
