-- Several scalars, one after another.
use Rattle.std.proofs.Common.{◌≡◌, refl, sym, ap, ◌∙◌, subst, ℕ, ◌+◌, ◌<◌, ◌≤◌, ◌==◌, true, false, List, [], ◌∷◌, ◌++◌, map, length, All, Ok, ℤ, arith}
use Rattle.std.proofs.lemmas.Bool.{true≢false}
use Rattle.std.proofs.lemmas.List.Elements.{All-head, All-tail, All-weaker}
use Rattle.ws_base.specs.Outcomes.{Staged, ◌>>=◌}
use Rattle.ws_space.specs.Values.{is_among}
use Rattle.ws_tree.specs.declared.expr.Expr.{Expr}
use Rattle.ws_types.specs.declared.types.Row.{Row}
use Rattle.ws_tree.specs.Trees.{given}
use Rattle.ws_types.specs.Expressions.{typed}
use Rattle.ws_types.specs.Operations.{scalar_faults}
use Rattle.array_meaning.specs.declared.world.World.{World}
use Rattle.array_meaning.specs.declared.term.Term.{Term}
use Rattle.array_meaning.specs.declared.term.Term.TheVariants as term
use Rattle.array_meaning.specs.Stage1 as source
use Rattle.hlfir_ops.specs.Numbers.{numbers_of}
use Rattle.hlfir_ops.specs.RulesValues.{rank_of}
use Rattle.hlfir_meaning.specs.Environments.{scalar, Environment, of_variables}
use Rattle.hlfir_meaning.specs.Stage1.{subscript_numbers, stage1}
use Rattle.lower_values.specs.declared.operand.Operand.{Operand}
use Rattle.lower_values.specs.Lists.{values}
use Rattle.lower_values.specs.Lowerings.{done, ◌>>=◌ as ◌then◌}
use Rattle.lower_values.specs.Scopes.{Scope}
use Rattle.lower_values.specs.Values.{value}
use Rattle.kind_laws.proofs.TypedExpressions.{types_are_known}
use Rattle.kind_laws.proofs.ExpressionsMade.{kinds_are_types}
use Rattle.value_laws.specs.Standing.{Kept, Does, IsOwn, Stands}
use Rattle.value_laws.specs.Sound.{IsSound, IsItem}
use Rattle.value_laws.specs.Vectors.{VectorsAre}
use Rattle.value_laws.proofs.ClearExpressions.{clear-whole}
use Rattle.value_laws.proofs.OwnNumbers.{DeclaresBelow}
use Rattle.value_laws.proofs.Walking.{does-done, does-then}
use Rattle.value_laws.proofs.Elementals.{own-small}
use Rattle.part_laws.proofs.Joined.{expressions-stand}
use Rattle.sound_laws.proofs.ExpressionsSound.{given-sound}
use Rattle.world_laws.specs.Meanings.{StandsOutside, IsIntegerScalar}
use Rattle.world_laws.specs.Worlds.{FitsNames}
use Rattle.world_laws.specs.Yields.{scalars_of}
use Rattle.region_laws.proofs.Agreeing.{small-ranks, declare-held, agrees}
use Rattle.region_laws.proofs.ListVectors.{tidy-list, vectors-first, vectors-rest}

-- a scalar operand is its term's value
scalar_value : (base low high : ℕ) (env : Environment) (x : Operand) (t : Term) → (rank_of x.kind == 0) ≡ true → Stands base low high env x t → env x.value.number ≡ scalar (source.value_of t)
scalar_value base low high env x (term.Scalar z) zero h = h.found ∙ h.rank.1
scalar_value base low high env x t zero h = absurd (true≢false (sym zero ∙ h.rank))

abbrev pub IsScalar : Scope → Expr → Type 0
IsScalar s e = IsSound true s e × IsItem s e

module _ (s : Scope) (w : World) (fits : FitsNames s.names w) (vectors : List ℕ) (below : DeclaresBelow (length w.vars) s) where
  abbrev base : ℕ
  base = length w.vars

  -- the declares stand for the variables
  abbrev AreDeclares : Environment → Type 0
  AreDeclares env = (k : ℕ) → k < base → env k ≡ of_variables w.vars k

  abbrev AreValues : List Operand → List ℤ → ℕ → Environment → Type 0
  AreValues xs zs m after = map (λ x. after x.value.number) xs ≡ map scalar zs

  abbrev Goal : List Expr → Type 0
  Goal es = (n : ℕ) (env : Environment) → base ≤ n → AreDeclares env → VectorsAre vectors n (values es s n).ops → Does vectors s n env (values es) (scalars_of w es) AreValues

  module _ (n : ℕ) (env : Environment) (g : base ≤ n) (declares : AreDeclares env) (e : Expr) (scalar_e : IsScalar s e) (own : VectorsAre vectors n (value e s n).ops) where
    first_stands : Does vectors s n env (value e) (source.walk w e) (λ x t m after. Stands base n m after x t)
    first_stands = expressions-stand vectors base s w (small-ranks s.names w fits) n env g (agrees s.names w fits env declares) e scalar_e.0 (clear-whole base s below true vectors e n g scalar_e.0 own)

    more_values : (es : List Expr) → Goal es → VectorsAre vectors (n + numbers_of (value e s n).ops) (values es s (n + numbers_of (value e s n).ops)).ops → Does vectors s n env (values (e ∷ es)) (scalars_of w (e ∷ es)) AreValues
    unfolding values
    more_values es rest own_rest =
        let x = (value e s n).made in
        let join : Term → List ℤ → Staged (List ℤ) = λ t zs. Ok (source.value_of t ∷ zs) in
        does-then (stage1 vectors) s n env (value e) (λ y. values es then (λ ys. done (y ∷ ys))) (source.walk w e) (λ t. scalars_of w es >>= join t) (λ y t m after. Stands base n m after y t) AreValues first_stands
        (λ t m middle at kept h.
        let here : middle x.value.number ≡ scalar (source.value_of t) = scalar_value base n m middle x t (scalar_e.1 n) h in
        does-then (stage1 vectors) s m middle (values es) (λ ys. done (x ∷ ys)) (scalars_of w es) (join t) AreValues AreValues
        (rest_at m middle at kept)
        (λ zs j after at' kept' h'.
        does-done (stage1 vectors) s j after (x ∷ (values es s m).made) (source.value_of t ∷ zs) AreValues
        (ap (λ v. v ∷ map (λ y. after y.value.number) (values es s m).made) (kept' x.value.number (own-small base n m x.value.number g (omega (arith, at)) h.own) ∙ here)
        ∙ ap (λ vs. scalar (source.value_of t) ∷ vs) h')))
      where
        rest_at : (m : ℕ) (middle : Environment) → m ≡ n + numbers_of (value e s n).ops → Kept n env middle → Does vectors s m middle (values es) (scalars_of w es) AreValues
        rest_at m middle at kept = rest m middle (omega (arith, g, at)) (λ k low. kept k (omega (arith, g, low)) ∙ declares k low)
            (subst (λ j. VectorsAre vectors j (values es s j).ops) (sym at) own_rest)

  pub values-of : (es : List Expr) → All (IsScalar s) es → Goal es
  unfolding values
  values-of [] scalars n env g declares own = does-done (stage1 vectors) s n env [] [] AreValues refl
  values-of (e ∷ es) scalars n env g declares own =
      let sound = All-weaker (IsScalar s) (IsSound true s) (λ x both. both.0) (e ∷ es) scalars in
      more_values n env g declares e (All-head (IsScalar s) e es scalars) (vectors-first (length w.vars) s below vectors n g e es sound own) es
      (values-of es (All-tail (IsScalar s) e es scalars)) (vectors-rest (length w.vars) s below vectors n g e es sound own)

-- ---- what the rules give

module _ (t : List Row) (line : ℕ) (s : Scope) (n : ℕ) (w : World) (h : StandsOutside t s w n) where
  scalar_is : (e : Expr) → IsIntegerScalar t line e → IsScalar s e
  scalar_is e g = given-sound types_are_known kinds_are_types t line s h.knows h.no_index (given e) g.0 (ap (λ rs. rs ++ scalar_faults line (typed t false e)) g.1 ∙ g.2)

  pub lists-mean : (es : List Expr) (vectors : List ℕ) (env : Environment) → ((k : ℕ) → k < length w.vars → env k ≡ of_variables w.vars k) → All (IsIntegerScalar t line) es → VectorsAre vectors n (values es s n).ops →
      Does vectors s n env (values es) (scalars_of w es) (λ xs zs after rho. map (λ x. rho x.value.number) xs ≡ map scalar zs)
  lists-mean es vectors env declares scalars own =
      values-of s w h.world vectors (λ x d is. (declare-held s.names w h.world env declares x d is).below) es (All-weaker (IsIntegerScalar t line) (IsScalar s) scalar_is es scalars) n env h.declared declares own

  -- the vector subscripts in these ops are declares, or values of these ops
  pub subscripts-own : (es : List Expr) → All (IsIntegerScalar t line) es → (v : ℕ) → is_among v (subscript_numbers (values es s n).ops) ≡ true → IsOwn (length w.vars) n (n + numbers_of (values es s n).ops) v
  subscripts-own es scalars =
      (tidy-list (length w.vars) s (λ x d is. (declare-held s.names w h.world (of_variables w.vars) (λ k _. refl) x d is).below) [] es n n (omega arith)
      (All-weaker (IsIntegerScalar t line) (IsSound true s) (λ x g. (scalar_is x g).0) es scalars)).subscripts.own
