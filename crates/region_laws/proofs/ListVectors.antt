-- The vector subscripts among the values of several expressions, lowered one after another, are those of each one's own.
use Rattle.std.proofs.Common.{refl, sym, ◌∙◌, ℕ, ◌+◌, ◌≤◌, Bool, true, false, List, [], ◌∷◌, All, arith}
use Rattle.std.proofs.lemmas.List.Elements.{All-head, All-tail}
use Rattle.ws_space.specs.Values.{is_among}
use Rattle.ws_tree.specs.declared.expr.Expr.{Expr}
use Rattle.hlfir_ops.specs.Numbers.{numbers_of}
use Rattle.hlfir_meaning.specs.Stage1.{subscript_numbers}
use Rattle.lower_values.specs.declared.operand.Operand.{Operand}
use Rattle.lower_values.specs.Lists.{values}
use Rattle.lower_values.specs.Lowerings.{Lowering, done, ◌>>=◌ as ◌then◌}
use Rattle.lower_values.specs.Scopes.{Scope}
use Rattle.lower_values.specs.Values.{value}
use Rattle.value_laws.specs.Sound.{IsSound}
use Rattle.value_laws.specs.Vectors.{VectorsAre}
use Rattle.value_laws.proofs.ClearForms.{then-front, then-back}
use Rattle.value_laws.proofs.OwnNumbers.{DeclaresBelow, IsTidy, HasOwn, tidy-done, tidy-then}
use Rattle.value_laws.proofs.TidyExpressions.{tidy-value}
use Rattle.value_laws.proofs.VectorNumbers.{VectorsFor, or-false}

module _ (base : ℕ) (s : Scope) (below : DeclaresBelow base s) (vectors : List ℕ) where
  abbrev Nothing : ℕ → List Operand → Type 0
  Nothing high xs = Unit {0}

  abbrev no_one : ℕ → Bool
  no_one k = false

  abbrev AreSound : List Expr → Type 0
  AreSound es = All (IsSound true s) es

  pub tidy-list : (es : List Expr) (low n : ℕ) → low ≤ n → AreSound es → IsTidy base s low n (values es) Nothing
  unfolding values
  tidy-list [] low n l sound = tidy-done base s low n [] Nothing tt
  tidy-list (e ∷ es) low n l sound =
      let m = n + numbers_of (value e s n).ops in
      tidy-then base s low n (value e) (λ x. values es then (λ xs. done (x ∷ xs))) (HasOwn base s low) Nothing (tidy-value base s below true e low n l (All-head (IsSound true s) e es sound))
      (λ h. tidy-then base s low m (values es) (λ xs. done ((value e s n).made ∷ xs)) Nothing Nothing (tidy-list es low m (omega (arith, l)) (All-tail (IsSound true s) e es sound))
      (λ k. tidy-done base s low (m + numbers_of (values es s m).ops) ((value e s n).made ∷ (values es s m).made) Nothing tt))

  for-own : (n : ℕ) (es : List Expr) → VectorsAre vectors n (values es s n).ops → VectorsFor base vectors n (values es s n).ops no_one
  for-own n es h = record { are = λ k low high. h k low high ∙ sym (or-false (is_among k (subscript_numbers (values es s n).ops))) }

  module _ (n : ℕ) (g : base ≤ n) (e : Expr) (es : List Expr) (sound : AreSound (e ∷ es)) (h : VectorsAre vectors n (values (e ∷ es) s n).ops) where
    abbrev m : ℕ
    m = n + numbers_of (value e s n).ops

    abbrev rest : Operand → Lowering (List Operand)
    rest x = values es then (λ xs. done (x ∷ xs))

    all : VectorsFor base vectors n ((value e then rest) s n).ops no_one
    unfolding values
    all = for-own n (e ∷ es) h

    pub vectors-first : VectorsAre vectors n (value e s n).ops
    vectors-first = λ k low high.
        let x = (value e s n).made in
        let tidy = tidy-then base s m m (values es) (λ xs. done (x ∷ xs)) Nothing Nothing (tidy-list es m m (omega arith) (All-tail (IsSound true s) e es sound))
        (λ _. tidy-done base s m (m + numbers_of (values es s m).ops) (x ∷ (values es s m).made) Nothing tt) in
        (then-front base vectors s n g (value e) rest no_one no_one all tidy.subscripts (λ i low' high'. refl)).are k low high ∙ or-false (is_among k (subscript_numbers (value e s n).ops))

    pub vectors-rest : VectorsAre vectors m (values es s m).ops
    vectors-rest = λ k low high.
        let x = (value e s n).made in
        let after = then-back base vectors s n g (value e) rest no_one no_one all (tidy-value base s below true e n n (omega arith) (All-head (IsSound true s) e es sound)).subscripts (λ i low'. refl) in
        let j = m + numbers_of (values es s m).ops in
        (then-front base vectors s m (omega (arith, g)) (values es) (λ xs. done (x ∷ xs)) no_one no_one after (tidy-done base s j j (x ∷ (values es s m).made) Nothing tt).subscripts (λ i low' high'. refl)).are k low high
        ∙ or-false (is_among k (subscript_numbers (values es s m).ops))
