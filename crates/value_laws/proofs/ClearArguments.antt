-- Operands and arguments are clear: the ops that join them alone are vector subscripts, where the last one is.
use Rattle.std.proofs.Common.{◌≡◌, refl, sym, ◌∙◌, subst, ℕ, ◌+◌, ◌≤◌, Bool, true, false, List, [], ◌∷◌, Some, None, arith, if◌then◌else◌}
use Rattle.std.specs.Prelude.{◌&&◌}
use Rattle.std.proofs.lemmas.List.{append-nil}
use Rattle.ws_base.specs.declared.op.BinOp.{BinOp}
use Rattle.ws_base.specs.declared.op.CallWord.{CallWord}
use Rattle.ws_space.specs.Values.{is_among}
use Rattle.ws_tree.specs.declared.expr.Expr.{Expr}
use Rattle.ws_tree.specs.Trees.{Exprs, end_exprs, more_exprs}
use Rattle.hlfir_ops.specs.declared.what.ValueBinary.{ValueBinary}
use Rattle.hlfir_ops.specs.declared.what.What.TheVariants as what
use Rattle.hlfir_ops.specs.Numbers.{numbers_of}
use Rattle.hlfir_ops.specs.RulesForms.{result_elem}
use Rattle.lower_values.specs.declared.operand.Operand.{Operand}
use Rattle.lower_values.specs.Scopes.{Scope}
use Rattle.lower_values.specs.Lowerings.{Lowering, done, ◌>>=◌ as ◌then◌}
use Rattle.lower_values.specs.Operations.{binary_of, binary_operation, call_on, vector}
use Rattle.lower_values.specs.Values.{value, values, nested}
use Rattle.value_laws.specs.Arguments.{where_last}
use Rattle.value_laws.specs.Sound.{IsSound, AreSound, IsClear, AreClear, AreJoined}
use Rattle.value_laws.proofs.OwnNumbers.{IsTidy, HasOwn, DeclaresBelow, tidy-done, tidy-then, tidy-operation, tidy-vector, tidy-call}
use Rattle.value_laws.proofs.TidyExpressions.{tidy-value, tidy-values, tidy-nested}
use Rattle.value_laws.proofs.VectorNumbers.{OwnSubscripts, VectorsFor}
use Rattle.value_laws.proofs.ClearForms.{and-true, IsOne, one-operation, one-call, number_taken, Vectors, Takes, takes-one, then-front, then-back}
use Rattle.value_laws.proofs.ClearOperators.{Goal, no_one, takes-front, takes-back}

module _ (base : ℕ) (s : Scope) (below : DeclaresBelow base s) (parts : Bool) (vectors : List ℕ) where
  abbrev Operation : ℕ → Lowering Operand → Type 0
  Operation m p = IsOne s m p × IsTidy base s m m p (HasOwn base s m)

  binary_is : (op : ValueBinary) (m : ℕ) (x y : Operand) → Operation m (binary_operation op x y)
  binary_is op m x y = (one-operation s m (what.Binary op) (result_elem op) (x ∷ y ∷ []) (λ os. refl), tidy-operation base s m m (omega arith) (what.Binary op) (result_elem op) (x ∷ y ∷ []) (λ os. refl))

  abbrev OfGoal : Expr → Type 0
  OfGoal = Goal base s below parts vectors

  pub binary_clear : (op : BinOp) (e f : Expr) (b : Bool) (n : ℕ) → base ≤ n → IsSound parts s e → IsSound parts s f → OfGoal e → OfGoal f → Takes base vectors s b n (value e then (λ x. value f then (λ y. binary_operation (binary_of op) x y))) →
      (let m = n + numbers_of (value e s n).ops in IsClear vectors s false n e × IsClear vectors s false m f × (is_among (m + numbers_of (value f s m).ops) vectors ≡ (b && true)))
  binary_clear op e f b n g sound sound' goal goal' h =
      let m = n + numbers_of (value e s n).ops in
      let k = m + numbers_of (value f s m).ops in
      let x = (value e s n).made in
      let y = (value f s m).made in
      let act : Operand → Lowering Operand = λ a. binary_operation (binary_of op) x a in
      let rest : Operand → Lowering Operand = λ a. value f then (λ c. binary_operation (binary_of op) a c) in
      let low : base ≤ m = omega (arith, g) in
      let last = binary_is (binary_of op) k x y in
      let tidy = tidy-then base s m m (value f) act (HasOwn base s m) (HasOwn base s m) (tidy-value base s below parts f m m (omega arith) sound')
      (λ _. tidy-operation base s m k (omega arith) (what.Binary (binary_of op)) (result_elem (binary_of op)) (x ∷ y ∷ []) (λ os. refl)) in
      let after = takes-back base vectors s n g (value e) rest b h (HasOwn base s n) (tidy-value base s below parts e n n (omega arith) sound) in (
        goal false n g sound (takes-front base vectors s n g (value e) rest b h tidy),
        goal' false m low sound' (takes-front base vectors s m low (value f) act b after last.1),
        takes-one base vectors s b k (act y) last.0 (takes-back base vectors s m low (value f) act b after (HasOwn base s m) (tidy-value base s below parts f m m (omega arith) sound')) ∙ sym (and-true b),
      )

  -- ---- arguments

  abbrev Nothing : ℕ → List Operand → Type 0
  Nothing high xs = Unit {0}

  abbrev pub EachGoal : {k : _} → Exprs k → Type 0
  EachGoal es = (n : ℕ) → base ≤ n → AreSound parts s es → Vectors base vectors s n (values es) no_one → AreClear vectors s n es

  pub more_clear : {k : _} (e : Expr) (es : Exprs k) → OfGoal e → EachGoal es → EachGoal (more_exprs e es)
  more_clear e es goal each n g sound h =
      let m = n + numbers_of (value e s n).ops in
      let x = (value e s n).made in
      let low : base ≤ m = omega (arith, g) in
      let rest : Operand → Lowering (List Operand) = λ a. values es then (λ xs. done (a ∷ xs)) in
      let last : List Operand → Lowering (List Operand) = λ xs. done (x ∷ xs) in
      let tidies = tidy-values base s below parts es m m (omega arith) sound.1 in
      let tidy = tidy-then base s m m (values es) last Nothing Nothing tidies (λ _. tidy-done base s m (m + numbers_of (values es s m).ops) (x ∷ (values es s m).made) Nothing tt) in
      let after = then-back base vectors s n g (value e) rest no_one no_one h (tidy-value base s below parts e n n (omega arith) sound.0).subscripts (λ k low'. refl) in (
        goal false n g sound.0 (then-front base vectors s n g (value e) rest no_one no_one h tidy.subscripts (λ k low' high. refl)),
        each m low sound.1 (then-front base vectors s m low (values es) last no_one no_one after (none_after (m + numbers_of (values es s m).ops) (x ∷ (values es s m).made)) (λ k low' high. refl)),
      )
    where
      none_after : (j : ℕ) (xs : List Operand) → OwnSubscripts base j j (done xs s j).ops
      none_after j xs = (tidy-done base s j j xs Nothing tt).subscripts

  pub call_clear : {k : _} (c : CallWord) (es : Exprs k) (b : Bool) (n : ℕ) → base ≤ n → AreSound parts s es → EachGoal es → Takes base vectors s b n (values es then call_on c) →
      AreClear vectors s n es × (is_among (n + numbers_of (values es s n).ops) vectors ≡ (b && true))
  call_clear c es b n g sound each h =
      let m = n + numbers_of (values es s n).ops in
      let xs = (values es s n).made in (
        each n g sound (takes-front base vectors s n g (values es) (call_on c) b h (tidy-call base s m m (omega arith) c xs)),
        takes-one base vectors s b m (call_on c xs) (one-call s m c xs) (takes-back base vectors s n g (values es) (call_on c) b h Nothing (tidy-values base s below parts es n n (omega arith) sound)) ∙ sym (and-true b),
      )

  pub vector_clear : {k : _} (es : Exprs k) (b : Bool) (n : ℕ) → base ≤ n → AreSound parts s es → EachGoal es → Takes base vectors s b n (values es then vector) → AreClear vectors s n es
  vector_clear es b n g sound each h =
      let m = n + numbers_of (values es s n).ops in
      each n g sound (takes-front base vectors s n g (values es) vector b h (tidy-vector base s m m (omega arith) (values es s n).made))

  -- ---- MIN and MAX

  abbrev pub NestedGoal : {k : _} → ValueBinary → Exprs k → Type 0
  NestedGoal op es = (b : Bool) (x : Operand) (n : ℕ) → base ≤ n → AreSound parts s es → Takes base vectors s b n (nested op (Some x) es) → AreJoined vectors s op (b && true) (Some x) n es

  joined_tidy : {k : _} (op : ValueBinary) (e : Expr) (es : Exprs k) (x : Operand) (low n : ℕ) → low ≤ n → AreSound parts s (more_exprs e es) → IsTidy base s low n (nested op (Some x) (more_exprs e es)) (HasOwn base s low)
  joined_tidy op e es x low n l sound =
      let m = n + numbers_of (value e s n).ops in
      let y = (value e s n).made in
      let z = binary_operation op x y s m in
      tidy-then base s low n (value e) (λ a. binary_operation op x a then (λ v. nested op (Some v) es)) (HasOwn base s low) (HasOwn base s low) (tidy-value base s below parts e low n l sound.0)
      (λ _. tidy-then base s low m (binary_operation op x y) (λ v. nested op (Some v) es) (HasOwn base s low) (HasOwn base s low)
      (tidy-operation base s low m (omega (arith, l)) (what.Binary op) (result_elem op) (x ∷ y ∷ []) (λ os. refl))
      (λ own. tidy-nested base s below parts op es z.made low (m + numbers_of z.ops) (omega (arith, l)) own sound.1))

  -- the op that joins an argument is the last one, or takes nothing
  join_taken : {k : _} (op : ValueBinary) (es : Exprs k) (b : Bool) (m : ℕ) (x y : Operand) → base ≤ m → AreSound parts s es → Takes base vectors s b m (binary_operation op x y then (λ z. nested op (Some z) es)) → is_among m vectors ≡ where_last es (b && true)
  unfolding ◌then◌ done
  join_taken op end_exprs b m x y g sound h =
      let z = binary_operation op x y s m in
      takes-one base vectors s b m (binary_operation op x y) (binary_is op m x y).0 (subst (λ os. VectorsFor base vectors m os (number_taken b z.made.value.number)) (append-nil z.ops) h) ∙ sym (and-true b)
  join_taken op (more_exprs e es) b m x y g sound h =
      let z = binary_operation op x y s m in
      let k = m + numbers_of z.ops in
      takes-one base vectors s false m (binary_operation op x y) (binary_is op m x y).0 (takes-front base vectors s m g (binary_operation op x y) (λ v. nested op (Some v) (more_exprs e es)) b h (joined_tidy op e es z.made k k (omega arith) sound))

  pub nested_clear : {k : _} (op : ValueBinary) (e : Expr) (es : Exprs k) → OfGoal e → NestedGoal op es → NestedGoal op (more_exprs e es)
  nested_clear op e es goal rest b x n g sound h =
      let m = n + numbers_of (value e s n).ops in
      let y = (value e s n).made in
      let z = binary_operation op x y s m in
      let k = m + numbers_of z.ops in
      let low : base ≤ m = omega (arith, g) in
      let act : Operand → Lowering Operand = λ a. binary_operation op x a then (λ v. nested op (Some v) es) in
      let more : Operand → Lowering Operand = λ v. nested op (Some v) es in
      let tidy = tidy-then base s m m (binary_operation op x y) more (HasOwn base s m) (HasOwn base s m) (binary_is op m x y).1 (λ own. tidy-nested base s below parts op es z.made m k (omega arith) own sound.1) in
      let after = takes-back base vectors s n g (value e) act b h (HasOwn base s n) (tidy-value base s below parts e n n (omega arith) sound.0) in (
        goal false n g sound.0 (takes-front base vectors s n g (value e) act b h tidy),
        join_taken op es b m x y low sound.1 after,
        rest b z.made k (omega (arith, g)) sound.1 (takes-back base vectors s m low (binary_operation op x y) more b after (HasOwn base s m) (binary_is op m x y).1),
      )

  pub first_clear : {k : _} (op : ValueBinary) (e d : Expr) (es : Exprs k) → OfGoal e → NestedGoal op (more_exprs d es) → (b : Bool) (n : ℕ) → base ≤ n → AreSound parts s (more_exprs e (more_exprs d es)) →
      Takes base vectors s b n (nested op None (more_exprs e (more_exprs d es))) → AreJoined vectors s op (b && true) None n (more_exprs e (more_exprs d es))
  first_clear op e d es goal rest b n g sound h =
      let m = n + numbers_of (value e s n).ops in
      let y = (value e s n).made in
      let k = m + numbers_of (done y s m).ops in
      let low : base ≤ m = omega (arith, g) in
      let act : Operand → Lowering Operand = λ a. done a then (λ v. nested op (Some v) (more_exprs d es)) in
      let more : Operand → Lowering Operand = λ v. nested op (Some v) (more_exprs d es) in
      let free : ℕ → Operand → Type 0 = λ _ _. Unit {0} in
      let taken = tidy-done base s m m y free tt in
      let tidy = tidy-then base s m m (done y) more free (HasOwn base s m) taken (λ _. joined_tidy op d es (done y s m).made m k (omega arith) sound.1) in
      let after = takes-back base vectors s n g (value e) act b h (HasOwn base s n) (tidy-value base s below parts e n n (omega arith) sound.0) in (
        goal false n g sound.0 (takes-front base vectors s n g (value e) act b h tidy),
        tt,
        rest b (done y s m).made k (omega (arith, g)) sound.1 (takes-back base vectors s m low (done y) more b after free taken),
      )
