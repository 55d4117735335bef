-- The numbers in a lowered expression, by induction over the expression.
use Rattle.std.proofs.Common.{◌≡◌, refl, sym, subst, ℕ, suc, ◌+◌, ◌<◌, ◌≤◌, Bool, true, false, List, [], ◌∷◌, length, All, Option, Some, None, pos, arith, if◌then◌else◌}
use Rattle.std.proofs.lemmas.List.Elements.{All-nil}
use Rattle.ws_base.specs.declared.name.Name.{Name}
use Rattle.ws_base.specs.declared.op.CallWord.{CallWord}
use Rattle.ws_base.specs.declared.op.CallWord.TheVariants as word
use Rattle.ws_base.specs.Numbers.{truth}
use Rattle.ws_tree.specs.declared.expr.Expr.{Expr}
use Rattle.ws_tree.specs.declared.expr.Expr.TheVariants.{Number, TooWide, TooDeep, Truth, Named, Part', Call', Vector'}
use Rattle.ws_tree.specs.declared.expr.Sub.{Sub}
use Rattle.ws_tree.specs.declared.expr.Sub.TheVariants as sub
use Rattle.ws_tree.specs.Trees.{Exprs, end_exprs, more_exprs, Subs, end_subs, more_subs, Given, absent, given, paren, unary, binary}
use Rattle.ws_types.specs.Expressions.{listed, how_many}
use Rattle.ws_types.specs.Operations.{is_inquiry, is_allocated_word}
use Rattle.hlfir_ops.specs.declared.kinds.Elem.TheVariants.{I32, I1}
use Rattle.hlfir_ops.specs.declared.kinds.ValueKind.TheVariants as kind
use Rattle.hlfir_ops.specs.declared.what.BoundWord.{BoundWord}
use Rattle.hlfir_ops.specs.declared.what.BoundWord.TheVariants.{Lower, Upper}
use Rattle.hlfir_ops.specs.declared.what.ValueBinary.{ValueBinary}
use Rattle.hlfir_ops.specs.declared.what.ValueBinary.TheVariants as binaries
use Rattle.hlfir_ops.specs.declared.what.What.TheVariants as what
use Rattle.hlfir_ops.specs.Numbers.{numbers_of}
use Rattle.hlfir_ops.specs.RulesForms.{result_elem}
use Rattle.lower_values.specs.declared.operand.Operand.{Operand}
use Rattle.lower_values.specs.declared.operand.Subscript.{Subscript}
use Rattle.lower_values.specs.declared.operand.Subscript.TheVariants.{Range}
use Rattle.lower_values.specs.Scopes.{Scope}
use Rattle.lower_values.specs.Lowerings.{Lowering, done, scoped, ◌>>=◌ as ◌then◌}
use Rattle.lower_values.specs.Operations.{constant, binary_of, binary_operation, in_parentheses, unary_operation, call_on, vector}
use Rattle.lower_values.specs.References.{variable_of, or_nothing, declare_of, boxed, reference, loaded, named, subscript_of, bound, designated, size, bound_word, bound_or_size, is_allocated, first_name, dimension_in, inquiry}
use Rattle.lower_values.specs.Values.{value, values, nested, called, part_of, subscripts, subscript, given_or}
use Rattle.value_laws.specs.Standing.{IsOwn}
use Rattle.value_laws.specs.Sound.{IsVariable, IsSoundCall, IsSoundPart, IsSound, AreSound, AreSoundSubs, IsSoundSub, IsSoundGiven}
use Rattle.value_laws.proofs.OwnNumbers.{IsTidy, HasOwn, tidy-done, tidy-then, tidy-giving, tidy-operation, tidy-parentheses, tidy-unary, tidy-vector, tidy-call, tidy-scoped, tidy-folded, tidy-boxed, tidy-loaded, DeclaresBelow, tidy-named, vectors_of, vectors_in, HaveOwn, subscript-own, tidy-designated}
use Rattle.value_laws.proofs.Ordered.{all-append, all-weaker}
use Rattle.value_laws.proofs.Elementals.{own-wider}

module _ (base : ℕ) (s : Scope) (below : DeclaresBelow base s) where
  abbrev pub Tidy : ℕ → ℕ → Lowering Operand → Type 0
  Tidy low n p = IsTidy base s low n p (HasOwn base s low)

  -- ---- references and inquiries

  pub tidy-reference : (low n : ℕ) (x : Name) (d : Operand) → low ≤ n → variable_of s.names.variables x ≡ Some d → Tidy low n (reference x)
  unfolding reference
  tidy-reference low n x d l is = tidy-scoped base s low n l (λ q. boxed (declare_of q.names x)) (HasOwn base s low)
      (tidy-boxed base s low n l (declare_of s.names x) (subst (λ o. (or_nothing o).value.number < base) (sym is) (below x d is)))

  pub tidy-bound : (low n : ℕ) (w : BoundWord) (dim : ℕ) (r : Operand) → low ≤ n → Tidy low n (bound w dim r)
  unfolding bound
  tidy-bound low n w dim r l = tidy-giving base s low n l (what.Bound w dim) (r.value ∷ []) (kind.Scalar I32) refl

  size_tidy : (low n : ℕ) (dim : Option ℕ) (r : Operand) → low ≤ n → Tidy low n (size dim r)
  size_tidy low n None r l = tidy-giving base s low n l what.Size (r.value ∷ []) (kind.Scalar I32) refl
  size_tidy low n (Some k) r l = tidy-bound low n _ k r l

  bound_tidy : (low n : ℕ) (w : Option BoundWord) (dim : Option ℕ) (r : Operand) → low ≤ n → Tidy low n (bound_or_size w dim r)
  bound_tidy low n (Some w) dim r l = tidy-bound low n w _ r l
  bound_tidy low n None dim r l = size_tidy low n dim r l

  inquiry_by : (low n : ℕ) (c : CallWord) (x : Name) (d : Operand) (dim : Option ℕ) (b : Bool) → low ≤ n → variable_of s.names.variables x ≡ Some d →
      Tidy low n (if b then scoped (λ q. is_allocated (declare_of q.names x)) else (reference x then bound_or_size (bound_word c) dim))
  inquiry_by low n c x d dim true l is = tidy-scoped base s low n l (λ q. is_allocated (declare_of q.names x)) (HasOwn base s low) (tidy-giving base s low n l what.Allocated _ (kind.Scalar I1) refl)
  inquiry_by low n c x d dim false l is = tidy-then base s low n (reference x) (bound_or_size (bound_word c) dim) (HasOwn base s low) (HasOwn base s low) (tidy-reference low n x d l is)
      (λ h. bound_tidy low (n + numbers_of (reference x s n).ops) (bound_word c) dim (reference x s n).made (omega (arith, l)))

  tidy-inquiry : {k : _} (low n : ℕ) (c : CallWord) (es : Exprs k) → low ≤ n → IsVariable s (first_name (listed es)) → Tidy low n (inquiry c (listed es))
  unfolding inquiry
  tidy-inquiry low n c end_exprs l declared = absurd declared
  tidy-inquiry low n c (more_exprs (Named x) es) l declared = inquiry_by low n c x declared.0 (dimension_in (listed (more_exprs (Named x) es))) (is_allocated_word c) l declared.1
  tidy-inquiry low n c (more_exprs e es) l declared = absurd declared

  -- ---- calls

  abbrev Nothing : ℕ → List Operand → Type 0
  Nothing high xs = Unit {0}

  at_once : {k : _} (low n : ℕ) (c : CallWord) (es : Exprs k) → low ≤ n → IsTidy base s low n (values es) Nothing → Tidy low n (values es then call_on c)
  at_once low n c es l all = tidy-then base s low n (values es) (call_on c) Nothing (HasOwn base s low) all (λ h. tidy-call base s low (n + numbers_of (values es s n).ops) (omega (arith, l)) c (values es s n).made)

  call_tidy : {k : _} (parts : Bool) (low n : ℕ) (c : CallWord) (es : Exprs k) → low ≤ n → IsSoundCall (is_inquiry c) s c es (AreSound parts s es) → (AreSound parts s es → IsTidy base s low n (values es) Nothing) →
      ((op : ValueBinary) → 2 ≤ length (listed es) → AreSound parts s es → Tidy low n (nested op None es)) → Tidy low n (called c (listed es) (values es) (λ op. nested op None es))
  call_tidy parts low n word.Min es l sound all first = first binaries.Min sound.0 sound.1
  call_tidy parts low n word.Max es l sound all first = first binaries.Max sound.0 sound.1
  call_tidy parts low n word.Size es l sound all first = tidy-inquiry low n word.Size es l sound
  call_tidy parts low n word.Lbound es l sound all first = tidy-inquiry low n word.Lbound es l sound
  call_tidy parts low n word.Ubound es l sound all first = tidy-inquiry low n word.Ubound es l sound
  call_tidy parts low n word.Allocated es l sound all first = tidy-inquiry low n word.Allocated es l sound
  call_tidy parts low n c es l sound all first = at_once low n c es l (all sound.1)

  -- ---- the induction

  abbrev HaveOwnVectors : ℕ → ℕ → Subscript → Type 0
  HaveOwnVectors low high x = All (IsOwn base low high) (vectors_of base s x)

  abbrev pub part_variable : (c : Bool) (x : Name) (many : ℕ) (P : Type 0) → IsSoundPart c s x many P → (d : Operand) × (variable_of s.names.variables x ≡ Some d) × P
  part_variable true x many P h = (h.0, h.1, h.3)
  part_variable false x many P h = absurd h

  module _ (parts : Bool) where
    tidy_part : {k : _} (x : Name) (subs : Subs k) (low n : ℕ) → low ≤ n → (d : Operand) → variable_of s.names.variables x ≡ Some d →
        ((r : Operand) (m : ℕ) → low ≤ m → IsTidy base s low m (subscripts r 1 subs) (HaveOwn base s low)) → Tidy low n (part_of x (λ r. subscripts r 1 subs))
    unfolding part_of
    tidy_part x subs low n l d is all =
        let m = n + numbers_of (reference x s n).ops in
        let r = (reference x s n).made in
        tidy-then base s low n (reference x) (λ q. subscripts q 1 subs then (λ ss. designated q ss)) (HasOwn base s low) (HasOwn base s low) (tidy-reference low n x d l is)
        (λ h. tidy-then base s low m (subscripts r 1 subs) (λ ss. designated r ss) (HaveOwn base s low) (HasOwn base s low) (all r m (omega (arith, l)))
        (λ k. tidy-designated base s low (m + numbers_of (subscripts r 1 subs s m).ops) (omega (arith, l)) r (subscripts r 1 subs s m).made k))

    mutual
      pub tidy-value : (e : Expr) (low n : ℕ) → low ≤ n → IsSound parts s e → Tidy low n (value e)
      tidy-value (Number z) low n l sound = tidy-giving base s low n l (what.Constant (pos z)) [] (kind.Scalar I32) refl
      tidy-value TooWide low n l sound = tidy-giving base s low n l (what.Constant (pos 0)) [] (kind.Scalar I32) refl
      tidy-value TooDeep low n l sound = tidy-giving base s low n l (what.Constant (pos 0)) [] (kind.Scalar I32) refl
      tidy-value (Truth v) low n l sound = tidy-giving base s low n l (what.Constant (truth v)) [] (kind.Scalar I1) refl
      tidy-value (Named x) low n l sound = tidy-folded base s low n l (Named x) (named x) (tidy-named base s below low n l x sound.0)
      tidy-value (Part' x _ subs) low n l sound =
          tidy-then base s low n (part_of x (λ r. subscripts r 1 subs)) loaded (HasOwn base s low) (HasOwn base s low)
          (let h = part_variable parts x (how_many subs) (AreSoundSubs parts s subs) sound in tidy_part x subs low n l h.0 h.1 (λ r m l'. tidy-subscripts subs r 1 low m l' h.2))
          (λ h. tidy-loaded base s low (n + numbers_of (part_of x (λ r. subscripts r 1 subs) s n).ops) (omega (arith, l)) (part_of x (λ r. subscripts r 1 subs) s n).made h)
      tidy-value (Call' c _ es) low n l sound = call_tidy parts low n c es l sound (λ are. tidy-values es low n l are) (λ op many are. tidy-first op es low n l many are)
      tidy-value (Vector' _ es) low n l sound = tidy-then base s low n (values es) vector Nothing (HasOwn base s low) (tidy-values es low n l sound.0)
          (λ h. tidy-vector base s low (n + numbers_of (values es s n).ops) (omega (arith, l)) (values es s n).made)
      tidy-value (paren e) low n l sound = tidy-folded base s low n l (paren e) (value e then in_parentheses)
          (tidy-then base s low n (value e) in_parentheses (HasOwn base s low) (HasOwn base s low) (tidy-value e low n l sound)
          (λ h. tidy-parentheses base s low (n + numbers_of (value e s n).ops) (omega (arith, l)) (value e s n).made h))
      tidy-value (unary op e) low n l sound = tidy-folded base s low n l (unary op e) (value e then unary_operation op)
          (tidy-then base s low n (value e) (unary_operation op) (HasOwn base s low) (HasOwn base s low) (tidy-value e low n l sound)
          (λ h. tidy-unary base s low (n + numbers_of (value e s n).ops) (omega (arith, l)) op (value e s n).made h))
      tidy-value (binary op e f) low n l sound =
          let m = n + numbers_of (value e s n).ops in
          let x = (value e s n).made in
          tidy-folded base s low n l (binary op e f) (value e then (λ y. value f then (λ z. binary_operation (binary_of op) y z)))
          (tidy-then base s low n (value e) (λ y. value f then (λ z. binary_operation (binary_of op) y z)) (HasOwn base s low) (HasOwn base s low) (tidy-value e low n l sound.0)
          (λ h. tidy-then base s low m (value f) (λ z. binary_operation (binary_of op) x z) (HasOwn base s low) (HasOwn base s low) (tidy-value f low m (omega (arith, l)) sound.1)
          (λ k. tidy-operation base s low (m + numbers_of (value f s m).ops) (omega (arith, l)) (what.Binary (binary_of op)) (result_elem (binary_of op)) (x ∷ (value f s m).made ∷ []) (λ os. refl))))

      pub tidy-values : {k : _} (es : Exprs k) (low n : ℕ) → low ≤ n → AreSound parts s es → IsTidy base s low n (values es) Nothing
      tidy-values end_exprs low n l sound = tidy-done base s low n [] Nothing tt
      tidy-values (more_exprs e es) low n l sound =
          let m = n + numbers_of (value e s n).ops in
          tidy-then base s low n (value e) (λ x. values es then (λ xs. done (x ∷ xs))) (HasOwn base s low) Nothing (tidy-value e low n l sound.0)
          (λ h. tidy-then base s low m (values es) (λ xs. done ((value e s n).made ∷ xs)) Nothing Nothing (tidy-values es low m (omega (arith, l)) sound.1)
          (λ k. tidy-done base s low (m + numbers_of (values es s m).ops) ((value e s n).made ∷ (values es s m).made) Nothing tt))

      pub tidy-first : {k : _} (op : ValueBinary) (es : Exprs k) (low n : ℕ) → low ≤ n → 2 ≤ length (listed es) → AreSound parts s es → Tidy low n (nested op None es)
      tidy-first op end_exprs low n l many sound = absurd (omega (arith, many))
      tidy-first op (more_exprs e es) low n l many sound =
          let m = n + numbers_of (value e s n).ops in
          let y = (value e s n).made in
          tidy-then base s low n (value e) (λ x. done x then (λ z. nested op (Some z) es)) (HasOwn base s low) (HasOwn base s low) (tidy-value e low n l sound.0)
          (λ h. tidy-then base s low m (done y) (λ z. nested op (Some z) es) (HasOwn base s low) (HasOwn base s low) (tidy-done base s low m y (HasOwn base s low) h)
          (λ k. tidy-nested op es (done y s m).made low (m + numbers_of (done y s m).ops) (omega (arith, l)) k sound.1))

      pub tidy-nested : {k : _} (op : ValueBinary) (es : Exprs k) (x : Operand) (low n : ℕ) → low ≤ n → HasOwn base s low n x → AreSound parts s es → Tidy low n (nested op (Some x) es)
      tidy-nested op end_exprs x low n l h sound = tidy-done base s low n x (HasOwn base s low) h
      tidy-nested op (more_exprs e es) x low n l h sound =
          let m = n + numbers_of (value e s n).ops in
          let y = (value e s n).made in
          let z = binary_operation op x y s m in
          tidy-then base s low n (value e) (λ a. binary_operation op x a then (λ b. nested op (Some b) es)) (HasOwn base s low) (HasOwn base s low) (tidy-value e low n l sound.0)
          (λ h'. tidy-then base s low m (binary_operation op x y) (λ b. nested op (Some b) es) (HasOwn base s low) (HasOwn base s low)
          (tidy-operation base s low m (omega (arith, l)) (what.Binary op) (result_elem op) (x ∷ y ∷ []) (λ os. refl))
          (λ k. tidy-nested op es z.made low (m + numbers_of z.ops) (omega (arith, l)) k sound.1))

      pub tidy-subscripts : {k : _} (subs : Subs k) (r : Operand) (dim low n : ℕ) → low ≤ n → AreSoundSubs parts s subs → IsTidy base s low n (subscripts r dim subs) (HaveOwn base s low)
      tidy-subscripts end_subs r dim low n l sound = tidy-done base s low n [] (HaveOwn base s low) (All-nil (IsOwn base low n))
      tidy-subscripts (more_subs x xs) r dim low n l sound =
          let a = subscript r dim x s n in
          let m = n + numbers_of a.ops in
          let b = subscripts r (suc dim) xs s m in
          tidy-then base s low n (subscript r dim x) (λ y. subscripts r (suc dim) xs then (λ ys. done (y ∷ ys))) (HaveOwnVectors low) (HaveOwn base s low) (tidy-subscript x r dim low n l sound.0)
          (λ h. tidy-then base s low m (subscripts r (suc dim) xs) (λ ys. done (a.made ∷ ys)) (HaveOwn base s low) (HaveOwn base s low) (tidy-subscripts xs r (suc dim) low m (omega (arith, l)) sound.1)
          (λ k. tidy-done base s low (m + numbers_of b.ops) (a.made ∷ b.made) (HaveOwn base s low)
          (all-append (IsOwn base low (m + numbers_of b.ops)) (vectors_of base s a.made) (vectors_in base s b.made)
          (all-weaker (IsOwn base low m) (IsOwn base low (m + numbers_of b.ops)) (λ j is. own-wider base low low m (m + numbers_of b.ops) j (omega arith) (omega arith) is) (vectors_of base s a.made) h) k)))

      pub tidy-subscript : (x : Sub) (r : Operand) (dim low n : ℕ) → low ≤ n → IsSoundSub parts s x → IsTidy base s low n (subscript r dim x) (HaveOwnVectors low)
      tidy-subscript (sub.One e) r dim low n l sound =
          let m = n + numbers_of (value e s n).ops in
          tidy-then base s low n (value e) (λ y. done (subscript_of y)) (HasOwn base s low) (HaveOwnVectors low) (tidy-value e low n l sound.0)
          (λ h. tidy-done base s low m (subscript_of (value e s n).made) (HaveOwnVectors low) (subscript-own base s low m (value e s n).made h))
      tidy-subscript (sub.Range' u v w) r dim low n l sound =
          let a = given_or (bound Lower dim r) u s n in
          let m = n + numbers_of a.ops in
          let b = given_or (bound Upper dim r) v s m in
          let k = m + numbers_of b.ops in
          let c = given_or (constant I32 (pos 1)) w s k in
          tidy-then base s low n (given_or (bound Lower dim r) u) (λ x. given_or (bound Upper dim r) v then (λ y. given_or (constant I32 (pos 1)) w then (λ z. done (Range x.value y.value z.value)))) (HasOwn base s low) (HaveOwnVectors low)
          (tidy-given u (bound Lower dim r) low n l (tidy-bound low n Lower dim r l) sound.0)
          (λ h. tidy-then base s low m (given_or (bound Upper dim r) v) (λ y. given_or (constant I32 (pos 1)) w then (λ z. done (Range a.made.value y.value z.value))) (HasOwn base s low) (HaveOwnVectors low)
          (tidy-given v (bound Upper dim r) low m (omega (arith, l)) (tidy-bound low m Upper dim r (omega (arith, l))) sound.1)
          (λ h'. tidy-then base s low k (given_or (constant I32 (pos 1)) w) (λ z. done (Range a.made.value b.made.value z.value)) (HasOwn base s low) (HaveOwnVectors low)
          (tidy-given w (constant I32 (pos 1)) low k (omega (arith, l)) (tidy-giving base s low k (omega (arith, l)) (what.Constant (pos 1)) [] (kind.Scalar I32) refl) sound.2)
          (λ h''. tidy-done base s low (k + numbers_of c.ops) (Range a.made.value b.made.value c.made.value) (HaveOwnVectors low) (All-nil (IsOwn base low (k + numbers_of c.ops))))))

      pub tidy-given : (x : Given) (other : Lowering Operand) (low n : ℕ) → low ≤ n → Tidy low n other → IsSoundGiven parts s x → Tidy low n (given_or other x)
      tidy-given absent other low n l h sound = h
      tidy-given (given e) other low n l h sound = tidy-value e low n l sound.0
