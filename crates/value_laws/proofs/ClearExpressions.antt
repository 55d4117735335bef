-- Where a region's vector subscripts are those of its designators, a lowered expression is clear: by induction over it.
use Rattle.std.proofs.Common.{◌≡◌, refl, sym, ◌∙◌, ℕ, ◌+◌, ◌≤◌, Bool, true, false, List, length, None, arith}
use Rattle.std.specs.Prelude.{◌&&◌}
use Rattle.ws_base.specs.declared.op.UnOp.TheVariants as unop
use Rattle.ws_base.specs.declared.op.CallWord.{CallWord}
use Rattle.ws_base.specs.declared.op.CallWord.TheVariants as word
use Rattle.ws_tree.specs.declared.expr.Expr.{Expr}
use Rattle.ws_tree.specs.declared.expr.Expr.TheVariants.{Number, TooWide, TooDeep, Truth, Named, Part', Call', Vector'}
use Rattle.ws_tree.specs.declared.expr.Sub.{Sub}
use Rattle.ws_tree.specs.declared.expr.Sub.TheVariants as sub
use Rattle.ws_tree.specs.Trees.{Exprs, end_exprs, more_exprs, Subs, end_subs, more_subs, Given, absent, given, paren, unary, binary}
use Rattle.ws_types.specs.Expressions.{listed, how_many}
use Rattle.ws_types.specs.Operations.{is_inquiry}
use Rattle.hlfir_ops.specs.declared.kinds.Elem.TheVariants.{I32, I1}
use Rattle.hlfir_ops.specs.declared.what.ValueBinary.{ValueBinary}
use Rattle.hlfir_ops.specs.declared.what.ValueBinary.TheVariants as binaries
use Rattle.hlfir_ops.specs.declared.what.What.TheVariants as what
use Rattle.hlfir_meaning.specs.Stage1.{subscript_numbers}
use Rattle.lower_values.specs.Scopes.{Scope}
use Rattle.lower_values.specs.Lowerings.{◌>>=◌ as ◌then◌}
use Rattle.lower_values.specs.Operations.{binary_of, binary_operation, in_parentheses, unary_operation, nesting_of}
use Rattle.lower_values.specs.Values.{value, values, nested, called}
use Rattle.ws_space.specs.Values.{is_among}
use Rattle.hlfir_ops.specs.Numbers.{numbers_of}
use Rattle.value_laws.specs.Sound.{IsSoundCall, IsSound, AreSound, AreSoundSubs, ByCall, IsClear, AreClear, AreJoined}
use Rattle.value_laws.specs.Vectors.{VectorsAre}
use Rattle.value_laws.proofs.OwnNumbers.{DeclaresBelow, tidy-operation}
use Rattle.value_laws.proofs.TidyExpressions.{part_variable}
use Rattle.value_laws.proofs.ClearForms.{one-operation, Takes, clear-folded}
use Rattle.value_laws.proofs.ClearOperators.{Goal, unary-clear, parens-clear}
use Rattle.value_laws.proofs.ClearArguments.{binary_clear, EachGoal, more_clear, call_clear, vector_clear, NestedGoal, nested_clear, first_clear}
use Rattle.value_laws.proofs.ClearSubscripts.{GivenGoal, SubGoal, range-clear, given-clear, one-clear, SubsGoal, more-clear, part-clear}
use Rattle.value_laws.proofs.VectorNumbers.{or-false}

module _ (base : ℕ) (s : Scope) (below : DeclaresBelow base s) (parts : Bool) (vectors : List ℕ) where
  -- any call
  by_call : {k : _} (c : CallWord) (es : Exprs k) (b : Bool) (n : ℕ) → base ≤ n → IsSoundCall (is_inquiry c) s c es (AreSound parts s es) → EachGoal base s below parts vectors es →
      ((op : ValueBinary) → 2 ≤ length (listed es) → AreSound parts s es → Takes base vectors s b n (nested op None es) → AreJoined vectors s op (b && true) None n es) →
      Takes base vectors s b n (called c (listed es) (values es) (λ op. nested op None es)) →
      ByCall (nesting_of c) (is_inquiry c) (λ op. AreJoined vectors s op (b && true) None n es) (AreClear vectors s n es × (is_among (n + numbers_of (values es s n).ops) vectors ≡ (b && true)))
  by_call word.Min es b n g sound each first h = first binaries.Min sound.0 sound.1 h
  by_call word.Max es b n g sound each first h = first binaries.Max sound.0 sound.1 h
  by_call word.Size es b n g sound each first h = tt
  by_call word.Lbound es b n g sound each first h = tt
  by_call word.Ubound es b n g sound each first h = tt
  by_call word.Allocated es b n g sound each first h = tt
  by_call c es b n g sound each first h = call_clear base s below parts vectors c es b n g sound.1 each h

  mutual
    pub clear-value : (e : Expr) → Goal base s below parts vectors e
    clear-value (Number z) b n g sound h = tt
    clear-value TooWide b n g sound h = tt
    clear-value TooDeep b n g sound h = tt
    clear-value (Truth v) b n g sound h = tt
    clear-value (Named x) b n g sound h = tt
    clear-value (Part' x _ subs) b n g sound h =
        let at = part_variable base s below parts x (how_many subs) (AreSoundSubs parts s subs) sound in
        part-clear base s below parts vectors x subs b n g at.0 at.1 at.2 (clear-subs subs) h
    clear-value (Call' c _ es) b n g sound h = by_call c es b n g sound (clear-each es) (λ op many are taken. clear-first op es b n g many are taken) h
    clear-value (Vector' _ es) b n g sound h = vector_clear base s below parts vectors es b n g sound.0 (clear-each es) h
    clear-value (paren e) b n g sound h = clear-folded base vectors s (paren e) b n (value e then in_parentheses) _
        (λ taken. parens-clear base s below parts vectors e b n (value e s n).made.kind refl g sound (clear-value e) taken) h
    clear-value (unary unop.Plus e) b n g sound h = clear-folded base vectors s (unary unop.Plus e) b n (value e then unary_operation unop.Plus) _
        (λ taken. parens-clear base s below parts vectors e b n (value e s n).made.kind refl g sound (clear-value e) taken) h
    clear-value (unary unop.Minus e) b n g sound h = clear-folded base vectors s (unary unop.Minus e) b n (value e then unary_operation unop.Minus) _
        (λ taken. unary-clear base s below parts vectors unop.Minus e b n g sound (λ m x. one-operation s m (what.Unary _) I32 _ (λ os. refl)) (λ m x. tidy-operation base s m m (omega arith) (what.Unary _) I32 _ (λ os. refl)) (clear-value e) taken) h
    clear-value (unary unop.Not e) b n g sound h = clear-folded base vectors s (unary unop.Not e) b n (value e then unary_operation unop.Not) _
        (λ taken. unary-clear base s below parts vectors unop.Not e b n g sound (λ m x. one-operation s m (what.Unary _) I1 _ (λ os. refl)) (λ m x. tidy-operation base s m m (omega arith) (what.Unary _) I1 _ (λ os. refl)) (clear-value e) taken) h
    clear-value (binary op e f) b n g sound h = clear-folded base vectors s (binary op e f) b n (value e then (λ x. value f then (λ y. binary_operation (binary_of op) x y))) _
        (λ taken. binary_clear base s below parts vectors op e f b n g sound.0 sound.1 (clear-value e) (clear-value f) taken) h

    pub clear-each : {k : _} (es : Exprs k) → EachGoal base s below parts vectors es
    clear-each end_exprs n g sound h = tt
    clear-each (more_exprs e es) n g sound h = more_clear base s below parts vectors e es (clear-value e) (clear-each es) n g sound h

    pub clear-first : {k : _} (op : ValueBinary) (es : Exprs k) (b : Bool) (n : ℕ) → base ≤ n → 2 ≤ length (listed es) → AreSound parts s es → Takes base vectors s b n (nested op None es) → AreJoined vectors s op (b && true) None n es
    clear-first op end_exprs b n g many sound h = tt
    clear-first op (more_exprs e end_exprs) b n g many sound h = absurd (omega (arith, many))
    clear-first op (more_exprs e (more_exprs d es)) b n g many sound h = first_clear base s below parts vectors op e d es (clear-value e) (clear-nested op (more_exprs d es)) b n g sound h

    pub clear-nested : {k : _} (op : ValueBinary) (es : Exprs k) → NestedGoal base s below parts vectors op es
    clear-nested op end_exprs b x n g sound h = tt
    clear-nested op (more_exprs e es) b x n g sound h = nested_clear base s below parts vectors op e es (clear-value e) (clear-nested op es) b x n g sound h

    pub clear-subs : {k : _} (subs : Subs k) → SubsGoal base s below parts vectors subs
    clear-subs end_subs r dim n g sound h = tt
    clear-subs (more_subs x xs) r dim n g sound h = more-clear base s below parts vectors x xs (clear-sub x) (clear-subs xs) r dim n g sound h

    pub clear-sub : (x : Sub) → SubGoal base s below parts vectors x
    clear-sub (sub.One e) r dim n g sound h = one-clear base s below parts vectors e (clear-value e) r dim n g sound h
    clear-sub (sub.Range' u v w) r dim n g sound h = range-clear base s below parts vectors u v w (clear-given u) (clear-given v) (clear-given w) r dim n g sound h

    pub clear-given : (x : Given) → GivenGoal base s below parts vectors x
    clear-given absent other n g sound h = tt
    clear-given (given e) other n g sound h = given-clear base s below parts vectors e (clear-value e) other n g sound h

  -- an expression that is no vector subscript
  pub clear-whole : (e : Expr) (n : ℕ) → base ≤ n → IsSound parts s e → VectorsAre vectors n (value e s n).ops → IsClear vectors s false n e
  clear-whole e n g sound h = clear-value e false n g sound (record { are = λ k low high. h k low high ∙ sym (or-false (is_among k (subscript_numbers (value e s n).ops))) })
