-- No expression but a name leaves a whole variable.
use Rattle.std.proofs.Common.{◌≡◌, refl, sym, ◌∙◌, subst, inl, inr, ℕ, ◌+◌, ◌≤◌, true, false, List, [], ◌∷◌, ◌++◌, None, Ok, Err, IfOk, length, arith}
use Rattle.std.specs.Prelude.{◌⊎◌}
use Rattle.std.proofs.lemmas.Bool.{true≢false}
use Rattle.ws_base.specs.declared.name.Name.{Name}
use Rattle.ws_base.specs.declared.op.CallWord.{CallWord}
use Rattle.ws_base.specs.declared.op.CallWord.TheVariants as word
use Rattle.ws_base.specs.declared.op.UnOp.TheVariants as unop
use Rattle.ws_base.specs.Outcomes.{Staged}
use Rattle.ws_tree.specs.declared.expr.Expr.{Expr}
use Rattle.ws_tree.specs.declared.expr.Expr.TheVariants.{Number, TooWide, TooDeep, Truth, Named, Part', Call', Vector'}
use Rattle.ws_tree.specs.Trees.{Exprs, end_exprs, more_exprs, Subs, paren, unary, binary}
use Rattle.ws_types.specs.Expressions.{listed}
use Rattle.ws_types.specs.Operations.{is_inquiry}
use Rattle.array_meaning.specs.declared.world.World.{World}
use Rattle.array_meaning.specs.declared.term.Term.{Term}
use Rattle.array_meaning.specs.declared.term.Term.TheVariants as term
use Rattle.array_meaning.specs.Stage1 as source
use Rattle.hlfir_ops.specs.declared.kinds.ValueKind.{ValueKind}
use Rattle.hlfir_ops.specs.declared.kinds.ValueKind.TheVariants as kind
use Rattle.hlfir_ops.specs.declared.what.ValueBinary.{ValueBinary}
use Rattle.hlfir_ops.specs.declared.what.What.TheVariants as what
use Rattle.hlfir_ops.specs.Trees.{op_of}
use Rattle.hlfir_ops.specs.Numbers.{numbers_of}
use Rattle.hlfir_meaning.specs.Environments.{Environment, result}
use Rattle.hlfir_meaning.specs.Stage1.{subscript_numbers, once}
use Rattle.lower_values.specs.declared.operand.Operand.{Operand}
use Rattle.lower_values.specs.declared.operand.Subscript.{Subscript}
use Rattle.lower_values.specs.Scopes.{Scope}
use Rattle.lower_values.specs.Lowerings.{Lowered, Lowering, done, giving, ◌>>=◌ as ◌then◌}
use Rattle.lower_values.specs.Operations.{values_of, first_elem, binary_of, binary_operation, value_of_whole, in_parentheses, unary_operation, call_on, vector}
use Rattle.lower_values.specs.References.{reference, load_of, loaded, designated}
use Rattle.lower_values.specs.Values.{part_of, value, values, subscripts, called, nested}
use Rattle.value_laws.specs.Standing.{Does, Stands}
use Rattle.value_laws.specs.Names.{Agrees}
use Rattle.value_laws.specs.Sound.{IsSound, IsSoundCall, AreSound, IsClear}
use Rattle.value_laws.specs.Variables.{IsNamed}
use Rattle.value_laws.proofs.Named.{name-rank}
use Rattle.part_laws.specs.Joined.{HasSmallRanks}
use Rattle.part_laws.specs.Lefts.{region_of, Ends}
use Rattle.part_laws.specs.Yielded.{IsNoVariable, IsName}
use Rattle.part_laws.proofs.Endings.{EndsInOp, IsPlain, plain-nothing, plain-then, plain-giving, plain-operation, plain-call, plain-inquiry, plain-nested, plain-folded}
use Rattle.part_laws.proofs.Joined.{expressions-stand}
use Rattle.part_laws.proofs.NoVariables.{once-plain}
use Rattle.part_laws.proofs.Ready.{named_or_not}
use Rattle.part_laws.proofs.Regions.{does-ends}
use Rattle.part_laws.proofs.Walked.{Walked, last-given, once-parts, of_ok}

-- ---- by the form of the expression

module _ (base : ℕ) (s : Scope) (w : World) (env : Environment) (agrees : Agrees s.names base w env) where
  -- a declare or a box comes of a name alone
  abbrev IsMade : ℕ → Expr → Type 0
  IsMade n e = IsPlain n (value e s n) ⊎ (IsName e × IsNamed (value e s n).made.kind)

  name_made : (n : ℕ) (x : Name) → IsMade n (Named x)
  name_made n x = by (named_or_not (value (Named x) s n).made.kind)
    where
      by : IsNamed (value (Named x) s n).made.kind ⊎ (IsNamed (value (Named x) s n).made.kind → ⊥) → IsMade n (Named x)
      by (inl named) = inr (tt, named)
      by (inr unnamed) = inl (inl (name-rank s n base env w agrees x unnamed))

  -- ---- designators and constructors

  load_plain : (n m : ℕ) (l : Lowered Operand) (k : ValueKind) → IsPlain n l → IsPlain n (record { ops = l.ops ++ (load_of k l.made s m).ops; made = (load_of k l.made s m).made })
  unfolding giving done
  load_plain n m l (kind.Place e) h = inl refl
  load_plain n m l k h = plain-nothing n l h

  loaded_plain : (n : ℕ) (p : Lowering Operand) → IsPlain n (p s n) → IsPlain n ((p then loaded) s n)
  unfolding loaded ◌then◌
  loaded_plain n p h = load_plain n (n + numbers_of (p s n).ops) (p s n) (p s n).made.kind h

  designated_plain : (n : ℕ) (r : Operand) (ss : List Subscript) → IsPlain n (designated r ss s n)
  unfolding designated
  designated_plain n r ss = plain-giving s n _ _ _ tt

  part_plain : {k : _} (n : ℕ) (x : Name) (subs : Subs k) → IsPlain n (part_of x (λ r. subscripts r 1 subs) s n)
  unfolding part_of
  part_plain n x subs =
      let r = (reference x s n).made in
      let m = n + numbers_of (reference x s n).ops in
      plain-then s n (reference x) (λ o. subscripts o 1 subs then designated o)
      (plain-then s m (subscripts r 1 subs) (designated r) (designated_plain (m + numbers_of (subscripts r 1 subs s m).ops) r (subscripts r 1 subs s m).made))

  vector_plain : (n : ℕ) (xs : List Operand) → IsPlain n (vector xs s n)
  unfolding vector
  vector_plain n xs = plain-giving s n what.Vector (values_of xs) (kind.Array (first_elem xs) 1) tt

  -- ---- parentheses

  whole_plain : (n : ℕ) (e : Expr) (k : ValueKind) → (value e s n).made.kind ≡ k → IsMade n e → IsPlain n ((value e then value_of_whole k) s n)
  unfolding done ◌then◌
  whole_plain n e (kind.Declared el shape) is h =
      plain-then s n (value e) (value_of_whole (kind.Declared el shape)) (plain-giving s (n + numbers_of (value e s n).ops) what.AsExpr ((value e s n).made.value ∷ []) (kind.Array el shape.rank) tt)
  whole_plain n e (kind.Allocatable el rank) is h =
      plain-then s n (value e) (value_of_whole (kind.Allocatable el rank)) (plain-giving s (n + numbers_of (value e s n).ops) what.AsExpr ((value e s n).made.value ∷ []) (kind.Array el rank) tt)
  whole_plain n e k is (inl plain) = plain-nothing n (value e s n) plain
  whole_plain n e k is (inr named) = absurd (subst IsNamed is named.1)

  parens_plain : (n : ℕ) (e : Expr) → IsMade n e → IsPlain n ((value e then in_parentheses) s n)
  unfolding in_parentheses ◌then◌
  parens_plain n e h = whole_plain n e (value e s n).made.kind refl h

  -- ---- calls

  nested_case : {k : _} (op : ValueBinary) (es : Exprs k) (n : ℕ) → 2 ≤ length (listed es) → IsPlain n (nested op None es s n)
  nested_case op end_exprs n many = absurd (omega (arith, many))
  nested_case op (more_exprs e end_exprs) n many = absurd (omega (arith, many))
  nested_case op (more_exprs e (more_exprs d es)) n many = plain-nested s op e d es n

  at_once : {k : _} (c : CallWord) (es : Exprs k) (n : ℕ) → IsPlain n ((values es then call_on c) s n)
  at_once c es n = plain-then s n (values es) (call_on c) (plain-call s (n + numbers_of (values es s n).ops) c (values es s n).made)

  call_plain : {k : _} (c : CallWord) (es : Exprs k) (n : ℕ) → IsSoundCall (is_inquiry c) s c es (AreSound true s es) → IsPlain n (called c (listed es) (values es) (λ op. nested op None es) s n)
  call_plain word.Min es n sound = nested_case _ es n sound.0
  call_plain word.Max es n sound = nested_case _ es n sound.0
  call_plain word.Size es n sound = plain-inquiry s n word.Size (listed es)
  call_plain word.Lbound es n sound = plain-inquiry s n word.Lbound (listed es)
  call_plain word.Ubound es n sound = plain-inquiry s n word.Ubound (listed es)
  call_plain word.Allocated es n sound = plain-inquiry s n word.Allocated (listed es)
  call_plain c es n sound = at_once c es n

  -- ---- the induction

  is_made : (e : Expr) (n : ℕ) → IsSound true s e → IsMade n e
  is_made (Number z) n sound = inl (plain-giving s n _ _ _ tt)
  is_made TooWide n sound = inl (plain-giving s n _ _ _ tt)
  is_made TooDeep n sound = inl (plain-giving s n _ _ _ tt)
  is_made (Truth b) n sound = inl (plain-giving s n _ _ _ tt)
  is_made (Named x) n sound = name_made n x
  is_made (Part' x h subs) n sound = inl (loaded_plain n (part_of x (λ r. subscripts r 1 subs)) (part_plain n x subs))
  is_made (Call' c h es) n sound = inl (call_plain c es n sound)
  is_made (Vector' h es) n sound = inl (plain-then s n (values es) vector (vector_plain (n + numbers_of (values es s n).ops) (values es s n).made))
  is_made (paren e) n sound = inl (plain-folded s n (paren e) (value e then in_parentheses) (parens_plain n e (is_made e n sound)))
  is_made (unary unop.Plus e) n sound = inl (plain-folded s n (unary unop.Plus e) (value e then unary_operation unop.Plus) (parens_plain n e (is_made e n sound)))
  is_made (unary unop.Minus e) n sound = inl (plain-folded s n (unary unop.Minus e) (value e then unary_operation unop.Minus) (plain-then s n (value e) (unary_operation unop.Minus) (plain-operation s _ _ _ _)))
  is_made (unary unop.Not e) n sound = inl (plain-folded s n (unary unop.Not e) (value e then unary_operation unop.Not) (plain-then s n (value e) (unary_operation unop.Not) (plain-operation s _ _ _ _)))
  is_made (binary op e f) n sound = inl (plain-folded s n (binary op e f) (value e then (λ x. value f then (λ y. binary_operation (binary_of op) x y)))
      (plain-then s n (value e) (λ x. value f then (λ y. binary_operation (binary_of op) x y))
      (plain-then s (n + numbers_of (value e s n).ops) (value f) (binary_operation (binary_of op) (value e s n).made) (plain-operation s _ _ _ _))))

-- ---- what is left

ends_plain : (vectors : List ℕ) (n : ℕ) (env : Environment) (l : Lowered Operand) (m : ℕ) (after : Environment) → EndsInOp n l → Walked vectors n env l.ops m after → IsNoVariable (after l.made.value.number)
ends_plain vectors n env l m after h walked =
    let op = op_of h.last.what h.last.line h.last.operands h.last.kind h.last.regions in
    let given = last-given vectors m after op h.before n env (subst (λ ops. Walked vectors n env ops m after) h.ops walked) in
    subst (λ j. IsNoVariable (after j)) (sym h.number)
    (of_ok IsNoVariable (once vectors (n + numbers_of h.before) given.0 op) (after (n + numbers_of h.before))
    (subst (λ r. IfOk r IsNoVariable) (sym (once-parts vectors m after h.last.what h.last.line h.last.operands h.last.kind h.last.regions (n + numbers_of h.before) given.0))
    (once-plain h.last.what h.last.line h.last.operands h.last.kind h.last.regions vectors (n + numbers_of h.before) given.0 h.box)) given.1)

module _ (base : ℕ) (s : Scope) (w : World) (small : HasSmallRanks s.names) (n : ℕ) (env : Environment) (g : base ≤ n) (agrees : Agrees s.names base w env) (e : Expr) (no_name : IsName e → ⊥) (sound : IsSound true s e)
    (clear : IsClear (subscript_numbers (region_of (value e) s n).ops) s false n e) where
  abbrev vectors : List ℕ
  vectors = subscript_numbers (region_of (value e) s n).ops

  abbrev IsPlainValue : Operand → Term → ℕ → Environment → Type 0
  IsPlainValue x t m after = IsNoVariable (after x.value.number)

  plain_value : (m : ℕ) (after : Environment) (t : Term) → Walked vectors n env (value e s n).ops m after → Stands base n m after (value e s n).made t → IsMade base s w env agrees n e → IsNoVariable (after (value e s n).made.value.number)
  plain_value m after (term.Scalar z) walked h made = subst IsNoVariable (sym (h.found ∙ h.rank.1)) tt
  plain_value m after t walked h (inl (inl none)) = absurd (true≢false (sym none ∙ h.rank))
  plain_value m after t walked h (inl (inr ends)) = ends_plain vectors n env (value e s n) m after ends walked
  plain_value m after t walked h (inr named) = absurd (no_name named.0)

  does_plain : (r : Staged Term) → Does vectors s n env (value e) r (λ x t m after. Stands base n m after x t) → Does vectors s n env (value e) r IsPlainValue
  does_plain (Ok t) h = (h.0, h.1, plain_value (n + numbers_of (value e s n).ops) h.0 t h.1.walked h.2 (is_made base s w env agrees e n sound))
  does_plain (Err t) h = h

  pub only-names : Ends env (region_of (value e) s n) (source.walk w e) (λ y t. IsNoVariable (result y))
  only-names = does-ends s n env (value e) IsPlainValue (λ y t. IsNoVariable (result y)) (λ t m after h. h) (source.walk w e) (does_plain (source.walk w e) (expressions-stand vectors base s w small n env g agrees e sound clear))
