-- A lowered expression leaves what stands for its source, by induction over the expression.
use Rattle.std.proofs.Common.{◌≡◌, refl, sym, ap, ◌∙◌, subst, ℕ, suc, ◌+◌, ◌≤◌, ◌==◌, Bool, true, false, List, [], ◌∷◌, map, Option, Some, None, Ok, pos, arith}
use Rattle.std.specs.Prelude.{not, ◌&&◌}
use Rattle.std.proofs.lemmas.Bool.{true≢false}
use Rattle.ws_base.specs.Numbers.{truth}
use Rattle.ws_base.specs.Outcomes.{Staged, ◌>>=◌}
use Rattle.ws_base.specs.declared.name.Name.{Name}
use Rattle.ws_base.specs.declared.op.BinOp.{BinOp}
use Rattle.ws_base.specs.declared.op.UnOp.TheVariants as unop
use Rattle.ws_space.specs.Shapes.{dims}
use Rattle.ws_space.specs.Values.{is_among, state_of}
use Rattle.ws_tree.specs.declared.expr.Expr.{Expr}
use Rattle.ws_tree.specs.declared.expr.Expr.TheVariants.{Number, TooWide, TooDeep, Truth, Named, Part', Call', Vector'}
use Rattle.ws_tree.specs.declared.expr.Sub.{Sub}
use Rattle.ws_tree.specs.declared.expr.Sub.TheVariants as sub
use Rattle.ws_tree.specs.Trees.{Exprs, end_exprs, more_exprs, Subs, end_subs, more_subs, Given, absent, given, paren, unary, binary}
use Rattle.ws_types.specs.Expressions.{how_many}
use Rattle.ws_types.specs.declared.constant.Constancy.{Constancy}
use Rattle.ws_types.specs.declared.constant.Constancy.TheVariants.{Value, NoValue, NotConstant}
use Rattle.ws_types.specs.Constants.{constancy}
use Rattle.ws_types.specs.Sections.{is_section, is_designator}
use Rattle.array_meaning.specs.declared.world.World.{World}
use Rattle.array_meaning.specs.declared.term.Term.{Term}
use Rattle.array_meaning.specs.declared.term.Term.TheVariants as term
use Rattle.array_meaning.specs.Stage1 as source
use Rattle.hlfir_ops.specs.declared.kinds.Elem.TheVariants.{I32, I1}
use Rattle.hlfir_ops.specs.declared.kinds.ValueKind.{ValueKind}
use Rattle.hlfir_ops.specs.declared.kinds.ValueKind.TheVariants as kind
use Rattle.hlfir_ops.specs.declared.what.BoundWord.TheVariants.{Lower, Upper}
use Rattle.hlfir_ops.specs.declared.what.ValueBinary.{ValueBinary}
use Rattle.hlfir_ops.specs.Numbers.{numbers_of}
use Rattle.hlfir_ops.specs.RulesValues.{rank_of}
use Rattle.hlfir_meaning.specs.Environments.{Environment}
use Rattle.hlfir_meaning.specs.Stage1.{stage1}
use Rattle.lower_values.specs.declared.operand.Operand.{Operand}
use Rattle.lower_values.specs.Scopes.{Scope}
use Rattle.lower_values.specs.Lowerings.{Lowering, done, next, ◌>>=◌ as ◌then◌}
use Rattle.lower_values.specs.Operations.{constant, binary_of, binary_operation, value_of_whole, in_parentheses, unary_operation, joined, vector}
use Rattle.lower_values.specs.References.{reference, bound, loaded}
use Rattle.lower_values.specs.Values.{value, values, part_of, subscripts, subscript, given_or}
use Rattle.value_laws.specs.Standing.{Kept, Does, Stands, StandEach}
use Rattle.value_laws.specs.Arguments.{ArgumentsStand, is_settled, LeavesAs, PartStands, GivenStands, SubscriptStands, SubscriptsStand}
use Rattle.value_laws.specs.Laws.{PartsStand, IfParts}
use Rattle.value_laws.specs.Names.{Agrees}
use Rattle.value_laws.specs.Variables.{IsNamed}
use Rattle.value_laws.specs.Sound.{IsSoundPart, IsSound, AreSound, AreItems, AreSoundSubs, IsSoundSub, IsSoundGiven, AreClearSubs, IsClearSub, IsClearGiven, UnlessValue, ByCopy, IsClear, AreClear, AreJoined}
use Rattle.value_laws.proofs.CallForms.{call-if}
use Rattle.value_laws.proofs.Constructors.{does-vector}
use Rattle.value_laws.proofs.Copies.{copy-if}
use Rattle.value_laws.proofs.Folded.{folded-if}
use Rattle.value_laws.proofs.Moved.{stands-moved, kept-alike}
use Rattle.value_laws.proofs.Named.{does-name, name-rank}
use Rattle.value_laws.proofs.Nested.{then_nothing}
use Rattle.value_laws.proofs.Operations.{minus-if, not-if, binary-if}
use Rattle.value_laws.proofs.Parts.{agrees-kept, settle-then, plus_nothing, ranked-if, items-single}
use Rattle.value_laws.proofs.Scalars.{does-constant}
use Rattle.value_laws.proofs.Settled.{settle_if, StandsIf, does-scalar_if}
use Rattle.value_laws.proofs.Walking.{does-done, does-then}

-- ---- what is evaluated whole as a vector subscript

abbrev HasNoSection : Bool → Expr → Type 0
HasNoSection true e = is_section e ≡ false
HasNoSection false e = Unit {0}

-- no section, and no declare or box of an array
abbrev pub IsEvaluated : Bool → Expr → ValueKind → Type 0
IsEvaluated false e k = Unit {0}
IsEvaluated true (Named x) k = IsNamed k → ⊥
IsEvaluated true e k = is_section e ≡ false

inner_evaluated : (b : Bool) (e : Expr) (k : ValueKind) → HasNoSection b e → (IsNamed k → ⊥) → IsEvaluated b e k
inner_evaluated false e k h not = tt
inner_evaluated true (Named x) k h not = not
inner_evaluated true e k h not = h

paren_evaluated : (b : Bool) (e : Expr) (k : ValueKind) → IsEvaluated b (paren e) k → HasNoSection b e
paren_evaluated false e k h = tt
paren_evaluated true e k h = h

plus_evaluated : (b : Bool) (e : Expr) (k : ValueKind) → IsEvaluated b (unary unop.Plus e) k → HasNoSection b e
plus_evaluated false e k h = tt
plus_evaluated true e k h = h

pub designator-evaluated : (e : Expr) (k : ValueKind) → is_designator e ≡ false → IsEvaluated true e k
designator-evaluated (Named x) k h = absurd (true≢false h)
designator-evaluated e k h = h

unless-map : (c : Constancy) (P Q : Type 0) → (P → Q) → UnlessValue c P → UnlessValue c Q
unless-map (Value z) P Q f h = tt
unless-map NoValue P Q f h = f h
unless-map NotConstant P Q f h = f h

module _ (parts : Bool) (vectors : List ℕ) (base : ℕ) (s : Scope) (w : World) (law : IfParts parts (PartsStand vectors base s w)) where
  abbrev Results : Bool → ℕ → Environment → Lowering Operand → Staged Term → Type 0
  Results b n env p r = Does vectors s n env p (settle_if b r) (λ x t m after. StandsIf b base n m after x t)

  abbrev Goal : Bool → Expr → Type 0
  Goal b e = (n : ℕ) (env : Environment) → base ≤ n → Agrees s.names base w env → IsSound parts s e → IsClear vectors s b n e → IsEvaluated b e (value e s n).made.kind → Results b n env (value e) (source.walk w e)

  among_at : (b : Bool) (m n : ℕ) → m ≡ n → is_among n vectors ≡ b → is_among m vectors ≡ b
  among_at b m n at h = subst (λ j. is_among j vectors ≡ b) (sym at) h

  -- ---- one part

  after_one : (b : Bool) (p : Lowering Operand) (q : Operand → Lowering Operand) (r : Staged Term) (f : Term → Staged Term) (n : ℕ) (env : Environment) → Does vectors s n env p r (λ x t m after. Stands base n m after x t) →
      ((t : Term) (m : ℕ) (middle : Environment) → m ≡ n + numbers_of (p s n).ops → n ≤ m → Stands base n m middle (p s n).made t → Does vectors s m middle (q (p s n).made) (settle_if b (f t)) (λ x u k after. StandsIf b base n k after x u)) →
      Results b n env (p then q) (r >>= f)
  after_one b p q r f n env h g =
      subst (λ o. Does vectors s n env (p then q) o (λ x t m after. StandsIf b base n m after x t)) (sym (settle-then b r f))
      (does-then (stage1 vectors) s n env p q r (λ t. settle_if b (f t)) (λ x t m after. Stands base n m after x t) (λ x t m after. StandsIf b base n m after x t) h
      (λ t m middle at kept hx. g t m middle at (omega (arith, at)) hx))

  minus_case : (b : Bool) (e : Expr) (n : ℕ) (env : Environment) → base ≤ n → Results false n env (value e) (source.walk w e) → is_among (n + numbers_of (value e s n).ops) vectors ≡ b →
      Results b n env (value e then unary_operation unop.Minus) (source.walk w e >>= source.unary_on unop.Minus)
  minus_case b e n env g h among = after_one b (value e) (unary_operation unop.Minus) (source.walk w e) (source.unary_on unop.Minus) n env h
      (λ t m middle at l hx. minus-if vectors base n s m middle (value e s n).made g l b (among_at b m (n + numbers_of (value e s n).ops) at among) t hx)

  not_case : (b : Bool) (e : Expr) (n : ℕ) (env : Environment) → base ≤ n → Results false n env (value e) (source.walk w e) → is_among (n + numbers_of (value e s n).ops) vectors ≡ b →
      Results b n env (value e then unary_operation unop.Not) (source.walk w e >>= source.unary_on unop.Not)
  not_case b e n env g h among = after_one b (value e) (unary_operation unop.Not) (source.walk w e) (source.unary_on unop.Not) n env h
      (λ t m middle at l hx. not-if vectors base n s m middle (value e s n).made g l b (among_at b m (n + numbers_of (value e s n).ops) at among) t hx)

  -- ---- parentheses

  copied : (b : Bool) (e : Expr) (n : ℕ) (env : Environment) → IsNamed (value e s n).made.kind → Results false n env (value e) (source.walk w e) → is_among (n + numbers_of (value e s n).ops) vectors ≡ b →
      Results b n env (value e then in_parentheses) (source.walk w e)
  copied b e n env named h among =
      subst (λ r. Results b n env (value e then in_parentheses) r) (then_nothing (source.walk w e))
      (after_one b (value e) in_parentheses (source.walk w e) (λ t. Ok t) n env h
      (λ t m middle at l hx. copy-if vectors base n s m middle (value e s n).made l named b t (among_at b m (n + numbers_of (value e s n).ops) at among) hx))

  unchanged : (b : Bool) (e : Expr) (n : ℕ) (env : Environment) → value_of_whole (value e s n).made.kind (value e s n).made ≡ done (value e s n).made → Results b n env (value e) (source.walk w e) →
      Results b n env (value e then in_parentheses) (source.walk w e)
  unfolding in_parentheses
  unchanged b e n env same h =
      let r = settle_if b (source.walk w e) in
      let x = (value e s n).made in
      subst (λ q. Does vectors s n env (value e then in_parentheses) q (λ y t m after. StandsIf b base n m after y t)) (then_nothing r)
      (does-then (stage1 vectors) s n env (value e) in_parentheses r (λ t. Ok t) (λ y t m after. StandsIf b base n m after y t) (λ y t m after. StandsIf b base n m after y t) h
      (λ t m middle at kept hx. subst (λ p. Does vectors s m middle p (Ok t) (λ y u k after. StandsIf b base n k after y u)) (sym same) (does-done (stage1 vectors) s m middle x t (λ y u k after. StandsIf b base n k after y u) hx)))

  parens_by : (b : Bool) (e : Expr) (n : ℕ) (env : Environment) (k : ValueKind) → k ≡ (value e s n).made.kind → base ≤ n → Agrees s.names base w env → IsSound parts s e → HasNoSection b e → Goal false e → Goal b e →
      ByCopy k (IsClear vectors s false n e × (is_among (n + numbers_of (value e s n).ops) vectors ≡ b)) (IsClear vectors s b n e) → Results b n env (value e then in_parentheses) (source.walk w e)
  parens_by b e n env (kind.Declared el shape) is g agrees sound free first whole clear = copied b e n env (subst IsNamed is tt) (first n env g agrees sound clear.0 tt) clear.1
  parens_by b e n env (kind.Allocatable el rank) is g agrees sound free first whole clear = copied b e n env (subst IsNamed is tt) (first n env g agrees sound clear.0 tt) clear.1
  parens_by b e n env k is g agrees sound free first whole clear =
      unchanged b e n env (ap (λ j. value_of_whole j (value e s n).made) (sym is)) (whole n env g agrees sound clear (inner_evaluated b e (value e s n).made.kind free (λ named. subst IsNamed (sym is) named)))

  -- ---- two parts

  binary_case : (b : Bool) (op : BinOp) (e f : Expr) (n : ℕ) (env : Environment) → base ≤ n → Agrees s.names base w env → Results false n env (value e) (source.walk w e) →
      ((m : ℕ) (middle : Environment) → m ≡ n + numbers_of (value e s n).ops → base ≤ m → Agrees s.names base w middle → Results false m middle (value f) (source.walk w f)) →
      is_among (n + numbers_of (value e s n).ops + numbers_of (value f s (n + numbers_of (value e s n).ops)).ops) vectors ≡ b →
      Results b n env (value e then (λ x. value f then (λ y. binary_operation (binary_of op) x y))) (source.walk w e >>= (λ t. source.walk w f >>= (λ u. source.binary_on op t u)))
  binary_case b op e f n env g agrees h k among =
      subst (λ o. Does vectors s n env (value e then (λ x. value f then (λ y. binary_operation (binary_of op) x y))) o (λ x t m after. StandsIf b base n m after x t))
      (sym (settle-then b (source.walk w e) (λ t. source.walk w f >>= (λ u. source.binary_on op t u))))
      (does-then (stage1 vectors) s n env (value e) (λ x. value f then (λ y. binary_operation (binary_of op) x y)) (source.walk w e) (λ t. settle_if b (source.walk w f >>= (λ u. source.binary_on op t u)))
      (λ x t m after. Stands base n m after x t) (λ z t m after. StandsIf b base n m after z t) h
      (λ t m middle at kept hx. second t m middle at (omega (arith, at)) kept hx))
    where
      second : (t : Term) (m : ℕ) (middle : Environment) → m ≡ n + numbers_of (value e s n).ops → n ≤ m → Kept n env middle → Stands base n m middle (value e s n).made t →
          Does vectors s m middle (value f then (λ y. binary_operation (binary_of op) (value e s n).made y)) (settle_if b (source.walk w f >>= (λ u. source.binary_on op t u))) (λ z u j after. StandsIf b base n j after z u)
      second t m middle at l kept hx =
          subst (λ o. Does vectors s m middle (value f then (λ y. binary_operation (binary_of op) (value e s n).made y)) o (λ z u j after. StandsIf b base n j after z u)) (sym (settle-then b (source.walk w f) (λ u. source.binary_on op t u)))
          (does-then (stage1 vectors) s m middle (value f) (λ y. binary_operation (binary_of op) (value e s n).made y) (source.walk w f) (λ u. settle_if b (source.binary_on op t u))
          (λ y u j after. Stands base m j after y u) (λ z u j after. StandsIf b base n j after z u) (k m middle at (omega (arith, g, l)) (agrees-kept s.names base n w env middle g kept agrees))
          (λ u j after at' kept' hy. binary-if vectors base n m s j after (value e s n).made (value f s m).made g l (omega (arith, at')) op b
          (among_at b j (n + numbers_of (value e s n).ops + numbers_of (value f s (n + numbers_of (value e s n).ops)).ops) (at' ∙ ap (λ i. i + numbers_of (value f s i).ops) at) among) t u
          (stands-moved base n n m m middle after (value e s n).made t (omega arith) (omega arith) (kept-alike base n m middle after g l kept') hx) hy))

  -- ---- arguments

  abbrev EachGoal : {k : _} → Exprs k → Type 0
  EachGoal es = (n : ℕ) (env : Environment) → base ≤ n → Agrees s.names base w env → AreSound parts s es → AreClear vectors s n es → Does vectors s n env (values es) (source.walks w es) (λ xs ts m after. StandEach base n m after xs ts)

  more_case : {k : _} (e : Expr) (es : Exprs k) → Goal false e → EachGoal es → EachGoal (more_exprs e es)
  more_case e es first rest n env g agrees sound clear =
      does-then (stage1 vectors) s n env (value e) (λ x. values es then (λ xs. done (x ∷ xs))) (source.walk w e) (λ t. source.walks w es >>= (λ ts. Ok (t ∷ ts)))
      (λ x t m after. Stands base n m after x t) (λ xs ts m after. StandEach base n m after xs ts) (first n env g agrees sound.0 clear.0 tt)
      (λ t m middle at kept hx. let l : n ≤ m = omega (arith, at) in
      does-then (stage1 vectors) s m middle (values es) (λ xs. done ((value e s n).made ∷ xs)) (source.walks w es) (λ ts. Ok (t ∷ ts))
      (λ xs ts j after. StandEach base m j after xs ts) (λ xs ts j after. StandEach base n j after xs ts)
      (rest m middle (omega (arith, g, l)) (agrees-kept s.names base n w env middle g kept agrees) sound.1 (subst (λ j. AreClear vectors s j es) (sym at) clear.1))
      (λ ts j after at' kept' hxs. does-done (stage1 vectors) s j after ((value e s n).made ∷ (values es s m).made) (t ∷ ts) (λ xs us i rho. StandEach base n i rho xs us)
      (m, l, stands-moved base n n m m middle after (value e s n).made t (omega arith) (omega arith) (kept-alike base n m middle after g l kept') hx, hxs)))

  vector_case : {k : _} (es : Exprs k) (n : ℕ) (env : Environment) → AreItems s es → Does vectors s n env (values es) (source.walks w es) (λ xs ts m after. StandEach base n m after xs ts) →
      Results false n env (values es then vector) (source.walks w es >>= (λ ts. Ok (term.Listed (map source.value_of ts))))
  vector_case es n env items each =
      does-then (stage1 vectors) s n env (values es) vector (source.walks w es) (λ ts. Ok (term.Listed (map source.value_of ts))) (λ xs ts m after. StandEach base n m after xs ts) (λ x t m after. Stands base n m after x t) each
      (λ ts m middle at kept h. does-vector vectors base n s m middle (values es s n).made ts (items-single es s n base n m middle ts items h) h)

  -- ---- designators

  part_case : {k : _} (c : Bool) (x : Name) (subs : Subs k) (n : ℕ) (env : Environment) → IfParts c (PartsStand vectors base s w) → base ≤ n → Agrees s.names base w env → IsSoundPart c s x (how_many subs) (AreSoundSubs c s subs) →
      (AreSoundSubs c s subs → SubscriptsStand vectors base env s w (reference x s n).made 1 (n + numbers_of (reference x s n).ops) subs) →
      Results false n env (next (part_of x (λ r. subscripts r 1 subs)) loaded) (source.allocated (state_of w.vars x) >>= (λ a. source.picks w (dims a.shape) subs >>= source.designator a))
  part_case {k} true x subs n env law g agrees sound stand = law k n env x subs g agrees sound (stand sound.3)
  part_case false x subs n env law g agrees sound stand = absurd sound

  -- where it is settled, it is no designator
  settled_evaluated : (e : Expr) (k : ValueKind) (b : Bool) → is_settled e k ≡ b → IsEvaluated b e k
  settled_evaluated e k false is = tt
  settled_evaluated e k true is = designator-evaluated e k (not_designator (is_designator e) (rank_of k == 0) is)
    where
      not_designator : (c d : Bool) → (not c && not d) ≡ true → c ≡ false
      not_designator false d h = refl
      not_designator true d h = absurd (true≢false (sym h))

  as_leaves : (b : Bool) (e : Expr) (n : ℕ) (env : Environment) → Results b n env (value e) (source.walk w e) → LeavesAs b vectors base s w n env e
  as_leaves true e n env h = h
  as_leaves false e n env h = h

  part_stands : (e : Expr) (b : Bool) → Goal b e → (n : ℕ) (start : Environment) → base ≤ n → Agrees s.names base w start → IsSound parts s e → IsClear vectors s b n e → IsEvaluated b e (value e s n).made.kind → PartStands b vectors base start s w n e
  part_stands e b goal n start g agrees sound clear evaluated = λ after kept. as_leaves b e n after (goal n after g (agrees-kept s.names base base w start after (omega arith) kept agrees) sound clear evaluated)

  -- ---- the induction

  mutual
    pub expression-if : (b : Bool) (e : Expr) → Goal b e
    expression-if b (Number z) n env g agrees sound clear evaluated = does-scalar_if vectors base n s n env (constant I32 (pos z)) b (Ok (pos z)) (does-constant vectors base n I32 (pos z) s n env (omega arith))
    expression-if b TooWide n env g agrees sound clear evaluated = does-scalar_if vectors base n s n env (constant I32 (pos 0)) b (Ok (pos 0)) (does-constant vectors base n I32 (pos 0) s n env (omega arith))
    expression-if b TooDeep n env g agrees sound clear evaluated = does-scalar_if vectors base n s n env (constant I32 (pos 0)) b (Ok (pos 0)) (does-constant vectors base n I32 (pos 0) s n env (omega arith))
    expression-if b (Truth v) n env g agrees sound clear evaluated = does-scalar_if vectors base n s n env (constant I1 (truth v)) b (Ok (truth v)) (does-constant vectors base n I1 (truth v) s n env (omega arith))
    expression-if false (Named x) n env g agrees sound clear evaluated = does-name vectors base n s n env g (omega arith) w agrees x sound.0 sound.1
    expression-if true (Named x) n env g agrees sound clear evaluated =
        ranked-if vectors base n s n env (value (Named x)) (name-rank s n base env w agrees x evaluated) true (source.walk w (Named x)) (does-name vectors base n s n env g (omega arith) w agrees x sound.0 sound.1)
    expression-if false (Part' x _ subs) n env g agrees sound clear evaluated = part_case parts x subs n env law g agrees sound
        (λ are. subscripts-stand subs (reference x s n).made 1 (n + numbers_of (reference x s n).ops) env (omega (arith, g)) agrees are clear)
    expression-if true (Part' x _ subs) n env g agrees sound clear evaluated = absurd (true≢false evaluated)
    expression-if b (Call' c _ es) n env g agrees sound clear evaluated = call-if vectors base s w n env g agrees b parts c es sound clear
        (λ are free. each-stand es n env g agrees are free) (λ op are free. arguments-stand op b None es n env g agrees are free)
    expression-if false (Vector' _ es) n env g agrees sound clear evaluated = vector_case es n env sound.1 (each-stand es n env g agrees sound.0 clear)
    expression-if true (Vector' _ es) n env g agrees sound clear evaluated = absurd (true≢false evaluated)
    expression-if b (paren e) n env g agrees sound clear evaluated = folded-if vectors base n s n env (omega arith) w agrees.integers (paren e) (value e then in_parentheses) b
        (unless-map (constancy s.names.constants (paren e)) _ _
        (λ free. parens_by b e n env (value e s n).made.kind refl g agrees sound (paren_evaluated b e (value (paren e) s n).made.kind evaluated) (expression-if false e) (expression-if b e) free) clear)
    expression-if b (unary unop.Plus e) n env g agrees sound clear evaluated = folded-if vectors base n s n env (omega arith) w agrees.integers (unary unop.Plus e) (value e then unary_operation unop.Plus) b
        (unless-map (constancy s.names.constants (unary unop.Plus e)) _ _
        (λ free. subst (λ r. Results b n env (value e then in_parentheses) r) (sym (plus_nothing (source.walk w e)))
        (parens_by b e n env (value e s n).made.kind refl g agrees sound (plus_evaluated b e (value (unary unop.Plus e) s n).made.kind evaluated) (expression-if false e) (expression-if b e) free)) clear)
    expression-if b (unary unop.Minus e) n env g agrees sound clear evaluated = folded-if vectors base n s n env (omega arith) w agrees.integers (unary unop.Minus e) (value e then unary_operation unop.Minus) b
        (unless-map (constancy s.names.constants (unary unop.Minus e)) _ _ (λ free. minus_case b e n env g (expression-if false e n env g agrees sound free.0 tt) free.1) clear)
    expression-if b (unary unop.Not e) n env g agrees sound clear evaluated = folded-if vectors base n s n env (omega arith) w agrees.integers (unary unop.Not e) (value e then unary_operation unop.Not) b
        (unless-map (constancy s.names.constants (unary unop.Not e)) _ _ (λ free. not_case b e n env g (expression-if false e n env g agrees sound free.0 tt) free.1) clear)
    expression-if b (binary op e f) n env g agrees sound clear evaluated = folded-if vectors base n s n env (omega arith) w agrees.integers (binary op e f) (value e then (λ x. value f then (λ y. binary_operation (binary_of op) x y))) b
        (unless-map (constancy s.names.constants (binary op e f)) _ _
        (λ free. binary_case b op e f n env g agrees (expression-if false e n env g agrees sound.0 free.0 tt)
        (λ m middle at low agrees'. expression-if false f m middle low agrees' sound.1 (subst (λ j. IsClear vectors s false j f) (sym at) free.1) tt) free.2) clear)

    pub each-stand : {k : _} (es : Exprs k) → EachGoal es
    each-stand end_exprs n env g agrees sound clear = does-done (stage1 vectors) s n env [] [] (λ xs ts m after. StandEach base n m after xs ts) (omega arith)
    each-stand (more_exprs e es) n env g agrees sound clear = more_case e es (expression-if false e) (each-stand es) n env g agrees sound clear

    pub arguments-stand : {k : _} (op : ValueBinary) (b : Bool) (before : Option Operand) (es : Exprs k) (n : ℕ) (start : Environment) → base ≤ n → Agrees s.names base w start → AreSound parts s es →
        AreJoined vectors s op b before n es → ArgumentsStand vectors base start s w op b before n es
    arguments-stand op b before end_exprs n start g agrees sound clear = tt
    arguments-stand op b before (more_exprs e es) n start g agrees sound clear = (
      (λ after kept. expression-if false e n after g (agrees-kept s.names base base w start after (omega arith) kept agrees) sound.0 clear.0 tt),
      clear.1,
      arguments-stand op b (Some (joined op before (value e s n).made s (n + numbers_of (value e s n).ops)).made) es
          (n + numbers_of (value e s n).ops + numbers_of (joined op before (value e s n).made s (n + numbers_of (value e s n).ops)).ops) start (omega (arith, g)) agrees sound.1 clear.2,
    )

    pub subscripts-stand : {k : _} (subs : Subs k) (r : Operand) (dim n : ℕ) (start : Environment) → base ≤ n → Agrees s.names base w start → AreSoundSubs parts s subs → AreClearSubs vectors s r dim n subs → SubscriptsStand vectors base start s w r dim n subs
    subscripts-stand end_subs r dim n start g agrees sound clear = tt
    subscripts-stand (more_subs x xs) r dim n start g agrees sound clear = (
      subscript-stands x r dim n start g agrees sound.0 clear.0,
      subscripts-stand xs r (suc dim) (n + numbers_of (subscript r dim x s n).ops) start (omega (arith, g)) agrees sound.1 clear.1,
    )

    pub subscript-stands : (x : Sub) (r : Operand) (dim n : ℕ) (start : Environment) → base ≤ n → Agrees s.names base w start → IsSoundSub parts s x → IsClearSub vectors s r dim n x → SubscriptStands vectors base start s w r dim n x
    subscript-stands (sub.One e) r dim n start g agrees sound clear =
        let b = is_settled e (value e s n).made.kind in
        part_stands e b (expression-if b e) n start g agrees sound.0 clear (settled_evaluated e (value e s n).made.kind b refl)
    subscript-stands (sub.Range' l u st) r dim n start g agrees sound clear =
        let m = n + numbers_of (given_or (bound Lower dim r) l s n).ops in
        let k = m + numbers_of (given_or (bound Upper dim r) u s m).ops in (
          given-stands l n start g agrees sound.0 clear.0,
          given-stands u m start (omega (arith, g)) agrees sound.1 clear.1,
          given-stands st k start (omega (arith, g)) agrees sound.2 clear.2,
        )

    pub given-stands : (x : Given) (n : ℕ) (start : Environment) → base ≤ n → Agrees s.names base w start → IsSoundGiven parts s x → IsClearGiven vectors s n x → GivenStands vectors base start s w n x
    given-stands absent n start g agrees sound clear = tt
    given-stands (given e) n start g agrees sound clear = part_stands e false (expression-if false e) n start g agrees sound.0 clear tt
