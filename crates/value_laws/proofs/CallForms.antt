-- The forms of calls: all arguments at once, nested, or an inquiry.
use Rattle.std.proofs.Common.{◌≡◌, refl, sym, ◌∙◌, subst, ℕ, ◌+◌, ◌≤◌, Bool, true, List, length, None, ℤ, arith, if◌then◌else◌}
use Rattle.ws_base.specs.Numbers.{int_min, int_max, least, greatest}
use Rattle.ws_base.specs.Outcomes.{Staged, ◌>>=◌}
use Rattle.ws_base.specs.declared.op.CallWord.{CallWord}
use Rattle.ws_base.specs.declared.op.CallWord.TheVariants as word
use Rattle.ws_space.specs.Values.{is_among, state_of}
use Rattle.ws_tree.specs.declared.expr.Expr.TheVariants.{Named}
use Rattle.ws_tree.specs.Trees.{Exprs, end_exprs, more_exprs}
use Rattle.ws_types.specs.Expressions.{listed}
use Rattle.ws_types.specs.Operations.{is_inquiry}
use Rattle.array_meaning.specs.declared.world.World.{World}
use Rattle.array_meaning.specs.declared.term.Term.{Term}
use Rattle.array_meaning.specs.Stage1 as source
use Rattle.hlfir_ops.specs.declared.what.ValueBinary.{ValueBinary}
use Rattle.hlfir_ops.specs.declared.what.ValueBinary.TheVariants as binary
use Rattle.hlfir_ops.specs.declared.what.Reduction.{Reduction}
use Rattle.hlfir_ops.specs.declared.what.Reduction.TheVariants as totals
use Rattle.hlfir_ops.specs.Numbers.{numbers_of}
use Rattle.hlfir_meaning.specs.Environments.{Environment}
use Rattle.hlfir_meaning.specs.Operators.{reduction_word}
use Rattle.hlfir_meaning.specs.Stage1.{stage1}
use Rattle.lower_values.specs.declared.operand.Operand.{Operand}
use Rattle.lower_values.specs.Scopes.{Scope}
use Rattle.lower_values.specs.Lowerings.{Lowering, ◌>>=◌ as ◌then◌}
use Rattle.lower_values.specs.Operations.{call_on, nesting_of}
use Rattle.lower_values.specs.References.{first_name, or_nothing, inquiry}
use Rattle.lower_values.specs.Values.{values, nested, called}
use Rattle.value_laws.specs.Standing.{Does, StandEach}
use Rattle.value_laws.specs.Arguments.{ArgumentsStand}
use Rattle.value_laws.specs.Names.{DeclareStands, Agrees}
use Rattle.value_laws.specs.Sound.{IsVariable, IsSoundCall, AreSound, ByCall, AreClear, AreJoined}
use Rattle.value_laws.proofs.Calls.{abs-if, mod-if, modulo-if, merge-if}
use Rattle.value_laws.proofs.Columns.{IsNesting, min-nests, max-nests}
use Rattle.value_laws.proofs.Inquiries.{does-inquiry}
use Rattle.value_laws.proofs.Nested.{does-nested}
use Rattle.value_laws.proofs.Parts.{settle-then, values-length, reduction-if}
use Rattle.value_laws.proofs.Settled.{settle_if, StandsIf, does-scalar_if}
use Rattle.value_laws.proofs.Walking.{does-then}

module _ (vectors : List ℕ) (base : ℕ) (s : Scope) (w : World) (n : ℕ) (env : Environment) (g : base ≤ n) (agrees : Agrees s.names base w env) (b : Bool) where
  abbrev Results : Lowering Operand → Staged Term → Type 0
  Results p r = Does vectors s n env p (settle_if b r) (λ x t m after. StandsIf b base n m after x t)

  abbrev Each : {k : _} → Exprs k → Type 0
  Each es = Does vectors s n env (values es) (source.walks w es) (λ xs ts m after. StandEach base n m after xs ts)

  -- ---- all arguments at once

  abbrev Finishes : {k : _} → CallWord → Exprs k → Type 0
  Finishes c es = (m : ℕ) (middle : Environment) (ts : List Term) → m ≡ n + numbers_of (values es s n).ops → n ≤ m → StandEach base n m middle (values es s n).made ts →
      Does vectors s m middle (call_on c (values es s n).made) (settle_if b (source.called c ts)) (λ x t j after. StandsIf b base n j after x t)

  at_once : {k : _} (c : CallWord) (es : Exprs k) → Finishes c es → Each es → Results (values es then call_on c) (source.walks w es >>= source.called c)
  at_once c es finish each =
      subst (λ r. Does vectors s n env (values es then call_on c) r (λ x t m after. StandsIf b base n m after x t)) (sym (settle-then b (source.walks w es) (source.called c)))
      (does-then (stage1 vectors) s n env (values es) (call_on c) (source.walks w es) (λ ts. settle_if b (source.called c ts)) (λ xs ts m after. StandEach base n m after xs ts) (λ x t m after. StandsIf b base n m after x t) each
      (λ ts m middle at kept h. finish m middle ts at (omega (arith, at)) h))

  total_finishes : {k : _} (r : Reduction) (es : Exprs k) → length (listed es) ≡ 1 → Finishes (reduction_word r) es
  total_finishes r es many m middle ts at l h = reduction-if vectors base n s m middle b r (values es s n).made ts l (values-length es s n ∙ many) h

  abbrev Elemental : CallWord → ℕ → Type 0
  Elemental c many = (m : ℕ) (middle : Environment) (xs : List Operand) (ts : List Term) → length xs ≡ many → is_among m vectors ≡ b → StandEach base n m middle xs ts →
      Does vectors s m middle (call_on c xs) (settle_if b (source.called c ts)) (λ x t j after. StandsIf b base n j after x t)

  finishes : {k : _} (c : CallWord) (es : Exprs k) (many : ℕ) → Elemental c many → length (listed es) ≡ many → is_among (n + numbers_of (values es s n).ops) vectors ≡ b → Finishes c es
  finishes c es many elemental long among m middle ts at l h = elemental m middle (values es s n).made ts (values-length es s n ∙ long) (subst (λ j. is_among j vectors ≡ b) (sym at) among) h

  -- ---- one after another

  nested_case : {k : _} (op : ValueBinary) (c : CallWord) (f : ℤ → ℤ → ℤ) (total : ℤ → List ℤ → ℤ) (is : IsNesting op c f total) (es : Exprs k) → 2 ≤ length (listed es) → ArgumentsStand vectors base env s w op b None n es →
      Results (nested op None es) (source.walks w es >>= source.called c)
  nested_case op c f total is end_exprs many args = absurd (omega (arith, many))
  nested_case op c f total is (more_exprs e end_exprs) many args = absurd (omega (arith, many))
  nested_case op c f total is (more_exprs e (more_exprs d es)) many args = does-nested op c f total is vectors base env s w b n g es e d n env (omega arith) (λ i low. refl) args

  -- ---- inquiries

  inquiry_case : {k : _} (c : CallWord) (es : Exprs k) → is_inquiry c ≡ true → IsVariable s (first_name (listed es)) →
      Results (inquiry c (listed es)) (source.known (source.inquired c (state_of w.vars (source.name_in es)) (source.dimension_in es)))
  inquiry_case c end_exprs is declared = absurd declared
  inquiry_case c (more_exprs (Named x) es) is declared =
      let h = subst (λ o. DeclareStands base env (or_nothing o) (state_of w.vars x)) (sym declared.1) (agrees.variables x declared.0 declared.1).1 in
      does-scalar_if vectors base n s n env (inquiry c (listed (more_exprs (Named x) es))) b (source.inquired c (state_of w.vars x) (source.dimension_in (more_exprs (Named x) es)))
      (does-inquiry vectors base n s n env g (omega arith) x (state_of w.vars x) h c es is)
  inquiry_case c (more_exprs e es) is declared = absurd declared

  -- ---- any call

  pub call-if : {k : _} (parts : Bool) (c : CallWord) (es : Exprs k) → IsSoundCall (is_inquiry c) s c es (AreSound parts s es) →
      ByCall (nesting_of c) (is_inquiry c) (λ op. AreJoined vectors s op b None n es) (AreClear vectors s n es × (is_among (n + numbers_of (values es s n).ops) vectors ≡ b)) →
      (AreSound parts s es → AreClear vectors s n es → Each es) → ((op : ValueBinary) → AreSound parts s es → AreJoined vectors s op b None n es → ArgumentsStand vectors base env s w op b None n es) →
      Results (called c (listed es) (values es) (λ op. nested op None es))
      (if is_inquiry c then source.known (source.inquired c (state_of w.vars (source.name_in es)) (source.dimension_in es)) else (source.walks w es >>= source.called c))
  call-if parts word.Abs es sound clear each args = at_once word.Abs es (finishes word.Abs es 1 (λ m middle xs ts long among h. abs-if b vectors base n s m middle xs ts g long among h) sound.0 clear.1) (each sound.1 clear.0)
  call-if parts word.Mod es sound clear each args = at_once word.Mod es (finishes word.Mod es 2 (λ m middle xs ts long among h. mod-if b vectors base n s m middle xs ts g long among h) sound.0 clear.1) (each sound.1 clear.0)
  call-if parts word.Modulo es sound clear each args = at_once word.Modulo es (finishes word.Modulo es 2 (λ m middle xs ts long among h. modulo-if b vectors base n s m middle xs ts g long among h) sound.0 clear.1) (each sound.1 clear.0)
  call-if parts word.Merge es sound clear each args = at_once word.Merge es (finishes word.Merge es 3 (λ m middle xs ts long among h. merge-if b vectors base n s m middle xs ts g long among h) sound.0 clear.1) (each sound.1 clear.0)
  call-if parts word.Min es sound clear each args = nested_case binary.Min word.Min int_min least min-nests es sound.0 (args binary.Min sound.1 clear)
  call-if parts word.Max es sound clear each args = nested_case binary.Max word.Max int_max greatest max-nests es sound.0 (args binary.Max sound.1 clear)
  call-if parts word.Sum es sound clear each args = at_once word.Sum es (total_finishes totals.Sum es sound.0) (each sound.1 clear.0)
  call-if parts word.Product es sound clear each args = at_once word.Product es (total_finishes totals.Product es sound.0) (each sound.1 clear.0)
  call-if parts word.Minval es sound clear each args = at_once word.Minval es (total_finishes totals.Minval es sound.0) (each sound.1 clear.0)
  call-if parts word.Maxval es sound clear each args = at_once word.Maxval es (total_finishes totals.Maxval es sound.0) (each sound.1 clear.0)
  call-if parts word.Count es sound clear each args = at_once word.Count es (total_finishes totals.Count es sound.0) (each sound.1 clear.0)
  call-if parts word.Any es sound clear each args = at_once word.Any es (total_finishes totals.Any es sound.0) (each sound.1 clear.0)
  call-if parts word.All es sound clear each args = at_once word.All es (total_finishes totals.All es sound.0) (each sound.1 clear.0)
  call-if parts word.Size es sound clear each args = inquiry_case word.Size es refl sound
  call-if parts word.Lbound es sound clear each args = inquiry_case word.Lbound es refl sound
  call-if parts word.Ubound es sound clear each args = inquiry_case word.Ubound es refl sound
  call-if parts word.Allocated es sound clear each args = inquiry_case word.Allocated es refl sound
