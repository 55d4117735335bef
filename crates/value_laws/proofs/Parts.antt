-- What follows the parts of an expression: names agree still, scalars are settled, and arguments stand one after another.
use Rattle.std.proofs.Common.{◌≡◌, refl, sym, ap, ◌∙◌, ℕ, suc, ◌+◌, ◌≤◌, ◌==◌, Bool, true, false, List, [], ◌∷◌, length, All, Ok, Err, arith}
use Rattle.std.proofs.lemmas.Bool.{true≢false}
use Rattle.std.proofs.lemmas.List.Elements.{All-nil, All-cons}
use Rattle.ws_base.specs.Outcomes.{Staged, ◌>>=◌}
use Rattle.ws_base.specs.declared.op.UnOp.TheVariants as unop
use Rattle.ws_space.specs.declared.state.VarState.{VarState}
use Rattle.ws_tree.specs.Trees.{Exprs, end_exprs, more_exprs}
use Rattle.ws_types.specs.Expressions.{listed}
use Rattle.array_meaning.specs.declared.world.World.{World}
use Rattle.array_meaning.specs.declared.term.Term.{Term}
use Rattle.array_meaning.specs.declared.term.Term.TheVariants as term
use Rattle.array_meaning.specs.Stage1 as source
use Rattle.hlfir_ops.specs.declared.kinds.ValueKind.{ValueKind}
use Rattle.hlfir_ops.specs.declared.what.Reduction.{Reduction}
use Rattle.hlfir_ops.specs.declared.what.Reduction.TheVariants as totals
use Rattle.hlfir_ops.specs.Numbers.{numbers_of}
use Rattle.hlfir_ops.specs.RulesValues.{rank_of}
use Rattle.hlfir_meaning.specs.Environments.{Value, Environment}
use Rattle.hlfir_meaning.specs.Operators.{reduction_word}
use Rattle.lower_values.specs.declared.names.Names.{Names}
use Rattle.lower_values.specs.declared.operand.Operand.{Operand}
use Rattle.lower_values.specs.Scopes.{Scope}
use Rattle.lower_values.specs.Lowerings.{Lowering, done, giving, ◌>>=◌ as ◌then◌}
use Rattle.lower_values.specs.Operations.{call_on}
use Rattle.lower_values.specs.Values.{value, values}
use Rattle.value_laws.specs.Standing.{Kept, Does, IsOfRank, Stands, StandEach, settled, StandsSettled}
use Rattle.value_laws.specs.Singles.{IsSingle}
use Rattle.value_laws.specs.Names.{DeclareStands, Agrees}
use Rattle.value_laws.specs.Sound.{AreItems}
use Rattle.value_laws.proofs.Evaluated.{does-reduction}
use Rattle.value_laws.proofs.Moved.{stands-moved}
use Rattle.value_laws.proofs.Settled.{settle_if, StandsIf}

-- ---- names

declare-kept : (base n : ℕ) (env after : Environment) (d : Operand) (held : VarState) → base ≤ n → Kept n env after → DeclareStands base env d held → DeclareStands base after d held
declare-kept base n env after d held g kept h = record {
  below = h.below;
  var = h.var;
  found = (let low = h.below in kept d.value.number (omega (arith, low, g))) ∙ h.found;
  holds = h.holds;
  fits = h.fits;
}

pub agrees-kept : (names : Names) (base n : ℕ) (w : World) (env after : Environment) → base ≤ n → Kept n env after → Agrees names base w env → Agrees names base w after
agrees-kept names base n w env after g kept h = record {
  variables = λ x d is. ((h.variables x d is).0, declare-kept base n env after d _ g kept (h.variables x d is).1);
  integers = h.integers;
  truths = h.truths;
}

-- ---- settled or not

pub settle-then : {A : Type 0} (b : Bool) (r : Staged A) (f : A → Staged Term) → settle_if b (r >>= f) ≡ (r >>= (λ a. settle_if b (f a)))
settle-then true (Ok a) f = refl
settle-then false (Ok a) f = refl
settle-then true (Err t) f = refl
settle-then false (Err t) f = refl

pub plus_nothing : (r : Staged Term) → (r >>= source.unary_on unop.Plus) ≡ r
plus_nothing (Ok (term.Scalar z)) = refl
plus_nothing (Ok t) = refl
plus_nothing (Err e) = refl

-- an operand of rank 0 is a scalar
pub rank-is_single : (t : Term) (k : ValueKind) (v : Value) → IsOfRank k v t → (rank_of k == 0) ≡ true → IsSingle t
rank-is_single (term.Scalar z) k v h is = tt
rank-is_single t k v h is = absurd (true≢false (sym is ∙ h))

module _ (vectors : List ℕ) (base low : ℕ) (s : Scope) (n : ℕ) (env : Environment) (p : Lowering Operand) (ranked : (rank_of (p s n).made.kind == 0) ≡ true) where
  ranked_settled : (r : Staged Term) → Does vectors s n env p r (λ x t m after. Stands base low m after x t) → Does vectors s n env p (r >>= settled) (λ x t m after. StandsSettled base low m after x t)
  ranked_settled (Ok (term.Scalar z)) h = h
  ranked_settled (Ok t) h = absurd (true≢false (sym ranked ∙ h.2.rank))
  ranked_settled (Err e) h = h

  pub ranked-if : (b : Bool) (r : Staged Term) → Does vectors s n env p r (λ x t m after. Stands base low m after x t) → Does vectors s n env p (settle_if b r) (λ x t m after. StandsIf b base low m after x t)
  ranked-if true r h = ranked_settled r h
  ranked-if false r h = h

-- ---- arguments

pub values-length : {k : _} (es : Exprs k) (s : Scope) (n : ℕ) → length (values es s n).made ≡ length (listed es)
unfolding ◌then◌ done
values-length end_exprs s n = refl
values-length (more_exprs e es) s n = ap suc (values-length es s (n + numbers_of (value e s n).ops))

pub items-single : {k : _} (es : Exprs k) (s : Scope) (n base low high : ℕ) (env : Environment) (ts : List Term) → AreItems s es → StandEach base low high env (values es s n).made ts → All IsSingle ts
unfolding ◌then◌ done
items-single end_exprs s n base low high env [] items h = All-nil IsSingle
items-single end_exprs s n base low high env (t ∷ ts) items h = absurd h
items-single (more_exprs e es) s n base low high env [] items h = absurd h
items-single (more_exprs e es) s n base low high env (t ∷ ts) items h =
    All-cons IsSingle t ts (rank-is_single t (value e s n).made.kind h.2.value h.2.rank (items.0 n)) (items-single es s (n + numbers_of (value e s n).ops) base h.0 high env ts items.1 h.3)

-- ---- reductions

total_rank : (r : Reduction) (s : Scope) (n : ℕ) (x : Operand) → (rank_of (call_on (reduction_word r) (x ∷ []) s n).made.kind == 0) ≡ true
unfolding call_on giving
total_rank totals.Sum s n x = refl
total_rank totals.Product s n x = refl
total_rank totals.Minval s n x = refl
total_rank totals.Maxval s n x = refl
total_rank totals.Count s n x = refl
total_rank totals.Any s n x = refl
total_rank totals.All s n x = refl

pub reduction-if : (vectors : List ℕ) (base low : ℕ) (s : Scope) (n : ℕ) (env : Environment) (b : Bool) (r : Reduction) (xs : List Operand) (ts : List Term) → low ≤ n → length xs ≡ 1 → StandEach base low n env xs ts →
    Does vectors s n env (call_on (reduction_word r) xs) (settle_if b (source.called (reduction_word r) ts)) (λ x t m after. StandsIf b base low m after x t)
reduction-if vectors base low s n env b r [] ts l long h = absurd (omega (arith, long))
reduction-if vectors base low s n env b r (x ∷ y ∷ xs) ts l long h = absurd (omega (arith, long))
reduction-if vectors base low s n env b r (x ∷ []) [] l long h = absurd h
reduction-if vectors base low s n env b r (x ∷ []) (t ∷ u ∷ ts) l long h = absurd h.3
reduction-if vectors base low s n env b r (x ∷ []) (t ∷ []) l long h =
    ranked-if vectors base low s n env (call_on (reduction_word r) (x ∷ [])) (total_rank r s n x) b (source.called (reduction_word r) (t ∷ []))
    (does-reduction vectors base low s n env x l t (stands-moved base low low h.0 n env env x t (omega arith) h.3 (λ k own. refl) h.2) r)
