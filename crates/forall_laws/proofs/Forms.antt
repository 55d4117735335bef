-- Outcomes one after another, and what calls and subscripts need of their forms.
use Rattle.std.proofs.Common.{◌≡◌, refl, sym, ◌∙◌, subst, ℕ, ◌+◌, ◌≤◌, Bool, true, false, List, [], ◌∷◌, length, Option, Some, None, Ok, Err, ℤ, arith, true≢false, if◌then◌else◌}
use mathlib.Core.Former.{Count}
use Rattle.ws_base.specs.declared.op.CallWord.{CallWord}
use Rattle.ws_base.specs.declared.op.CallWord.TheVariants as words
use Rattle.ws_base.specs.Numbers.{int_min, int_max, least, greatest}
use Rattle.ws_base.specs.Outcomes.{Staged, ◌>>=◌}
use Rattle.ws_tree.specs.Trees.{Exprs, end_exprs, more_exprs}
use Rattle.ws_tree.specs.Grammatical.{Takes, count}
use Rattle.ws_types.specs.Operations.{is_inquiry}
use Rattle.hlfir_ops.specs.declared.what.ValueBinary.{ValueBinary}
use Rattle.hlfir_ops.specs.declared.what.ValueBinary.TheVariants as binaries
use Rattle.hlfir_ops.specs.Numbers.{numbers_of}
use Rattle.hlfir_meaning.specs.Environments.{Environment}
use Rattle.lower_values.specs.declared.operand.Operand.{Operand}
use Rattle.lower_values.specs.declared.operand.Subscript.{Subscript}
use Rattle.lower_values.specs.declared.operand.Subscript.TheVariants.{One, Vector}
use Rattle.lower_values.specs.Scopes.{Scope}
use Rattle.lower_values.specs.Lowerings.{Lowering, done, ◌>>=◌ as ◌then◌}
use Rattle.lower_values.specs.Operations.{nesting_of}
use Rattle.lower_values.specs.Values.{call_by, value, values}
use Rattle.value_laws.specs.Standing.{Kept}
use Rattle.value_laws.proofs.Columns.{IsNesting, min-nests, max-nests}
use Rattle.forall_laws.specs.Walks.{DoesOver, IsColumn, AreSubscripts}

-- ---- outcomes

pub bind-bind : {A B C : Type 0} (r : Staged A) (f : A → Staged B) (g : B → Staged C) → ((r >>= f) >>= g) ≡ (r >>= (λ x. f x >>= g))
bind-bind (Ok x) f g = refl
bind-bind (Err t) f g = refl

pub bind-same : {A B : Type 0} (r : Staged A) (f g : A → Staged B) → ((x : A) → f x ≡ g x) → (r >>= f) ≡ (r >>= g)
bind-same (Ok x) f g h = h x
bind-same (Err t) f g h = refl

-- ---- calls

pub over-call_by : (at : List ℕ) (s : Scope) (n : ℕ) (env : Environment) (r : Staged (List ℤ)) (o : Option ValueBinary) (b : Bool) (p : ValueBinary → Lowering Operand) (q c : Lowering Operand) →
    ((op : ValueBinary) → o ≡ Some op → DoesOver at s n env (p op) r IsColumn) → (o ≡ None → b ≡ true → DoesOver at s n env q r IsColumn) → (o ≡ None → b ≡ false → DoesOver at s n env c r IsColumn) → DoesOver at s n env (call_by o b p q c) r IsColumn
over-call_by at s n env r (Some op) b p q c f g h = f op refl
over-call_by at s n env r None true p q c f g h = g refl refl
over-call_by at s n env r None false p q c f g h = h refl refl

-- MIN or MAX of two or more
pub record Nests (w : CallWord) (op : ValueBinary) : Type 0 where
  pub step : ℤ → ℤ → ℤ
  pub total : ℤ → List ℤ → ℤ
  pub nests : IsNesting op w step total
  pub asks : is_inquiry w ≡ false

pub nests_as : (w : CallWord) (o op : ValueBinary) → Some o ≡ Some op → Nests w o → Nests w op
nests_as w o op h n = let same : o ≡ op = cc in subst (Nests w) same n

pub nesting : (w : CallWord) (op : ValueBinary) → nesting_of w ≡ Some op → Nests w op
nesting words.Min op h = nests_as words.Min binaries.Min op h (record { step = int_min; total = least; nests = min-nests; asks = refl })
nesting words.Max op h = nests_as words.Max binaries.Max op h (record { step = int_max; total = greatest; nests = max-nests; asks = refl })
nesting _ op h = absurd (let q = h in cc)

abbrev pub AreTwo : {m : Count} → Exprs m → Type 0
AreTwo (more_exprs e (more_exprs f es)) = Unit {0}
AreTwo _ = ⊥

pub two_more : {m : Count} (es : Exprs m) → 2 ≤ count es → AreTwo es
two_more end_exprs h = absurd (omega (arith, h))
two_more (more_exprs e end_exprs) h = absurd (omega (arith, h))
two_more (more_exprs e (more_exprs f es)) h = tt

pub two_taken : {m : Count} (w : CallWord) (op : ValueBinary) (es : Exprs m) → nesting_of w ≡ Some op → Takes w es → AreTwo es
two_taken words.Min op es h g = two_more es g
two_taken words.Max op es h g = two_more es g
two_taken _ op es h g = absurd (let q = h in cc)

-- the values so far are all there is, or more follow
abbrev pub AreAllUnless : {m : Count} → Exprs m → Type 0 → Type 0
AreAllUnless end_exprs P = P
AreAllUnless (more_exprs e es) P = Unit {0}

pub all_unless : {m : Count} (es : Exprs m) (P : Type 0) → P → AreAllUnless es P
all_unless end_exprs P h = h
all_unless (more_exprs e es) P h = tt

pub values_many : {m : Count} (es : Exprs m) (s : Scope) (n : ℕ) → length (values es s n).made ≡ count es
unfolding ◌then◌ done
values_many end_exprs s n = refl
values_many (more_exprs e es) s n = let rest = values_many es s (n + numbers_of (value e s n).ops) in omega (arith, rest)

pub three : {m : Count} (w : CallWord) (es : Exprs m) → Takes w es → w ≡ words.Merge → count es ≡ 3
three w es h is = let h' : Takes words.Merge es = subst (λ v. Takes v es) is h in h'

pub one_subscript : (b : Bool) (x : Operand) (xs : List ℤ) (m : ℕ) (env : Environment) → b ≡ true → IsColumn x xs m env → AreSubscripts ((if b then One x.value else Vector x.value) ∷ []) (xs ∷ []) m env
one_subscript true x xs m env is h = (h.found, h.low, tt)
one_subscript false x xs m env is h = absurd (true≢false (sym is))

abbrev pub IsSubscript : Subscript → List ℤ → ℕ → Environment → Type 0
IsSubscript x v m env = AreSubscripts (x ∷ []) (v ∷ []) m env

pub AreSubscripts-more : (x : Subscript) (xs : List Subscript) (c : List ℤ) (cs : List (List ℤ)) (n m : ℕ) (env after : Environment) → n ≤ m → Kept n env after → AreSubscripts (x ∷ []) (c ∷ []) n env → AreSubscripts xs cs m after → AreSubscripts (x ∷ xs) (c ∷ cs) m after
AreSubscripts-more (One i) xs c cs n m env after l kept h g = (kept i.number h.1 ∙ h.0, omega (arith, l, h.1), g)
AreSubscripts-more _ xs c cs n m env after l kept h g = absurd h
