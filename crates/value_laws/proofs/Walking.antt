-- Walks through one lowering after another.
use Rattle.std.proofs.Common.{◌≡◌, refl, ap, ◌∙◌, subst, ℕ, ◌+◌, ◌<◌, ◌==◌, true, false, List, [], ◌∷◌, ◌++◌, Option, Ok, Err, append_assoc, arith, if◌then◌else◌}
use Rattle.ws_base.specs.Outcomes.{Staged, ◌>>=◌}
use Rattle.hlfir_ops.specs.declared.kinds.ValueKind.{ValueKind}
use Rattle.hlfir_ops.specs.declared.what.What.{What}
use Rattle.hlfir_ops.specs.declared.op.ValueId.{ValueId}
use Rattle.hlfir_ops.specs.declared.op.Op.{Op}
use Rattle.hlfir_ops.specs.declared.op.Region.{Region}
use Rattle.hlfir_ops.specs.Trees.{op_of}
use Rattle.hlfir_ops.specs.Numbers.{own_numbers, numbers_in, numbers_of}
use Rattle.hlfir_ops.proofs.Numbered.{numbers_of-append, op_numbers-op_of}
use Rattle.hlfir_meaning.specs.Environments.{Value, Environment, with_value}
use Rattle.hlfir_meaning.specs.Order.{ends}
use Rattle.hlfir_meaning.specs.Stage1.{stage1}
use Rattle.lower_values.specs.Scopes.{Scope}
use Rattle.lower_values.specs.Lowerings.{Lowering, done, ◌>>=◌ as ◌then◌, scoped}
use Rattle.value_laws.specs.Standing.{Walk, Kept, PassesBy, GoesBy, DoesBy, Goes}
use Rattle.value_laws.proofs.Ops.{given_once, stage1-op}

pub with_value-here : (n : ℕ) (x : Value) (env : Environment) → with_value n x env n ≡ x
with_value-here n x env = let same : (n == n) ≡ true = grind arith in ap (λ b. if b then x else env n) same

pub with_value-other : (n k : ℕ) (x : Value) (env : Environment) → k < n → with_value n x env k ≡ env k
with_value-other n k x env h = let other : (k == n) ≡ false = grind (arith, h) in ap (λ b. if b then x else env k) other

pub with_value-after : (n k : ℕ) (x : Value) (env : Environment) → n < k → with_value n x env k ≡ env k
with_value-after n k x env h = let other : (k == n) ≡ false = grind (arith, h) in ap (λ b. if b then x else env k) other

-- ---- outcomes

pub bind-ok : {A : Type 0} (r : Staged A) → (r >>= (λ x. let q : Staged A = Ok x in q)) ≡ r
bind-ok (Ok x) = refl
bind-ok (Err t) = refl

pub same-ok : {A : Type 0} (x y : A) → (let r : Staged A = Ok x in r) ≡ Ok y → x ≡ y
same-ok x y h = cc

-- ---- lists of ops

module _ (walk : Walk) where
  pub passes-none : (n : ℕ) (env : Environment) → PassesBy walk n env [] env
  passes-none n env = record { walked = λ rest. ap (λ k. walk k env rest) (omega arith); kept = λ k h. refl }

  pub passes-append : (n : ℕ) (env middle after : Environment) (xs ys : List Op) → PassesBy walk n env xs middle → PassesBy walk (n + numbers_of xs) middle ys after → PassesBy walk n env (xs ++ ys) after
  passes-append n env middle after xs ys h g = record {
    walked = λ rest.
        ap (walk n env) (append_assoc xs ys rest) ∙ (h.walked (ys ++ rest) ∙ (g.walked rest ∙
        ap (λ k. walk k after rest) (omega (arith, numbers_of-append xs ys))));
    kept = λ k is. g.kept k (omega (arith, is)) ∙ h.kept k is;
  }

  module _ {A B : Type 0} (n : ℕ) (env : Environment) (xs ys : List Op) (P : A → Environment → Type 0) (Q : B → Environment → Type 0) where
    goes_then : (middle : Environment) (r : Staged B) → PassesBy walk n env xs middle → GoesBy walk (n + numbers_of xs) middle ys r Q → GoesBy walk n env (xs ++ ys) r Q
    goes_then middle (Ok b) h g = (g.0, passes-append n env middle g.0 xs ys h g.1, g.2)
    goes_then middle (Err t) h g = λ rest. ap (walk n env) (append_assoc xs ys rest) ∙ (h.walked (ys ++ rest) ∙ g rest)

    pub goes-append : (r : Staged A) (f : A → Staged B) → GoesBy walk n env xs r P →
        ((a : A) (middle : Environment) → Kept n env middle → P a middle → GoesBy walk (n + numbers_of xs) middle ys (f a) Q) → GoesBy walk n env (xs ++ ys) (r >>= f) Q
    goes-append (Ok a) f h g = goes_then h.0 (f a) h.1 (g a h.0 h.1.kept h.2)
    goes-append (Err t) f h g = λ rest. ap (walk n env) (append_assoc xs ys rest) ∙ h (ys ++ rest)

  pub goes-weaker : {A : Type 0} (n : ℕ) (env : Environment) (xs : List Op) (P Q : A → Environment → Type 0) (r : Staged A) →
      ((a : A) (after : Environment) → Kept n env after → P a after → Q a after) → GoesBy walk n env xs r P → GoesBy walk n env xs r Q
  goes-weaker n env xs P Q (Ok a) g h = (h.0, h.1, g a h.0 h.1.kept h.2)
  goes-weaker n env xs P Q (Err t) g h = h

  -- ---- one op

  module _ (what : What) (line : ℕ) (operands : List ValueId) (kind : Option ValueKind) (regions : List Region) (n : ℕ) (env : Environment) where
    pub goes-one : (r : Staged Value) → ((rest : List Op) → walk n env (op_of what line operands kind regions ∷ rest) ≡ (r >>= (λ x. walk ((own_numbers kind + numbers_in what 0 regions) + n) (with_value n x env) rest))) →
        GoesBy walk n env (op_of what line operands kind regions ∷ []) r (λ x after. after ≡ with_value n x env)
    goes-one (Ok x) step = (
      with_value n x env,
      record {
        walked = λ rest. step rest ∙ ap (λ k. walk k (with_value n x env) rest) (omega (arith, op_numbers-op_of what line operands kind regions));
        kept = λ k low. with_value-other n k x env low;
      },
      refl,
    )
    goes-one (Err t) step = step

  -- ---- lowerings

  module _ (s : Scope) (n : ℕ) (env : Environment) where
    pub does-done : {A B : Type 0} (x : A) (b : B) (Q : A → B → ℕ → Environment → Type 0) → Q x b n env → DoesBy walk s n env (done x) (Ok b) Q
    unfolding done
    does-done x b Q h = (env, passes-none n env, subst (λ k. Q x b k env) (omega arith) h)

    pub does-then : {A B C D : Type 0} (p : Lowering A) (q : A → Lowering C) (r : Staged B) (f : B → Staged D) (P : A → B → ℕ → Environment → Type 0) (Q : C → D → ℕ → Environment → Type 0) →
        DoesBy walk s n env p r P →
        ((b : B) (m : ℕ) (middle : Environment) → m ≡ n + numbers_of (p s n).ops → Kept n env middle → P (p s n).made b m middle → DoesBy walk s m middle (q (p s n).made) (f b) Q) →
        DoesBy walk s n env (p then q) (r >>= f) Q
    unfolding ◌then◌
    does-then p q r f P Q h g =
        let xs = (p s n).ops in let m = n + numbers_of xs in let ys = (q (p s n).made s m).ops in let x = (q (p s n).made s m).made in
        goes-append n env xs ys (λ b after. P (p s n).made b m after) (λ d after. Q x d (n + numbers_of (xs ++ ys)) after) r f h
        (λ b middle kept is. goes-weaker m middle ys (λ d after. Q x d (m + numbers_of ys) after) (λ d after. Q x d (n + numbers_of (xs ++ ys)) after) (f b)
        (λ d after _ j. subst (λ k. Q x d k after) (omega (arith, numbers_of-append xs ys)) j) (g b m middle refl kept is))

    pub does-scoped : {A B : Type 0} (f : Scope → Lowering A) (r : Staged B) (Q : A → B → ℕ → Environment → Type 0) → DoesBy walk s n env (f s) r Q → DoesBy walk s n env (scoped f) r Q
    unfolding scoped
    does-scoped f r Q h = h

-- ---- stage 1

module _ (vectors : List ℕ) (what : What) (line : ℕ) (operands : List ValueId) (kind : Option ValueKind) (regions : List Region) (n : ℕ) (env : Environment) where
  pub goes-op : ends what ≡ false → Goes vectors n env (op_of what line operands kind regions ∷ []) (given_once what line operands kind regions vectors n env) (λ x after. after ≡ with_value n x env)
  goes-op h = goes-one (stage1 vectors) what line operands kind regions n env (given_once what line operands kind regions vectors n env) (λ rest. stage1-op what line operands kind regions vectors n env rest h)
