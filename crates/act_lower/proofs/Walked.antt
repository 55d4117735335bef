-- What a walk has made stands in the environment that it leaves.
use Rattle.std.proofs.Common.{◌≡◌, arith, refl, sym, ap, ◌∙◌, ℕ, ◌+◌, ◌<◌, ◌==◌, Bool, true, false, if◌then◌else◌, List, [], ◌∷◌, ◌++◌, All, Ok, Err}
use Rattle.std.proofs.lemmas.List.Elements.{All-head, All-tail}
use Rattle.ws_base.specs.Outcomes.{Staged, ◌>>=◌}
use Rattle.hlfir_ops.specs.declared.op.ValueId.{ValueId}
use Rattle.hlfir_ops.specs.declared.op.Op.{Op, out-Op}
use Rattle.hlfir_ops.specs.Numbers.{op_numbers}
use Rattle.hlfir_meaning.specs.Environments.{body_of, Value, computed, Environment, with_value, Yielded, yielding}
use Rattle.hlfir_meaning.specs.Order.{ends}
use Rattle.hlfir_meaning.specs.Stage1.{once, stage1, applied, operands_of, deferred_in, elemental}
use Rattle.hlfir_meaning.specs.Stage2.{operands, deferred_by, together}
use Rattle.act_lower.specs.Covered.{Either}
use Rattle.act_lower.specs.Walked.{Kept, GiveValues, AreMade}

-- ---- elementals

module _ (n : ℕ) (env after : Environment) (kept : Kept n env after) where
  operands_same : (vs : List ValueId) → All (λ v. v.number < n) vs → operands_of env vs ≡ operands_of after vs
  operands_same [] all = refl
  operands_same (v ∷ vs) all = λ i. operands (sym (kept v.number (All-head (λ w. w.number < n) v vs all)) i) ++ operands_same vs (All-tail (λ w. w.number < n) v vs all) i

  deferred_same : (vs : List ValueId) → All (λ v. v.number < n) vs → deferred_in env vs ≡ deferred_in after vs
  deferred_same [] all = refl
  deferred_same (v ∷ vs) all = λ i. together (deferred_by v.number (sym (kept v.number (All-head (λ w. w.number < n) v vs all)) i)) (deferred_same vs (All-tail (λ w. w.number < n) v vs all) i)

  pub elemental_stays : (ops : List Op) → All (λ v. v.number < n) (applied ops) → elemental n env ops ≡ elemental n after ops
  elemental_stays ops all = λ i. computed (operands_same (applied ops) all i) (deferred_same (applied ops) all i ++ record { number = n; work = body_of ops } ∷ [])

-- ---- the walk

other_if : (n k : ℕ) (b : Bool) (x : Value) (env : Environment) → (k == n) ≡ b → k < n → (if b then x else env k) ≡ env k
other_if n k true x env e l = let f : ⊥ = grind (arith, e, l) in absurd f
other_if n k false x env e l = refl

itself_if : (n : ℕ) (b : Bool) (x : Value) (env : Environment) → (n == n) ≡ b → (if b then x else env n) ≡ x
itself_if n true x env e = refl
itself_if n false x env e = let f : ⊥ = grind (arith, e) in absurd f

-- what the walk through the rest has made, and what it kept
abbrev Made : List ℕ → ℕ → Environment → List Op → Environment → Type 0
Made vectors n env ops after = Kept n env after × AreMade vectors n ops after

module _ (vectors : List ℕ) (n : ℕ) (env : Environment) (op : Op) (ops : List Op) (y : Yielded) where
  by_value : (r : Staged Value) → once vectors n env op ≡ r → 0 < op_numbers op → ((x : Value) → stage1 vectors (op_numbers op + n) (with_value n x env) ops ≡ Ok y → Made vectors (op_numbers op + n) (with_value n x env) ops y.env)
      → (r >>= (λ x. stage1 vectors (op_numbers op + n) (with_value n x env) ops)) ≡ Ok y → Kept n env y.env × ((rho : Environment) × Kept n rho y.env × (once vectors n rho op ≡ Ok (y.env n))) × AreMade vectors (op_numbers op + n) ops y.env
  by_value (Err t) e some more h = let f : ⊥ = cc in absurd f
  by_value (Ok x) e some more h =
      let m = more x h in
      let kept : Kept n env y.env = λ k l. m.0 k (omega (arith, l)) ∙ other_if n k (k == n) x env refl l in
      let own : y.env n ≡ x = m.0 n (omega (arith, some)) ∙ itself_if n (n == n) x env refl in
      (kept, (env, kept, e ∙ ap (λ v. let q : Staged Value = Ok v in q) (sym own)), m.1)

  by_end : (b : Bool) (os : List ValueId) → Either b (Unit {0}) ((0 < op_numbers op) × GiveValues ops)
      → (GiveValues ops → (x : Value) → stage1 vectors (op_numbers op + n) (with_value n x env) ops ≡ Ok y → Made vectors (op_numbers op + n) (with_value n x env) ops y.env)
      → (if b then Ok (yielding env os) else (once vectors n env op >>= (λ x. stage1 vectors (op_numbers op + n) (with_value n x env) ops))) ≡ Ok y
      → Kept n env y.env × Either b (Unit {0}) (((rho : Environment) × Kept n rho y.env × (once vectors n rho op ≡ Ok (y.env n))) × AreMade vectors (op_numbers op + n) ops y.env)
  by_end true os g more h = (λ k l. ap (λ (q : Yielded). q.env k) (sym (let e : yielding env os ≡ y = cc in e)), tt)
  by_end false os g more h = let r = by_value (once vectors n env op) refl g.0 (more g.1) h in (r.0, (r.1, r.2))

pub walk_made : (vectors : List ℕ) (n : ℕ) (env : Environment) (ops : List Op) (y : Yielded) → GiveValues ops → stage1 vectors n env ops ≡ Ok y → Made vectors n env ops y.env
walk_made vectors n env [] y g h = (λ k l. ap (λ (q : Yielded). q.env k) (sym (let e : yielding env [] ≡ y = cc in e)), tt)
walk_made vectors n env (op ∷ ops) y g h = by_end vectors n env op ops y (ends (out-Op op).what) (out-Op op).operands g (λ values x i. walk_made vectors (op_numbers op + n) (with_value n x env) ops y values i) h
