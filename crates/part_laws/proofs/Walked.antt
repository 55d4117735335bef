-- What a walk without a fault says of the last op that it passed.
use Rattle.std.proofs.Common.{◌≡◌, refl, sym, ap, ◌∙◌, subst, ℕ, zero, suc, ◌+◌, Bool, true, false, if◌then◌else◌, List, [], ◌∷◌, ◌++◌, Option, Some, Ok, Err, ℤ, pos, negsuc, arith, IfOk}
use Rattle.ws_base.specs.Outcomes.{Staged, ◌>>=◌}
use Rattle.ws_space.specs.Values.{is_among}
use Rattle.hlfir_ops.specs.declared.kinds.Elem.TheVariants.{I32}
use Rattle.hlfir_ops.specs.declared.kinds.ValueKind.{ValueKind}
use Rattle.hlfir_ops.specs.declared.kinds.ValueKind.TheVariants.{Scalar}
use Rattle.hlfir_ops.specs.declared.what.What.{What}
use Rattle.hlfir_ops.specs.declared.what.What.TheVariants as what
use Rattle.hlfir_ops.specs.declared.op.ValueId.{ValueId}
use Rattle.hlfir_ops.specs.declared.op.Op.{Op, out-Op}
use Rattle.hlfir_ops.specs.declared.op.Region.{Region}
use Rattle.hlfir_ops.specs.Trees.{op_of}
use Rattle.hlfir_ops.specs.Numbers.{op_numbers, numbers_of}
use Rattle.hlfir_meaning.specs.Environments.{Value, scalar, Environment, with_value, Yielded, yielding, scalar_in}
use Rattle.hlfir_meaning.specs.Order.{ends}
use Rattle.hlfir_meaning.specs.Stage1.{made, is_whole, settled, once, stage1}
use Rattle.value_laws.proofs.Ops.{parts-op_of, given_once, stage1-op}
use Rattle.value_laws.proofs.Scalars.{settled-not}
use Rattle.value_laws.proofs.Walking.{with_value-here}

-- the walk passes these ops, and goes on from the value of this number
abbrev pub Walked : List ℕ → ℕ → Environment → List Op → ℕ → Environment → Type 0
Walked vectors n env ops m after = (rest : List Op) → stage1 vectors n env (ops ++ rest) ≡ stage1 vectors m after rest

-- ---- what a walk ended in

pub of_ok : (P : Value → Type 0) (r : Staged Value) (v : Value) → IfOk r P → r ≡ Ok v → P v
of_ok P r v h is = subst (λ q. IfOk q P) is h

env_of : Staged Yielded → Environment
env_of (Ok y) = y.env
env_of (Err t) = λ k. scalar (pos 0)

abbrev IsWalk : Staged Yielded → Type 0
IsWalk (Ok y) = Unit {0}
IsWalk (Err t) = ⊥

abbrev IsNought : ℤ → Type 0
IsNought (pos zero) = Unit {0}
IsNought (pos (suc n)) = ⊥
IsNought (negsuc n) = ⊥

-- ---- the first op

module _ (vectors : List ℕ) (m : ℕ) (after : Environment) where
  abbrev probe : ℤ → Op
  probe c = op_of (what.Constant c) 0 [] (Some (Scalar I32)) []

  probe-value : (c : ℤ) → env_of (stage1 vectors m after (probe c ∷ [])) m ≡ scalar c
  unfolding env_of
  probe-value c = ap (λ q. env_of q m) (stage1-op (what.Constant c) 0 [] (Some (Scalar I32)) [] vectors m after [] refl)
      ∙ (with_value-here m (with_value m (scalar c) after m) after ∙ with_value-here m (scalar c) after)

  -- a walk that has ended takes no more values
  ended : (env : Environment) (os : List ValueId) → ((rest : List Op) → (let y : Staged Yielded = Ok (yielding env os) in y) ≡ stage1 vectors m after rest) → ⊥
  unfolding env_of
  ended env os h =
      let at : (c : ℤ) → env m ≡ scalar c = λ c. ap (λ q. env_of q m) (h (probe c ∷ [])) ∙ probe-value c in
      subst IsNought (ap scalar_in (sym (at (pos 0)) ∙ at (pos 1))) tt

  module _ (n k : ℕ) (env : Environment) (os : List ValueId) (ops : List Op) where
    first_by : (b : Bool) (r : Staged Value) →
        ((rest : List Op) → (if b then Ok (yielding env os) else (r >>= (λ x. stage1 vectors k (with_value n x env) (ops ++ rest)))) ≡ stage1 vectors m after rest) →
        (y : Value) × (r ≡ Ok y) × Walked vectors k (with_value n y env) ops m after
    first_by false (Ok y) h = (y, refl, h)
    first_by false (Err t) h = absurd (subst IsWalk (sym (h [])) tt)
    first_by true r h = absurd (ended env os h)

  first-walked : (n : ℕ) (env : Environment) (op : Op) (ops : List Op) → Walked vectors n env (op ∷ ops) m after →
      (y : Value) × (once vectors n env op ≡ Ok y) × Walked vectors (op_numbers op + n) (with_value n y env) ops m after
  first-walked n env op ops h = first_by n (op_numbers op + n) env (out-Op op).operands ops (ends (out-Op op).what) (once vectors n env op) h

  -- ---- the last one

  -- it gave the value that stands under its number
  abbrev pub IsGiven : Op → ℕ → Type 0
  IsGiven op n = (rho : Environment) × (once vectors n rho op ≡ Ok (after n))

  given_last : (n : ℕ) (env : Environment) (op : Op) → (y : Value) × (once vectors n env op ≡ Ok y) × Walked vectors (op_numbers op + n) (with_value n y env) [] m after → IsGiven op n
  unfolding env_of
  given_last n env op h = (env, h.1 ∙ ap (λ x. let q : Staged Value = Ok x in q) (sym (with_value-here n h.0 env) ∙ ap (λ q. env_of q n) (h.2 [])))

  pub last-given : (op : Op) (xs : List Op) (n : ℕ) (env : Environment) → Walked vectors n env (xs ++ op ∷ []) m after → IsGiven op (n + numbers_of xs)
  last-given op [] n env h = subst (IsGiven op) (omega arith) (given_last n env op (first-walked n env op [] h))
  last-given op (x ∷ xs) n env h =
      let rest = first-walked n env x (xs ++ op ∷ []) h in
      subst (IsGiven op) (omega arith) (last-given op xs (op_numbers x + n) (with_value n rest.0 env) rest.2)

  module _ (w : What) (line : ℕ) (os : List ValueId) (kind : Option ValueKind) where
    -- where it is never evaluated whole, it made it
    module _ (whole : (b : Bool) → is_whole w b ≡ false) where
      abbrev op : Op
      op = op_of w line os kind []

      once-made : (n : ℕ) (env : Environment) → once vectors n env op ≡ made n env w os []
      once-made n env =
          ap (λ f. made n env f.what f.operands f.regions >>= (λ x. settled (is_whole f.what (is_among n vectors)) (yielding (with_value n x env) (record { number = n } ∷ [])))) (parts-op_of w line os kind [])
          ∙ (ap (λ b. made n env w os [] >>= (λ x. settled b (yielding (with_value n x env) (record { number = n } ∷ [])))) (whole (is_among n vectors)) ∙ settled-not n env (made n env w os []))

      pub last-made : (xs : List Op) (n : ℕ) (env : Environment) → Walked vectors n env (xs ++ op ∷ []) m after → (rho : Environment) × (made (n + numbers_of xs) rho w os [] ≡ Ok (after (n + numbers_of xs)))
      last-made xs n env h = let given = last-given op xs n env h in (given.0, sym (once-made (n + numbers_of xs) given.0) ∙ given.1)

    pub once-parts : (regions : List Region) (n : ℕ) (env : Environment) → once vectors n env (op_of w line os kind regions) ≡ given_once w line os kind regions vectors n env
    once-parts regions n env = ap (λ f. made n env f.what f.operands f.regions >>= (λ x. settled (is_whole f.what (is_among n vectors)) (yielding (with_value n x env) (record { number = n } ∷ [])))) (parts-op_of w line os kind regions)
