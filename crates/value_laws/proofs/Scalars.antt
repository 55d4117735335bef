-- Scalars: constants, and an op on scalars.
use Rattle.std.proofs.Common.{◌≡◌, refl, ap, ◌∙◌, subst, inr, ℕ, ◌+◌, ◌<◌, ◌≤◌, Bool, false, List, [], ◌∷◌, Some, Ok, Err, ℤ, arith}
use Rattle.ws_base.specs.Outcomes.{Staged, ◌>>=◌}
use Rattle.array_meaning.specs.declared.term.Term.TheVariants as term
use Rattle.hlfir_ops.specs.declared.kinds.Elem.{Elem}
use Rattle.hlfir_ops.specs.declared.kinds.ValueKind.TheVariants.{Scalar}
use Rattle.hlfir_ops.specs.declared.what.What.{What}
use Rattle.hlfir_ops.specs.declared.what.What.TheVariants as what
use Rattle.hlfir_ops.specs.declared.op.ValueId.{ValueId}
use Rattle.hlfir_ops.specs.Trees.{op_of}
use Rattle.hlfir_ops.specs.Numbers.{numbers_of}
use Rattle.hlfir_ops.proofs.Numbered.{op_numbers-op_of}
use Rattle.hlfir_meaning.specs.Environments.{Value, scalar, Environment, with_value, yielding}
use Rattle.hlfir_meaning.specs.Order.{ends}
use Rattle.hlfir_meaning.specs.Places.{column_at}
use Rattle.hlfir_meaning.specs.Stage1.{made, is_whole, settled, as_scalar}
use Rattle.lower_values.specs.declared.operand.Operand.{Operand}
use Rattle.lower_values.specs.Scopes.{Scope}
use Rattle.lower_values.specs.Lowerings.{giving}
use Rattle.lower_values.specs.Operations.{constant}
use Rattle.value_laws.specs.Standing.{Goes, Does, Stands}
use Rattle.value_laws.proofs.Ordered.{ordered-none}
use Rattle.value_laws.proofs.Ops.{given_once}
use Rattle.value_laws.proofs.Walking.{with_value-here, goes-op}

pub scalar-stands : (base low high n : ℕ) (env : Environment) (e : Elem) (z : ℤ) → low ≤ n → n < high → env n ≡ scalar z → Stands base low high env (record { value = record { number = n }; kind = Scalar e }) (term.Scalar z)
scalar-stands base low high n env e z l h is = record {
  value = scalar z;
  found = is;
  own = inr (l, h);
  rank = (refl, refl);
  whole = tt;
  shapes = refl;
  ordered = ordered-none low high;
  gives = λ other at alike _. (other, refl, ap (column_at at) (alike n (inr (l, h)) ∙ is), record { below = λ k _. refl; above = λ k _. refl });
}

-- an op that is not evaluated whole gives what it makes
pub settled-not : (n : ℕ) (env : Environment) (r : Staged Value) → (r >>= (λ x. settled false (yielding (with_value n x env) (record { number = n } ∷ [])))) ≡ r
settled-not n env (Ok x) = ap (λ v. let y : Staged Value = Ok v in y) (with_value-here n x env)
settled-not n env (Err t) = refl

pub given_once-not : (w : What) (line : ℕ) (os : List ValueId) (e : Elem) (vectors : List ℕ) (n : ℕ) (env : Environment) → ((b : Bool) → is_whole w b ≡ false) →
    given_once w line os (Some (Scalar e)) [] vectors n env ≡ made n env w os []
given_once-not w line os e vectors n env whole =
    ap (λ b. made n env w os [] >>= (λ x. settled b (yielding (with_value n x env) (record { number = n } ∷ [])))) (whole _) ∙ settled-not n env (made n env w os [])

module _ (vectors : List ℕ) (base low : ℕ) (w : What) (os : List ValueId) (e : Elem) (s : Scope) (n : ℕ) (env : Environment) (l : low ≤ n) where
  abbrev made_operand : Operand
  made_operand = record { value = record { number = n }; kind = Scalar e }

  scalar_goes : (r : Staged ℤ) → Goes vectors n env (op_of w s.line os (Some (Scalar e)) [] ∷ []) (as_scalar r) (λ x after. after ≡ with_value n x env) →
      Goes vectors n env (op_of w s.line os (Some (Scalar e)) [] ∷ []) (r >>= (λ z. Ok (term.Scalar z))) (λ t after. Stands base low (n + numbers_of (op_of w s.line os (Some (Scalar e)) [] ∷ [])) after made_operand t)
  scalar_goes (Ok z) h = (
    h.0,
    h.1,
    scalar-stands base low (n + numbers_of (op_of w s.line os (Some (Scalar e)) [] ∷ [])) n h.0 e z l (omega (arith, op_numbers-op_of w s.line os (Some (Scalar e)) []))
        (ap (λ f. f n) h.2 ∙ with_value-here n (scalar z) env),
  )
  scalar_goes (Err t) h = h

  -- an op that makes this scalar
  pub does-scalar : (r : Staged ℤ) → ends w ≡ false → ((b : Bool) → is_whole w b ≡ false) → made n env w os [] ≡ as_scalar r →
      Does vectors s n env (giving w os (Scalar e)) (r >>= (λ z. Ok (term.Scalar z))) (λ x t m after. Stands base low m after x t)
  unfolding giving
  does-scalar r goes_on whole is = scalar_goes r
      (subst (λ q. Goes vectors n env (op_of w s.line os (Some (Scalar e)) [] ∷ []) q (λ x after. after ≡ with_value n x env)) (given_once-not w s.line os e vectors n env whole ∙ is)
      (goes-op vectors w s.line os (Some (Scalar e)) [] n env goes_on))

pub does-constant : (vectors : List ℕ) (base low : ℕ) (e : Elem) (z : ℤ) (s : Scope) (n : ℕ) (env : Environment) → low ≤ n → Does vectors s n env (constant e z) (Ok (term.Scalar z)) (λ x t m after. Stands base low m after x t)
does-constant vectors base low e z s n env l = does-scalar vectors base low (what.Constant z) [] e s n env l (Ok z) refl (λ b. refl) refl
