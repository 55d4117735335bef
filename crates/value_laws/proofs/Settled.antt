-- Ops that are left for stage 2, or are evaluated whole where they stand, as vector subscripts.
use Rattle.std.proofs.Common.{◌≡◌, sym, ap, ◌∙◌, subst, ℕ, ◌+◌, ◌<◌, ◌≤◌, ◌==◌, Bool, true, false, List, [], ◌∷◌, Some, Ok, Err, ℤ, arith}
use Rattle.ws_base.specs.Outcomes.{Staged, ◌>>=◌}
use Rattle.ws_space.specs.Values.{is_among}
use Rattle.array_meaning.specs.declared.term.Term.{Term}
use Rattle.array_meaning.specs.declared.term.Term.TheVariants as term
use Rattle.array_meaning.specs.Stage2 as later
use Rattle.hlfir_ops.specs.declared.kinds.Elem.{Elem}
use Rattle.hlfir_ops.specs.declared.kinds.ValueKind.TheVariants.{Array}
use Rattle.hlfir_ops.specs.declared.what.What.{What}
use Rattle.hlfir_ops.specs.declared.op.ValueId.{ValueId}
use Rattle.hlfir_ops.specs.declared.op.Op.{Op}
use Rattle.hlfir_ops.specs.declared.op.Region.{Region}
use Rattle.hlfir_ops.specs.Trees.{op_of}
use Rattle.hlfir_ops.specs.Numbers.{numbers_of}
use Rattle.hlfir_ops.proofs.Numbered.{op_numbers-op_of}
use Rattle.hlfir_meaning.specs.Environments.{Value, Environment, with_value, yielding}
use Rattle.hlfir_meaning.specs.Order.{ends}
use Rattle.hlfir_meaning.specs.Stage1 as walked
use Rattle.lower_values.specs.declared.operand.Operand.{Operand}
use Rattle.lower_values.specs.Scopes.{Scope}
use Rattle.lower_values.specs.Lowerings.{Lowering}
use Rattle.value_laws.specs.Standing.{Goes, Does, Stands, settled, StandsSettled}
use Rattle.value_laws.proofs.Ops.{given_once}
use Rattle.value_laws.proofs.Walking.{with_value-here, goes-op}
use Rattle.value_laws.proofs.Constructors.{listed-stands}
use Rattle.value_laws.proofs.Evaluated.{whole-same}

-- where it is a vector subscript: the term, or its values
abbrev pub settled_if : Bool → Term → Staged Term
settled_if true t = later.whole t >>= (λ xs. Ok (term.Listed xs))
settled_if false t = Ok t

abbrev pub settle_if : Bool → Staged Term → Staged Term
settle_if true r = r >>= settled
settle_if false r = r

abbrev pub StandsIf : Bool → ℕ → ℕ → ℕ → Environment → Operand → Term → Type 0
StandsIf true base low high env x t = StandsSettled base low high env x t
StandsIf false base low high env x t = Stands base low high env x t

-- a scalar is the same either way
module _ (vectors : List ℕ) (base low : ℕ) (s : Scope) (n : ℕ) (env : Environment) (p : Lowering Operand) where
  scalar_settled : (r : Staged ℤ) → Does vectors s n env p (r >>= (λ z. Ok (term.Scalar z))) (λ x t m after. Stands base low m after x t) →
      Does vectors s n env p ((r >>= (λ z. Ok (term.Scalar z))) >>= settled) (λ x t m after. StandsSettled base low m after x t)
  scalar_settled (Ok z) h = h
  scalar_settled (Err t) h = h

  pub does-scalar_if : (b : Bool) (r : Staged ℤ) → Does vectors s n env p (r >>= (λ z. Ok (term.Scalar z))) (λ x t m after. Stands base low m after x t) →
      Does vectors s n env p (settle_if b (r >>= (λ z. Ok (term.Scalar z)))) (λ x t m after. StandsIf b base low m after x t)
  does-scalar_if true r h = scalar_settled r h
  does-scalar_if false r h = h

-- an op that makes an array value
module _ (w : What) (line : ℕ) (os : List ValueId) (e : Elem) (rank : ℕ) (regions : List Region) (vectors : List ℕ) (base low n : ℕ) (env : Environment) (l : low ≤ n) (goes_on : ends w ≡ false) (higher : (rank == 0) ≡ false) where
  abbrev array_op : Op
  array_op = op_of w line os (Some (Array e rank)) regions

  abbrev array_made : Operand
  array_made = record { value = record { number = n }; kind = Array e rank }

  abbrev high : ℕ
  high = n + numbers_of (array_op ∷ [])

  past : n < high
  past = omega (arith, op_numbers-op_of w line os (Some (Array e rank)) regions)

  given : (v : Value) (b : Bool) → walked.made n env w os regions ≡ Ok v → walked.is_whole w (is_among n vectors) ≡ b →
      given_once w line os (Some (Array e rank)) regions vectors n env ≡ walked.settled b (yielding (with_value n v env) (record { number = n } ∷ []))
  given v b makes is =
      ap (λ r. r >>= (λ x. walked.settled (walked.is_whole w (is_among n vectors)) (yielding (with_value n x env) (record { number = n } ∷ [])))) makes
      ∙ ap (λ c. walked.settled c (yielding (with_value n v env) (record { number = n } ∷ []))) is

  left : (v : Value) (t : Term) → Stands base low high (with_value n v env) array_made t → Goes vectors n env (array_op ∷ []) (Ok v) (λ x after. after ≡ with_value n x env) →
      Goes vectors n env (array_op ∷ []) (Ok t) (λ u after. Stands base low high after array_made u)
  left v t h goes = (goes.0, goes.1, subst (λ rho. Stands base low high rho array_made t) (sym goes.2) h)

  listed : (r : Staged (List ℤ)) → Goes vectors n env (array_op ∷ []) (r >>= (λ xs. Ok (walked.vector xs))) (λ x after. after ≡ with_value n x env) →
      Goes vectors n env (array_op ∷ []) (r >>= (λ xs. Ok (term.Listed xs))) (λ u after. StandsSettled base low high after array_made u)
  listed (Ok xs) goes =
      let is = ap (λ f. f n) goes.2 ∙ with_value-here n (walked.vector xs) env in
      (goes.0, goes.1, (listed-stands base low high n goes.0 e rank xs l past higher is, is))
  listed (Err t) goes = goes

  pub goes-settled : (v : Value) (t : Term) (b : Bool) → walked.made n env w os regions ≡ Ok v → walked.is_whole w (is_among n vectors) ≡ b → Stands base low high (with_value n v env) array_made t →
      Goes vectors n env (array_op ∷ []) (settled_if b t) (λ u after. StandsIf b base low high after array_made u)
  goes-settled v t true makes is h = listed (later.whole t)
      (subst (λ q. Goes vectors n env (array_op ∷ []) q (λ x after. after ≡ with_value n x env))
      (given v true makes is ∙ ap (λ r. r >>= (λ xs. let y : Staged Value = Ok (walked.vector xs) in y)) (whole-same base low high (with_value n v env) array_made t h))
      (goes-op vectors w line os (Some (Array e rank)) regions n env goes_on))
  goes-settled v t false makes is h = left v t h
      (subst (λ q. Goes vectors n env (array_op ∷ []) q (λ x after. after ≡ with_value n x env))
      (given v false makes is ∙ ap (λ y. let r : Staged Value = Ok y in r) (with_value-here n v env))
      (goes-op vectors w line os (Some (Array e rank)) regions n env goes_on))
