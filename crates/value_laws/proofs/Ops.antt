-- One op of a region, by its parts.
use Rattle.std.proofs.Common.{◌≡◌, ap, ◌∙◌, ℕ, ◌+◌, true, false, List, [], ◌∷◌, ◌++◌, Option, Ok, if◌then◌else◌}
use Rattle.ws_base.specs.Outcomes.{Staged, ◌>>=◌}
use Rattle.ws_space.specs.Values.{is_among}
use Rattle.hlfir_ops.specs.declared.kinds.ValueKind.{ValueKind}
use Rattle.hlfir_ops.specs.declared.what.What.{What}
use Rattle.hlfir_ops.specs.declared.op.ValueId.{ValueId}
use Rattle.hlfir_ops.specs.declared.op.Op.{Op, Op-F, out-Op, out-roll-Op}
use Rattle.hlfir_ops.specs.declared.op.Region.{Region, out-roll-Region}
use Rattle.hlfir_ops.specs.Trees.{op_of, region_of}
use Rattle.hlfir_ops.specs.Numbers.{own_numbers, op_numbers, numbers_in}
use Rattle.hlfir_ops.specs.RulesRegions.{ops_in, is_apply}
use Rattle.hlfir_ops.proofs.Numbered.{op_numbers-op_of}
use Rattle.hlfir_meaning.specs.Environments.{Value, Environment, with_value, yielding}
use Rattle.hlfir_meaning.specs.Order.{ends, in_order}
use Rattle.hlfir_meaning.specs.Places.{over, over_ops}
use Rattle.hlfir_meaning.specs.Stage1.{made, is_whole, settled, once, stage1, applied}

module _ (what : What) (line : ℕ) (operands : List ValueId) (kind : Option ValueKind) (regions : List Region) where
  abbrev parts : Op-F Op Region
  parts = record { what = what; line = line; operands = operands; kind = kind; regions = regions }

  pub parts-op_of : out-Op (op_of what line operands kind regions) ≡ parts
  parts-op_of = out-roll-Op parts

  -- how many numbers it takes
  pub taken : ℕ
  taken = own_numbers kind + numbers_in what 0 regions

  module _ (gives : ℕ → Environment → Op → Staged Value) (n : ℕ) (env : Environment) (rest : List Op) where
    going : ends what ≡ false → in_order gives n env (op_of what line operands kind regions ∷ rest) ≡
        (gives n env (op_of what line operands kind regions) >>= (λ x. in_order gives (op_numbers (op_of what line operands kind regions) + n) (with_value n x env) rest))
    going h = ap (λ b. if b then Ok (yielding env (out-Op (op_of what line operands kind regions)).operands)
        else (gives n env (op_of what line operands kind regions) >>= (λ x. in_order gives (op_numbers (op_of what line operands kind regions) + n) (with_value n x env) rest)))
        (ap (λ f. ends f.what) parts-op_of ∙ h)

    counted : (r : Staged Value) → (r >>= (λ x. in_order gives (op_numbers (op_of what line operands kind regions) + n) (with_value n x env) rest)) ≡
        (r >>= (λ x. in_order gives ((own_numbers kind + numbers_in what 0 regions) + n) (with_value n x env) rest))
    counted r = ap (λ k. r >>= (λ x. in_order gives (k + n) (with_value n x env) rest)) (op_numbers-op_of what line operands kind regions)

    pub ending : ends what ≡ true → in_order gives n env (op_of what line operands kind regions ∷ rest) ≡ Ok (yielding env operands)
    ending h = ap (λ f. if ends f.what then Ok (yielding env f.operands)
        else (gives n env (op_of what line operands kind regions) >>= (λ x. in_order gives (op_numbers (op_of what line operands kind regions) + n) (with_value n x env) rest))) parts-op_of
        ∙ ap (λ b. if b then Ok (yielding env operands)
        else (gives n env (op_of what line operands kind regions) >>= (λ x. in_order gives (op_numbers (op_of what line operands kind regions) + n) (with_value n x env) rest))) h

  -- what it gives in stage 1
  abbrev pub given_once : List ℕ → ℕ → Environment → Staged Value
  given_once vectors n env = made n env what operands regions >>= (λ x. settled (is_whole what (is_among n vectors)) (yielding (with_value n x env) (record { number = n } ∷ [])))

  pub stage1-op : (vectors : List ℕ) (n : ℕ) (env : Environment) (rest : List Op) → ends what ≡ false → stage1 vectors n env (op_of what line operands kind regions ∷ rest) ≡
      (given_once vectors n env >>= (λ x. stage1 vectors ((own_numbers kind + numbers_in what 0 regions) + n) (with_value n x env) rest))
  stage1-op vectors n env rest h =
      going (once vectors) n env rest h ∙
      (ap (λ f. (made n env f.what f.operands f.regions >>= (λ x. settled (is_whole f.what (is_among n vectors)) (yielding (with_value n x env) (record { number = n } ∷ []))))
      >>= (λ x. stage1 vectors (op_numbers (op_of what line operands kind regions) + n) (with_value n x env) rest)) parts-op_of
      ∙ counted (once vectors) n env rest (given_once vectors n env))

  pub over-op : (at : List ℕ) (n : ℕ) (env : Environment) (rest : List Op) → ends what ≡ false → over_ops at n env (op_of what line operands kind regions ∷ rest) ≡
      (over at env what operands >>= (λ x. over_ops at ((own_numbers kind + numbers_in what 0 regions) + n) (with_value n x env) rest))
  over-op at n env rest h =
      let gives : ℕ → Environment → Op → Staged Value = λ m rho op. over at rho (out-Op op).what (out-Op op).operands in
      going gives n env rest h ∙
      (ap (λ f. over at env f.what f.operands >>= (λ x. over_ops at (op_numbers (op_of what line operands kind regions) + n) (with_value n x env) rest)) parts-op_of
      ∙ counted gives n env rest (over at env what operands))

  pub applied-op : (rest : List Op) → applied (op_of what line operands kind regions ∷ rest) ≡ (if is_apply what then operands ++ applied rest else applied rest)
  applied-op rest = ap (λ f. if is_apply f.what then f.operands ++ applied rest else applied rest) parts-op_of

pub ops_in-first : (ops : List Op) (rest : List Region) → ops_in (region_of ops ∷ rest) 0 ≡ ops
ops_in-first ops rest = ap (λ f. f.ops) (out-roll-Region (record { ops = ops }))
