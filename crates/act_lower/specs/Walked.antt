-- What a walk through a region has made: each value from the values before it.
use Rattle.std.specs.Prelude.{◌≡◌, ℕ, ◌+◌, ◌<◌, List, [], ◌∷◌, Ok}
use Rattle.std.specs.List.{All}
use Rattle.hlfir_ops.specs.declared.op.Op.{Op, out-Op}
use Rattle.hlfir_ops.specs.Numbers.{op_numbers}
use Rattle.hlfir_meaning.specs.Environments.{Environment, Yielded}
use Rattle.hlfir_meaning.specs.Order.{ends}
use Rattle.hlfir_meaning.specs.Stage1.{once, stage1, applied, elemental}
use Rattle.act_lower.specs.Covered.{Either}

-- the same values stand below this number
abbrev pub Kept : ℕ → Environment → Environment → Type 0
Kept n env after = (k : ℕ) → k < n → after k ≡ env k

-- Each op before the yield gives a value.
abbrev pub GiveValues : List Op → Type 0
GiveValues [] = Unit {0}
GiveValues (op ∷ ops) = Either (ends (out-Op op).what) (Unit {0}) ((0 < op_numbers op) × GiveValues ops)

-- From the number n on, each value is one that its op gave over an environment whose values still stand.
abbrev pub AreMade : List ℕ → ℕ → List Op → Environment → Type 0
AreMade vectors n [] after = Unit {0}
AreMade vectors n (op ∷ ops) after =
    Either (ends (out-Op op).what) (Unit {0}) (((env : Environment) × Kept n env after × (once vectors n env op ≡ Ok (after n))) × AreMade vectors (op_numbers op + n) ops after)

abbrev pub WalkLaw : Type 0
WalkLaw = (vectors : List ℕ) (n : ℕ) (env : Environment) (ops : List Op) (y : Yielded) → GiveValues ops → stage1 vectors n env ops ≡ Ok y → Kept n env y.env × AreMade vectors n ops y.env

-- An elemental says the same over any environment that has the values before it.
abbrev pub ElementalStays : Type 0
ElementalStays = (n : ℕ) (env after : Environment) (ops : List Op) → Kept n env after → All (λ v. v.number < n) (applied ops) → elemental n env ops ≡ elemental n after ops
