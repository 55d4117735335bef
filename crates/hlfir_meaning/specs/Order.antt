-- The ops of a region, one after another.
use Rattle.std.specs.Prelude.{ℕ, ◌+◌, Bool, ◌||◌, if◌then◌else◌, List, [], ◌∷◌, Ok}
use Rattle.ws_base.specs.Outcomes.{Staged, ◌>>=◌}
use Rattle.hlfir_ops.specs.declared.what.What.{What}
use Rattle.hlfir_ops.specs.declared.op.Op.{Op, out-Op}
use Rattle.hlfir_ops.specs.Numbers.{op_numbers}
use Rattle.hlfir_ops.specs.RulesRegions.{is_yield, is_yield_element}
use Rattle.hlfir_meaning.specs.Environments.{Value, Environment, with_value, Yielded, yielding}

abbrev pub ends : What → Bool
ends w = is_yield w || is_yield_element w

-- Each op gives the value of its number, counted from this one on, and the yield ends them.
abbrev pub in_order : (ℕ → Environment → Op → Staged Value) → ℕ → Environment → List Op → Staged Yielded
in_order gives n env [] = Ok (yielding env [])
in_order gives n env (op ∷ ops) =
    if ends (out-Op op).what then Ok (yielding env (out-Op op).operands)
    else (gives n env op >>= (λ x. in_order gives (op_numbers op + n) (with_value n x env) ops))
