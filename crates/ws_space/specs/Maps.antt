-- An operation as one map over all active places, from the columns of its operands.
use Rattle.std.specs.Prelude.{List, [], ◌∷◌, map, Ok, ℤ, pos}
use Rattle.ws_base.specs.declared.op.UnOp.{UnOp}
use Rattle.ws_base.specs.declared.op.BinOp.{BinOp}
use Rattle.ws_base.specs.declared.op.CallWord.{CallWord}
use Rattle.ws_base.specs.Numbers.{Exact, default_half, unary_value, binary_value, call_value}
use Rattle.ws_base.specs.Outcomes.{Staged, each, rows}

-- one value at every place
abbrev pub everywhere_same : {X : Type 0} → ℤ → List X → List ℤ
everywhere_same v at = map (λ _. v) at

abbrev pub pair_value : BinOp → List ℤ → Exact
pair_value op (a ∷ b ∷ []) = binary_value default_half op a b
pair_value op _ = Ok (pos 0)

abbrev pub unary_map : UnOp → List ℤ → Staged (List ℤ)
unary_map op xs = each (unary_value default_half op) xs

abbrev pub binary_map : {X : Type 0} → BinOp → List X → List ℤ → List ℤ → Staged (List ℤ)
binary_map op at xs ys = each (pair_value op) (rows at (xs ∷ ys ∷ []))

-- an elemental call, with a column for each argument
abbrev pub call_map : {X : Type 0} → CallWord → List X → List (List ℤ) → Staged (List ℤ)
call_map word at columns = each (call_value default_half word) (rows at columns)
