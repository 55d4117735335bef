-- The walks of expressions over lists.
use Rattle.std.specs.Prelude.{ℕ, Bool, true, List, [], ◌∷◌, ◌++◌, Option, Some, None}
use Rattle.std.specs.List.{flat_map}
use Rattle.ws_base.specs.declared.refusal.Refusal.{Refusal}
use Rattle.ws_tree.specs.declared.expr.Expr.{Expr}
use Rattle.ws_tree.specs.declared.expr.Sub.{Sub}
use Rattle.ws_types.specs.declared.types.Row.{Row}
use Rattle.ws_types.specs.declared.types.Arguments.{Arguments}
use Rattle.ws_types.specs.declared.types.Subscripts.{Subscripts}
use Rattle.ws_types.specs.Operations.{scalar_faults, is_scalar, with_argument}
use Rattle.ws_types.specs.Expressions.{typed, faults, with_sub, sub_faults}

abbrev pub arguments : List Row → Bool → Arguments → List Expr → Arguments
arguments t inside a [] = a
arguments t inside a (e ∷ es) = arguments t inside (with_argument a (typed t inside e)) es

abbrev pub all_faults : List Row → Bool → ℕ → List Expr → List Refusal
all_faults t inside line = flat_map (faults t inside line)

abbrev pub subscripts : List Row → Bool → Subscripts → List Sub → Subscripts
subscripts t inside s [] = s
subscripts t inside s (x ∷ xs) = subscripts t inside (with_sub t inside s x) xs

abbrev pub subs_faults : List Row → Bool → ℕ → List Sub → List Refusal
subs_faults t inside line = flat_map (sub_faults t inside line)

abbrev pub is_sound : List Row → Bool → Option Expr → Bool
is_sound t inside None = true
is_sound t inside (Some e) = is_scalar (typed t inside e)

-- an INTEGER of rank 0, if it is there
abbrev pub given_faults : List Row → Bool → ℕ → Option Expr → List Refusal
given_faults t inside line None = []
given_faults t inside line (Some e) = faults t inside line e ++ scalar_faults line (typed t inside e)
