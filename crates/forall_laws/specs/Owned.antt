-- The vector subscripts in the ops of a list of scalars are declares, or values of these ops.
use Rattle.std.specs.Prelude.{◌≡◌, ℕ, ◌+◌, true, List, length}
use Rattle.std.specs.List.{All}
use Rattle.ws_space.specs.Values.{is_among}
use Rattle.ws_tree.specs.declared.expr.Expr.{Expr}
use Rattle.ws_types.specs.declared.types.Row.{Row}
use Rattle.array_meaning.specs.declared.world.World.{World}
use Rattle.hlfir_ops.specs.declared.op.Op.{Op}
use Rattle.hlfir_ops.specs.Numbers.{numbers_of}
use Rattle.hlfir_meaning.specs.Stage1.{subscript_numbers}
use Rattle.lower_values.specs.Scopes.{Scope}
use Rattle.lower_values.specs.Lists.{values}
use Rattle.value_laws.specs.Standing.{IsOwn}
use Rattle.world_laws.specs.Meanings.{StandsOutside, IsIntegerScalar}

abbrev pub OwnIn : ℕ → ℕ → List Op → Type 0
OwnIn base n ops = (v : ℕ) → is_among v (subscript_numbers ops) ≡ true → IsOwn base n (n + numbers_of ops) v

abbrev pub SubscriptsAreOwn : Type 0
SubscriptsAreOwn = (t : List Row) (line : ℕ) (es : List Expr) (s : Scope) (n : ℕ) (w : World) → StandsOutside t s w n → All (IsIntegerScalar t line) es → OwnIn (length w.vars) n (values es s n).ops
