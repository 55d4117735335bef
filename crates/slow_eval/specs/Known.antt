-- Declarations, one after another.
use Rattle.std.specs.Prelude.{◌≡◌, List, [], ◌∷◌, ◌++◌}
use Rattle.ws_space.specs.declared.state.Var.{Var}
use Rattle.ws_space.specs.Values.{Name}
use Rattle.ws_tree.specs.declared.expr.Expr.{Expr}
use Rattle.ws_tree.specs.declared.stmt.Decl.{Decl}
use Rattle.array_meaning.specs.declared.world.World.{World}
use Rattle.array_meaning.specs.declared.world.Constant.{Constant}
use Rattle.array_meaning.specs.Program.{constants_alone, constant_value, first_state}

-- nothing but constants is known
abbrev pub IsAlone : World → Type 0
IsAlone w = w ≡ constants_alone w.constants

abbrev pub declared_after : List Constant → Name → Expr → List Constant
declared_after cs x e = cs ++ record { name = x; value = constant_value cs e } ∷ []

abbrev pub variable_of : List Constant → Decl → Var
variable_of cs d = record { name = d.name; truth = d.truth; state = first_state cs d }
