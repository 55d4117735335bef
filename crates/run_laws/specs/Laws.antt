-- A lowered program means what its source means, where its scalars, left sides, assignments and constructs do.
use Rattle.std.specs.Prelude.{◌≡◌, ℕ, List, Some}
use Rattle.ws_space.specs.declared.state.VarState.{VarState}
use Rattle.ws_space.specs.Values.{Name}
use Rattle.ws_tree.specs.declared.stmt.Tree.{Tree}
use Rattle.ws_sema.specs.Checks.{IsAccepted}
use Rattle.array_meaning.specs.declared.world.World.{World}
use Rattle.array_meaning.specs.Program.{world, with_name, source_of, opening}
use Rattle.lower_values.specs.declared.names.Names.{Names}
use Rattle.lower_values.specs.declared.operand.Operand.{Operand}
use Rattle.lower_assign.specs.Known.{names_of}
use Rattle.lower_values.specs.References.{variable_of}
use Rattle.value_laws.specs.Variables.{Fits}
use Rattle.world_laws.specs.Worlds.{FitsNames}
use Rattle.world_laws.specs.Meanings.{ListsMean, LeftsMean, SimplesMean, ProgramsMean}

-- ---- worlds that fit the names

-- as a run begins
abbrev pub OpeningsFit : Type 0
OpeningsFit = (t : Tree) → IsAccepted t → (bytes : List ℕ) → FitsNames (names_of t) (world (source_of t bytes) (opening t))

-- after a variable took a state that fits its declare
abbrev pub NewStatesFit : Type 0
NewStatesFit = (names : Names) (w : World) (x : Name) (s : VarState) → FitsNames names w → ((d : Operand) → variable_of names.variables x ≡ Some d → Fits d.kind s) → FitsNames names (with_name w x s)

-- ---- programs

abbrev pub PartsMakePrograms : Type 0
PartsMakePrograms = ListsMean → LeftsMean → SimplesMean → ProgramsMean
