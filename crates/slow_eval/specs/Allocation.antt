-- What an array holds once it is allocated.
use Rattle.ws_base.specs.Outcomes.{Staged, ◌>>=◌}
use Rattle.ws_space.specs.declared.state.VarState.{VarState}
use Rattle.ws_space.specs.Values.{state_of}
use Rattle.ws_space.specs.Replace.{allocated_with}
use Rattle.ws_tree.specs.declared.stmt.Part.{Part}
use Rattle.array_meaning.specs.declared.world.World.{World}
use Rattle.array_meaning.specs.Program.{bound_dims}

abbrev pub allocated_as : World → Part → Staged VarState
allocated_as w p = do
  ds ← bound_dims w p.shape
  allocated_with (state_of w.vars p.name) ds
