use Rattle.std.proofs.Common.{length}
use Rattle.ws_parse.specs.Blocks.{runs}
use Rattle.ws_parse.proofs.Walks.{Walks}
use Rattle.ws_parse.proofs.unit.walk.Given as goal

abbrev pub decreases-runs : goal.decreases-runs
decreases-runs l = length l.rest

abbrev pub invariant-runs : goal.invariant-runs
invariant-runs l = Walks (runs l.tokens) (runs l.rest) l.state
