use Rattle.std.proofs.Common.{ap}
use Rattle.phase_ops.specs.declared.phase.Phase.{Phase}
use Rattle.phase_ops.specs.Phases.{parameter}
use Rattle.phase_ops.specs.Free.{count_value}
use Rattle.team_core.proofs.Lengths.{number_of}
use Rattle.team_core.proofs.units.count_of.Goals as goal

pub number_at-requires : goal.number_at-requires
number_at-requires c = number_of c.args.phase.now c.args.cells.now c.in-Loop.count (ap parameter c.in-Loop.is) (ap (λ (p : Phase). count_value p c.args.cells.now) c.in-Loop.is) c.requires

pub number_at-requires-in-Part : goal.number_at-requires-in-Part
number_at-requires-in-Part c = number_of c.args.phase.now c.args.cells.now c.in-Part.count (ap parameter c.in-Part.is) (ap (λ (p : Phase). count_value p c.args.cells.now) c.in-Part.is) c.requires

pub number_at-requires-in-Join : goal.number_at-requires-in-Join
number_at-requires-in-Join c = number_of c.args.phase.now c.args.cells.now c.in-Join.count (ap parameter c.in-Join.is) (ap (λ (p : Phase). count_value p c.args.cells.now) c.in-Join.is) c.requires
