use Rattle.std.proofs.Common.{ap}
use Rattle.phase_ops.specs.declared.phase.Phase.{Phase}
use Rattle.phase_ops.specs.Phases.{Cells, parameter}
use Rattle.phase_ops.specs.Free.{count_value}
use Rattle.phase_ops.specs.Course.{memory_after}
use Rattle.team_core.proofs.Lengths.{number_of}
use Rattle.phase_board.specs.Rule.{course_of}
use Rattle.phase_board.proofs.board.Board.count.Goals as goal

pub number-requires-clause-count : goal.number-requires-clause-count
number-requires-clause-count c =
    let m : Cells = memory_after (course_of c.args.self.now.run) c.args.pass.now.phase in
    number_of c.args.phase.now m c.in-Loop.count (ap parameter c.in-Loop.is) (ap (λ (p : Phase). count_value p m) c.in-Loop.is) c.requires.count

pub number-requires-in-Part-clause-count : goal.number-requires-in-Part-clause-count
number-requires-in-Part-clause-count c =
    let m : Cells = memory_after (course_of c.args.self.now.run) c.args.pass.now.phase in
    number_of c.args.phase.now m c.in-Part.count (ap parameter c.in-Part.is) (ap (λ (p : Phase). count_value p m) c.in-Part.is) c.requires.count

pub number-requires-in-Join-clause-count : goal.number-requires-in-Join-clause-count
number-requires-in-Join-clause-count c =
    let m : Cells = memory_after (course_of c.args.self.now.run) c.args.pass.now.phase in
    number_of c.args.phase.now m c.in-Join.count (ap parameter c.in-Join.is) (ap (λ (p : Phase). count_value p m) c.in-Join.is) c.requires.count
