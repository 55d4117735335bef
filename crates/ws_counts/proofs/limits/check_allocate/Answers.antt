use Rattle.ws_counts.specs.Limits.{allocate_pieces}
use Rattle.ws_counts.proofs.Serial.{step_noted, allocate_in}
use Rattle.ws_counts.proofs.limits.check_allocate.Goals as goal

pub returns : goal.returns
returns c =
    step_noted c.args.line (allocate_pieces c.args.table.now c.args.parts.now) c.args.found.now c.check_step.new.found (allocate_in c.args.table.now c.args.parts.now)
    (c.check_step.ensures (allocate_pieces c.args.table.now c.args.parts.now) c.count_parts.ensures)
