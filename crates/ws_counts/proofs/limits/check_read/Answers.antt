use Rattle.ws_counts.specs.Limits.{read_pieces}
use Rattle.ws_counts.proofs.Serial.{step_noted, read_in}
use Rattle.ws_counts.proofs.limits.check_read.Goals as goal

pub returns : goal.returns
returns c =
    step_noted c.args.line (read_pieces c.args.table.now c.args.es.now) c.args.found.now c.check_step.new.found (read_in c.args.table.now c.args.es.now)
    (c.check_step.ensures (read_pieces c.args.table.now c.args.es.now) c.count_items.ensures)
