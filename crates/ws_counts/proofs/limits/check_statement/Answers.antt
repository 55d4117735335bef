use Rattle.std.proofs.Common.{◌∙◌, ap, false}
use Rattle.ws_counts.specs.Counts.{statement_steps}
use Rattle.ws_counts.specs.Pieces.{statement_pieces}
use Rattle.ws_counts.specs.Tallies.{total_of}
use Rattle.ws_counts.proofs.Steps.{statement_steps_are}
use Rattle.ws_counts.proofs.limits.check_statement.Goals as goal

pub returns-clause-faults : goal.returns-clause-faults
returns-clause-faults c =
    c.check_total.ensures (statement_steps c.args.table.now c.args.line c.args.body.now)
    (c.finish-total.ensures (statement_pieces c.args.table.now false c.args.body.now) c.in_ok-count_statement.ensures ∙ ap total_of (statement_steps_are c.args.table.now c.args.line c.args.body.now))

pub returns-clause-steps : goal.returns-clause-steps
returns-clause-steps c =
    c.add.ensures (statement_steps c.args.table.now c.args.line c.args.body.now)
    (c.finish-total.ensures (statement_pieces c.args.table.now false c.args.body.now) c.in_ok-count_statement.ensures ∙ ap total_of (statement_steps_are c.args.table.now c.args.line c.args.body.now))
