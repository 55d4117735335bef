use Rattle.ws_counts.specs.Limits.{loop_pieces}
use Rattle.ws_counts.specs.Tallies.{nothing}
use Rattle.ws_counts.proofs.Serial.{step_noted, loop_in, three_counted}
use Rattle.ws_counts.proofs.limits.check_loop.Goals as goal

pub returns : goal.returns
returns c =
    step_noted c.args.line (loop_pieces c.args.table.now c.args.l.now c.args.u.now c.args.s.now) c.args.found.now c.check_step.new.found (loop_in c.args.table.now c.args.l.now c.args.u.now c.args.s.now)
    (c.check_step.ensures (loop_pieces c.args.table.now c.args.l.now c.args.u.now c.args.s.now) (three_counted _ _ _ nothing _ _ _ c.count_expr.ensures c.count_expr-2.ensures c.count_given.ensures))
