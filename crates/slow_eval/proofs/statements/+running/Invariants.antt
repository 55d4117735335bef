use Rattle.std.proofs.Common.{◌≡◌, ◌+◌, ◌*◌, drop}
use Rattle.ws_space.specs.Runs.{iterations}
use Rattle.ws_space.specs.Shapes.{count}
use Rattle.ws_space.specs.Subscripts.{stepped}
use Rattle.array_meaning.specs.Program.{statement_list}
use Rattle.slow_eval.specs.Machine.{state, source, GoesOn}
use Rattle.slow_eval.proofs.BodyWeights.{weight, stmts_weight}
use Rattle.slow_eval.proofs.Iterated.{once, Remain}
use Rattle.slow_eval.proofs.statements.+running.Given as goal

abbrev pub invariant-statements-each : goal.invariant-statements-each
invariant-statements-each l = record {
  rest : (statement_list (source l.input l.initial.machine) l.block (state l.initial.machine)).end ≡ (statement_list (source l.input l.initial.machine) (drop l.stmt-index l.block) (state l.machine)).end;
  goes_on : GoesOn l.input l.initial.machine l.machine;
}

abbrev pub invariant-iterations-each_iteration : goal.invariant-iterations-each_iteration
invariant-iterations-each_iteration l = record {
  value : l.value ≡ stepped l.triplet l.k;
  rest : Remain (once (source l.input l.initial.machine) l.line l.var l.triplet l.block) (iterations (once (source l.input l.initial.machine) l.line l.var l.triplet l.block) l.number 0 (state l.initial.machine)).end l.number l.k (state l.machine);
  goes_on : GoesOn l.input l.initial.machine l.machine;
}

abbrev pub decreases-statement : goal.decreases-statement
decreases-statement l = 5 * weight l.body.now

abbrev pub decreases-looped : goal.decreases-looped
decreases-looped l = 5 * stmts_weight l.block.now + 4

abbrev pub decreases-iterations : goal.decreases-iterations
decreases-iterations l = 5 * stmts_weight l.block.now + 3

abbrev pub decreases-iteration : goal.decreases-iteration
decreases-iteration l = 5 * stmts_weight l.block.now + 2

abbrev pub decreases-statements : goal.decreases-statements
decreases-statements l = 5 * stmts_weight l.block.now + 1
