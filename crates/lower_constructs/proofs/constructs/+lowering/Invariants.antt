use Rattle.std.proofs.Common.{◌+◌, ◌*◌}
use Rattle.lower_values.proofs.Turns.{LowersAll}
use Rattle.lower_constructs.specs.Modules.{statement_list}
use Rattle.lower_constructs.specs.Lists.{else_list}
use Rattle.lower_constructs.proofs.Weights.{weight, stmts_weight, else_weight, elses_weight}
use Rattle.lower_constructs.proofs.constructs.+lowering.Given as goal

abbrev pub invariant-statements-each : goal.invariant-statements-each
invariant-statements-each l = LowersAll l.names (λ _. statement_list) l.block l.stmt-index l.initial.build l.build

abbrev pub invariant-else_region-each : goal.invariant-else_region-each
invariant-else_region-each l = LowersAll l.names (λ _. else_list) l.rest l.part-index l.initial.build l.build

abbrev pub decreases-statement : goal.decreases-statement
decreases-statement l = 5 * weight l.stmt.now.body

abbrev pub decreases-statements : goal.decreases-statements
decreases-statements l = 5 * stmts_weight l.block.now + 1

abbrev pub decreases-block_region : goal.decreases-block_region
decreases-block_region l = 5 * stmts_weight l.block.now + 2

abbrev pub decreases-forall_region : goal.decreases-forall_region
decreases-forall_region l = 5 * stmts_weight l.block.now + 2

abbrev pub decreases-else_part : goal.decreases-else_part
decreases-else_part l = 5 * else_weight l.part.now + 3

abbrev pub decreases-else_region : goal.decreases-else_region
decreases-else_region l = 5 * elses_weight l.rest.now + 4
