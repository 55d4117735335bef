use Rattle.rule_tests.specs.Orders.{ops_of}
use Rattle.rule_tests.specs.Seen.{seen}
use Rattle.rule_limits.proofs.Capped.{step_capped}
use Rattle.rule_limits.proofs.tally.step_count.Goals as goal

pub returns : goal.returns
returns c = step_capped (seen c.args.table.now) (ops_of c.args.order.now) c.count_all.new.tally c.end.new.tally c.count_all.ensures c.end.ensures
