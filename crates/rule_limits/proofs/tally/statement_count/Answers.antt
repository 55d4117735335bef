use Rattle.std.proofs.Common.{ap, ◌∙◌}
use Rattle.rule_tests.specs.Orders.{ops_of}
use Rattle.rule_tests.specs.Seen.{seen}
use Rattle.rule_limits.proofs.Capped.{statement_capped}
use Rattle.rule_limits.proofs.tally.statement_count.Goals as goal

pub returns : goal.returns
returns c = statement_capped (seen c.args.table.now) c.args.op.now c.as_slice-regions.result.now (ops_of c.as_slice-order.result.now) c.count.new.tally c.count_all.new.tally c.finish.new.tally
    c.as_slice-regions.ensures (ap ops_of c.as_slice-order.ensures.value ∙ c.in_ok-order.ensures) c.count.ensures c.count_all.ensures c.finish.ensures
