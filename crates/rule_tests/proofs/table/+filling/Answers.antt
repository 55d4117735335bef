use Rattle.std.proofs.Common.{◌∙◌, ◌++◌, map, ap, sym}
use Rattle.hlfir_ops.specs.declared.op.Region.{out-Region}
use Rattle.hlfir_ops.specs.RulesValues as values
use Rattle.rule_tests.specs.Seen.{seen}
use Rattle.rule_tests.proofs.Tables.{next_values, next_region}
use Rattle.rule_tests.proofs.table.+filling.Goals as goal

pub add_ops-each-preserved : goal.add_ops-each-preserved
add_ops-each-preserved t c = c.each.invariant ∙ next_values c.args.ops.now c.each.op-index c.op-item.result c.as_slice.result.now (seen c.each.table.items) (seen c.add_own.new.table.items) (seen c.add_regions.new.table.items)
    c.each-test.true c.op-item.is c.as_slice.ensures c.in_ok-add_own.ensures c.in_ok-add_regions.ensures

pub add_regions-each-preserved : goal.add_regions-each-preserved
add_regions-each-preserved t c = c.each.invariant ∙ next_region c.args.what.now c.args.regions.now c.each.k c.index-regions-k.result c.as_slice.result.now (seen c.each.table.items) (seen c.add_names.new.table.items) (seen c.add_ops.new.table.items)
    c.each-test.true c.index-regions-k.is (c.as_slice.ensures ∙ ap (λ r. (out-Region r).ops) (sym c.index-regions-k.is))
    (c.in_ok-add_names.ensures ∙ ap (λ ns. seen c.each.table.items ++ map values.value_of_name ns) c.names_at.ensures) c.in_ok-add_ops.ensures
