use Rattle.std.proofs.Common.{◌∙◌, ◌++◌, map, ap, sym}
use Rattle.hlfir_ops.specs.declared.op.Op.{out-Op}
use Rattle.hlfir_ops.specs.declared.op.Region.{out-Region}
use Rattle.alias_test.specs.Givers.{ops_at}
use Rattle.alias_test.proofs.Giving.{next_givers, next_region}
use Rattle.alias_test.proofs.table.+giving.Goals as goal

pub add_ops-each-preserved : goal.add_ops-each-preserved
add_ops-each-preserved t c = c.each.invariant ∙ next_givers c.args.ops.now c.each.op-index c.op-item.result c.as_slice.result.now (ops_at c.each.table.items) (ops_at c.add_own.new.table.items) (ops_at c.add_regions.new.table.items)
    c.each-test.true c.op-item.is c.as_slice.ensures c.in_ok-add_own.ensures c.in_ok-add_regions.ensures

pub add_regions-each-preserved : goal.add_regions-each-preserved
add_regions-each-preserved t c = c.each.invariant ∙ next_region c.args.op.now (out-Op c.args.op.now).what c.args.regions.now c.each.k c.index-regions-k.result c.as_slice.result.now (ops_at c.each.table.items) (ops_at c.add_names.new.table.items) (ops_at c.add_ops.new.table.items)
    c.each-test.true c.index-regions-k.is (c.as_slice.ensures ∙ ap (λ r. (out-Region r).ops) (sym c.index-regions-k.is))
    (c.in_ok-add_names.ensures ∙ ap (λ ns. ops_at c.each.table.items ++ map (λ name. c.args.op.now) ns) c.names_at.ensures) c.in_ok-add_ops.ensures
