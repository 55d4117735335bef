use Rattle.std.proofs.Common.{◌∙◌, rules}
use Rattle.alias_test.specs.Givers.{ops_at}
use Rattle.alias_test.proofs.Walking.{written_more, written_all}
use Rattle.alias_test.proofs.tree.trees_of.Goals as goal

pub returns-in_default : goal.returns-in_default
returns-in_default c = c.from_vec.ensures ∙ (c.reverse.ensures.items ∙ written_all (ops_at c.args.table.now) c.each.left.items c.args.values.now c.each.back.items (search rules) c.each.invariant)

pub each-preserved : goal.each-preserved
each-preserved c =
    written_more (ops_at c.args.table.now) c.each.left.items c.pop.new.self.items c.add_symbol.new.left.items c.args.values.now c.in-Some.v c.each.back.items c.add_symbol.new.back.items c.in-Some.ensures.items c.in_ok-add_symbol.ensures.parts
    c.in_ok-add_symbol.ensures.symbol c.each.invariant
