use Rattle.lower_constructs.proofs.Parts.{outermost, lowered-is}
use Rattle.std.proofs.Common.{◌∙◌}
use Rattle.lower_constructs.proofs.sources.lowered.Goals as goal

pub finish-requires : goal.finish-requires
finish-requires c =
    outermost c.in_ok-names.names c.args.source.now c.tree-tree.result.now c.in_ok-copy.field-0 c.as_slice.result.now c.new-build.result c.declarations.new.build c.statements.new.build
    c.in_ok-names.ensures c.tree-tree.ensures.same c.in_ok-copy.ensures c.as_slice.ensures c.new-build.ensures c.in_ok-declarations.ensures c.in_ok-statements.ensures

pub returns : goal.returns
returns c =
    c.finish.ensures ∙
    lowered-is c.in_ok-names.names c.args.source.now c.tree-tree.result.now c.in_ok-copy.field-0 c.as_slice.result.now c.new-build.result c.declarations.new.build c.statements.new.build
    c.in_ok-names.ensures c.tree-tree.ensures.same c.in_ok-copy.ensures c.as_slice.ensures c.new-build.ensures c.in_ok-declarations.ensures c.in_ok-statements.ensures
