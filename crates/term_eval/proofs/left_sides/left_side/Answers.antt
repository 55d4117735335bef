use Rattle.std.proofs.Common.{rules}
use Rattle.term_eval.proofs.LeftSides.{whole_small, part_small, part_stops, part_value, subs_small}
use Rattle.term_eval.proofs.left_sides.left_side.Goals as goal

pub part_of-requires-clause-small : goal.part_of-requires-clause-small
part_of-requires-clause-small c = subs_small c.args.in_where c.args.world.now c.args.left.now c.in-Part.name c.as_str.result.now c.in-Part.subs c.as_slice-in-Part.result.now c.in-Part.is c.as_str.ensures c.as_slice-in-Part.ensures c.requires.small

pub returns-in_err-part-in-Part-clause-value : goal.returns-in_err-part-in-Part-clause-value
returns-in_err-part-in-Part-clause-value c =
    let s = part_stops c.args.in_where c.args.world.now c.args.left.now c.in-Part.name c.as_str.result.now c.in-Part.subs c.as_slice-in-Part.result.now c.in-Part.is c.as_str.ensures c.as_slice-in-Part.ensures c.in_err-part-in-Part.field-0.0 c.in_err-part-in-Part.ensures in
    search (rules, s)

pub returns-in_ok-whole_variable-in-Named-clause-small : goal.returns-in_ok-whole_variable-in-Named-clause-small
returns-in_ok-whole_variable-in-Named-clause-small c = whole_small c.args.world.now c.as_str-name.result.now c.in_ok-whole_variable-in-Named.field-0 c.requires.world c.in_ok-whole_variable-in-Named.ensures

pub returns-in_ok-part-in-Part-clause-value : goal.returns-in_ok-part-in-Part-clause-value
returns-in_ok-part-in-Part-clause-value c = part_value c.args.in_where c.args.world.now c.args.left.now c.in-Part.name c.as_str.result.now c.in-Part.subs c.as_slice-in-Part.result.now c.in-Part.is c.as_str.ensures c.as_slice-in-Part.ensures c.in_ok-part-in-Part.part c.in_ok-part-in-Part.ensures

pub returns-in_ok-part-in-Part-clause-small : goal.returns-in_ok-part-in-Part-clause-small
returns-in_ok-part-in-Part-clause-small c = part_small c.args.world.now c.as_str.result.now c.as_slice-in-Part.result.now c.in_ok-part-in-Part.part c.requires.world (subs_small c.args.in_where c.args.world.now c.args.left.now c.in-Part.name c.as_str.result.now c.in-Part.subs c.as_slice-in-Part.result.now c.in-Part.is c.as_str.ensures c.as_slice-in-Part.ensures c.requires.small) c.in_ok-part-in-Part.ensures
