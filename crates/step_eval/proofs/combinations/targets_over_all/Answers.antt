use Rattle.std.proofs.Common.{rules, refl}
use Rattle.term_eval.proofs.WalkValues.{part_small}
use Rattle.step_eval.proofs.OverForms.{target_stops, target_value}
use Rattle.step_eval.proofs.OverValues.{subscripts_along}
use Rattle.step_eval.proofs.combinations.targets_over_all.Goals as goal

pub subscripts_over-requires-clause-small : goal.subscripts_over-requires-clause-small
subscripts_over-requires-clause-small c = part_small c.args.left.now c.in-Part.name c.in-Part.subs c.as_slice.result.now c.requires.small c.in-Part.is c.as_slice.ensures

pub returns-in_err-subscripts-in-Part : goal.returns-in_err-subscripts-in-Part
returns-in_err-subscripts-in-Part c =
    let s = target_stops c.args.world.now c.args.indexes.now c.args.triplets.now c.args.places.now c.args.left.now c.in-Part.name c.in-Part.name c.in-Part.subs c.as_slice.result.now c.in-Part.is refl c.as_slice.ensures c.in_err-subscripts-in-Part.field-0.0 c.in_err-subscripts-in-Part.ensures in
    search (rules, s)

pub targets_over-requires-clause-columns : goal.targets_over-requires-clause-columns
targets_over-requires-clause-columns c =
    subscripts_along c.args.world.now c.args.indexes.now c.args.triplets.now c.args.places.now c.as_slice.result.now c.in_ok-subscripts-in-Part.subscripts c.as_slice-in-Part.result.now c.in_ok-subscripts-in-Part.ensures c.as_slice-in-Part.ensures

pub returns-in_ok-subscripts-in-Part : goal.returns-in_ok-subscripts-in-Part
returns-in_ok-subscripts-in-Part c =
    target_value c.args.world.now c.args.indexes.now c.args.triplets.now c.args.places.now c.args.left.now c.in-Part.name c.as_str.result.now c.in-Part.subs c.as_slice.result.now c.in-Part.is c.as_str.ensures c.as_slice.ensures c.as_slice-vars.result.now c.in_ok-subscripts-in-Part.subscripts c.as_slice-in-Part.result.now c.targets_over.result
    c.as_slice-vars.ensures c.in_ok-subscripts-in-Part.ensures c.as_slice-in-Part.ensures c.targets_over.ensures
