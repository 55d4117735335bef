use Rattle.std.proofs.Common.{FitsSigned, w32, rules, arith}
use Rattle.term_eval.proofs.Stepped.{last-fits, last-is}
use Rattle.term_eval.proofs.designators.last.Goals as goal

pub overflow_sub-result : goal.overflow_sub-result
overflow_sub-result c =
    let l : FitsSigned w32 c.args.triplet.now.l = search rules in
    let s : FitsSigned w32 c.args.triplet.now.s = search rules in
    last-fits c.args.triplet.now.l c.args.triplet.now.s c.from.result c.from-2.result c.from-stride.result c.args.count l s (omega (arith, c.ranges.count)) c.from.ensures c.from-2.ensures c.from-stride.ensures

pub returns : goal.returns
returns c =
    let l : FitsSigned w32 c.args.triplet.now.l = search rules in
    let s : FitsSigned w32 c.args.triplet.now.s = search rules in
    last-is c.args.triplet.now.l c.args.triplet.now.s c.from.result c.from-2.result c.from-stride.result c.args.count l s (omega (arith, c.ranges.count)) c.from.ensures c.from-2.ensures c.from-stride.ensures
