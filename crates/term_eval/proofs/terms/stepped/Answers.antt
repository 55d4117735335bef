use Rattle.std.proofs.Common.{FitsSigned, w32, rules, arith}
use Rattle.term_eval.proofs.Stepped.{stepped-is}
use Rattle.term_eval.proofs.terms.stepped.Goals as goal

pub returns : goal.returns
returns c =
    let l : FitsSigned w32 c.args.triplet.now.l = search rules in
    let s : FitsSigned w32 c.args.triplet.now.s = search rules in
    stepped-is c.args.triplet.now.l c.args.triplet.now.s c.from.result c.from-2.result c.from-3.result c.args.k l s (omega (arith, c.ranges.k)) c.from.ensures c.from-2.ensures c.from-3.ensures
