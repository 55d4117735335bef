use Rattle.std.proofs.Common.{◌-◌, sym, subst, w32, FitsSigned, arith, rules}
use Rattle.alias_test.proofs.Lasts.{last_fits, computed, narrowed}
use Rattle.alias_test.proofs.listing.last_of.Goals as goal

pub overflow_cast-result : goal.overflow_cast-result
overflow_cast-result c =
    let l : FitsSigned w32 c.args.triplet.now.l = search rules in
    let u : FitsSigned w32 c.args.triplet.now.u = search rules in
    let s : FitsSigned w32 c.args.triplet.now.s = search rules in
    let same = computed c.args.triplet.now.l c.args.triplet.now.s c.from.result c.from-2.result c.from-3.result (c.args.count - 1) l s (omega arith) c.from.ensures c.from-2.ensures c.from-3.ensures in
    subst (FitsSigned w32) (sym same) (last_fits c.args.triplet.now c.args.count c.requires.falls c.requires.count c.requires.some l u)

pub returns : goal.returns
returns c =
    let l : FitsSigned w32 c.args.triplet.now.l = search rules in
    let u : FitsSigned w32 c.args.triplet.now.u = search rules in
    let s : FitsSigned w32 c.args.triplet.now.s = search rules in
    narrowed w32 _ _ (computed c.args.triplet.now.l c.args.triplet.now.s c.from.result c.from-2.result c.from-3.result (c.args.count - 1) l s (omega arith) c.from.ensures c.from-2.ensures c.from-3.ensures)
    (last_fits c.args.triplet.now c.args.count c.requires.falls c.requires.count c.requires.some l u)
