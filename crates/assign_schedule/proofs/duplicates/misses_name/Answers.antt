use Rattle.std.proofs.Common.{◌≡◌, ◌∙◌, ◌+◌, ap, sym, false, not, map}
use Rattle.hlfir_ops.specs.Rules.{is_in}
use Rattle.assign_schedule.proofs.IndexNames.{next_name}
use Rattle.assign_schedule.proofs.duplicates.misses_name.Goals as goal

pub each-preserved : goal.each-preserved
each-preserved c =
    let first = c.args.header.first in
    let number = ap (λ n. n + c.from-in-each.result) c.from.ensures ∙ ap (λ n. first + n) c.from-in-each.ensures in
    let found : not (is_in (map (λ v. v.number) c.args.vs.now) (first + c.each.k)) ≡ false = ap (λ n. not (is_in (map (λ v. v.number) c.args.vs.now) n)) (sym number) ∙ ap not (sym c.if-not-is_among.ensures) in
    sym (next_name (λ n. not (is_in (map (λ v. v.number) c.args.vs.now) n)) first c.args.header.count c.each.k c.each-test.true found) ∙ c.each.invariant
