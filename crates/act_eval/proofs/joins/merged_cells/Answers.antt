use Rattle.std.proofs.Common.{◌≡◌, ℕ, ◌+◌, ◌-◌, ◌<◌, subst, sym, ap, ◌∙◌, arith, ℤ, FitsSigned}
use Rattle.std.specs.Int.{w64, cast_signed}
use Rattle.ws_base.specs.Numbers.{default_half}
use Rattle.phase_ops.specs.Partials.{merge}
use Rattle.phase_ops.specs.Phases.{Cells, cell_value}
use Rattle.phase_ops.specs.Free.{In}
use Rattle.act_eval.specs.Sites.{View, Small}
use Rattle.act_eval.proofs.JoinSteps.{one_more}
use Rattle.act_eval.proofs.joins.merged_cells.Goals as goal

pub look-value-requires-clause-may : goal.look-value-requires-clause-may
look-value-requires-clause-may g c =
    let cell : ℕ = c.args.first + (c.args.count - 1 - c.loop-at.at) in
    let is : c.from.result + c.from-in-loop-at.result ≡ cell = λ i. c.from.ensures i + c.from-in-loop-at.ensures i in
    let below : c.args.count - 1 - c.loop-at.at < c.args.count = let t = c.loop-at-test.true in omega (arith, t) in
    let small : Small cell = let t = c.loop-at-test.true in omega (arith, t) in
    subst (λ (n : ℕ). In n (g.S.Site.view c.args.site.now c.loop-at.hand).may × Small n) (sym is)
    (subst (λ (v : View). In cell v.may) (sym c.loop-at.invariant.same) (c.requires.may (c.args.count - 1 - c.loop-at.at) below), small)

pub merge-part-requires : goal.merge-part-requires
merge-part-requires g c = λ adding.
    let m : Cells = (g.S.Site.view c.args.site.now c.args.hand.now).cells in
    let cell : ℕ = c.args.first + (c.args.count - 1 - c.loop-at.at) in
    let found : c.from.result + c.from-in-loop-at.result ≡ cell = λ i. c.from.ensures i + c.from-in-loop-at.ensures i in
    let is : g.M.Merge.part c.of_cell.result ≡ cell_value m cell = c.of_cell.ensures ∙ ap (λ (n : ℕ). cast_signed w64 n) c.look-value.ensures.value
    ∙ ap (λ (v : View). cell_value v.cells (c.from.result + c.from-in-loop-at.result)) c.loop-at.invariant.same ∙ ap (λ (n : ℕ). cell_value m n) found in
    subst (λ (x : ℤ). FitsSigned w64 x)
    (sym (ap (λ (x : ℤ). merge default_half g.M.Merge.kind x (g.M.Merge.part c.loop-at.part)) is ∙ one_more g.M.Merge.kind m c.args.first c.args.count c.loop-at.at (g.M.Merge.part c.loop-at.part) c.loop-at-test.true c.loop-at.invariant.part))
    (c.requires.fits adding (c.loop-at.at + 1) (let t = c.loop-at-test.true in omega (arith, t)))
