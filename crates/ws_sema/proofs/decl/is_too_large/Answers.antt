use Rattle.std.proofs.Common.{◌∙◌, sym, arith, ap, Some, drop, ◌+◌}
use Rattle.ws_sema.specs.Declarations as declarations
use Rattle.ws_types.proofs.Appended.{front}
use Rattle.ws_sema.proofs.Extents.{too_large-cons}
use Rattle.ws_sema.proofs.decl.is_too_large.Goals as goal

pub each-preserved : goal.each-preserved
each-preserved c = record {
  few = omega (arith, c.capped-count.ensures);
  same =
      c.each.invariant.same
      ∙ ap (λ l. declarations.is_too_large c.args.constants.now (Some c.each.count) l) (front c.args.bounds.now c.each.bound-index c.bound-item.result c.each-test.true c.bound-item.is)
      ∙ too_large-cons c.args.constants.now c.each.count c.in-Some.extent c.capped-count.result c.bound-item.result (drop (c.each.bound-index + 1) c.args.bounds.now) (sym c.in-Some.ensures) c.capped-count.ensures;
}
