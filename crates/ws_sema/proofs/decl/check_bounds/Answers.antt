use Rattle.std.proofs.Common.{◌∙◌, sym, arith}
use Rattle.ws_sema.specs.Declarations as declarations
use Rattle.ws_types.proofs.Appended.{next, done}
use Rattle.ws_sema.proofs.decl.check_bounds.Goals as goal

pub each-preserved : goal.each-preserved
each-preserved c = c.each.invariant ∙ next (declarations.bound_faults c.args.constants.now c.args.line c.args.allocatable) c.args.bounds.now c.each.bound-index c.bound-item.result c.each.found c.check_bound.new.found c.each-test.true c.bound-item.is c.check_bound.ensures

pub returns : goal.returns
returns c = sym (c.each.invariant ∙ done (declarations.bound_faults c.args.constants.now c.args.line c.args.allocatable) c.args.bounds.now c.each.bound-index c.each.found (omega arith))
