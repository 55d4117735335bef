-- One more place is around.
use Rattle.hlfir_ops.proofs.Entering.{enters-around}
use Rattle.plan_text.proofs.tests.modules.enter.Goals as goal

pub returns-clause-outer : goal.returns-clause-outer
returns-clause-outer c = (enters-around c.args.build.now c.enter_region.new.self c.requires c.in_ok-enter_region.ensures.entered).0

pub returns-clause-entered : goal.returns-clause-entered
returns-clause-entered c = (enters-around c.args.build.now c.enter_region.new.self c.requires c.in_ok-enter_region.ensures.entered).1
