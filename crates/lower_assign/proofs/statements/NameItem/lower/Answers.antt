use Rattle.hlfir_ops.specs.declared.what.What.TheVariants.{Freemem}
use Rattle.lower_assign.specs.Statements.{deallocation}
use Rattle.lower_assign.proofs.Declares.{of-declare, begins-at}
use Rattle.lower_assign.proofs.statements.NameItem.lower.Goals as goal

pub returns : goal.returns
unfolding deallocation
returns c = of-declare c.args.self.now (begins-at c.args.names.now c.args.self.now (Freemem c.args.also) c.args.line c.in_ok-operands.ensures c.declare_of-declare.ensures c.in_ok-begin.ensures.begun)
