use Rattle.hlfir_ops.specs.declared.what.What.TheVariants.{Read}
use Rattle.lower_assign.specs.Statements.{reading}
use Rattle.lower_values.proofs.Holding.{holds-next, appends-statement}
use Rattle.lower_assign.proofs.Declares.{begins}
use Rattle.lower_assign.proofs.statements.ExprItem.lower.Goals as goal

pub returns : goal.returns
unfolding reading
returns c =
    let begun = begins c.args.names.now (Read c.args.also) c.args.line c.new.ensures c.in_ok-begin.ensures.begun in
    appends-statement (holds-next begun c.in_ok-enter_region.ensures.entered c.in_ok-yield_designator.ensures c.leave_region.ensures)
