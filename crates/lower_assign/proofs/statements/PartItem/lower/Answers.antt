use Rattle.std.proofs.Common.{refl, ap, [], ◌∷◌}
use Rattle.hlfir_ops.specs.declared.what.What.TheVariants.{Allocmem}
use Rattle.lower_values.specs.References.{declare_of}
use Rattle.lower_assign.specs.Statements.{allocation, all_yielded, all_bounds}
use Rattle.lower_values.proofs.Appended.{appends-by}
use Rattle.lower_values.proofs.Holding.{holds-next}
use Rattle.lower_assign.proofs.Declares.{of-declare, begins-at}
use Rattle.lower_assign.proofs.statements.PartItem.lower.Goals as goal

pub returns : goal.returns
unfolding allocation
returns c =
    let part = c.args.self.now in
    let w = Allocmem c.args.also in
    let bounds = all_yielded (all_bounds part.shape) in
    let begun = begins-at c.args.names.now part.name w c.args.line c.in_ok-operands.ensures c.declare_of-declare.ensures c.in_ok-begin.ensures.begun in
    of-declare part.name (holds-next begun c.in_ok-enter_region.ensures.entered (appends-by (ap (λ bs. all_yielded (all_bounds bs)) c.as_slice.ensures) refl c.in_ok-yield_bounds.ensures) c.leave_region.ensures)
