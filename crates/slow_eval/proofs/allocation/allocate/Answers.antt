use Rattle.std.proofs.Common.{ap}
use Rattle.array_meaning.specs.Assign.{with_vars}
use Rattle.array_meaning.specs.Program.{allocate, with_name}
use Rattle.slow_eval.specs.Allocation.{allocated_as}
use Rattle.slow_eval.proofs.InTurn.{goes_on}
use Rattle.slow_eval.proofs.Allocated.{allocate_more, world_held}
use Rattle.slow_eval.proofs.allocation.allocate.Goals as goal

pub each-preserved : goal.each-preserved
each-preserved c =
    let w = c.each.world in
    let p = c.part-item.result in
    let s = c.in-Ok.state in
    let vars = c.set_state.new.vars in
    record {
      same = goes_on allocated_as (λ v q t. with_name v q.name t) allocate allocate_more (allocate c.args.world.now c.args.parts.now) w (with_vars w vars) c.args.parts.now c.each.part-index p s c.each-test.true c.part-item.is c.in-Ok.ensures.value (ap (with_vars w) c.in_ok-set_state.ensures) c.each.invariant.same;
      kept = world_held w p.name s vars c.in_ok-set_state.ensures c.each.invariant.kept c.in-Ok.ensures.small;
    }
