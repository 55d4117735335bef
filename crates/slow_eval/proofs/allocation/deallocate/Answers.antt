use Rattle.std.proofs.Common.{ap, sym, ◌∙◌}
use Rattle.ws_space.specs.Replace.{freed}
use Rattle.ws_space.specs.Values.{state_of}
use Rattle.array_meaning.specs.Assign.{with_vars}
use Rattle.array_meaning.specs.Program.{deallocate, with_name}
use Rattle.slow_eval.proofs.InTurn.{goes_on}
use Rattle.slow_eval.proofs.Allocated.{deallocate_more, world_held}
use Rattle.slow_eval.proofs.allocation.deallocate.Goals as goal

pub each-preserved : goal.each-preserved
each-preserved c =
    let w = c.each.world in
    let x = c.name-item.result in
    let s = c.in-Ok.state in
    let vars = c.set_state.new.vars in
    record {
      same = goes_on (λ v y. freed (state_of v.vars y)) with_name deallocate deallocate_more (deallocate c.args.world.now c.args.names.now) w (with_vars w vars) c.args.names.now c.each.name-index x s c.each-test.true c.name-item.is (ap (λ l. freed (state_of l x)) (sym c.as_slice.ensures) ∙ c.in-Ok.ensures.value) (ap (with_vars w) c.in_ok-set_state.ensures) c.each.invariant.same;
      kept = world_held w x s vars c.in_ok-set_state.ensures c.each.invariant.kept c.in-Ok.ensures.small;
    }
