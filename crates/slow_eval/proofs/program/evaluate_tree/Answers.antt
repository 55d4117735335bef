use Rattle.slow_eval.specs.Machine.{state, source}
use Rattle.slow_eval.proofs.Runs.{run_done, run_faulted}
use Rattle.slow_eval.proofs.program.evaluate_tree.Goals as goal

pub returns-in-Ok : goal.returns-in-Ok
returns-in-Ok c =
    run_done c.args.tree.now c.args.input.now (source c.args.input.now c.in_ok-machine.machine) c.as_slice.result.now (state c.in_ok-machine.machine) (c.in_ok-machine.ensures.source c.args.input.now) c.as_slice.ensures c.in_ok-machine.ensures.state
    c.end_state.result (state c.statements.new.machine) c.end_state.ensures c.in-Ok.ensures.value

pub returns-in-Err-Faulted : goal.returns-in-Err-Faulted
returns-in-Err-Faulted c =
    run_faulted c.args.tree.now c.args.input.now (source c.args.input.now c.in_ok-machine.machine) c.as_slice.result.now (state c.in_ok-machine.machine) (c.in_ok-machine.ensures.source c.args.input.now) c.as_slice.ensures c.in_ok-machine.ensures.state
    c.in-Err-Faulted.fault c.in-Err-Faulted.field-0 c.in-Err-Faulted.field-0-is c.in-Err-Faulted.ensures.value
