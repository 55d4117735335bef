use Rattle.std.proofs.Common.{rules}
use Rattle.ws_space.specs.Runs.{run_of, ticked}
use Rattle.array_meaning.specs.Program.{at_once}
use Rattle.slow_eval.specs.Machine.{state, source}
use Rattle.slow_eval.proofs.Ends.{end_first, counts_go_on, on_further}
use Rattle.slow_eval.proofs.Forms.{once_counted}
use Rattle.slow_eval.proofs.statements.counted.Goals as goal

pub returns-in_err-tick-clause-value : goal.returns-in_err-tick-clause-value
returns-in_err-tick-clause-value c =
    let h = end_first c.in_err-tick.field-0.0 (run_of (ticked c.args.line 1 (state c.args.machine.now))) (λ r. run_of (at_once (source c.args.input.now c.args.machine.now) c.args.line c.args.body.now r)) c.in_err-tick.ensures.value in
    search rules

pub at_once-requires-clause-ready : goal.at_once-requires-clause-ready
at_once-requires-clause-ready c = (counts_go_on c.args.input.now c.args.machine.now c.tick.new.machine c.requires.ready c.in_ok-tick.ensures.others).ready

pub returns-clause-value : goal.returns-clause-value
returns-clause-value c =
    once_counted c.at_once.result (source c.args.input.now c.args.machine.now) (source c.args.input.now c.tick.new.machine) c.args.line c.args.body.now (state c.args.machine.now) (state c.tick.new.machine) (state c.at_once.new.machine)
    c.in_ok-tick.ensures.value (counts_go_on c.args.input.now c.args.machine.now c.tick.new.machine c.requires.ready c.in_ok-tick.ensures.others).source c.at_once.ensures.value

pub returns-clause-kept : goal.returns-clause-kept
returns-clause-kept c = on_further c.at_once.result c.args.input.now c.args.machine.now c.tick.new.machine c.at_once.new.machine (counts_go_on c.args.input.now c.args.machine.now c.tick.new.machine c.requires.ready c.in_ok-tick.ensures.others) c.at_once.ensures.kept
