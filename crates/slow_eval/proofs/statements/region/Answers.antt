use Rattle.std.proofs.Common.{rules}
use Rattle.ws_space.specs.Runs.{entered}
use Rattle.slow_eval.specs.Machine.{state, simple_list}
use Rattle.slow_eval.proofs.SameNames.{simple_list_names}
use Rattle.slow_eval.proofs.Ends.{counts_go_on, changed_goes_on, on_further, world_stays}
use Rattle.slow_eval.proofs.Forms.{region_leaves}
use Rattle.slow_eval.proofs.statements.region.Goals as goal

pub simple_block-requires-clause-world : goal.simple_block-requires-clause-world
simple_block-requires-clause-world c = world_stays c.args.machine.now c.enter.new.machine c.in_ok-enter.ensures.others c.requires.world

pub returns-clause-value : goal.returns-clause-value
returns-clause-value c =
    region_leaves c.simple_block.result c.args.machine.now.world c.enter.new.machine.world c.args.block.now (entered (state c.args.machine.now)) (state c.enter.new.machine) c.simple_block.new.world
    c.in_ok-enter.ensures.value c.in_ok-enter.ensures.others.world c.simple_block.ensures.value

pub returns-clause-kept : goal.returns-clause-kept
returns-clause-kept c input ready =
    let first = counts_go_on input c.args.machine.now c.enter.new.machine ready c.in_ok-enter.ensures.others in
    let block = changed_goes_on input c.enter.new.machine c.simple_block.new.world c.simple_block.result (simple_list c.enter.new.machine.world c.args.block.now) first.ready (simple_list_names c.enter.new.machine.world c.args.block.now) c.simple_block.ensures.value c.simple_block.ensures.kept in
    on_further c.simple_block.result input c.args.machine.now c.enter.new.machine (record c.enter.new.machine { world = c.simple_block.new.world }) first block
