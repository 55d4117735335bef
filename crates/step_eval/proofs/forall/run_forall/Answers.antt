use Rattle.std.proofs.Common.{subst, sym, Result}
use Rattle.ws_base.specs.declared.fault.Fault.{Fault}
use Rattle.array_meaning.specs.declared.world.World.{World}
use Rattle.step_eval.specs.Halts.{Leaves}
use Rattle.step_eval.proofs.ForallRuns.{simple_list, small_block}
use Rattle.step_eval.proofs.forall.run_forall.Goals as goal

pub run_over-requires-clause-block : goal.run_over-requires-clause-block
run_over-requires-clause-block c = small_block c.args.indexes.now c.args.test.now c.args.block.now c.requires.small

pub returns-clause-value : goal.returns-clause-value
returns-clause-value c =
    let P : Result World Fault → Type 0 = λ r. Leaves c.run_over.result r c.run_over.new.world in
    subst P (sym (simple_list c.args.world.now c.args.line c.args.indexes.now c.args.test.now c.args.block.now)) c.run_over.ensures.value
