use Rattle.std.proofs.Common.{subst, IfOk}
use Rattle.array_meaning.specs.Assign.{Target, target_name}
use Rattle.ws_base.specs.Outcomes.{Staged}
use Rattle.ws_space.specs.Values.{state_of}
use Rattle.step_eval.specs.Narrow.{IsNarrowSpec}
use Rattle.step_eval.proofs.Narrow.{target_narrow, spec_narrow}
use Rattle.step_eval.proofs.assignment.target_at.Goals as goal

pub returns-in-Ok-clause-narrow : goal.returns-in-Ok-clause-narrow
returns-in-Ok-clause-narrow c =
    let P : Staged Target → Type 0 = λ r. IfOk r IsNarrowSpec in
    spec_narrow (state_of c.args.world.now.vars (target_name c.args.left.now)) c.in-Ok.target (subst P c.in-Ok.ensures.value (target_narrow c.args.in_where c.args.world.now c.args.left.now))
