use Rattle.std.proofs.Common.{subst, IfOk}
use Rattle.array_meaning.specs.declared.term.Term.{Term}
use Rattle.ws_base.specs.Outcomes.{Staged}
use Rattle.step_eval.specs.Narrow.{IsNarrowTerm}
use Rattle.step_eval.proofs.Narrow.{walk_narrow}
use Rattle.step_eval.proofs.assignment.term_at.Goals as goal

pub returns-in-Ok-clause-narrow : goal.returns-in-Ok-clause-narrow
returns-in-Ok-clause-narrow c = let P : Staged Term → Type 0 = λ r. IfOk r IsNarrowTerm in subst P c.in-Ok.ensures.value (walk_narrow c.args.world.now c.args.e.now)
