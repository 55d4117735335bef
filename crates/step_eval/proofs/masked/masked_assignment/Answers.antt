use Rattle.step_eval.specs.Masked.{splits_of}
use Rattle.step_eval.specs.Events.{assignment_of}
use Rattle.step_eval.proofs.WhereSteps.{assignment_left}
use Rattle.step_eval.proofs.masked.masked_assignment.Goals as goal

pub returns-clause-value : goal.returns-clause-value
returns-clause-value c =
    assignment_left c.args.world.now (splits_of c.args.evaluated.now) c.args.masks.now c.in_ok-terms.terms (assignment_of c.args.assignment.now) c.carry_out_step.result c.carry_out_step.new.world c.carry_out_step.new.evaluated c.as_slice.result.now
    c.in_ok-right.right c.in-Some.name.now c.in_ok-target.target c.in_ok-terms.ensures.value c.in_ok-right.ensures.value c.in-Some.ensures c.in_ok-target.ensures.value c.as_slice.ensures c.carry_out_step.ensures.value
