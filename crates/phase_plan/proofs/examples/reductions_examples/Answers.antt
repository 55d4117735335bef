use Rattle.std.proofs.Common.{refl}
use Rattle.hlfir_meaning.specs.ArithmeticExamples.{sum_of_unequal_shapes, exact_sum}
use Rattle.phase_plan.proofs.Compute.{plans_open, rules_open}
use Rattle.phase_plan.specs.ReductionsExamples.{a_sum_of_unequal_shapes, a_sum_of_constants, a_sum_in_the_argument_of_a_sum, a_sum_after_another}
use Rattle.phase_plan.proofs.examples.reductions_examples.Goals as goal

pub returns-clause-a_sum_of_unequal_shapes : goal.returns-clause-a_sum_of_unequal_shapes
unfolding plans_open a_sum_of_unequal_shapes sum_of_unequal_shapes
returns-clause-a_sum_of_unequal_shapes c = refl

pub returns-clause-a_sum_of_constants : goal.returns-clause-a_sum_of_constants
unfolding plans_open a_sum_of_constants exact_sum
returns-clause-a_sum_of_constants c = refl

pub returns-clause-a_sum_in_the_argument_of_a_sum : goal.returns-clause-a_sum_in_the_argument_of_a_sum
unfolding plans_open a_sum_in_the_argument_of_a_sum
returns-clause-a_sum_in_the_argument_of_a_sum c = refl

pub returns-clause-a_sum_after_another : goal.returns-clause-a_sum_after_another
unfolding plans_open a_sum_after_another
returns-clause-a_sum_after_another c = refl

pub returns-clause-rules : goal.returns-clause-rules
unfolding plans_open rules_open a_sum_of_unequal_shapes a_sum_of_constants a_sum_in_the_argument_of_a_sum a_sum_after_another sum_of_unequal_shapes exact_sum
returns-clause-rules c = refl
