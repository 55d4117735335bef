use Rattle.std.proofs.Common.{refl}
use Rattle.phase_plan.proofs.Compute.{plans_open, rules_open}
use Rattle.phase_plan.specs.CombinationsExamples.{a_stride_before_a_reduction, a_constant_index_before_a_reduction, a_reduction_in_a_header, a_forall_of_nothing, a_forall_of_a_mask}
use Rattle.phase_plan.proofs.examples.combinations_examples.Goals as goal

pub returns-clause-a_stride_before_a_reduction : goal.returns-clause-a_stride_before_a_reduction
unfolding plans_open a_stride_before_a_reduction
returns-clause-a_stride_before_a_reduction c = refl

pub returns-clause-a_constant_index_before_a_reduction : goal.returns-clause-a_constant_index_before_a_reduction
unfolding plans_open a_constant_index_before_a_reduction
returns-clause-a_constant_index_before_a_reduction c = refl

pub returns-clause-a_reduction_in_a_header : goal.returns-clause-a_reduction_in_a_header
unfolding plans_open a_reduction_in_a_header
returns-clause-a_reduction_in_a_header c = refl

pub returns-clause-a_forall_of_nothing : goal.returns-clause-a_forall_of_nothing
unfolding plans_open a_forall_of_nothing
returns-clause-a_forall_of_nothing c = refl

pub returns-clause-a_forall_of_a_mask : goal.returns-clause-a_forall_of_a_mask
unfolding plans_open a_forall_of_a_mask
returns-clause-a_forall_of_a_mask c = refl

pub returns-clause-rules : goal.returns-clause-rules
unfolding plans_open rules_open a_stride_before_a_reduction a_constant_index_before_a_reduction a_reduction_in_a_header a_forall_of_nothing a_forall_of_a_mask
returns-clause-rules c = refl
