use Rattle.std.proofs.Common.{refl}
use Rattle.ws_sema.proofs.Computed.{everything}
use Rattle.ws_sema.specs.Examples.{active_variable_assigned, index_in_its_header, mask_of_another_rank, else_mask_of_another_rank, loop_in_a_region, any_number_allocated, no_allocatable}
use Rattle.ws_sema.proofs.laws.statement_examples.Goals as goal

pub returns-clause-active_variable_assigned : goal.returns-clause-active_variable_assigned
unfolding everything active_variable_assigned
returns-clause-active_variable_assigned c = refl

pub returns-clause-index_in_its_header : goal.returns-clause-index_in_its_header
unfolding everything index_in_its_header
returns-clause-index_in_its_header c = refl

pub returns-clause-mask_of_another_rank : goal.returns-clause-mask_of_another_rank
unfolding everything mask_of_another_rank
returns-clause-mask_of_another_rank c = refl

pub returns-clause-else_mask_of_another_rank : goal.returns-clause-else_mask_of_another_rank
unfolding everything else_mask_of_another_rank
returns-clause-else_mask_of_another_rank c = refl

pub returns-clause-loop_in_a_region : goal.returns-clause-loop_in_a_region
unfolding everything loop_in_a_region
returns-clause-loop_in_a_region c = refl

pub returns-clause-any_number_allocated : goal.returns-clause-any_number_allocated
unfolding everything any_number_allocated
returns-clause-any_number_allocated c = refl

pub returns-clause-no_allocatable : goal.returns-clause-no_allocatable
unfolding everything no_allocatable
returns-clause-no_allocatable c = refl
