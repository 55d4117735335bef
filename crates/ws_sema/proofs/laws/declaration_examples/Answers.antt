use Rattle.std.proofs.Common.{refl}
use Rattle.ws_sema.proofs.Computed.{everything}
use Rattle.ws_sema.specs.Examples.{constant_of_another_type, number_for_a_truth, bound_not_declared, constant_used_before, constant_used_after, constant_without_value, as_large_as_may_be, too_large, four_dimensions, declared_twice, keyword_declared}
use Rattle.ws_sema.proofs.laws.declaration_examples.Goals as goal

pub returns-clause-constant_of_another_type : goal.returns-clause-constant_of_another_type
unfolding everything constant_of_another_type
returns-clause-constant_of_another_type c = refl

pub returns-clause-number_for_a_truth : goal.returns-clause-number_for_a_truth
unfolding everything number_for_a_truth
returns-clause-number_for_a_truth c = refl

pub returns-clause-bound_not_declared : goal.returns-clause-bound_not_declared
unfolding everything bound_not_declared
returns-clause-bound_not_declared c = refl

pub returns-clause-constant_used_before : goal.returns-clause-constant_used_before
unfolding everything constant_used_before
returns-clause-constant_used_before c = refl

pub returns-clause-constant_used_after : goal.returns-clause-constant_used_after
unfolding everything constant_used_after
returns-clause-constant_used_after c = refl

pub returns-clause-constant_without_value : goal.returns-clause-constant_without_value
unfolding everything constant_without_value
returns-clause-constant_without_value c = refl

pub returns-clause-as_large_as_may_be : goal.returns-clause-as_large_as_may_be
unfolding everything as_large_as_may_be
returns-clause-as_large_as_may_be c = refl

pub returns-clause-too_large : goal.returns-clause-too_large
unfolding everything too_large
returns-clause-too_large c = refl

pub returns-clause-four_dimensions : goal.returns-clause-four_dimensions
unfolding everything four_dimensions
returns-clause-four_dimensions c = refl

pub returns-clause-declared_twice : goal.returns-clause-declared_twice
unfolding everything declared_twice
returns-clause-declared_twice c = refl

pub returns-clause-keyword_declared : goal.returns-clause-keyword_declared
unfolding everything keyword_declared
returns-clause-keyword_declared c = refl
