use Rattle.std.proofs.Common.{refl}
use Rattle.ws_sema.proofs.Computed.{everything}
use Rattle.ws_sema.specs.Examples.{keyword_used, call_without_argument, unknown_call, truth_for_a_number, type_of_a_refused_part, type_of_a_wide_number, undeclared_in_a_subscript, sections}
use Rattle.ws_sema.proofs.laws.expression_examples.Goals as goal

pub returns-clause-keyword_used : goal.returns-clause-keyword_used
unfolding everything keyword_used
returns-clause-keyword_used c = refl

pub returns-clause-call_without_argument : goal.returns-clause-call_without_argument
unfolding everything call_without_argument
returns-clause-call_without_argument c = refl

pub returns-clause-unknown_call : goal.returns-clause-unknown_call
unfolding everything unknown_call
returns-clause-unknown_call c = refl

pub returns-clause-truth_for_a_number : goal.returns-clause-truth_for_a_number
unfolding everything truth_for_a_number
returns-clause-truth_for_a_number c = refl

pub returns-clause-type_of_a_refused_part : goal.returns-clause-type_of_a_refused_part
unfolding everything type_of_a_refused_part
returns-clause-type_of_a_refused_part c = refl

pub returns-clause-type_of_a_wide_number : goal.returns-clause-type_of_a_wide_number
unfolding everything type_of_a_wide_number
returns-clause-type_of_a_wide_number c = refl

pub returns-clause-undeclared_in_a_subscript : goal.returns-clause-undeclared_in_a_subscript
unfolding everything undeclared_in_a_subscript
returns-clause-undeclared_in_a_subscript c = refl

pub returns-clause-sections : goal.returns-clause-sections
unfolding everything sections
returns-clause-sections c = refl
