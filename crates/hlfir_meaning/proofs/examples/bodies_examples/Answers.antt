use Rattle.std.proofs.Common.{refl}
use Rattle.hlfir_meaning.proofs.Compute.{everything, rules_open}
use Rattle.hlfir_meaning.specs.BodiesExamples.{operations_of_one_body, elemental_before_a_section, section_applied_twice}
use Rattle.hlfir_meaning.proofs.examples.bodies_examples.Goals as goal

pub returns-clause-operations_of_one_body : goal.returns-clause-operations_of_one_body
unfolding everything operations_of_one_body
returns-clause-operations_of_one_body c = refl

pub returns-clause-elemental_before_a_section : goal.returns-clause-elemental_before_a_section
unfolding everything elemental_before_a_section
returns-clause-elemental_before_a_section c = refl

pub returns-clause-section_applied_twice : goal.returns-clause-section_applied_twice
unfolding everything section_applied_twice
returns-clause-section_applied_twice c = refl

pub returns-clause-rules : goal.returns-clause-rules
unfolding everything rules_open operations_of_one_body elemental_before_a_section section_applied_twice
returns-clause-rules c = refl
