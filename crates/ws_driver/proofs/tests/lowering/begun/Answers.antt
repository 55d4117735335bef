use Rattle.std.proofs.Common.{ap, ◌∙◌, []}
use Rattle.lower_values.specs.declared.names.Names.{Names}
use Rattle.ws_driver.proofs.tests.lowering.begun.Goals as goal

-- what is appended does not hang on them
no_names : Names
no_names = record { variables = []; constants = []; truths = [] }

pub returns : goal.returns
returns c = ap (λ b. b.around) (c.in_ok-give-2.ensures no_names).ops ∙ (ap (λ b. b.around) (c.in_ok-give.ensures no_names).ops ∙ ap (λ b. b.around) c.new-build.ensures)
