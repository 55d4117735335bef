use Rattle.lower_masks.proofs.Keeping.{keeps_all}
use Rattle.lower_masks.proofs.laws.every_module_keeps_the_rules.Goals as goal

pub returns : goal.returns
returns c = keeps_all
