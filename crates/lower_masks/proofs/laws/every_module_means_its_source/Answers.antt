use Rattle.lower_masks.proofs.Meaning.{programs_mean}
use Rattle.lower_masks.proofs.laws.every_module_means_its_source.Goals as goal

pub returns : goal.returns
returns c = programs_mean
