use Rattle.part_laws.proofs.OnlyNames.{only-names}
use Rattle.part_laws.proofs.laws.only_names_are_variables.Goals as goal

pub returns : goal.returns
returns c = only-names
