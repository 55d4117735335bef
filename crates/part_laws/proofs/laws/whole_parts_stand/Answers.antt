use Rattle.part_laws.proofs.Parts.{does-part_of, does-part}
use Rattle.part_laws.proofs.laws.whole_parts_stand.Goals as goal

pub returns-clause-selected : goal.returns-clause-selected
returns-clause-selected c = does-part_of

pub returns-clause-value : goal.returns-clause-value
returns-clause-value c = does-part
