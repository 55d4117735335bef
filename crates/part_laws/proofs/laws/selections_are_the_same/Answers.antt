use Rattle.array_meaning.specs.Stage1 as source
use Rattle.hlfir_meaning.specs.Selections.{checked}
use Rattle.part_laws.specs.Selects.{Selects}
use Rattle.part_laws.proofs.Selected.{same-shapes, same-checks, same-elements, StaysRelated, agree-weaker}
use Rattle.part_laws.proofs.laws.selections_are_the_same.Goals as goal

pub returns-clause-shapes : goal.returns-clause-shapes
returns-clause-shapes c = same-shapes

pub returns-clause-checks : goal.returns-clause-checks
returns-clause-checks c ds s ps h = agree-weaker (StaysRelated ds s) (Selects ds) (checked ds s) (source.checked ds ps) (λ t qs g. g.0) (same-checks ds s ps h)

pub returns-clause-elements : goal.returns-clause-elements
returns-clause-elements c = same-elements
