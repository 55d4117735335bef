use Rattle.kind_laws.proofs.TypedExpressions.{types_are_known}
use Rattle.kind_laws.proofs.ExpressionsMade.{kinds_are_types}
use Rattle.kind_laws.proofs.Sides.{sides_are_expressions}
use Rattle.kind_laws.proofs.laws.lowered_expressions_have_their_types.Goals as goal

pub returns : goal.returns
returns c = record { types = types_are_known; kinds = kinds_are_types; sides = sides_are_expressions }
