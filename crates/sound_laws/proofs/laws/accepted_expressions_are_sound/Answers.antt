use Rattle.kind_laws.proofs.TypedExpressions.{types_are_known}
use Rattle.kind_laws.proofs.ExpressionsMade.{kinds_are_types}
use Rattle.sound_laws.proofs.ExpressionsSound.{expression-sound}
use Rattle.sound_laws.proofs.laws.accepted_expressions_are_sound.Goals as goal

pub returns : goal.returns
returns c t line s knows none e = expression-sound types_are_known kinds_are_types t line s knows none e
