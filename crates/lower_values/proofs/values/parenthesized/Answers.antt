use Rattle.std.proofs.Common.{refl, sym, ap}
use Rattle.ws_types.specs.Constants.{value_of}
use Rattle.lower_values.specs.Lowerings.{◌>>=◌}
use Rattle.lower_values.specs.Operations.{in_parentheses}
use Rattle.lower_values.specs.Folding.{known, rest_of}
use Rattle.lower_values.proofs.Appended.{appends-by}
use Rattle.lower_values.proofs.Reaching.{before-done}
use Rattle.lower_values.proofs.values.parenthesized.Goals as goal

pub returns-in_ok-in_parentheses-in-Given : goal.returns-in_ok-in_parentheses-in-Given
returns-in_ok-in_parentheses-in-Given c = λ names.
    (ap (λ r. value_of (known r)) c.in-Given.is, appends-by (ap (λ r. rest_of r >>= in_parentheses) (sym c.in-Given.is)) refl (before-done names c.in-Given.x in_parentheses (c.in_ok-in_parentheses-in-Given.ensures names)))
