use Rattle.std.specs.Prelude.{true, false}
use Rattle.lower_values.specs.Values.{value}
use Rattle.value_laws.proofs.Expressions.{expression-if, designator-evaluated}
use Rattle.value_laws.proofs.laws.expressions_stand.Goals as goal

pub returns-clause-values : goal.returns-clause-values
returns-clause-values c parts vectors base s w law n env g agrees e sound clear = expression-if parts vectors base s w law false e n env g agrees sound clear tt

pub returns-clause-settled : goal.returns-clause-settled
returns-clause-settled c parts vectors base s w law n env g agrees e sound clear none = expression-if parts vectors base s w law true e n env g agrees sound clear (designator-evaluated e (value e s n).made.kind none)
