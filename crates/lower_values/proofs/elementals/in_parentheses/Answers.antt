use Rattle.std.proofs.Common.{refl, sym, ap}
use Rattle.lower_values.specs.Operations.{in_parentheses, value_of_whole}
use Rattle.lower_values.proofs.Appended.{appends-by, appends-done, if-by}
use Rattle.lower_values.proofs.Positions.{value_of_whole-other}
use Rattle.lower_values.proofs.elementals.in_parentheses.Goals as goal

pub returns-in-Declared : goal.returns-in-Declared
unfolding in_parentheses
returns-in-Declared c = if-by c.as_expr.result c.args.build.now c.as_expr.new.build (ap (λ k. value_of_whole k c.args.x) (sym c.in-Declared.is)) c.as_expr.ensures

pub returns-in-Allocatable : goal.returns-in-Allocatable
unfolding in_parentheses
returns-in-Allocatable c = if-by c.as_expr-in-Allocatable.result c.args.build.now c.as_expr-in-Allocatable.new.build (ap (λ k. value_of_whole k c.args.x) (sym c.in-Allocatable.is)) c.as_expr-in-Allocatable.ensures

pub returns-in_default : goal.returns-in_default
unfolding in_parentheses
returns-in_default c = λ names. appends-by (sym (value_of_whole-other c.args.x.kind c.args.x c.in_default.not-Declared c.in_default.not-Allocatable)) refl (appends-done names c.args.build.now c.args.x)
