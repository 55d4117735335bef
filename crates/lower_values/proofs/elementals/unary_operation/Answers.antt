use Rattle.std.proofs.Common.{sym, ap}
use Rattle.lower_values.specs.Operations.{unary_operation}
use Rattle.lower_values.proofs.Appended.{if-by}
use Rattle.lower_values.proofs.elementals.unary_operation.Goals as goal

pub returns-in-Minus : goal.returns-in-Minus
returns-in-Minus c = if-by c.operation.result c.args.build.now c.operation.new.build (ap (λ o. unary_operation o c.args.x) (sym c.in-Minus.is)) c.operation.ensures

pub returns-in-Plus : goal.returns-in-Plus
returns-in-Plus c = if-by c.in_parentheses.result c.args.build.now c.in_parentheses.new.build (ap (λ o. unary_operation o c.args.x) (sym c.in-Plus.is)) c.in_parentheses.ensures

pub returns-in-Not : goal.returns-in-Not
returns-in-Not c = if-by c.operation-in-Not.result c.args.build.now c.operation-in-Not.new.build (ap (λ o. unary_operation o c.args.x) (sym c.in-Not.is)) c.operation-in-Not.ensures
