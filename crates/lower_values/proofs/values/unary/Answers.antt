use Rattle.std.proofs.Common.{sym}
use Rattle.lower_values.specs.Operations.{unary_operation}
use Rattle.lower_values.specs.Folding.{rest_of}
use Rattle.lower_values.proofs.Appended.{appends-next}
use Rattle.lower_values.proofs.values.unary.Goals as goal

pub returns-in_ok-unary_operation-in-None : goal.returns-in_ok-unary_operation-in-None
returns-in_ok-unary_operation-in-None c = λ names. (
  sym c.in-None.ensures,
  appends-next names (rest_of c.args.reached) (unary_operation c.args.op) c.args.build.now c.finished.new.build c.unary_operation.new.build c.in_ok-x-in-None.x _ (c.in_ok-x-in-None.ensures names) (c.in_ok-unary_operation-in-None.ensures names),
)
