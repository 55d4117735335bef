use Rattle.hlfir_ops.specs.declared.op.Op.{out-Op}
use Rattle.alias_test.specs.Givers.{ops_at}
use Rattle.alias_test.proofs.Strided.{strided}
use Rattle.alias_test.proofs.normal_form.designator_in.Goals as goal

pub returns-in-Some-clause-strides : goal.returns-in-Some-clause-strides
returns-in-Some-clause-strides c = strided (ops_at c.args.table.now) c.args.v.number (out-Op c.in-Some.op.now).what (out-Op c.in-Some.op.now).operands (out-Op c.in-Some.op.now).kind c.designator_by.result c.designator_by.ensures
