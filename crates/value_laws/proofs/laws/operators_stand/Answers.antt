use Rattle.value_laws.proofs.Operations.{does-minus, does-not, does-binary}
use Rattle.value_laws.proofs.laws.operators_stand.Goals as goal

pub returns-clause-minus : goal.returns-clause-minus
returns-clause-minus c vectors base low s n env x g l = does-minus vectors base low s n env x g l

pub returns-clause-not : goal.returns-clause-not
returns-clause-not c vectors base low s n env x g l = does-not vectors base low s n env x g l

pub returns-clause-binary : goal.returns-clause-binary
returns-clause-binary c vectors base low middle s n env x y g l m = does-binary vectors base low s n env x g middle y l m
