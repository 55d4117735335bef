use Rattle.hlfir_verify.proofs.Answered.{any, apart, one}
use Rattle.hlfir_verify.proofs.laws.each_module_has_one_answer.Goals as goal

pub returns-clause-any : goal.returns-clause-any
returns-clause-any c = any

pub returns-clause-apart : goal.returns-clause-apart
returns-clause-apart c = apart

pub returns-clause-one : goal.returns-clause-one
returns-clause-one c = one
