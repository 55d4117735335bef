use Rattle.use_laws.proofs.Accepted.{operands-defined, arrays-used-once}
use Rattle.use_laws.proofs.laws.every_use_keeps_the_rules.Goals as goal

pub returns-clause-defined : goal.returns-clause-defined
returns-clause-defined c = operands-defined

pub returns-clause-once : goal.returns-clause-once
returns-clause-once c = arrays-used-once
