use Rattle.value_laws.proofs.Copies.{does-copy, does-plus}
use Rattle.value_laws.proofs.laws.copies_stand.Goals as goal

pub returns-clause-parentheses : goal.returns-clause-parentheses
returns-clause-parentheses c = does-copy

pub returns-clause-plus : goal.returns-clause-plus
returns-clause-plus c vectors base low s n env x g = does-plus vectors base low s n env x
