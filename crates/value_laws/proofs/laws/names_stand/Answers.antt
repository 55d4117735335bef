use Rattle.value_laws.proofs.Named.{does-name}
use Rattle.value_laws.proofs.laws.names_stand.Goals as goal

pub returns : goal.returns
returns c vectors base low s n env g l w agrees x = does-name vectors base low s n env g l w agrees x
