use Rattle.act_laws.proofs.Loops.{loop_goes}
use Rattle.act_laws.proofs.laws.loop_law.Goals as goal

pub returns : goal.returns
returns c line ops a reg m may n few plains reads = loop_goes line ops a reg m may n few plains reads
