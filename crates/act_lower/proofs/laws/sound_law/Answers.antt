use Rattle.act_lower.proofs.Sounding.{value_good}
use Rattle.act_lower.proofs.laws.sound_law.Goals as goal

pub returns : goal.returns
returns c m counts place k table v ts l t h p = value_good m counts place k table v ts l t h p
