use Rattle.act_lower.proofs.Leading.{leads_hold}
use Rattle.act_lower.proofs.laws.leads_law.Goals as goal

pub returns : goal.returns
returns c = leads_hold
