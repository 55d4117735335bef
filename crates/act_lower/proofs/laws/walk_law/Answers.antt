use Rattle.act_lower.proofs.Walked.{walk_made, elemental_stays}
use Rattle.act_lower.proofs.laws.walk_law.Goals as goal

pub returns-clause-walk : goal.returns-clause-walk
returns-clause-walk c = walk_made

pub returns-clause-elementals : goal.returns-clause-elementals
returns-clause-elementals c n env after ops kept all = elemental_stays n env after kept ops all
