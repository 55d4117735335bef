use Rattle.team_core.proofs.Cores.{core_placed}
use Rattle.team_core.proofs.team.Core.full.Goals as goal

pub full-requires : goal.full-requires
full-requires c = core_placed c.requires.core.0 c.args.self.now c.requires.core.1 c.requires.core.2 c.args.member c.requires.member
