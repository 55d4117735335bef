use Rattle.team_core.proofs.Teams.{team_can, team_sound, team_apart, team_closes}
use Rattle.team_core.proofs.laws.every_team.Goals as goal

pub returns : goal.returns
returns c = record { can = team_can; sound = team_sound; apart = team_apart; closes = team_closes }
