use Rattle.team_core.proofs.Runs.{every_run, stores_apart}
use Rattle.team_core.proofs.laws.every_schedule.Goals as goal

pub returns : goal.returns
returns c = record { sound = every_run; apart = stores_apart }
