use Rattle.team_core.proofs.Ends.{looks_within, looks_ready}
use Rattle.team_core.proofs.laws.reads_law.Goals as goal

pub returns : goal.returns
returns c = record {
  within = λ c' k m x u d cell safe s at is r. looks_within c' k s m x at safe u d cell is r;
  before = λ c' k m x cell safe s at is r. looks_ready c' k s m x at safe cell is r;
}
