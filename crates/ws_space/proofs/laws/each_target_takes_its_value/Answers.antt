use Rattle.ws_space.proofs.Replaced.{ReplacesTargets-all}
use Rattle.ws_space.proofs.laws.each_target_takes_its_value.Goals as goal

pub returns : goal.returns
returns c = λ olds. ReplacesTargets-all olds
