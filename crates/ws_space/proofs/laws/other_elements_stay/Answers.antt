use Rattle.ws_space.proofs.Replaced.{KeepsOthers-all}
use Rattle.ws_space.proofs.laws.other_elements_stay.Goals as goal

pub returns : goal.returns
returns c = λ olds. KeepsOthers-all olds
