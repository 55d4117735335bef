use Rattle.ws_space.proofs.Replaced.{FindsRepeat-all}
use Rattle.ws_space.proofs.laws.the_first_repeated_target_is_found.Goals as goal

pub returns : goal.returns
returns c = λ targets. FindsRepeat-all targets
