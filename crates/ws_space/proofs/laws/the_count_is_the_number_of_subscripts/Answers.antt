use Rattle.ws_space.proofs.Counts.{CountsSelected-all}
use Rattle.ws_space.proofs.laws.the_count_is_the_number_of_subscripts.Goals as goal

pub returns : goal.returns
returns c = λ t some. CountsSelected-all t some
