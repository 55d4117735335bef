use Rattle.ws_space.specs.Values.{first_repeat}
use Rattle.loop_laws.specs.Moves.{targets_of}
use Rattle.mark_laws.proofs.Stands.{as_replaced}
use Rattle.mark_laws.proofs.laws.as_replaced_law.Goals as goal

pub returns : goal.returns
returns c = λ line base marks t a n target v ts m array r rank at aa am good stand w. as_replaced line base marks t a n target v ts m array r rank at aa am good stand (first_repeat (targets_of target ts)) w
