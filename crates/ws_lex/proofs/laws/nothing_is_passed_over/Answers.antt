use Rattle.ws_lex.proofs.Nothing.{nothing-spelled}
use Rattle.ws_lex.proofs.laws.nothing_is_passed_over.Goals as goal

pub returns : goal.returns
returns c = nothing-spelled
