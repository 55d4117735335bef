use Rattle.ws_lex.proofs.Taken.{taken-is-spelled}
use Rattle.ws_lex.proofs.laws.the_token_taken_is_spelled.Goals as goal

pub returns : goal.returns
returns c = taken-is-spelled
