use Rattle.ws_lex.proofs.Longest.{longest}
use Rattle.ws_lex.proofs.laws.the_longest_token_is_taken.Goals as goal

pub returns : goal.returns
returns c = longest
