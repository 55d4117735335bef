use Rattle.ws_lex.proofs.Ends.{ends-part}
use Rattle.ws_lex.proofs.text.ends_in_ampersand.Goals as goal

pub returns-in-Some : goal.returns-in-Some
returns-in-Some c = ends-part _ _ _ c.in-Some.ensures.cases.0
